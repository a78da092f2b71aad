-- What the places of a list hold, sorted so that those that hold the same are neighbours.
use Rattle.std.proofs.Common.{◌≡◌, ◌∙◌, ◌↔◌, ◌<◌, ◌≤◌, refl, sym, ap, subst, ℕ, List, [], ◌∷◌, length, map, get_or, slice_get, Some, All, arith}
use Rattle.std.specs.Cmp.Lexicographic.{slice_cmp}
use Rattle.std.specs.List.Sorted.{IsPermutation, IsSorted}
use Rattle.std.specs.Ordering.{nat_cmp, ordering_then}
use Rattle.std.specs.declared.cmp.Ordering.{Ordering}
use Rattle.std.specs.declared.cmp.Ordering.TheVariants.{Less, Equal, Greater}
use Rattle.std.proofs.lemmas.Option.{slice_get_within, same_Some, slice_get-map, slice_get-get_or}
use Rattle.std.specs.Option.{option_map}
use Rattle.mvt_tile.specs.Advice.{KeyAt, IdAt}
use Rattle.mvt_tile.specs.Calls.Equal.{AreFirstPlaces, HavePlaces, HeldAt, held_value}
use Rattle.mvt_tile.specs.Calls.Gathered.{NameAt}
use Rattle.mvt_tile.specs.Calls.Names.{name_key}
use Rattle.mvt_tile.specs.declared.first_places.Held.{Held}
use Rattle.mvt_tile.specs.declared.rules.summary.LayerSummary.{LayerSummary}
use Rattle.mvt_tile.proofs.RuleFaults.Names.{IsNaming, AreGrouped, compare_keyed, grouped_by_sort}
use Rattle.mvt_tile.proofs.RuleFaults.Repetitions.{Through, Before}
use Rattle.mvt_rules.specs.Tile.{LayerRecord}

abbrev number : Held → ℕ
number item = item.number

abbrev text : Held → List ℕ
text item = item.text.now

abbrev pub place_of : Held → ℕ
place_of item = item.place

-- a comparison that gave no answer before gives none when it comes again
again : (r s t : Ordering) → ordering_then r (ordering_then s t) ≡ ordering_then r (ordering_then (ordering_then r s) t)
again Less s t = refl
again Equal s t = refl
again Greater s t = refl

-- items are compared by what they hold, and those that hold the same by their places
same_order : compare_keyed number text place_of ≡ compare_keyed number held_value place_of
same_order = λ i x y. again (nat_cmp (number x) (number y)) (slice_cmp nat_cmp (text x) (text y)) (nat_cmp (place_of x) (place_of y)) i

-- what an item holds begins with its number
begins : (items : List Held) → All (λ (item : Held). number item ≡ get_or (held_value item) 0 0) items
begins items = λ place item within. refl

module _ (bound : ℕ) (items : List Held) (places : HavePlaces bound items) where
  -- each place has one item
  naming : IsNaming held_value place_of (HeldAt items) items
  naming = record { known = λ at x there. (at, x, there, refl, refl); all = λ number it held. held; once = places.once }

  -- sorted, those that hold the same are neighbours
  pub grouped : (xs : List Held) → IsPermutation items xs → IsSorted (compare_keyed number text place_of) xs → AreGrouped held_value place_of (HeldAt items) xs
  grouped xs permutation sorted =
      grouped_by_sort held_value place_of (HeldAt items) number (λ value. get_or value 0 0) items xs naming (begins items) permutation
      (subst (λ (order : Held → Held → Ordering). IsSorted order xs) same_order sorted)

  -- their places are below the bound
  pub below_bound : (xs : List Held) → AreGrouped held_value place_of (HeldAt items) xs → (at : ℕ) (x : Held) → slice_get xs at ≡ Some x → x.place < bound
  below_bound xs are at x there =
      let item = are.naming.known at x there in
      let below = places.below item.0 item.1 item.2 in
      let same = item.3 in
      omega (arith, below, same)

  -- one item alone has none that holds the same
  pub too_few : length items < 2 → AreFirstPlaces (HeldAt items) []
  too_few few first second = (
    λ is. absurd (cc),
    λ repetition.
        let one = repetition.there in
        let other = repetition.again in
        let within = slice_get_within items one.0 one.1 one.2 in
        let inside = slice_get_within items other.0 other.1 other.2 in
        let here : one.0 ≡ other.0 = omega (arith, few, within, inside) in
        let same : one.1 ≡ other.1 = same_Some _ _ (sym one.2 ∙ ap (slice_get items) here ∙ other.2) in
        let place : place_of one.1 ≡ place_of other.1 = ap place_of same in
        let before = repetition.earlier in
        let first_is = one.3 in
        let second_is = other.3 in
        absurd (omega (arith, place, before, first_is, second_is)),
  )

-- a key of a layer is held with the number of its first bytes
abbrev pub KeyHeldAt : LayerRecord → ℕ → List ℕ → Type 0
KeyHeldAt layer_record = Through (λ key. name_key key ∷ key) (KeyAt layer_record)

-- and so is the name of a layer
abbrev pub NameHeldAt : List LayerSummary → ℕ → List ℕ → Type 0
NameHeldAt summaries = Through (λ name. name_key name ∷ name) (NameAt summaries)

-- an id is held as a number alone
abbrev pub IdHeldAt : LayerRecord → ℕ → List ℕ → Type 0
IdHeldAt layer_record = Through (λ id. id ∷ []) (IdAt layer_record)

-- all places of a list were passed
module _ (At : ℕ → List ℕ → Type 0) (bound end : ℕ) (items : List Held) (all : bound ≤ end) (within : (place : ℕ) (value : List ℕ) → At place value → place < bound) (so_far : IsNaming held_value place_of (Before At end) items) where
  pub have_places : HavePlaces bound items
  have_places = record {
    below = λ at item there. within item.place (held_value item) (so_far.known at item there).1;
    once = so_far.once;
  }

  -- and what they hold is what the items hold
  pub held_is : (place : ℕ) (value : List ℕ) → HeldAt items place value ↔ At place value
  held_is place value = (
    λ held.
        let known : At (place_of held.1) (held_value held.1) = (so_far.known held.0 held.1 held.2).1 in
        subst (λ (place : ℕ). At place value) held.3 (subst (At (place_of held.1)) held.4 known),
    λ there. so_far.all place value (let inside = within place value there in omega (arith, inside, all), there),
  )

-- nothing else is held at a place
pub through_only : {X : Type 0} (f : X → List ℕ) (At : ℕ → X → Type 0) (place : ℕ) (it : X) → ((other : X) → At place other → it ≡ other) → (value : List ℕ) → Through f At place value → f it ≡ value
through_only f At place it only value held = ap f (only held.0 held.1) ∙ sym held.2

-- what is read of a list is there when it is seen in another way
pub mapped_there : {X Y : Type 0} (f : X → Y) (all items : List X) (place : ℕ) (item : X) (seen : Y) → items ≡ all → place < length items → seen ≡ f (get_or items place item) → slice_get (map f all) place ≡ Some seen
mapped_there f all items place item seen same within is =
    ap (λ list. slice_get (map f list) place) (sym same) ∙ slice_get-map f items place ∙ ap (option_map f) (slice_get-get_or items place item within) ∙ ap Some (sym is)
