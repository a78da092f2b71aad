-- How many polygons are around each ring, counted from the outermost rings on.
use Rattle.std.proofs.Common.{◌≡◌, ◌≢◌, ◌⊎◌, inl, inr, ℕ, ◌+◌, ◌^◌, ◌<◌, ◌≤◌, List, [], ◌∷◌, ◌++◌, length, get_or, slice_get, Some, None, refl, sym, ◌∙◌, ap, subst, arith}
use Rattle.std.proofs.lemmas.Bool.{cases_lt, cases_eq}
use Rattle.std.proofs.Math.ListN.{set, length-set}
use Rattle.std.proofs.lemmas.List.{length_push, get_or-set_same, get_or-set_other}
use Rattle.std.proofs.lemmas.Option.{slice_get_within, slice_get-get_or, get_or_from_slice_get, same_Some}
use Rattle.mvt_feature.specs.Calls.Passings.{AreCounts, AreInwards, IsNextCount}
use Rattle.mvt_sweep.specs.RingsAround.{nearest_at}
use Rattle.mvt_feature.specs.declared.feature.passing.Passing.{Passing}
use Rattle.mvt_feature.specs.declared.feature.passing.Passing.TheVariants.{Enters, Leaves, Neither}
use Rattle.mvt_sweep.specs.declared.sweep.notes.Around.{Around}
use Rattle.mvt_sweep.proofs.Chains.ChainParts.{in_longer}

-- ---- nothing counted

-- no polygon is counted around so many rings
pub record AreNothing (many : ℕ) (counts : List ℕ) : Type 0 where
  pub size : length counts ≡ many
  pub each : (ring count : ℕ) → slice_get counts ring ≡ Some count → count ≡ 0

-- around none at first
pub no_rings : AreNothing 0 []
no_rings = record { size = refl; each = λ ring count there. absurd (cc) }

-- and one more
pub one_ring_more : (many : ℕ) (counts : List ℕ) → AreNothing many counts → AreNothing (many + 1) (counts ++ 0 ∷ [])
one_ring_more many counts nothing = record {
  size = omega (arith, length_push counts 0, nothing.size);
  each = λ ring count there. elim (in_longer counts 0 ring count there) [ inl earlier ↦ nothing.each ring count earlier | inr last ↦ sym last.1 ];
}

-- ---- ring by ring

-- the rings that were come to before this place are counted, and those with none around them stay at none
pub record AreCountedTo (notes : List Around) (come_to : List ℕ) (passings : List Passing) (to : ℕ) (counts : List ℕ) : Type 0 where
  pub size : length counts ≡ length passings
  pub outermost : (ring count : ℕ) → nearest_at notes ring ≡ None → slice_get counts ring ≡ Some count → count ≡ 0
  pub counted : (count_of : ℕ → ℕ) → AreCounts notes passings count_of → (at ring count : ℕ) → at < to → slice_get come_to at ≡ Some ring → slice_get counts ring ≡ Some count → count ≡ count_of ring

-- a count that is there
count_there : (counts : List ℕ) (ring : ℕ) → (ring < length counts) → (count : ℕ) × (slice_get counts ring ≡ Some count)
count_there counts ring within = (get_or counts ring 0, slice_get-get_or counts ring 0 within)

-- before the first place nothing is counted
pub none_counted : (notes : List Around) (come_to : List ℕ) (passings : List Passing) (counts : List ℕ) → AreNothing (length passings) counts → AreCountedTo notes come_to passings 0 counts
none_counted notes come_to passings counts nothing = record {
  size = nothing.size;
  outermost = λ ring count none there. nothing.each ring count there;
  counted = λ count_of are at ring count before. absurd (omega arith);
}

-- a ring with none around it has been counted
pub outermost_counted : (notes : List Around) (come_to : List ℕ) (passings : List Passing) (to own : ℕ) (counts : List ℕ) → AreInwards (length passings) notes come_to
    → slice_get come_to to ≡ Some own → nearest_at notes own ≡ None → AreCountedTo notes come_to passings to counts → AreCountedTo notes come_to passings (to + 1) counts
outermost_counted notes come_to passings to own counts inwards here none done = record {
  size = done.size;
  outermost = done.outermost;
  counted = λ count_of are at ring count before there its. elim (cases_lt at to) [
    | inl earlier ↦ done.counted count_of are at ring count earlier there its
    | inr last ↦
        let same : at ≡ to = omega arith in
        let alike : ring ≡ own = same_Some ring own (sym there ∙ ap (slice_get come_to) same ∙ here) in
        let alone : nearest_at notes ring ≡ None = ap (nearest_at notes) alike ∙ none in
        done.outermost ring count alone its ∙ sym (are.outermost ring (inwards.only at ring there) alone)
  ];
}

-- the number of polygons within a ring is given by those around it
one_count : (passing : Passing) (outer inner other : ℕ) → IsNextCount passing outer inner → IsNextCount passing outer other → inner ≡ other
one_count Enters outer inner other is its = omega arith
one_count Leaves outer inner other is its = omega arith
one_count Neither outer inner other is its = omega arith

-- what was written is there, and nothing else has changed
written : (counts : List ℕ) (at value ring count : ℕ) → at < length counts → slice_get (set counts at value) ring ≡ Some count → ((ring ≡ at) × (count ≡ value)) ⊎ ((ring ≢ at) × (slice_get counts ring ≡ Some count))
written counts at value ring count within there = elim (cases_eq ring at) [
  | inl same ↦ inl (same, let e = get_or_from_slice_get (set counts at value) ring count 0 there in let w = get_or-set_same counts at value 0 within in sym e ∙ ap (λ (place : ℕ). get_or (set counts at value) place 0) same ∙ w)
  | inr differ ↦
      let e = get_or_from_slice_get (set counts at value) ring count 0 there in
      let kept = get_or-set_other counts at ring value 0 differ in
      let size : length (set counts at value) ≡ length counts = length-set counts at value in
      let below = slice_get_within (set counts at value) ring count there in
      inr (differ, slice_get-get_or counts ring 0 (omega arith) ∙ ap Some (sym kept ∙ e))
]

-- a ring directly within another is counted by that one's count
pub inner_counted : (notes : List Around) (come_to : List ℕ) (passings : List Passing) (to own near outer value : ℕ) (passing : Passing) (counts : List ℕ) → AreInwards (length passings) notes come_to
    → slice_get come_to to ≡ Some own → nearest_at notes own ≡ Some near → slice_get counts near ≡ Some outer → slice_get passings near ≡ Some passing → IsNextCount passing outer value
    → AreCountedTo notes come_to passings to counts → AreCountedTo notes come_to passings (to + 1) (set counts own value)
inner_counted notes come_to passings to own near outer value passing counts inwards here is its_outer its_passing next done =
    let own_within : own < length passings = inwards.only to own here in
    let within : own < length counts = omega (arith, done.size) in
    let (before, less, place) = inwards.following to own near here is in
    let own_count : (count_of : ℕ → ℕ) → AreCounts notes passings count_of → value ≡ count_of own = λ count_of are.
    let known = done.counted count_of are before near outer less place its_outer in
    let of_own = are.inner own near passing own_within is its_passing in
    one_count passing outer value (count_of own) next (subst (λ (count : ℕ). IsNextCount passing count (count_of own)) (sym known) of_own) in
    record {
      size = length-set counts own value ∙ done.size;
      outermost = λ ring count none there. elim (written counts own value ring count within there) [
        | inl same ↦ let both : None ≡ Some near = sym none ∙ ap (nearest_at notes) same.0 ∙ is in absurd (cc both)
        | inr kept ↦ done.outermost ring count none kept.1
      ];
      counted = λ count_of are at ring count earlier there its. elim (written counts own value ring count within its) [
        | inl same ↦ same.1 ∙ own_count count_of are ∙ ap count_of (sym same.0)
        | inr kept ↦ elim (cases_lt at to) [
          | inl before ↦ done.counted count_of are at ring count before there kept.1
          | inr last ↦
              let alike : at ≡ to = omega arith in
              absurd (kept.0 (same_Some ring own (sym there ∙ ap (slice_get come_to) alike ∙ here)))
        ]
      ];
    }

-- the count within a ring can be decided
pub next_there : (notes : List Around) (come_to : List ℕ) (passings : List Passing) (to own near outer : ℕ) (passing : Passing) (counts : List ℕ) → AreInwards (length passings) notes come_to
    → ((count_of : ℕ → ℕ) × AreCounts notes passings count_of) → slice_get come_to to ≡ Some own → nearest_at notes own ≡ Some near → slice_get counts near ≡ Some outer
    → slice_get passings near ≡ Some passing → AreCountedTo notes come_to passings to counts → (inner : ℕ) × (inner < 2 ^ 64) × IsNextCount passing outer inner
next_there notes come_to passings to own near outer passing counts inwards some here is its_outer its_passing done =
    let (count_of, are) = some in
    let (before, less, place) = inwards.following to own near here is in
    let known = done.counted count_of are before near outer less place its_outer in
    (count_of own, are.few own, subst (λ (count : ℕ). IsNextCount passing count (count_of own)) (sym known) (are.inner own near passing (inwards.only to own here) is its_passing))

-- at the end each ring is counted
pub all_counted : (notes : List Around) (come_to : List ℕ) (passings : List Passing) (to : ℕ) (counts : List ℕ) → AreInwards (length passings) notes come_to → length come_to ≤ to
    → AreCountedTo notes come_to passings to counts → (count_of : ℕ → ℕ) → AreCounts notes passings count_of → (ring : ℕ) → ring < length passings → slice_get counts ring ≡ Some (count_of ring)
all_counted notes come_to passings to counts inwards past done count_of are ring within =
    let (at, there) = inwards.listed ring within in
    let (count, its) = count_there counts ring (omega (arith, done.size)) in
    let place = slice_get_within come_to at ring there in
    its ∙ ap Some (done.counted count_of are at ring count (omega arith) there its)

-- the ring that the line came to, as the code reads it
pub come_here : (rings come_to : List ℕ) (at : ℕ) → rings ≡ come_to → at < length rings → slice_get come_to at ≡ Some (get_or rings at 0)
come_here rings come_to at same within = subst (λ (list : List ℕ). slice_get list at ≡ Some (get_or rings at 0)) same (slice_get-get_or rings at 0 within)
