-- Lists with neighbours in a relation, taken apart and put together.
use Rattle.std.proofs.Common.{◌≡◌, ◌≢◌, ℕ, zero, suc, ◌+◌, ◌-◌, ◌<◌, Bool, true, false, ◌⊎◌, inl, inr, List, [], ◌∷◌, ◌++◌, All, drop, length, slice_get, slice_index, Some, take, refl, sym, ap, subst, ◌∙◌, arith, length-append, length-drop, length-take, take-append-drop}
use Rattle.std.proofs.lemmas.List.{drop_more, get_or_append_left, get_or-append_right, get_or-take, get_or-drop}
use Rattle.std.proofs.lemmas.Option.{none-some, same_Some}
use Rattle.mvt_sweep.specs.Calls.Chain.{Has, EachOne, Head, Chain, Joined, Ordered}
use Rattle.mvt_status.specs.Split.{IsSplit}

-- What is of each

-- what is true of each is true of one
pub each_has : (P : ℕ → Type 0) (xs : List ℕ) (it : ℕ) → EachOne P xs → Has xs it → P it
each_has P [] it all has = absurd has
each_has P (first ∷ rest) it all (inl same) = subst P same all.0
each_has P (first ∷ rest) it all (inr more) = each_has P rest it all.1 more

-- and is shown one by one
pub each_by_has : (P : ℕ → Type 0) (xs : List ℕ) → ((it : ℕ) → Has xs it → P it) → EachOne P xs
each_by_has P [] each = tt
each_by_has P (first ∷ rest) each = (each first (inl refl), each_by_has P rest (λ it has. each it (inr has)))

-- the library says it so
pub each_all : (P : ℕ → Type 0) (xs : List ℕ) → EachOne P xs → All P xs
each_all P [] all place default within = absurd (omega arith)
each_all P (first ∷ rest) all zero default within = all.0
each_all P (first ∷ rest) all (suc place) default within = each_all P rest all.1 place default (omega arith)

-- what is in one of two lists
pub has_left : (xs ys : List ℕ) (it : ℕ) → Has xs it → Has (xs ++ ys) it
has_left [] ys it has = absurd has
has_left (first ∷ rest) ys it (inl same) = inl same
has_left (first ∷ rest) ys it (inr more) = inr (has_left rest ys it more)

-- or in the other
pub has_right : (xs ys : List ℕ) (it : ℕ) → Has ys it → Has (xs ++ ys) it
has_right [] ys it has = has
has_right (first ∷ rest) ys it has = inr (has_right rest ys it has)

-- is in both together, and nothing else is
pub has_either : (xs ys : List ℕ) (it : ℕ) → Has (xs ++ ys) it → Has xs it ⊎ Has ys it
has_either [] ys it has = inr has
has_either (first ∷ rest) ys it (inl same) = inl (inl same)
has_either (first ∷ rest) ys it (inr more) = elim (has_either rest ys it more) [ inl left ↦ inl (inr left) | inr right ↦ inr right ]

-- a place has its number
pub has_place : (xs : List ℕ) (at : ℕ) → at < length xs → Has xs (slice_index xs at)
has_place [] at within = absurd (omega arith)
has_place (first ∷ rest) zero within = inl refl
has_place (first ∷ rest) (suc at) within = inr (has_place rest at (omega arith))

-- Places

-- what is in a list that is one longer
pub in_longer : {X : Type 0} (xs : List X) (y : X) (i : ℕ) (z : X) → slice_get (xs ++ y ∷ []) i ≡ Some z → (slice_get xs i ≡ Some z) ⊎ ((i ≡ length xs) × (y ≡ z))
in_longer [] y zero z here = inr (refl, same_Some y z here)
in_longer [] y (suc i) z here = absurd (none-some z here)
in_longer (x ∷ xs) y zero z here = inl here
in_longer (x ∷ xs) y (suc i) z here = elim (in_longer xs y i z here) [ inl before ↦ inl before | inr last ↦ inr (ap suc last.0, last.1) ]

-- up to a place a list has the same
pub take_there : {X : Type 0} (xs : List X) (many number : ℕ) → number < many → slice_get (take many xs) number ≡ slice_get xs number
take_there [] zero number within = refl
take_there [] (suc many) number within = refl
take_there (first ∷ rest) zero number within = absurd (omega arith)
take_there (first ∷ rest) (suc many) zero within = refl
take_there (first ∷ rest) (suc many) (suc number) within = take_there rest many number (omega arith)

-- Neighbours

-- a chain comes apart
pub chain_front : (R : ℕ → ℕ → Type 0) (xs ys : List ℕ) → Chain R (xs ++ ys) → Chain R xs
chain_front R [] ys chain = tt
chain_front R (first ∷ []) ys chain = (tt, tt)
chain_front R (first ∷ next ∷ rest) ys chain = (chain.0, chain_front R (next ∷ rest) ys chain.1)

-- at any place
pub chain_back : (R : ℕ → ℕ → Type 0) (xs ys : List ℕ) → Chain R (xs ++ ys) → Chain R ys
chain_back R [] ys chain = chain
chain_back R (first ∷ rest) ys chain = chain_back R rest ys chain.1

-- two that are joined are one
pub chain_join : (R : ℕ → ℕ → Type 0) (xs ys : List ℕ) → Chain R xs → Chain R ys → Joined R xs ys → Chain R (xs ++ ys)
chain_join R [] ys front back joined = back
chain_join R (last ∷ []) ys front back joined = (joined, back)
chain_join R (first ∷ next ∷ rest) ys front back joined = (front.0, chain_join R (next ∷ rest) ys front.1 back joined)

-- the same of all that come one before the other
pub ordered_parts : (R : ℕ → ℕ → Type 0) (xs ys : List ℕ) → Ordered R (xs ++ ys)
    → Ordered R xs × Ordered R ys × ((one other : ℕ) → Has xs one → Has ys other → R one other)
ordered_parts R [] ys ordered = (tt, ordered, λ one other is_one is_other. absurd is_one)
ordered_parts R (first ∷ rest) ys ordered =
    let parts = ordered_parts R rest ys ordered.1 in
    let to_all : (it : ℕ) → Has (rest ++ ys) it → R first it = λ it has. each_has (R first) (rest ++ ys) it ordered.0 has in (
      (each_by_has (R first) rest (λ it has. to_all it (has_left rest ys it has)), parts.0),
      parts.1,
      λ one other is_one is_other. elim is_one [
        | inl same ↦ subst (λ (it : ℕ). R it other) same (to_all other (has_right rest ys other is_other))
        | inr more ↦ parts.2 one other more is_other
      ],
    )

-- neighbours in a transitive relation: all are in it
pub ordered_by_chain : (R : ℕ → ℕ → Type 0) (xs : List ℕ)
    → ((first second third : ℕ) → Has xs first → Has xs second → Has xs third → R first second → R second third → R first third) → Chain R xs → Ordered R xs
ordered_by_chain R [] trans chain = tt
ordered_by_chain R (first ∷ []) trans chain = (tt, tt)
ordered_by_chain R (first ∷ next ∷ rest) trans chain =
    let following : Ordered R (next ∷ rest) = ordered_by_chain R (next ∷ rest) (λ one other third is_one is_other is_third. trans one other third (inr is_one) (inr is_other) (inr is_third)) chain.1 in
    ((chain.0, each_by_has (R first) rest (λ it has. trans first next it (inl refl) (inr (inl refl)) (inr (inr has)) chain.0 (each_has (R next) rest it following.0 has))), following)

-- those that come one before the other are neighbours too
pub chain_by_ordered : (R : ℕ → ℕ → Type 0) (xs : List ℕ) → Ordered R xs → Chain R xs
chain_by_ordered R [] ordered = tt
chain_by_ordered R (first ∷ []) ordered = (tt, tt)
chain_by_ordered R (first ∷ next ∷ rest) ordered = (ordered.0.0, chain_by_ordered R (next ∷ rest) ordered.1)

-- of two numbers of an ordered list one comes before the other
pub ordered_either : (R : ℕ → ℕ → Type 0) (xs : List ℕ) (one other : ℕ) → Ordered R xs → Has xs one → Has xs other → one ≢ other → R one other ⊎ R other one
ordered_either R [] one other ordered is_one is_other apart = absurd is_one
ordered_either R (first ∷ rest) one other ordered (inl is_one) (inl is_other) apart = absurd (apart (sym is_one ∙ is_other))
ordered_either R (first ∷ rest) one other ordered (inl is_one) (inr is_other) apart = inl (subst (λ (it : ℕ). R it other) is_one (each_has (R first) rest other ordered.0 is_other))
ordered_either R (first ∷ rest) one other ordered (inr is_one) (inl is_other) apart = inr (subst (λ (it : ℕ). R it one) is_other (each_has (R first) rest one ordered.0 is_one))
ordered_either R (first ∷ rest) one other ordered (inr is_one) (inr is_other) apart = ordered_either R rest one other ordered.1 is_one is_other apart

-- a chain of one relation is one of another
pub chain_map : (R Q : ℕ → ℕ → Type 0) (xs : List ℕ) → ((one other : ℕ) → Has xs one → Has xs other → R one other → Q one other) → Chain R xs → Chain Q xs
chain_map R Q [] each chain = tt
chain_map R Q (first ∷ []) each chain = (tt, tt)
chain_map R Q (first ∷ next ∷ rest) each chain =
    (each first next (inl refl) (inr (inl refl)) chain.0, chain_map R Q (next ∷ rest) (λ one other is_one is_other. each one other (inr is_one) (inr is_other)) chain.1)

-- the same of all that come one before the other
pub ordered_map : (R Q : ℕ → ℕ → Type 0) (xs : List ℕ) → ((one other : ℕ) → Has xs one → Has xs other → R one other → Q one other) → Ordered R xs → Ordered Q xs
ordered_map R Q [] each ordered = tt
ordered_map R Q (first ∷ rest) each ordered = (
  each_by_has (Q first) rest (λ it has. each first it (inl refl) (inr has) (each_has (R first) rest it ordered.0 has)),
  ordered_map R Q rest (λ one other is_one is_other. each one other (inr is_one) (inr is_other)) ordered.1,
)

-- a chain of two that are neighbours in both
pub chain_both : (R Q : ℕ → ℕ → Type 0) (xs : List ℕ) → Chain R xs → Chain Q xs → Chain (λ (one other : ℕ). R one other × Q one other) xs
chain_both R Q [] one other = tt
chain_both R Q (first ∷ []) one other = (tt, tt)
chain_both R Q (first ∷ next ∷ rest) one other = ((one.0, other.0), chain_both R Q (next ∷ rest) one.1 other.1)

-- Places, as the status has them

-- the parts before and from a place on
pub take_drop : (xs : List ℕ) (at : ℕ) → xs ≡ take at xs ++ drop at xs
take_drop xs at = sym (take-append-drop at xs)

-- the first from a place on
pub drop_first : (xs : List ℕ) (at : ℕ) → at < length xs → drop at xs ≡ slice_index xs at ∷ drop (at + 1) xs
drop_first xs at within = drop_more xs at 0 within

-- the one at a place is the last of those up to it
pub joined_last : (R : ℕ → ℕ → Type 0) (xs back : List ℕ) (at : ℕ) → at < length xs → Head R (slice_index xs at) back → Joined R (take (suc at) xs) back
joined_last R [] back at within head = absurd (omega arith)
joined_last R (first ∷ rest) back zero within head = head
joined_last R (first ∷ []) back (suc at) within head = absurd (omega arith)
joined_last R (first ∷ next ∷ rest) back (suc at) within head = joined_last R (next ∷ rest) back at (omega arith) head

-- a front of which this is true and a rest of which it isn't are a split for a test of it
pub split_of_parts : (P : ℕ → Type 0) (answers : ℕ → Bool → Type 0) (front rest : List ℕ) → ((it : ℕ) (answer : Bool) → answers it answer → P it → answer ≡ true)
    → ((it : ℕ) (answer : Bool) → answers it answer → ¬ P it → answer ≡ false) → EachOne P front → EachOne (λ (it : ℕ). ¬ P it) rest → IsSplit answers (front ++ rest) (length front)
split_of_parts P answers front rest holds fails each none = record {
  within = omega (arith, length-append front rest);
  front = λ i before answer is.
      let at_front : slice_index (front ++ rest) i ≡ slice_index front i = get_or_append_left front rest 0 i before in
      holds (slice_index front i) answer (subst (λ (it : ℕ). answers it answer) at_front is) (each_has P front (slice_index front i) each (has_place front i before));
  rest = λ i from within answer is.
      let at_rest : slice_index (front ++ rest) i ≡ slice_index rest (i - length front) = get_or-append_right front rest (length front) i 0 refl from in
      let there : i - length front < length rest = omega (arith, length-append front rest) in
      fails (slice_index rest (i - length front)) answer (subst (λ (it : ℕ). answers it answer) at_rest is)
      (each_has (λ (it : ℕ). ¬ P it) rest (slice_index rest (i - length front)) none (has_place rest (i - length front) there));
}

-- a number of a list has a place
place_of_has : (xs : List ℕ) (it : ℕ) → Has xs it → (at : ℕ) × (at < length xs) × (slice_index xs at ≡ it)
place_of_has [] it has = absurd has
place_of_has (first ∷ rest) it (inl same) = (0, omega arith, same)
place_of_has (first ∷ rest) it (inr more) = let following = place_of_has rest it more in (suc following.0, omega (arith, following.1), following.2)

-- and a split point is one of such parts, where each has an answer
pub parts_of_split : (P : ℕ → Type 0) (answers : ℕ → Bool → Type 0) (xs : List ℕ) (point : ℕ)
    → ((it : ℕ) → Has xs it → (answer : Bool) × answers it answer × (answer ≡ true → P it) × (answer ≡ false → ¬ P it)) → IsSplit answers xs point
    → EachOne P (take point xs) × EachOne (λ (it : ℕ). ¬ P it) (drop point xs)
parts_of_split P answers xs point each split = (
  each_by_has P (take point xs) (λ it has.
      let place = place_of_has (take point xs) it has in
      let within : (place.0 < point) × (place.0 < length xs) = (omega (arith, place.1, length-take point xs), omega (arith, place.1, length-take point xs)) in
      let same : slice_index xs place.0 ≡ it = sym (get_or-take point xs place.0 0 within.0) ∙ place.2 in
      let answer = each (slice_index xs place.0) (has_place xs place.0 within.1) in
      subst P same (answer.2 (split.front place.0 within.0 answer.0 answer.1))),
  each_by_has (λ (it : ℕ). ¬ P it) (drop point xs) (λ it has.
      let place = place_of_has (drop point xs) it has in
      let within : point + place.0 < length xs = omega (arith, place.1, length-drop point xs) in
      let same : slice_index xs (point + place.0) ≡ it = sym (get_or-drop point xs place.0 0) ∙ place.2 in
      let answer = each (slice_index xs (point + place.0)) (has_place xs (point + place.0) within) in
      subst (λ (number : ℕ). ¬ P number) same (answer.3 (split.rest (point + place.0) (omega arith) within answer.0 answer.1))),
)
