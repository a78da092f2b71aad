-- Faults of least place, or free ones.
use Rattle.std.proofs.Common.{◌≢◌, ◌⊎◌, inl, inr, ℕ, zero, suc, List, [], ◌∷◌, take, refl}
use Rattle.mvt_fault.specs.Place.{ComesFirst, IsLeast, place_of}
use Rattle.mvt_fault.specs.declared.fault.Fault.{Fault}
use Rattle.mvt_tile.specs.FreeFaults.{IsLeastOr, of_least, of_free}
use Rattle.mvt_tile.specs.RuleFaults.{Frees}

-- Places

-- the first numbers of two lists are in their order
pub take_first : (n : ℕ) (xs ys : List ℕ) → ComesFirst xs ys → ComesFirst (take n xs) (take n ys)
take_first zero xs ys first = tt
take_first (suc n) [] ys first = tt
take_first (suc n) (x ∷ xs) [] first = absurd first
take_first (suc n) (x ∷ xs) (y ∷ ys) (inl less) = inl less
take_first (suc n) (x ∷ xs) (y ∷ ys) (inr (same, following)) = inr (same, take_first n xs ys following)

-- and the other way round, where they differ
pub first_by_taken : (n : ℕ) (xs ys : List ℕ) → ComesFirst (take n xs) (take n ys) → take n xs ≢ take n ys → ComesFirst xs ys
first_by_taken zero xs ys first differ = absurd (differ refl)
first_by_taken (suc n) [] ys first differ = tt
first_by_taken (suc n) (x ∷ xs) [] first differ = absurd first
first_by_taken (suc n) (x ∷ xs) (y ∷ ys) (inl less) differ = inl less
first_by_taken (suc n) (x ∷ xs) (y ∷ ys) (inr (same, following)) differ =
    inr (same, first_by_taken n xs ys following (λ alike. let heads = same in let tails = alike in differ (cc)))

-- One fault of a kind

module _ (IsFree Holds : Frees) (fault : Fault) where
  -- it is one
  pub least_or_holds : IsLeastOr IsFree Holds fault → Holds fault
  least_or_holds (of_least first) = first.holds
  least_or_holds (of_free is holds none) = holds

  -- none is of an earlier layer or feature
  pub none_earlier : IsLeastOr IsFree Holds fault → (other : Fault) → Holds other → ComesFirst (take 3 (place_of fault)) (take 3 (place_of other))
  none_earlier (of_least first) other its = take_first 3 (place_of fault) (place_of other) (first.least other its)
  none_earlier (of_free is holds none) other its = none other its

  -- where none is free, it has the least place
  pub least_unless_free : ((other : Fault) → ¬ IsFree other) → IsLeastOr IsFree Holds fault → IsLeast Holds fault
  least_unless_free never (of_least first) = first
  least_unless_free never (of_free is holds none) = absurd (never fault is)

  -- it is so of another kind too, whose other faults come after it
  pub lifted : (Others : Frees) → (Holds fault → Others fault) → ((other : Fault) → Others other → Holds other ⊎ ComesFirst (place_of fault) (place_of other)) → IsLeastOr IsFree Holds fault → IsLeastOr IsFree Others fault
  lifted Others to from (of_least first) = of_least (record {
    holds = to first.holds;
    least = λ other its. elim (from other its) [
      | inl holds ↦ first.least other holds
      | inr following ↦ following
    ];
  })
  lifted Others to from (of_free is holds none) = of_free is (to holds) (λ other its. elim (from other its) [
    | inl also ↦ none other also
    | inr following ↦ take_first 3 (place_of fault) (place_of other) following
  ])
