-- The bounds of polygons in the order of their left sides, and how far they reach.
use Rattle.std.proofs.Common.{◌≡◌, ◌∙◌, sym, ap, subst, true≢false, ℕ, ◌+◌, ◌<◌, ◌≤◌, false, List, [], ◌∷◌, ◌++◌, length, get_or, slice_get, Some, inl, inr, ℤ, pos, ◌<ℤ◌, ◌≤ℤ◌, SFits, w32, to_z, of_z, arith}
use Rattle.std.specs.Cmp.{int_cmp_is}
use Rattle.std.specs.List.{swap}
use Rattle.std.specs.List.Sorted.{IsPermutation, IsSortedByKey}
use Rattle.std.specs.Ordering.{int_cmp, is_lt}
use Rattle.std.specs.declared.cmp.Ordering.TheVariants.{Less}
use Rattle.std.proofs.lemmas.Bool.{cases_lt}
use Rattle.std.proofs.lemmas.Cmp.{int_cmp_total}
use Rattle.std.proofs.lemmas.Int.{to_z-of_z}
use Rattle.std.proofs.lemmas.List.{length_push}
use Rattle.std.proofs.lemmas.List.Sorted.{IsPermutation-keeps, ranks_by, sorted_far}
use Rattle.std.proofs.lemmas.Option.{slice_get_within, get_or_from_slice_get}
use Rattle.mvt_fault.proofs.Swaps.{place_before, place_twice, swap_get}
use Rattle.mvt_plane.proofs.Orders.Order.{le_or_lt, zs}
use Rattle.mvt_feature.specs.Calls.Bounds.{AreBoundsInOrder, AreReaches, IsNumbering}
use Rattle.mvt_sweep.specs.declared.bounds.Bounds.{Bounds}
use Rattle.mvt_sweep.proofs.Chains.ChainParts.{in_longer}
use Rattle.mvt_polygon.proofs.PolygonList.{is_last, stays}
use Rattle.mvt_sweep.proofs.Vertices.WiderBounds.{at_least, upper}

-- Bounds and their numbers

-- the first bounds in the order of their numbers, so many of them, each with its left side
pub record AreNumbered (bounds : List Bounds) (count : ℕ) (order : List (ℤ × ℕ)) : Type 0 where
  pub size : length order ≡ count
  pub each : (at : ℕ) (left : ℤ) (number : ℕ) → slice_get order at ≡ Some (left, number) → (at ≡ number) × ((its : Bounds) → slice_get bounds number ≡ Some its → left ≡ its.left)
  pub there : (number : ℕ) → number < count → (left : ℤ) × (slice_get order number ≡ Some (left, number))

-- one more
pub numbered_more : (bounds : List Bounds) (count : ℕ) (order : List (ℤ × ℕ)) (left : ℤ) → AreNumbered bounds count order → ((its : Bounds) → slice_get bounds count ≡ Some its → left ≡ its.left)
    → AreNumbered bounds (count + 1) (order ++ (left, count) ∷ [])
numbered_more bounds count order left before is =
    let size = before.size in
    record {
      size = omega (arith, length_push order (left, count));
      each = λ at its_left number there. elim (in_longer order (left, count) at (its_left, number) there) [
        | inl old ↦ before.each at its_left number old
        | inr last ↦
            let place = last.0 in
            let same : count ≡ number = ap (λ (pair : ℤ × ℕ). pair.1) last.1 in
            (omega arith, λ its here. sym (ap (λ (pair : ℤ × ℕ). pair.0) last.1) ∙ is its (ap (slice_get bounds) same ∙ here))
      ];
      there = λ number less. elim (cases_lt number count) [
        | inl earlier ↦ (let known = before.there number earlier in (known.0, stays order (left, count) number (known.0, number) known.1))
        | inr last ↦
            let same : count ≡ number = omega arith in
            let place : number ≡ length order = omega arith in
            (left, ap (slice_get (order ++ (left, count) ∷ [])) place ∙ is_last order (left, count) ∙ ap (λ (n : ℕ). Some (left, n)) same)
      ];
    }

-- bounds in the order of their numbers
numbering : (bounds : List Bounds) (order : List (ℤ × ℕ)) → AreNumbered bounds (length bounds) order → IsNumbering bounds order
numbering bounds order is = record {
  known = λ at left number there. let within = slice_get_within order at (left, number) there in let same = (is.each at left number there).0 in let size = is.size in omega arith;
  keyed = λ at left number its there here. (is.each at left number there).1 its here;
  all = λ number less. (number, is.there number less);
}

-- with two of them swapped
numbering_swapped : (bounds : List Bounds) (order : List (ℤ × ℕ)) (one other : ℕ) → one < length order → other < length order → IsNumbering bounds order → IsNumbering bounds (swap order one other)
numbering_swapped bounds order one other first second it =
    let moved = λ (at : ℕ). swap_get order (pos 0, 0) one other at first second in
    record {
      known = λ at left number there. it.known (place_before one other at) left number (sym (moved at) ∙ there);
      keyed = λ at left number its there here. it.keyed (place_before one other at) left number its (sym (moved at) ∙ there) here;
      all = λ number less. let found = it.all number less in
          (place_before one other found.0, (found.1.0, moved (place_before one other found.0) ∙ ap (slice_get order) (place_twice one other found.0) ∙ found.1.1));
    }

-- a number that isn't less by its order is at least the other
at_least_by_order : (one other : ℤ) → is_lt (int_cmp one other) ≡ false → other ≤ℤ one
at_least_by_order one other not_less = elim (le_or_lt other one) [
  | inl at_most ↦ at_most
  | inr below ↦ absurd (true≢false (ap is_lt (int_cmp_is one other Less below) ∙ not_less))
]

-- a sort by the left sides puts them in order
pub order_sorted : (bounds : List Bounds) (before order : List (ℤ × ℕ)) → AreNumbered bounds (length bounds) before → IsPermutation before order
    → IsSortedByKey (λ (pair : ℤ × ℕ). pair.0) int_cmp order → AreBoundsInOrder bounds order
order_sorted bounds before order is permutation sorted =
    let it = IsPermutation-keeps before (IsNumbering bounds) (numbering bounds before is)
    (λ list one other first second its. numbering_swapped bounds list one other first second its) order permutation in
    record {
      numbering = it;
      sorted = λ at other left its number another at_most there elsewhere.
          let within = slice_get_within order other (its, another) elsewhere in
          let here : get_or order at (left, number) ≡ (left, number) = get_or_from_slice_get order at (left, number) (left, number) there in
          let far : get_or order other (left, number) ≡ (its, another) = get_or_from_slice_get order other (its, another) (left, number) elsewhere in
          let ranked = sorted_far (λ x y. is_lt (int_cmp x.0 y.0)) (ranks_by int_cmp_total (λ (pair : ℤ × ℕ). pair.0)) order sorted at other (left, number) at_most within in
          at_least_by_order its left (rw (here, far) at ranked);
    }

-- those after one that begins further to the right do so too
pub beyond_from : (bounds : List Bounds) (order : List (ℤ × ℕ)) (middle : ℕ) (right least : ℤ) (its : ℕ) → AreBoundsInOrder bounds order → slice_get order middle ≡ Some (least, its) → right <ℤ least
    → (at : ℕ) (left : ℤ) (number : ℕ) → middle ≤ at → slice_get order at ≡ Some (left, number) → right <ℤ left
beyond_from bounds order middle right least its in_order there beyond at left number following here =
    let most = in_order.sorted middle at least left its number following there here in
    omega (arith, zs)

-- How far they reach

-- those before a place of the order reach no further
abbrev pub IsReachBefore : List Bounds → List (ℤ × ℕ) → ℕ → ℤ → Type 0
IsReachBefore bounds order to reach =
    (at : ℕ) (left : ℤ) (number : ℕ) (its : Bounds) → at < to → slice_get order at ≡ Some (left, number) → slice_get bounds number ≡ Some its → its.right ≤ℤ reach

-- with one more
pub reach_more : (bounds : List Bounds) (order : List (ℤ × ℕ)) (to : ℕ) (reach wider : ℤ) → IsReachBefore bounds order to reach → reach ≤ℤ wider
    → ((left : ℤ) (number : ℕ) (its : Bounds) → slice_get order to ≡ Some (left, number) → slice_get bounds number ≡ Some its → its.right ≤ℤ wider)
    → IsReachBefore bounds order (to + 1) wider
reach_more bounds order to reach wider before more one at left number its less there here = elim (cases_lt at to) [
  | inl earlier ↦ (let most = before at left number its earlier there here in omega (arith, zs))
  | inr last ↦ (let same : to ≡ at = omega arith in one left number its (ap (slice_get order) same ∙ there) here)
]

-- and its reach
pub reaches_more : (bounds : List Bounds) (order : List (ℤ × ℕ)) (to : ℕ) (reaches : List ℤ) (wider : ℤ) → AreReaches bounds order to reaches → IsReachBefore bounds order (to + 1) wider
    → AreReaches bounds order (to + 1) (reaches ++ wider ∷ [])
reaches_more bounds order to reaches wider before all = record {
  count = let count = before.count in omega (arith, length_push reaches wider);
  reach = λ at other left number its reach most there here is. elim (in_longer reaches wider other reach is) [
    | inl old ↦ before.reach at other left number its reach most there here old
    | inr last ↦
        let place = last.0 in
        let count = before.count in
        subst (λ (reach : ℤ). its.right ≤ℤ reach) last.1 (all at left number its (omega arith) there here)
  ];
}

-- As the code reads them

-- a left side
pub left_read : (bounds : List Bounds) (number : ℕ) (past : Bounds) → SFits w32 (get_or bounds number past).left → (its : Bounds) → slice_get bounds number ≡ Some its
    → to_z w32 (of_z w32 (get_or bounds number past).left) ≡ its.left
left_read bounds number past fits its here =
    to_z-of_z w32 (get_or bounds number past).left fits ∙ ap (λ (bounds : Bounds). bounds.left) (get_or_from_slice_get bounds number its past here)

-- a right side that isn't beyond a number
pub right_read : (bounds : List Bounds) (order : List (ℤ × ℕ)) (at : ℕ) (pair : ℤ × ℕ) (past : Bounds) (wider : ℤ) → SFits w32 (get_or bounds (get_or order at pair).1 past).right → SFits w32 wider
    → to_z w32 (of_z w32 (get_or bounds (get_or order at pair).1 past).right) ≤ℤ wider
    → (left : ℤ) (number : ℕ) (its : Bounds) → slice_get order at ≡ Some (left, number) → slice_get bounds number ≡ Some its → its.right ≤ℤ to_z w32 (of_z w32 wider)
right_read bounds order at pair past wider fits wider_fits most left number its there here =
    let same : (get_or order at pair).1 ≡ number = ap (λ (it : ℤ × ℕ). it.1) (get_or_from_slice_get order at (left, number) pair there) in
    let is : get_or bounds (get_or order at pair).1 past ≡ its = ap (λ (n : ℕ). get_or bounds n past) same ∙ get_or_from_slice_get bounds number its past here in
    upper wider (get_or bounds (get_or order at pair).1 past).right its.right wider_fits fits most (at_least _ _ (ap (λ (bounds : Bounds). bounds.right) is))
