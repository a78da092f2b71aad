-- Numbers with their cells and least coordinates, as they are and in order.
use Rattle.std.proofs.Common.{◌≡◌, ◌⊎◌, inl, inr, ◌∙◌, sym, ap, true≢false, ℕ, ◌+◌, ◌<◌, Bool, false, List, [], ◌∷◌, ◌++◌, below_more, length, get_or, slice_get, Some, ℤ, pos, ◌<ℤ◌, arith}
use Rattle.std.specs.Cmp.{int_cmp_is}
use Rattle.std.specs.List.Sorted.{IsPermutation, IsSortedByKey}
use Rattle.std.specs.List.{swap}
use Rattle.std.specs.Ordering.{nat_cmp, int_cmp, ordering_then, then_cmp, on, is_lt}
use Rattle.std.specs.declared.cmp.Ordering.TheVariants.{Less, Equal}
use Rattle.std.specs.declared.cmp.Ordering.{Ordering}
use Rattle.std.proofs.lemmas.Bool.{cases_order}
use Rattle.std.proofs.lemmas.Cmp.{nat_cmp_total, int_cmp_total, on_total, then_total}
use Rattle.std.proofs.lemmas.Grind.{common_steps}
use Rattle.std.proofs.lemmas.List.Sorted.{IsPermutation-keeps, ranks_by, sorted_far}
use Rattle.std.proofs.lemmas.Option.{slice_get_within, get_or_from_slice_get}
use Rattle.mvt_fault.proofs.Swaps.{place_before, place_twice, swap_get}
use Rattle.mvt_plane.proofs.Orders.Order.{le_or_lt}
use Rattle.mvt_feature.specs.Calls.Cells.{AreNumbered, IsCellBefore, IsCellOrder, keyed_number}
use Rattle.mvt_sweep.proofs.Chains.ChainParts.{in_longer}
use Rattle.mvt_feature.proofs.Features.GatheredLists.{IsMarked, get_left, get_right}

module _ (spans : List (ℤ × ℤ)) (cells : List ℕ) (marks : List Bool) (count : ℕ) (order : List (ℕ × ℤ × ℕ)) (so_far : AreNumbered spans cells marks count order) where
  -- a number that isn't marked is passed by
  pub number_passed : get_or marks count false ≡ false → AreNumbered spans cells marks (count + 1) order
  number_passed unmarked = record {
    known = λ at it there. let below = so_far.known at it there in omega arith;
    keyed = so_far.keyed;
    all = below_more (λ (number : ℕ). IsMarked marks number → (at : ℕ) × (slice_get order at ≡ Some (keyed_number spans cells number))) count so_far.all (λ marked. absurd (true≢false (sym marked ∙ unmarked)));
    once = so_far.once;
  }

  module _ (longer : List (ℕ × ℤ × ℕ)) (more : longer ≡ order ++ keyed_number spans cells count ∷ []) where
    -- what is at a place was there, or is the last one
    at_place : (at : ℕ) (it : ℕ × ℤ × ℕ) → slice_get longer at ≡ Some it → (slice_get order at ≡ Some it) ⊎ ((at ≡ length order) × (keyed_number spans cells count ≡ it))
    at_place at it there = in_longer order (keyed_number spans cells count) at it (sym (ap (λ (list : List (ℕ × ℤ × ℕ)). slice_get list at) more) ∙ there)

    -- what was there still is
    still_there : (at : ℕ) (it : ℕ × ℤ × ℕ) → slice_get order at ≡ Some it → slice_get longer at ≡ Some it
    still_there at it there =
        ap (λ (list : List (ℕ × ℤ × ℕ)). slice_get list at) more ∙ get_left order (keyed_number spans cells count ∷ []) at (slice_get_within order at it there) ∙ there

    -- and the last one is
    last_there : slice_get longer (length order) ≡ Some (keyed_number spans cells count)
    last_there = ap (λ (list : List (ℕ × ℤ × ℕ)). slice_get list (length order)) more ∙ get_right order (keyed_number spans cells count ∷ []) 0 (length order) (omega arith)

    -- its number
    number_of : (it : ℕ × ℤ × ℕ) → keyed_number spans cells count ≡ it → count ≡ it.2
    number_of it is = ap (λ (it : ℕ × ℤ × ℕ). it.2) is

    -- a marked number is added
    pub number_added : AreNumbered spans cells marks (count + 1) longer
    number_added = record {
      known = λ at it there. elim (at_place at it there) [
        | inl earlier ↦ let below = so_far.known at it earlier in omega arith
        | inr last ↦ let is = number_of it last.1 in omega arith
      ];
      keyed = λ at it there. elim (at_place at it there) [
        | inl earlier ↦ so_far.keyed at it earlier
        | inr last ↦ sym last.1 ∙ ap (keyed_number spans cells) (number_of it last.1)
      ];
      all = below_more (λ (number : ℕ). IsMarked marks number → (at : ℕ) × (slice_get longer at ≡ Some (keyed_number spans cells number))) count
          (λ number below marked. let found = so_far.all number below marked in (found.0, still_there found.0 (keyed_number spans cells number) found.1))
          (λ _. (length order, last_there));
      once = λ at other it its there elsewhere same. elim (at_place at it there) [
        | inl earlier ↦ elim (at_place other its elsewhere) [
          | inl before ↦ so_far.once at other it its earlier before same
          | inr last ↦ let below = so_far.known at it earlier in let is = number_of its last.1 in absurd (omega arith)
        ]
        | inr own ↦ elim (at_place other its elsewhere) [
          | inl before ↦ let below = so_far.known other its before in let is = number_of it own.1 in absurd (omega arith)
          | inr last ↦ own.0 ∙ sym last.0
        ]
      ];
    }

-- two of them change places
numbered_swapped : (spans : List (ℤ × ℤ)) (cells : List ℕ) (marks : List Bool) (count : ℕ) (order : List (ℕ × ℤ × ℕ)) (one other : ℕ) → one < length order → other < length order
    → AreNumbered spans cells marks count order → AreNumbered spans cells marks count (swap order one other)
numbered_swapped spans cells marks count order one other first second all =
    let moved = λ (at : ℕ). swap_get order (0, pos 0, 0) one other at first second in
    record {
      known = λ at it there. all.known (place_before one other at) it (sym (moved at) ∙ there);
      keyed = λ at it there. all.keyed (place_before one other at) it (sym (moved at) ∙ there);
      all = λ number below marked. let found = all.all number below marked in
          (place_before one other found.0, moved (place_before one other found.0) ∙ ap (slice_get order) (place_twice one other found.0) ∙ found.1);
      once = λ at another it its there elsewhere same.
          sym (place_twice one other at)
          ∙ ap (place_before one other) (all.once (place_before one other at) (place_before one other another) it its (sym (moved at) ∙ there) (sym (moved another) ∙ elsewhere) same)
          ∙ place_twice one other another;
    }

-- ---- the order of pairs of a cell and a coordinate

-- the cell, and the coordinate
abbrev pub key_of : ℕ × ℤ × ℕ → ℕ × ℤ
key_of it = (it.0, it.1)

-- by cells, and then by coordinates
abbrev pub pair_cmp : ℕ × ℤ → ℕ × ℤ → Ordering
pair_cmp = then_cmp (on (λ pair. pair.0) nat_cmp) (on (λ pair. pair.1) int_cmp)

-- less by the cells
first_less : (a b : ℕ) (x y : ℤ) → a < b → pair_cmp (a, x) (b, y) ≡ Less
first_less a b x y less =
    let first : nat_cmp a b ≡ Less = grind (arith, common_steps) in
    ap (λ (ordering : Ordering). ordering_then ordering (int_cmp x y)) first

-- or by the coordinates
second_less : (a b : ℕ) (x y : ℤ) → a ≡ b → x <ℤ y → pair_cmp (a, x) (b, y) ≡ Less
second_less a b x y same less =
    let first : nat_cmp a b ≡ Equal = grind (arith, common_steps) in
    ap (λ (ordering : Ordering). ordering_then ordering (int_cmp x y)) first ∙ sym (int_cmp_is x y Less less)

-- what isn't less is the same or greater
before_of : (one other : ℕ × ℤ × ℕ) → is_lt (pair_cmp (key_of other) (key_of one)) ≡ false → IsCellBefore one other
before_of one other not_less = elim (cases_order one.0 other.0) [
  | inl same ↦ elim (le_or_lt one.1 other.1) [
    | inl most ↦ inr (same, most)
    | inr less ↦ absurd (true≢false (sym (ap is_lt (second_less other.0 one.0 other.1 one.1 (sym same) less)) ∙ not_less))
  ]
  | inr (inl less) ↦ inl less
  | inr (inr less) ↦ absurd (true≢false (sym (ap is_lt (first_less other.0 one.0 other.1 one.1 less)) ∙ not_less))
]

-- a sort of the marked numbers by those pairs puts them in order
pub cells_sorted : (spans : List (ℤ × ℤ)) (cells : List ℕ) (marks : List Bool) (before order : List (ℕ × ℤ × ℕ)) → AreNumbered spans cells marks (length cells) before → IsPermutation before order
    → IsSortedByKey key_of pair_cmp order → IsCellOrder spans cells marks order
cells_sorted spans cells marks before order all permutation sorted =
    let numbers = IsPermutation-keeps before (AreNumbered spans cells marks (length cells)) all
    (λ list one other first second is. numbered_swapped spans cells marks (length cells) list one other first second is) order permutation in
    record {
      numbered = numbers;
      sorted = λ at other it its at_most there elsewhere.
          let within = slice_get_within order other its elsewhere in
          let here : get_or order at it ≡ it = get_or_from_slice_get order at it it there in
          let further : get_or order other it ≡ its = get_or_from_slice_get order other its it elsewhere in
          let far = sorted_far (λ (x y : ℕ × ℤ × ℕ). is_lt (pair_cmp (key_of x) (key_of y)))
          (ranks_by (then_total (on_total (λ (pair : ℕ × ℤ). pair.0) nat_cmp_total) (on_total (λ (pair : ℕ × ℤ). pair.1) int_cmp_total)) key_of) order sorted at other it at_most within in
          before_of it its (rw (here, further) at far);
    }
