-- The levels on both sides of a node, of which one changes.
use Rattle.std.proofs.Common.{◌≡◌, ℕ, suc, max, ◌+◌, ◌<◌, ◌≤◌, ◌⊎◌, inl, inr, arith}
use Rattle.std.proofs.lemmas.Bool.{cases_lt}
use Rattle.mvt_plane.specs.Counted.{Counted}
use Rattle.mvt_status.specs.Counts.{AddsAtMost}
use Rattle.mvt_status.specs.Calls.Tree.{IsHeightOfBoth}
use Rattle.mvt_status.proofs.Heights.{more_levels}

-- two sides, and the same with one of them at most one level higher, with what was counted to come from one to the other
pub record IsHigher (low_left low_right high_left high_right most spare : ℕ) (before after : Counted) : Type 0 where
  pub left : low_left ≤ high_left
  pub right : low_right ≤ high_right
  pub at_most_one : high_left + high_right ≤ low_left + low_right + 1
  pub spared : spare ≤ 1
  pub counted : AddsAtMost 0 most before after

-- on the left
pub higher_left : (low high other own most spare : ℕ) (before after : Counted) → low ≤ high → high ≤ low + 1 → spare ≤ 1 → AddsAtMost 0 own before after → own ≤ most
    → IsHigher low other high other most spare before after
higher_left low high other own most spare before after not_lower near one added within = record {
  left = not_lower;
  right = omega arith;
  at_most_one = omega arith;
  spared = one;
  counted = more_levels own most before after added within;
}

-- on the right
pub higher_right : (low high other own most spare : ℕ) (before after : Counted) → low ≤ high → high ≤ low + 1 → spare ≤ 1 → AddsAtMost 0 own before after → own ≤ most
    → IsHigher other low other high most spare before after
higher_right low high other own most spare before after not_lower near one added within = record {
  left = omega arith;
  right = not_lower;
  at_most_one = omega arith;
  spared = one;
  counted = more_levels own most before after added within;
}

-- a node over two sides is a level higher than the higher one, or they are far apart
pub height_of_both : {left right height : ℕ} → IsHeightOfBoth left right height → (height ≡ suc (max left right)) ⊎ ((left + 1 < right) ⊎ (right + 1 < left))
height_of_both {left = left} {right = right} both = elim (cases_lt (left + 1) right) [
  | inl far ↦ inr (inl far)
  | inr near ↦ elim (cases_lt (right + 1) left) [
    | inl far ↦ inr (inr far)
    | inr close ↦ inl (both.exact (record { first = omega arith; second = omega arith }))
  ]
]
