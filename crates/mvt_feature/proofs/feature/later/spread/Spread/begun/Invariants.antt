use Rattle.std.proofs.Common.{◌≡◌, ◌-◌, ◌≤◌, ℕ, ℤ, ◌<ℤ◌, length, slice_get, Some}
use Rattle.mvt_feature.proofs.feature.later.spread.Spread.begun.Given as goal

-- those from here on begin further to the right
abbrev pub invariant-halves : goal.invariant-halves
invariant-halves l = record {
  within : l.to ≤ length l.self.order.items;
  following : (at : ℕ) (left : ℤ) (number : ℕ) → l.to ≤ at → slice_get l.self.order.items at ≡ Some (left, number) → l.right <ℤ left;
}

-- places that are left
abbrev pub decreases-halves : goal.decreases-halves
decreases-halves l = l.to - l.from
