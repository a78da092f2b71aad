-- How large numbers may be, so that sums and products of them fit their types.
use Rattle.std.specs.Prelude.{ℕ, ℤ, pos, neg_ℤ, ◌≤ℤ◌}

-- at most this far from 0, on either side
abbrev pub IsWithin : ℕ → ℤ → Type 0
IsWithin size z = (neg_ℤ (pos size) ≤ℤ z) × (z ≤ℤ pos size)
