-- What is counted of the work of a sweep.
use Rattle.std.specs.Prelude.{ℕ, suc, ◌-◌, ◌^◌, min}

-- tests of two edges for a common point, comparisons of an edge with a position, and visits of a status's nodes
pub record Counted : Type 0 where
  pub tests : ℕ
  pub probes : ℕ
  pub visits : ℕ

-- one more, unless the count is the greatest of 64 bits
abbrev pub ticked : ℕ → ℕ
ticked count = min (suc count) (2 ^ 64 - 1)
