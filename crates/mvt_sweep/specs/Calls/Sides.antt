-- One side of the bounds of few edges.
use Rattle.std.specs.Prelude.{◌≡◌, ℕ, List, length, get_or, ℤ, pos, FitsSigned}
use Rattle.std.specs.Int.{w32}

-- 40 numbers, each of which a vector compares as one of 32 bits
pub record AreSides (sides : List ℤ) : Type 0 where
  pub count : length sides ≡ 40
  pub fit : (number : ℕ) → FitsSigned w32 (get_or sides number (pos 0))
