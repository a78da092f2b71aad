-- Signs of two numbers.
use Rattle.std.specs.Prelude.{ℤ, pos, ◌<ℤ◌, ◌⊎◌}

-- one is positive and the other negative: two positions are on different sides of a line
abbrev pub AreOpposite : ℤ → ℤ → Type 0
AreOpposite z other = ((pos 0 <ℤ z) × (other <ℤ pos 0)) ⊎ ((z <ℤ pos 0) × (pos 0 <ℤ other))
