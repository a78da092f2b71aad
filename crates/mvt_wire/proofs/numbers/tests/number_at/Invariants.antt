use Rattle.std.proofs.Common.{◌≡◌, ℕ, List, Option, slice_get, ◌-◌}
use Rattle.mvt_wire.specs.Numbers.{NumbersEnd, NumbersLeft}
use Rattle.mvt_wire.specs.declared.cause.WireCause.{WireCause}
use Rattle.mvt_wire.proofs.numbers.tests.number_at.Given as goal

-- of the numbers that are left, the one that is wanted stands so much nearer
abbrev pub invariant-passed : goal.invariant-passed
invariant-passed l = (numbers : List ℕ) (ending : Option WireCause) → NumbersEnd l.bytes 0 l.field_number numbers ending
    → (rest : List ℕ) × NumbersLeft l.numbers rest ending × (slice_get rest (l.index - l.counter) ≡ slice_get numbers l.index)
