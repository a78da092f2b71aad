use Rattle.std.proofs.Common.{length, ◌-◌, ℕ, List, ◌≤◌, Option}
use Rattle.mvt_wire.specs.Numbers.{NumbersEnd}
use Rattle.mvt_wire.specs.declared.cause.WireCause.{WireCause}
use Rattle.mvt_wire.proofs.numbers.next_varints.Given as goal

-- what is left at the place of the next field was left from the start
abbrev pub invariant-loop-at : goal.invariant-loop-at
invariant-loop-at l = record {
  further : l.from ≤ l.at;
  within : l.at ≤ length l.bytes;
  same : (numbers : List ℕ) (ending : Option WireCause) → NumbersEnd l.bytes l.at l.field_number numbers ending → NumbersEnd l.bytes l.from l.field_number numbers ending;
}

abbrev pub decreases-loop-at : goal.decreases-loop-at
decreases-loop-at l = length l.bytes - l.at
