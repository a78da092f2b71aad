use Rattle.std.proofs.Common.{◌≡◌, ◌≤◌, ◌-◌, ℕ, List, length, Option}
use Rattle.mvt_wire.specs.Numbers.{NumbersEnd}
use Rattle.mvt_wire.specs.declared.cause.WireCause.{WireCause}
use Rattle.mvt_wire.proofs.numbers.whole.next_varints.Given as goal

-- what is left at the place of the next field was left from the start
abbrev pub invariant-walk : goal.invariant-walk
invariant-walk l = record {
  same_bytes : l.fields.bytes ≡ l.bytes;
  further : l.from ≤ l.fields.at;
  same : (numbers : List ℕ) (ending : Option WireCause) → NumbersEnd l.bytes l.fields.at l.number numbers ending → NumbersEnd l.bytes l.from l.number numbers ending;
}

abbrev pub decreases-walk : goal.decreases-walk
decreases-walk l = length l.fields.bytes - l.fields.at
