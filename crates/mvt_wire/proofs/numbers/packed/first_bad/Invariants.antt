use Rattle.std.proofs.Common.{◌-◌, ◌≤◌, length}
use Rattle.mvt_wire.specs.Calls.Packed.{AreSmallBefore}
use Rattle.mvt_wire.proofs.numbers.packed.first_bad.Given as goal

-- small numbers have been passed
abbrev pub invariant-numbers : goal.invariant-numbers
invariant-numbers l = record {
  within : l.at ≤ length l.part;
  before : AreSmallBefore l.part l.at;
}

abbrev pub decreases-numbers : goal.decreases-numbers
decreases-numbers l = length l.part - l.at
