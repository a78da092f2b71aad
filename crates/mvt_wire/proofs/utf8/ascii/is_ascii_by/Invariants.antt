use Rattle.std.proofs.Common.{◌-◌, length}
use Rattle.mvt_wire.specs.Calls.Ascii.{IsAsciiWithin}
use Rattle.mvt_wire.proofs.utf8.ascii.is_ascii_by.Given as goal

abbrev pub invariant-steps : goal.invariant-steps
invariant-steps g l = IsAsciiWithin l.part 0 l.at

abbrev pub decreases-steps : goal.decreases-steps
decreases-steps g l = length l.part - l.at
