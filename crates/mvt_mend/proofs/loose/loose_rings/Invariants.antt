use Rattle.std.proofs.Common.{◌-◌, length}
use Rattle.mvt_sweep.specs.Rings.{rings_of}
use Rattle.mvt_mend.proofs.DrawnSteps.{AreDrawn}
use Rattle.mvt_mend.proofs.loose.loose_rings.Given as goal

-- the numbers before the pen draw the rings so far
abbrev pub invariant-rings : goal.invariant-rings
invariant-rings l = AreDrawn l.numbers l.pen (rings_of l.rings.items)

-- numbers that are left
abbrev pub decreases-rings : goal.decreases-rings
decreases-rings l = length l.numbers - l.pen.at
