use Rattle.std.proofs.Common.{ℕ, ◌<◌}
use Rattle.mvt_polygon.specs.Nesting.{IsNestFault}
use Rattle.mvt_polygon.specs.Calls.Nesting.{IsOfHole}
use Rattle.mvt_sweep.specs.Rings.{rings_of}
use Rattle.mvt_polygon.specs.declared.nesting.NestFault.{NestFault}
use Rattle.mvt_polygon.proofs.nesting.check_nesting.Given as goal

-- the holes so far have no fault
abbrev pub invariant-loop-ring : goal.invariant-loop-ring
invariant-loop-ring l =
    (ring : ℕ) → ring < l.ring → (fault : NestFault) → IsOfHole ring fault → ¬ IsNestFault (rings_of l.rings) fault
