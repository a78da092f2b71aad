use Rattle.std.proofs.Common.{◌≡◌, ℕ, ◌<◌}
use Rattle.mvt_polygon.specs.Nesting.{IsNestFault}
use Rattle.mvt_polygon.specs.Calls.Nesting.{IsOfHole}
use Rattle.mvt_sweep.specs.Rings.{rings_of}
use Rattle.mvt_polygon.specs.declared.nesting.NestFault.{NestFault}
use Rattle.mvt_polygon.proofs.nesting.noted.fault_of_holes.Given as goal

-- the holes so far have no fault, and nothing is counted
abbrev pub invariant-loop-hole : goal.invariant-loop-hole
invariant-loop-hole l = record {
  none : (hole : ℕ) → hole < l.hole → (fault : NestFault) → IsOfHole hole fault → ¬ IsNestFault (rings_of l.rings) fault;
  untouched : l.count ≡ l.fn.count;
}
