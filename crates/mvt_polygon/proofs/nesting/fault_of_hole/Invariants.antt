use Rattle.std.proofs.Common.{ℕ, ◌<◌}
use Rattle.mvt_polygon.specs.Nesting.{IsNestFault, IsOfVertex}
use Rattle.mvt_sweep.specs.Rings.{rings_of}
use Rattle.mvt_polygon.specs.declared.nesting.NestFault.{NestFault}
use Rattle.mvt_polygon.proofs.nesting.fault_of_hole.Given as goal

-- the vertices so far have no fault
abbrev pub invariant-loop-vertex : goal.invariant-loop-vertex
invariant-loop-vertex l =
    (vertex : ℕ) → vertex < l.vertex → (fault : NestFault) → IsOfVertex l.ring vertex fault → ¬ IsNestFault (rings_of l.rings) fault
