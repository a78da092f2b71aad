use Rattle.std.proofs.Common.{ℕ, ◌<◌, ◌-◌, ◌*◌}
use Rattle.mvt_sweep.specs.Work.{AddsWork, vertex_count}
use Rattle.mvt_polygon.specs.Nesting.{IsNestFault}
use Rattle.mvt_polygon.specs.Calls.Nesting.{IsOfHole}
use Rattle.mvt_sweep.specs.Rings.{rings_of}
use Rattle.mvt_polygon.specs.declared.nesting.NestFault.{NestFault}
use Rattle.mvt_polygon.proofs.nesting.once.check_nesting_once.Given as goal

-- the holes so far have no fault, and no edge is counted more than once for each
abbrev pub invariant-loop-ring : goal.invariant-loop-ring
invariant-loop-ring l = record {
  none : (ring : ℕ) → ring < l.ring → (fault : NestFault) → IsOfHole ring fault → ¬ IsNestFault (rings_of l.rings) fault;
  counted : AddsWork 0 ((l.ring - 1) * vertex_count (rings_of l.rings)) 0 l.fn.count l.count;
}
