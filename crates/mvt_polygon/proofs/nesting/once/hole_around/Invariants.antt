use Rattle.std.proofs.Common.{ℕ, ◌<◌, ◌-◌, take}
use Rattle.mvt_sweep.specs.Work.{AddsWork, vertex_count}
use Rattle.mvt_polygon.specs.Calls.Nesting.{IsHoleAround}
use Rattle.mvt_sweep.specs.Rings.{rings_of}
use Rattle.mvt_polygon.proofs.nesting.once.hole_around.Given as goal

-- the position is inside none of the holes so far, whose edges are counted
abbrev pub invariant-loop-other : goal.invariant-loop-other
invariant-loop-other l = record {
  none : (other : ℕ) → other < l.other → ¬ IsHoleAround (rings_of l.rings) l.ring l.position other;
  counted : AddsWork 0 (vertex_count (take l.other (rings_of l.rings)) - vertex_count (take 1 (rings_of l.rings))) 0 l.fn.count l.count;
}
