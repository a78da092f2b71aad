use Rattle.std.proofs.Common.{◌≤◌}
use Rattle.mvt_feature.specs.Calls.Alone.{AreFineBefore, vertices_alone}
use Rattle.mvt_feature.specs.Feature.{AddsSweeps}
use Rattle.mvt_sweep.specs.Rings.{rings_of}
use Rattle.mvt_status.specs.Counts.{raised}
use Rattle.mvt_feature.proofs.feature.fault_alone.Given as goal

-- the polygons so far have no fault, and the work is that of a sweep over them
abbrev pub invariant-loop-polygon : goal.invariant-loop-polygon
invariant-loop-polygon l = record {
  fine : AreFineBefore (rings_of l.rings) l.polygons l.crowded l.polygon;
  counted : AddsSweeps 1 (vertices_alone (rings_of l.rings) l.polygons l.crowded l.polygon) l.initial.count l.count;
  least : raised (vertices_alone (rings_of l.rings) l.polygons l.crowded l.polygon) l.initial.count.probes ≤ l.count.probes;
}
