use Rattle.std.proofs.Common.{◌≡◌}
use Rattle.mvt_feature.specs.Calls.Gathered.{gathered_rings, gathered_places, gathered_numbers}
use Rattle.mvt_sweep.specs.Rings.{rings_of}
use Rattle.mvt_feature.proofs.feature.gathered.gather.Given as goal

-- the marked polygons before this one are gathered
abbrev pub invariant-loop-polygon : goal.invariant-loop-polygon
invariant-loop-polygon l = record {
  rings : rings_of l.gathered.rings.items ≡ gathered_rings (rings_of l.rings) l.polygons l.marks l.polygon;
  places : l.gathered.ring_of.items ≡ gathered_places l.polygons l.marks l.polygon;
  numbers : l.gathered.polygon_of.items ≡ gathered_numbers l.marks l.polygon;
}
