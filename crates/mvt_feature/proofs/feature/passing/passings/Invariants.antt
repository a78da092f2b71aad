use Rattle.std.proofs.Common.{◌≤◌, length, take}
use Rattle.mvt_sweep.specs.Work.{vertex_count}
use Rattle.mvt_feature.specs.Calls.Passings.{ArePassings, vertices_of_several}
use Rattle.mvt_sweep.specs.Rings.{rings_of}
use Rattle.mvt_status.specs.Counts.{raised}
use Rattle.mvt_feature.proofs.Placed.AddedPassings.{IsReached, AddsParts}
use Rattle.mvt_feature.proofs.feature.passing.passings.Given as goal

-- the rings of so many polygons are listed
abbrev pub invariant-loop-polygon : goal.invariant-loop-polygon
invariant-loop-polygon l = record {
  reached : IsReached (rings_of l.rings) l.polygons l.polygon (length l.passings.items);
  passed : ArePassings (rings_of l.rings) l.passings.items;
  counted : AddsParts (vertex_count (take (length l.passings.items) (rings_of l.rings))) (vertex_count (rings_of l.rings)) l.fn.count l.count;
  least : raised (vertices_of_several (rings_of l.rings) l.polygons l.polygon) l.fn.count.probes ≤ l.count.probes;
}
