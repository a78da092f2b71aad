use Rattle.std.proofs.Common.{ℕ, ◌<◌}
use Rattle.mvt_sweep.specs.Work.{vertex_count}
use Rattle.mvt_feature.specs.Feature.{IsPlaced}
use Rattle.mvt_feature.specs.Calls.FeatureParts.{listed_at}
use Rattle.mvt_sweep.specs.Rings.{rings_of}
use Rattle.mvt_feature.proofs.Placed.AddedPassings.{AddsParts}
use Rattle.mvt_feature.proofs.feature.placed.first_misplaced.Given as goal

-- the polygons so far are placed, and nothing was counted of them
abbrev pub invariant-loop-polygon : goal.invariant-loop-polygon
invariant-loop-polygon l = record {
  placed : (polygon : ℕ) → polygon < l.polygon → IsPlaced (rings_of l.rings) polygon (listed_at l.polygons polygon);
  counted : AddsParts (vertex_count (rings_of l.rings)) (vertex_count (rings_of l.rings)) l.fn.count l.count;
}
