use Rattle.mvt_feature.specs.Calls.Bounds.{AreNotIn}
use Rattle.mvt_sweep.specs.Rings.{rings_of}
use Rattle.mvt_feature.proofs.feature.later.first_vertex_in.Given as goal

-- none of the vertices so far is inside the polygon
abbrev pub invariant-loop-vertex : goal.invariant-loop-vertex
invariant-loop-vertex l = AreNotIn (rings_of l.rings) (record { exterior = l.polygon.0; after = l.polygon.1 }) l.vertices l.vertex
