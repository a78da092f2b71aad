use Rattle.std.proofs.Common.{ℕ, ◌<◌}
use Rattle.mvt_feature.specs.Calls.FeatureParts.{IsInNoLater}
use Rattle.mvt_sweep.specs.Rings.{rings_of}
use Rattle.mvt_feature.proofs.feature.later.first_inside_later.Given as goal

-- no vertex of the polygons so far is inside a later one
abbrev pub invariant-loop-polygon : goal.invariant-loop-polygon
invariant-loop-polygon l = (polygon : ℕ) → polygon < l.polygon → IsInNoLater (rings_of l.rings) l.later polygon
