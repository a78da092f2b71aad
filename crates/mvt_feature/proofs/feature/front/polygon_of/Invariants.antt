use Rattle.std.proofs.Common.{ℕ, ◌<◌, ◌≤◌}
use Rattle.mvt_feature.specs.Calls.FeatureParts.{listed_at}
use Rattle.mvt_feature.proofs.feature.front.polygon_of.Given as goal

-- the polygons so far end before the ring
abbrev pub invariant-loop-polygon : goal.invariant-loop-polygon
invariant-loop-polygon l = (polygon : ℕ) → polygon < l.polygon → (listed_at l.polygons polygon).after ≤ l.ring
