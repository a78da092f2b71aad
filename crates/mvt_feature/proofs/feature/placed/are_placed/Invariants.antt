use Rattle.std.proofs.Common.{ℕ, ◌<◌}
use Rattle.mvt_feature.specs.Calls.FeatureParts.{listed_at}
use Rattle.mvt_feature.specs.Calls.Passings.{HasRightNotes}
use Rattle.mvt_feature.proofs.feature.placed.are_placed.Given as goal

-- the polygons so far are placed
abbrev pub invariant-loop-polygon : goal.invariant-loop-polygon
invariant-loop-polygon l = (polygon : ℕ) → polygon < l.polygon → HasRightNotes l.notes.around.items (listed_at l.polygons polygon) (listed_at l.polygons polygon).after
