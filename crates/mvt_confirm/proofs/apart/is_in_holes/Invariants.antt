use Rattle.std.proofs.Common.{ℕ, suc, List, drop}
use Rattle.mvt_confirm.specs.Calls.Vertices.{RingsLeft}
use Rattle.mvt_confirm.proofs.Shapes.PolygonWalks.{AreAmidHoles}
use Rattle.mvt_rules.specs.Polygon.{PolygonRings, IsPolygon}
use Rattle.mvt_plane.specs.Position.{Position}
use Rattle.mvt_wire.specs.Numbers.{most_left}
use Rattle.mvt_confirm.proofs.apart.is_in_holes.Given as goal

-- whichever polygon it is, the position is inside none of the holes that were passed
abbrev pub invariant-holes : goal.invariant-holes
invariant-holes l = (rings : List (List Position)) (polygon : ℕ) (its : PolygonRings) → IsPolygon rings polygon its → RingsLeft l.fn.ahead (drop (suc its.exterior) rings)
    → RingsLeft l.fn.vertices (drop (suc its.exterior) rings) → AreAmidHoles rings its l.position l.ahead l.vertices

abbrev pub decreases-holes : goal.decreases-holes
decreases-holes l = most_left l.ahead.numbers
