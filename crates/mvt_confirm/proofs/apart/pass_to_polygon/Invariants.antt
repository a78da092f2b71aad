use Rattle.std.proofs.Common.{List}
use Rattle.mvt_confirm.specs.Calls.Vertices.{RingsLeft}
use Rattle.mvt_confirm.proofs.Shapes.PolygonWalks.{AreBefore}
use Rattle.mvt_plane.specs.Position.{Position}
use Rattle.mvt_wire.specs.Numbers.{most_left}
use Rattle.mvt_confirm.proofs.apart.pass_to_polygon.Given as goal

-- whichever rings they are, both walks are in front of the polygon
abbrev pub invariant-rings : goal.invariant-rings
invariant-rings l = (rings : List (List Position)) → RingsLeft l.fn.ahead rings → RingsLeft l.fn.vertices rings → AreBefore rings l.polygon l.before l.ahead l.vertices

abbrev pub decreases-rings : goal.decreases-rings
decreases-rings l = most_left l.ahead.numbers
