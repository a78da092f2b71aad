use Rattle.std.proofs.Common.{rules}
use mir.Syntax.{w128}
use Rattle.std.proofs.lemmas.Int.{to_z-of_z}
use Rattle.mvt_confirm.proofs.Features.ShownByCases.{by_hole, with_polygon}
use Rattle.mvt_confirm.proofs.checker.has_fault_of_polygon.Goals as goal

pub returns-in-Meeting : goal.returns-in-Meeting
returns-in-Meeting c = λ tile is.
    let x = to_z-of_z w128 c.in-Meeting.x (search rules) in
    let y = to_z-of_z w128 c.in-Meeting.y (search rules) in
    let w = to_z-of_z w128 c.in-Meeting.w (search rules) in
    rw c.in-Meeting.is (with_polygon tt (rw (x, y, w) at (c.has_meeting.ensures tile is)))

pub returns-in-InPolygon : goal.returns-in-InPolygon
returns-in-InPolygon c = λ tile is. rw c.in-InPolygon.is (with_polygon tt (c.has_vertex_in_polygon.ensures tile is))

pub returns-in_default : goal.returns-in_default
returns-in_default c = λ tile is. by_hole c.args.fault.now c.in_default.not-Meeting c.in_default.not-InPolygon (c.has_fault_of_hole.ensures c.args.profile tile is)
