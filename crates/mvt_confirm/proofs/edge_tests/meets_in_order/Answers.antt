use Rattle.std.proofs.lemmas.Int.{to_z-of_z}
use mir.Syntax.{w128}
use Rattle.mvt_confirm.proofs.Shapes.EdgeMeetings.{meeting_in_order}
use Rattle.mvt_confirm.proofs.edge_tests.meets_in_order.Goals as goal

pub returns-in-Some : goal.returns-in-Some
returns-in-Some c rings are =
    let x = to_z-of_z w128 c.args.x c.ranges.x in
    let y = to_z-of_z w128 c.args.y c.ranges.y in
    let w = to_z-of_z w128 c.args.w c.ranges.w in
    let bounded = rw (x, y, w) at c.in-Some.ensures.in_range in
    let same = rw (x, y, w) at c.in-Some.ensures.point in
    meeting_in_order rings c.args.first.now.number c.args.second.now.number c.in-Some.point _ same (c.comes_before.ensures.0 c.if-not-comes_before.false) bounded (c.meets_at.ensures rings are)
