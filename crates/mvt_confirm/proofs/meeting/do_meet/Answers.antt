use Rattle.std.proofs.Common.{false, SFits, refl, rules}
use mir.Syntax.{w128}
use Rattle.std.proofs.lemmas.Int.{to_z-of_z}
use Rattle.mvt_confirm.proofs.Shapes.NumberedEdges.{decided_by_numbers}
use Rattle.mvt_confirm.proofs.Shapes.PolygonMembers.{test_fails}
use Rattle.mvt_confirm.proofs.meeting.do_meet.Goals as goal

pub returns-in_default : goal.returns-in_default
returns-in_default c = λ rings draws. test_fails false refl (λ all. c.in_default.ensures.none rings all.2.one draws all.2.one_there)

pub returns-in_default-edge_of_number : goal.returns-in_default-edge_of_number
returns-in_default-edge_of_number c = λ rings draws.
    test_fails false refl (λ all. c.in_default-edge_of_number.ensures.none rings all.2.other draws all.2.other_there)

pub returns : goal.returns
returns c =
    let fits_x : SFits w128 c.args.meeting.x = search rules in
    let fits_y : SFits w128 c.args.meeting.y = search rules in
    let fits_w : SFits w128 c.args.meeting.w = search rules in
    let x = to_z-of_z w128 c.args.meeting.x fits_x in
    let y = to_z-of_z w128 c.args.meeting.y fits_y in
    let w = to_z-of_z w128 c.args.meeting.w fits_w in
    let one = c.in-Some.ensures in
    let other = c.in-Some-edge_of_number.ensures in
    λ rings draws.
    let decided = rw (x, y, w) at c.meets_in_order.ensures rings in
    decided_by_numbers rings c.in-Some.one.numbered c.in-Some-edge_of_number.other.numbered c.in-Some.one.vertex_count _ c.args.meeting.first c.args.meeting.second one.number other.number decided
    (one.there rings draws) (other.there rings draws) (λ ring there. one.count rings ring draws there)
