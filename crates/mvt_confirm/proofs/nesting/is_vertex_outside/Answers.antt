use Rattle.std.proofs.Common.{false, refl}
use Rattle.std.proofs.lemmas.Bool.Decides.{not_from_Decides}
use Rattle.mvt_confirm.proofs.Shapes.HoleVertices.{outside_decided}
use Rattle.mvt_confirm.proofs.Shapes.PolygonMembers.{test_fails}
use Rattle.mvt_confirm.proofs.nesting.is_vertex_outside.Goals as goal

pub returns-then-not-are_polygon_rings : goal.returns-then-not-are_polygon_rings
returns-then-not-are_polygon_rings c = λ rings draws.
    test_fails false refl (λ is. not_from_Decides c.are_polygon_rings.result (c.are_polygon_rings.ensures rings (c.vertices.ensures rings draws)) c.if-not-are_polygon_rings.true is.of.sound)

pub returns-in_default-vertex_of : goal.returns-in_default-vertex_of
returns-in_default-vertex_of c = λ rings draws.
    test_fails false refl (λ is. c.in_default-vertex_of.ensures.none rings is.outside.position draws is.outside.here)

pub returns : goal.returns
returns c = λ rings draws.
    let sound = (c.are_polygon_rings.ensures rings (c.vertices.ensures rings draws)).0 c.if-not-are_polygon_rings.false in
    outside_decided rings c.args.polygon c.args.ring c.args.vertex c.in-Some.exterior c.in-Some-vertex_of.position c.is_inside.result sound (c.in-Some.ensures.there rings draws sound)
    (c.in-Some-vertex_of.ensures.there rings draws) (λ vertices there. c.is_inside.ensures rings vertices draws there)
