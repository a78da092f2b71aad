use Rattle.std.proofs.Common.{false, refl, sym}
use Rattle.std.proofs.lemmas.Bool.Decides.{not_from_Decides}
use Rattle.mvt_confirm.proofs.Shapes.HoleVertices.{in_hole_decided}
use Rattle.mvt_confirm.proofs.Shapes.PolygonMembers.{test_fails}
use Rattle.mvt_confirm.proofs.nesting.is_vertex_in_hole.Goals as goal
use Rattle.mvt_confirm.proofs.nesting.is_vertex_in_hole.Goals.{then-ring-other-via-then-ring-other, then-ring-other-via-else-ring-other+then-not-are_polygon_rings}

pub returns-then-ring-other : goal.returns-then-ring-other
returns-then-ring-other c = λ rings draws. test_fails false refl (λ is. elim c.then-ring-other.branch [
  | then-ring-other-via-then-ring-other w ↦ is.inside.different (sym w.if-ring-other.true)
  | then-ring-other-via-else-ring-other+then-not-are_polygon_rings w ↦
      not_from_Decides w.are_polygon_rings.result (w.are_polygon_rings.ensures rings (w.vertices.ensures rings draws)) w.if-not-are_polygon_rings.true is.of.sound
])

pub returns-in-Some : goal.returns-in-Some
returns-in-Some c = λ rings draws.
    let sound = (c.are_polygon_rings.ensures rings (c.vertices.ensures rings draws)).0 c.if-not-are_polygon_rings.false in
    let hole = (c.is_hole.ensures rings draws sound).0 c.if-not-is_hole.false in
    let other_hole = (c.is_hole-else-not-is_hole.ensures rings draws sound).0 c.if-not-is_hole-2.false in
    in_hole_decided rings c.args.polygon c.args.ring c.args.vertex c.args.other c.in-Some.position c.is_inside.result sound c.if-ring-other.false hole other_hole (c.in-Some.ensures.there rings draws)
    (λ vertices there. c.is_inside.ensures rings vertices draws there)

pub returns-in-None : goal.returns-in-None
returns-in-None c = λ rings draws. test_fails false refl (λ is. c.in-None.ensures.none rings is.inside.position draws is.inside.here)
