use Rattle.std.proofs.Common.{false, refl}
use Rattle.std.proofs.lemmas.Bool.Decides.{not_from_Decides}
use Rattle.mvt_fault.specs.declared.profile.Profile.TheVariants.{Feature}
use Rattle.mvt_confirm.proofs.Shapes.PolygonMembers.{test_fails}
use Rattle.mvt_confirm.proofs.Shapes.PolygonVertices.{vertex_decided}
use Rattle.mvt_rules.proofs.Validity.TrueFaults.{another_polygon}
use Rattle.mvt_confirm.proofs.apart.is_vertex_in_another.Goals as goal
use Rattle.mvt_confirm.proofs.apart.is_vertex_in_another.Goals.{then-polygon-other-via-then-polygon-other, then-polygon-other-via-else-polygon-other+then-not-are_polygon_rings}

pub returns-then-polygon-other : goal.returns-then-polygon-other
returns-then-polygon-other c = λ rings draws. test_fails false refl (λ is. elim c.then-polygon-other.branch [
  | then-polygon-other-via-then-polygon-other w ↦ another_polygon Feature rings c.args.polygon c.args.vertex c.args.other is w.if-polygon-other.true
  | then-polygon-other-via-else-polygon-other+then-not-are_polygon_rings w ↦
      not_from_Decides w.are_polygon_rings.result (w.are_polygon_rings.ensures rings (w.vertices.ensures rings draws)) w.if-not-are_polygon_rings.true is.of.sound
])

pub returns-in-Some : goal.returns-in-Some
returns-in-Some c = λ rings draws.
    let sound = (c.are_polygon_rings.ensures rings (c.vertices.ensures rings draws)).0 c.if-not-are_polygon_rings.false in
    vertex_decided rings c.args.polygon c.args.vertex c.args.other c.in-Some.position c.is_in_polygon.result sound c.if-polygon-other.false (c.in-Some.ensures.there rings draws sound)
    (c.is_in_polygon.ensures rings draws sound)

pub returns-in-None : goal.returns-in-None
returns-in-None c = λ rings draws. test_fails false refl (λ is. c.in-None.ensures.none rings is.polygon_rings is.inside.position draws is.of.sound is.of.there is.inside.here)
