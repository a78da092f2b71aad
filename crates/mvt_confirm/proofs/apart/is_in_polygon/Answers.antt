use Rattle.std.proofs.Common.{true≢false, false, refl, sym}
use Rattle.std.proofs.lemmas.Bool.Decides.{not_from_Decides}
use Rattle.mvt_confirm.proofs.Shapes.PolygonMembers.{test_fails}
use Rattle.mvt_confirm.proofs.Shapes.PolygonVertices.{exterior_ahead, inside_exterior, inside_decided}
use Rattle.mvt_confirm.proofs.apart.is_in_polygon.Goals as goal

pub returns-then-not-pass_to_polygon : goal.returns-then-not-pass_to_polygon
returns-then-not-pass_to_polygon c = λ rings draws sound. test_fails false refl (λ is.
    c.if-not-pass_to_polygon.ensures.none (λ impossible. absurd (true≢false (sym impossible))) rings is.0 (c.vertices-ahead.ensures rings draws) (c.vertices-vertices.ensures rings draws) is.1)

pub returns-then-is_in_next_ring : goal.returns-then-is_in_next_ring
returns-then-is_in_next_ring c = λ rings draws sound.
    let at = c.if-not-pass_to_polygon.ensures.there refl rings (c.vertices-ahead.ensures rings draws) (c.vertices-vertices.ensures rings draws) sound in
    let decided = c.is_in_next_ring.ensures _ _ (exterior_ahead rings c.args.polygon c.pass_to_polygon.new.ahead c.pass_to_polygon.new.vertices at) in
    inside_decided rings c.args.polygon c.pass_to_polygon.new.ahead c.pass_to_polygon.new.vertices at c.args.position c.is_in_holes.result (decided.0.0 c.if-is_in_next_ring.true)
    (c.is_in_holes.ensures rings c.args.polygon at.polygon_rings at.there at.following decided.1)

pub returns-else-is_in_next_ring : goal.returns-else-is_in_next_ring
returns-else-is_in_next_ring c = λ rings draws sound.
    let at = c.if-not-pass_to_polygon.ensures.there refl rings (c.vertices-ahead.ensures rings draws) (c.vertices-vertices.ensures rings draws) sound in
    let decided = c.is_in_next_ring.ensures _ _ (exterior_ahead rings c.args.polygon c.pass_to_polygon.new.ahead c.pass_to_polygon.new.vertices at) in
    test_fails c.is_in_next_ring.result c.if-is_in_next_ring.false (λ is.
    not_from_Decides c.is_in_next_ring.result decided.0 c.if-is_in_next_ring.false (inside_exterior rings c.args.polygon c.pass_to_polygon.new.ahead c.pass_to_polygon.new.vertices at c.args.position is))
