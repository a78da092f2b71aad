use Rattle.std.proofs.Common.{true≢false, drop, refl, sym}
use Rattle.mvt_plane.specs.Geometry.Ring.{edges}
use Rattle.mvt_confirm.proofs.Shapes.NumberedEdges.{begins_edge, too_few_vertices}
use Rattle.mvt_confirm.proofs.Shapes.PolygonVertices.{some_ahead, vertex_here}
use Rattle.mvt_confirm.proofs.Shapes.PolygonWalks.{first_of_rest}
use Rattle.mvt_confirm.proofs.apart.vertex_of_exterior.Goals as goal

pub returns-then-not-pass_to_polygon-clause-none : goal.returns-then-not-pass_to_polygon-clause-none
returns-then-not-pass_to_polygon-clause-none c = λ rings its position draws sound is here.
    c.if-not-pass_to_polygon.ensures.none (λ impossible. absurd (true≢false (sym impossible))) rings its (c.vertices-ahead.ensures rings draws) (c.vertices-vertices.ensures rings draws) is

pub returns-in_err-walk-clause-none : goal.returns-in_err-walk-clause-none
returns-in_err-walk-clause-none c = rw c.from_residual.ensures (λ rings its position draws sound is here.
    let at = c.if-not-pass_to_polygon.ensures.there refl rings (c.vertices-ahead.ensures rings draws) (c.vertices-vertices.ensures rings draws) sound in
    some_ahead rings c.args.polygon c.pass_to_polygon.new.ahead c.pass_to_polygon.new.vertices at (c.in_err-walk.ensures.none (drop at.polygon_rings.exterior rings) at.in_front))

pub returns-in_err-edge_at-clause-none : goal.returns-in_err-edge_at-clause-none
returns-in_err-edge_at-clause-none c = rw c.from_residual-in_err-edge_at.ensures (λ rings its position draws sound is here.
    let at = c.if-not-pass_to_polygon.ensures.there refl rings (c.vertices-ahead.ensures rings draws) (c.vertices-vertices.ensures rings draws) sound in
    let ring = c.in_ok-walk.ensures.there (drop at.polygon_rings.exterior rings) at.in_front in
    too_few_vertices rings at.polygon_rings.exterior c.args.vertex ring.0 position (first_of_rest rings at.polygon_rings.exterior ring.0 ring.1) (c.in_err-edge_at.ensures.none (edges ring.0) ring.2)
    (vertex_here rings c.args.polygon c.pass_to_polygon.new.ahead c.pass_to_polygon.new.vertices at c.args.vertex position its is here))

pub returns-clause-there : goal.returns-clause-there
returns-clause-there c = λ rings draws sound.
    let at = c.if-not-pass_to_polygon.ensures.there refl rings (c.vertices-ahead.ensures rings draws) (c.vertices-vertices.ensures rings draws) sound in
    let ring = c.in_ok-walk.ensures.there (drop at.polygon_rings.exterior rings) at.in_front in (
      at.polygon_rings,
      at.there,
      begins_edge rings at.polygon_rings.exterior c.args.vertex ring.0 _ (first_of_rest rings at.polygon_rings.exterior ring.0 ring.1) (c.in_ok-edge_at.ensures.there (edges ring.0) ring.2),
    )
