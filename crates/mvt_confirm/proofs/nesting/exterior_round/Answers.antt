use Rattle.mvt_confirm.proofs.Shapes.PolygonMembers.{hole_by_place, hole_in, is_exterior, no_member, of_another_polygon}
use Rattle.mvt_confirm.proofs.nesting.exterior_round.Goals as goal
use Rattle.mvt_confirm.proofs.nesting.exterior_round.Goals.{else-place-polygon-via-then-place-polygon+else-place-ring, else-place-polygon-via-else-place-polygon}

pub returns-in_err-place-clause-none : goal.returns-in_err-place-clause-none
returns-in_err-place-clause-none c = rw c.from_residual.ensures (λ rings it draws sound there hole.
    no_member rings c.args.polygon c.args.ring (c.in_err-place.ensures.none rings (c.vertices.ensures rings draws) sound) (it, there, hole_in it c.args.ring hole))

pub returns-then-place-ring-clause-there : goal.returns-then-place-ring-clause-there
returns-then-place-ring-clause-there c = λ rings draws sound.
    hole_by_place rings c.args.polygon c.args.ring c.in_ok-place.place (c.in_ok-place.ensures.there rings (c.vertices.ensures rings draws) sound) c.if-place-polygon.true c.if-place-ring.true

pub returns-else-place-polygon-clause-none : goal.returns-else-place-polygon-clause-none
returns-else-place-polygon-clause-none c = λ rings it draws sound there hole.
    let place = c.in_ok-place.ensures.there rings (c.vertices.ensures rings draws) sound in
    elim c.else-place-polygon.branch [
      | else-place-polygon-via-then-place-polygon+else-place-ring w ↦ is_exterior rings c.args.polygon c.args.ring c.in_ok-place.place it place w.if-place-ring.false there hole
      | else-place-polygon-via-else-place-polygon w ↦ of_another_polygon rings c.args.polygon c.args.ring c.in_ok-place.place it place w.if-place-polygon.false there hole
    ]
