use Rattle.std.proofs.Common.{false, refl, arith}
use Rattle.mvt_plane.proofs.Spelling.Geometries.{whole_figure}
use Rattle.mvt_plane.specs.Commands.Figure.{command_integer, move_to, point}
use Rattle.mvt_plane.specs.Commands.Reading.{with_left}
use Rattle.mvt_plane.specs.FeatureGeometry.{type_number}
use Rattle.mvt_draw.proofs.Reaches.{begin_points, ends_whole, first_given}
use Rattle.mvt_draw.proofs.passing.draws_points.Goals as goal

pub returns-in-None : goal.returns-in-None
returns-in-None g c = λ passes given left.
    let counted = c.in-Some.ensures in
    whole_figure point (type_number point) given refl
    (ends_whole point given _ c.pass_steps.new.reach (with_left point false 0) (omega (arith, c.if-reach-gt-FARTHEST.false)) c.in-None.ensures.end (λ p. tt)
    (c.pass_steps.ensures.passes c.if-not-pass_steps.false point given
    (begin_points given _ _ c.in-Some.count counted.some counted.counted left
    (first_given _ _ c.next_number.result (command_integer move_to c.in-Some.count) counted.number c.next_number.ensures.number))))
