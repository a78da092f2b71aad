use Rattle.std.proofs.Common.{true, false, refl, arith}
use Rattle.mvt_plane.proofs.Spelling.Geometries.{whole_figure}
use Rattle.mvt_plane.specs.Commands.Drawing.{path_command}
use Rattle.mvt_plane.specs.Commands.Figure.{line_string}
use Rattle.mvt_plane.specs.FeatureGeometry.{type_number}
use Rattle.mvt_draw.proofs.Reaches.{begin_lines, ends_whole, same_left}
use Rattle.mvt_draw.proofs.passing.draws_lines.Goals as goal

pub lines-init : goal.lines-init
lines-init g c = record {
  near = omega arith;
  passes = λ given left. (false, begin_lines given _ c.in-Some.first (c.in-Some.ensures.number given left));
}

pub lines-preserved : goal.lines-preserved
lines-preserved g c = record {
  near = c.pass_line.ensures.near c.if-not-pass_line.false;
  passes = λ given left.
      let before = c.lines.invariant.passes given left in (
        true,
        same_left line_string given _ _ c.pass_line.new.reach (path_command true) c.in-Some-next_number.ensures.number
            (c.pass_line.ensures.passes c.if-not-pass_line.false before.0 given before.1),
      );
}

pub returns-in-None : goal.returns-in-None
returns-in-None g c = λ passes given left.
    let before = c.lines.invariant.passes given left in
    whole_figure line_string (type_number line_string) given refl
    (ends_whole line_string given _ c.pass_line.new.reach (path_command true) (c.pass_line.ensures.near c.if-not-pass_line.false) c.in-None.ensures.end (λ p. refl)
    (c.pass_line.ensures.passes c.if-not-pass_line.false before.0 given before.1))
