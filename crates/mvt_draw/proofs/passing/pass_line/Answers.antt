use Rattle.std.proofs.Common.{refl, subst}
use Rattle.mvt_plane.specs.Commands.Drawing.{path_command, to_first}
use Rattle.mvt_plane.specs.Commands.Figure.{command_integer, line_string, line_to}
use Rattle.mvt_draw.specs.Calls.Reach.{Follows, Reaches}
use Rattle.mvt_draw.proofs.Reaches.{begin_line, begin_steps, first_given}
use Rattle.mvt_draw.proofs.passing.pass_line.Goals as goal

pub returns-clause-passes : goal.returns-clause-passes
returns-clause-passes g c = λ near drawn numbers before.
    let one = subst (λ first. Reaches line_string numbers (Follows first (g.N.NumberSource.Leaves c.args.source.now)) c.args.reach.now (path_command drawn)) c.if-first-ne-ONE_MOVE.false before in
    let counted = c.in-Some.ensures in
    c.pass_steps.ensures.passes c.if-not-pass_steps.false line_string numbers
    (begin_steps numbers _ _ c.pass_step.new.reach c.in-Some.count counted.some counted.counted
    (first_given _ _ c.next_number.result (command_integer line_to c.in-Some.count) counted.number c.next_number.ensures.number)
    (c.pass_step.ensures.passes c.if-not-pass_step.false line_string numbers to_first refl
    (begin_line numbers _ c.args.reach.now drawn one)))
