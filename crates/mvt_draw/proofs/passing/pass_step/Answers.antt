use Rattle.std.proofs.Common.{◌∙◌, sym}
use Rattle.mvt_plane.specs.Commands.Drawing.{step_x}
use Rattle.mvt_draw.proofs.Reaches.{after_step, same_left}
use Rattle.mvt_draw.proofs.passing.pass_step.Goals as goal

pub returns-in-Some-clause-passes : goal.returns-in-Some-clause-passes
returns-in-Some-clause-passes g c = λ passes geometry_type numbers leg line from.
    rw (c.add_step.ensures.adds passes) (after_step geometry_type numbers _ _ leg c.args.reach.now c.in-Some.x c.in-Some.y c.in-Some.ensures.pair
    (λ is. c.add_step.ensures.moves passes (sym line ∙ is)) from)

pub returns-in-Some-next_short_pair-clause-passes : goal.returns-in-Some-next_short_pair-clause-passes
returns-in-Some-next_short_pair-clause-passes g c = λ passes geometry_type numbers leg line from.
    let here = same_left geometry_type numbers _ _ c.args.reach.now (step_x leg) c.in-None.ensures.same from in
    rw (c.add_step-in-Some-next_short_pair.ensures.adds passes) (after_step geometry_type numbers _ _ leg c.args.reach.now c.in-Some-next_short_pair.x c.in-Some-next_short_pair.y c.in-Some-next_short_pair.ensures.pair
    (λ is. c.add_step-in-Some-next_short_pair.ensures.moves passes (sym line ∙ is)) here)

pub returns-in-Some-any_parameters-clause-passes : goal.returns-in-Some-any_parameters-clause-passes
returns-in-Some-any_parameters-clause-passes g c = λ passes geometry_type numbers leg line from.
    let before = same_left geometry_type numbers _ _ c.args.reach.now (step_x leg) c.in-None.ensures.same from in
    let here = same_left geometry_type numbers _ _ c.args.reach.now (step_x leg) c.in-None-next_short_pair.ensures.same before in
    rw (c.add_step-in-Some-any_parameters.ensures.adds passes) (after_step geometry_type numbers _ _ leg c.args.reach.now c.in-Some-any_parameters.x c.in-Some-any_parameters.y c.in-Some-any_parameters.ensures.pair
    (λ is. c.add_step-in-Some-any_parameters.ensures.moves passes (sym line ∙ is)) here)
