use Rattle.std.proofs.Common.{refl}
use Rattle.mvt_mend.proofs.DrawnSteps.{no_steps, one_more_step}
use Rattle.mvt_mend.proofs.loose.pen.draw_steps.Goals as goal

pub loop-step-preserved : goal.loop-step-preserved
loop-step-preserved c =
    one_more_step c.args.numbers.now c.args.pen.now c.loop-step.pen _ c.loop-step.step c.args.ring.now.items c.loop-step.ring.items _ c.loop-step.invariant c.in-Some.ensures refl c.in_ok-push.ensures.items

pub loop-step-init : goal.loop-step-init
loop-step-init c = no_steps c.args.numbers.now c.args.pen.now c.args.ring.now.items c.requires
