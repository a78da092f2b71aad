use Rattle.mvt_draw.proofs.SpellingFaults.{fault_passed}
use Rattle.mvt_draw.proofs.SpellingSteps.{AreStepsTo-at, AreStepsTo-on}
use Rattle.mvt_draw.proofs.spelling.spell_steps.Goals as goal

pub returns-in_err-spell_step-clause-fault : goal.returns-in_err-spell_step-clause-fault
returns-in_err-spell_step-clause-fault c =
    let here = AreStepsTo-at c.args.numbers.now.items c.args.from c.args.positions.now c.walk.numbers.items c.walk.last c.to-item.result c.walk.to-index c.walk.invariant c.walk-test.true c.to-item.is in
    fault_passed c.from_residual.result c.in_err-spell_step.field-0.0 c.from_residual.ensures.1 c.in_err-spell_step.ensures.fault (λ whole. (here.left whole).0)

pub walk-preserved : goal.walk-preserved
walk-preserved c =
    let here = AreStepsTo-at c.args.numbers.now.items c.args.from c.args.positions.now c.walk.numbers.items c.walk.last c.to-item.result c.walk.to-index c.walk.invariant c.walk-test.true c.to-item.is in
    let told = c.in_ok-spell_step.ensures.spelled in
    AreStepsTo-on c.args.numbers.now.items c.args.from c.args.positions.now c.walk.numbers.items c.walk.last c.to-item.result _ _ here told.0 told.1
