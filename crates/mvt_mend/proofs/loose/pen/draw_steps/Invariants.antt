use Rattle.mvt_mend.specs.Calls.Pen.{AreStepsDrawn}
use Rattle.mvt_mend.proofs.loose.pen.draw_steps.Given as goal

-- so many steps are drawn
abbrev pub invariant-loop-step : goal.invariant-loop-step
invariant-loop-step l = AreStepsDrawn l.numbers l.initial.pen l.pen l.step l.initial.ring.items l.ring.items
