use Rattle.std.proofs.Common.{drop}
use Rattle.mvt_draw.proofs.SpellingSteps.{AreStepsTo}
use Rattle.mvt_draw.proofs.spelling.spell_steps.Given as goal

-- the steps so far are spelled
abbrev pub invariant-walk : goal.invariant-walk
invariant-walk l = AreStepsTo l.fn.numbers.items l.fn.from l.positions l.numbers.items l.last (drop l.to-index l.positions)
