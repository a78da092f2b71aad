use Rattle.std.proofs.Common.{drop}
use Rattle.mvt_draw.proofs.SpellingSteps.{AreApartTo}
use Rattle.mvt_draw.proofs.spelling.are_apart.Given as goal

-- no two neighbours so far are the same
abbrev pub invariant-walk : goal.invariant-walk
invariant-walk l = AreApartTo l.fn.from l.positions l.last (drop l.to-index l.positions)
