use Rattle.mvt_feature.proofs.Placed.CountedPassings.{AreNothing, AreCountedTo}
use Rattle.mvt_feature.proofs.feature.passing.polygons_around.Given as goal

-- so many rings have no polygon around them yet
abbrev pub invariant-loop-ring : goal.invariant-loop-ring
invariant-loop-ring l = AreNothing l._ring l.around.items

-- those so far are counted
abbrev pub invariant-loop-at : goal.invariant-loop-at
invariant-loop-at l = AreCountedTo l.notes.around.items l.notes.come_to.items l.passings l.at l.around.items
