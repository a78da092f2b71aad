use Rattle.std.proofs.Common.{[], Some, None, arith}
use Rattle.mvt_wire.proofs.FieldNumbers.NumberEnds.{ends_whole}
use Rattle.mvt_wire.proofs.FieldNumbers.NumberWalks.{left_from_field, same_after, LeavesVarints-at}
use Rattle.mvt_wire.proofs.numbers.next_varints.Goals as goal

pub returns-in-Err-clause-fault : goal.returns-in-Err-clause-fault
returns-in-Err-clause-fault c = left_from_field _ _ _ [] (Some c.in-Err.cause) (c.loop-at.invariant.same [] (Some c.in-Err.cause) c.in-Err.ensures.fault)

pub returns-then-varints-clause-varints : goal.returns-then-varints-clause-varints
returns-then-varints-clause-varints c =
    LeavesVarints-at _ _ _ _ _ _ c.loop-at.invariant.further c.in-Ok.ensures.further c.if-varints.true c.in-Ok.ensures.within c.loop-at.invariant.same c.in-Ok.ensures.same

pub loop-at-preserved : goal.loop-at-preserved
loop-at-preserved c = record {
  further = omega (arith, c.loop-at.invariant.further, c.in-Ok.ensures.further, c.in-Ok.ensures.forward);
  within = c.in-Ok.ensures.within;
  same = same_after _ _ _ _ _ _ c.if-varints.false c.in-Ok.ensures.forward c.loop-at.invariant.same c.in-Ok.ensures.same;
}

pub returns-clause-end : goal.returns-clause-end
returns-clause-end c = left_from_field _ _ _ [] None (c.loop-at.invariant.same [] None (ends_whole _ _ _ (omega arith)))
