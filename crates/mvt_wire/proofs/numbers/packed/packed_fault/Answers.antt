use Rattle.mvt_wire.proofs.FieldNumbers.PackedNumbers.{first_is_fault, first_comes_first, small_faultless}
use Rattle.mvt_wire.proofs.NothingFound.{IfNone-any}
use Rattle.mvt_wire.proofs.numbers.packed.packed_fault.Goals as goal

pub returns-then-are_short-clause-none : goal.returns-then-are_short-clause-none
returns-then-are_short-clause-none c = small_faultless c.args.from c.args.part.now c.args.number (c.are_short.ensures c.if-are_short.true)

pub returns-in_err-at-clause-none : goal.returns-in_err-at-clause-none
returns-in_err-at-clause-none c = IfNone-any _ (small_faultless c.args.from c.args.part.now c.args.number c.in_err-at.ensures.none)

pub returns-clause-fault : goal.returns-clause-fault
returns-clause-fault c = first_is_fault c.args.from c.args.part.now c.args.number c.in_ok-at.at c.in_ok-at.code c.in_ok-at.ensures.first

pub returns-clause-first : goal.returns-clause-first
returns-clause-first c = first_comes_first c.args.from c.args.part.now c.args.number c.in_ok-at.at c.in_ok-at.code c.in_ok-at.ensures.first
