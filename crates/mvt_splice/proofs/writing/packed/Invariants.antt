use Rattle.std.proofs.Common.{length, take}
use Rattle.mvt_wire.specs.Number.{VarintList}
use Rattle.mvt_splice.proofs.writing.packed.Given as goal

-- the numbers that were written
abbrev pub invariant-loop-number : goal.invariant-loop-number
invariant-loop-number l = VarintList l.out.items 0 (take l.number-index l.numbers) (length l.out.items)
