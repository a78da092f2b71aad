use Rattle.std.proofs.Common.{◌≡◌, ◌+◌, subst, ℕ, arith}
use Rattle.mvt_wire.specs.Varint.{EncodesVarint}
use Rattle.mvt_wire.proofs.FieldNumbers.NumberPairs.{one_byte}
use Rattle.mvt_wire.proofs.numbers.whole.small_pair.Goals as goal

pub returns-clause-numbers : goal.returns-clause-numbers
returns-clause-numbers c =
    let bytes = c.args.bytes.now in
    let at = c.args.at in
    let second = c.from-2.result in
    let place : at + 1 + 1 ≡ at + 2 = omega arith in (
      at + 1,
      one_byte bytes at c.from.result (omega arith) c.from.ensures (omega arith),
      subst (λ (next : ℕ). EncodesVarint bytes (at + 1) next second) place (one_byte bytes (at + 1) second (omega arith) c.from-2.ensures (omega arith)),
    )
