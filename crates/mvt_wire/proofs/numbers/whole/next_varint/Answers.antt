use Rattle.std.proofs.Common.{ℕ, ◌<◌, ◌^◌, take, subst}
use Rattle.mvt_wire.proofs.Encoding.Varints.{one_value}
use Rattle.mvt_wire.proofs.numbers.whole.next_varint.Goals as goal
use Rattle.mvt_wire.proofs.numbers.whole.next_varint.Goals.{After-whole_varint-value}

-- the number that was read is the one that stands there
small : (c : After-whole_varint-value) → c.whole_varint-value.result.0 < 2 ^ 32
small c =
    let there = c.requires.stands in
    subst (λ (n : ℕ). n < 2 ^ 32) (one_value (take c.args.end c.args.bytes.now) c.args.at there.1 c.whole_varint-value.result.1 there.0 c.whole_varint-value.result.0 there.2 c.whole_varint-value.ensures) there.3

pub overflow_cast-result : goal.overflow_cast-result
overflow_cast-result c = record { fits = small c }

pub returns-clause-small : goal.returns-clause-small
returns-clause-small = small
