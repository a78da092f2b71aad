use Rattle.std.proofs.Common.{arith}
use Rattle.mvt_wire.proofs.Encoding.Groups.{group_before-below}
use Rattle.mvt_wire.proofs.varint.varint_value.Goals as goal

pub overflow_mul-value : goal.overflow_mul-value
overflow_mul-value c = omega (arith, group_before-below c.args.encoding.now c.loop-i.i c.loop-i.value (omega arith) c.loop-i.invariant.within c.loop-i.invariant.value c.requires)

pub overflow_add-value : goal.overflow_add-value
overflow_add-value c = omega (arith, c.from.ensures, group_before-below c.args.encoding.now c.loop-i.i c.loop-i.value (omega arith) c.loop-i.invariant.within c.loop-i.invariant.value c.requires)
