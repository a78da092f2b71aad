use Rattle.std.proofs.Common.{arith}
use Rattle.mvt_status.proofs.Heights.{height_of_a_word, node_over}
use Rattle.mvt_status.proofs.node.close.Goals as goal

pub overflow_add-top-3 : goal.overflow_add-top-3
overflow_add-top-3 c =
    let left = height_of_a_word _ _ c.height.ensures.filled (omega (arith, c.requires.room)) in
    let right = height_of_a_word _ _ c.height-2.ensures.filled (omega (arith, c.requires.room)) in
    omega (arith, left, right, c.height.ensures.value, c.height-2.ensures.value, c.max.ensures)

pub invariant_of-top : goal.invariant_of-top
invariant_of-top c =
    node_over _ _ _ _ _ c.top.invariant.some (omega (arith, c.size.ensures, c.len.ensures.value, c.size-2.ensures))
    (omega (arith, c.height.ensures.value, c.height-2.ensures.value, c.max.ensures)) c.requires.near c.height.ensures.filled c.height-2.ensures.filled
