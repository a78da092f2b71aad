use Rattle.std.proofs.Common.{arith, rules}
use Rattle.mvt_status.proofs.Heights.{height_of_a_word}
use Rattle.mvt_status.proofs.node.join.Goals as goal

pub overflow_add-right_height : goal.overflow_add-right_height
overflow_add-right_height c =
    let right = height_of_a_word _ _ c.height-right_height.ensures.filled (omega (arith, c.requires.room)) in
    omega (arith, right, c.height-right_height.ensures.value)

pub overflow_add-left_height : goal.overflow_add-left_height
overflow_add-left_height c =
    let left = height_of_a_word _ _ c.height-left_height.ensures.filled (omega (arith, c.requires.room)) in
    omega (arith, left, c.height-left_height.ensures.value)

pub close-requires-clause-near : goal.close-requires-clause-near
close-requires-clause-near c = search rules
