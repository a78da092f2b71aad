use Rattle.std.proofs.Common.{◌≡◌, ◌+◌, suc, max, arith}
use Rattle.mvt_status.specs.Calls.Tree.{DifferByAtMost, height_of}
use Rattle.mvt_status.proofs.Heights.{filled_over_both, height_of_a_word}
use Rattle.mvt_status.proofs.node.level_over.Goals as goal

pub overflow_add-right_height : goal.overflow_add-right_height
overflow_add-right_height c =
    let right = height_of_a_word _ _ c.height-right_height.ensures.filled (omega (arith, c.requires.room)) in
    omega (arith, right, c.height-right_height.ensures.value)

pub overflow_add-left_height : goal.overflow_add-left_height
overflow_add-left_height c =
    let left = height_of_a_word _ _ c.height-left_height.ensures.filled (omega (arith, c.requires.room)) in
    omega (arith, left, c.height-left_height.ensures.value)

pub overflow_add-result : goal.overflow_add-result
overflow_add-result c =
    let left = height_of_a_word _ _ c.height-left_height.ensures.filled (omega (arith, c.requires.room)) in
    let right = height_of_a_word _ _ c.height-right_height.ensures.filled (omega (arith, c.requires.room)) in
    omega (arith, left, right, c.height-left_height.ensures.value, c.height-right_height.ensures.value, c.max.ensures)

pub returns-clause-filled : goal.returns-clause-filled
returns-clause-filled c =
    let measured : c.max.result + 1 ≡ suc (max (height_of c.args.left.now) (height_of c.args.right.now)) =
    omega (arith, c.height-left_height.ensures.value, c.height-right_height.ensures.value, c.max.ensures) in
    let near : DifferByAtMost 1 (height_of c.args.left.now) (height_of c.args.right.now) = record {
      first = omega (arith, c.height-left_height.ensures.value, c.height-right_height.ensures.value, c.if-left_height-right_height.false);
      second = omega (arith, c.height-left_height.ensures.value, c.height-right_height.ensures.value, c.if-right_height-left_height.false);
    } in
    omega (arith, filled_over_both _ _ _ near measured, c.height-left_height.ensures.filled, c.height-right_height.ensures.filled)
