use Rattle.std.proofs.Common.{get_or, length, rules, arith}
use Rattle.mvt_feature.proofs.Cells.CellLands.{cells_set, no_lands}
use Rattle.mvt_feature.proofs.feature.crowded.owners.Goals as goal

pub index_mut-requires : goal.index_mut-requires
index_mut-requires c =
    let below = c.requires.below c.loop-number.number c.loop-number-test.true in
    omega (arith, c.loop-number.invariant.size)

pub loop-number-init : goal.loop-number-init
loop-number-init c =
    (no_lands c.args.cells.now c.in_ok-owners.owners.items (search rules)).known

pub loop-number-preserved : goal.loop-number-preserved
loop-number-preserved c =
    let number = c.loop-number.number in
    cells_set (length c.args.cells.now) c.loop-number.owners.items (get_or c.args.cells.now number 0) number c.loop-number.invariant (c.requires.below number c.loop-number-test.true) c.loop-number-test.true
