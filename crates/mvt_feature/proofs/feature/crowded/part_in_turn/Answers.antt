use Rattle.std.proofs.Common.{length, rules, ◌∙◌, arith}
use Rattle.mvt_feature.proofs.Cells.PartedCells.{marked_by_all, parted_in_turn, sharing_of_all}
use Rattle.mvt_feature.proofs.feature.crowded.part_in_turn.Goals as goal

pub returns-clause-parted : goal.returns-clause-parted
returns-clause-parted c =
    let first = c.part_cells.new.cells in
    let second = c.part_shared.new.cells in
    let count = length c.args.cells.now in
    let known = c.in_ok-part_cells.ensures.all (marked_by_all count c.deref.result.now (search rules)) in
    parted_in_turn c.args.across.now c.args.upward.now c.args.cells.now first second c.part_shared-2.new.cells c.in_ok-part_cells.ensures.parted known c.in_ok-part_shared.ensures.parted
    c.in_ok-part_shared.ensures.known c.in_ok-part_shared-2.ensures.parted

pub part_cells-requires-clause-marks : goal.part_cells-requires-clause-marks
part_cells-requires-clause-marks c =
    let cells = c.args.cells.now in
    let marks = c.deref.result.now in
    sharing_of_all cells marks (omega (arith, c.deref.ensures.len, c.in_ok-all.ensures.len)) (marked_by_all (length cells) marks (search rules))

pub part_shared-requires-clause-spans : goal.part_shared-requires-clause-spans
part_shared-requires-clause-spans c =
    let known = c.in_ok-part_cells.ensures.all (marked_by_all (length c.args.cells.now) c.deref.result.now (search rules)) in
    omega (arith, c.requires.upward, known.size)

pub part_shared-requires-clause-cells : goal.part_shared-requires-clause-cells
part_shared-requires-clause-cells c =
    let known = c.in_ok-part_cells.ensures.all (marked_by_all (length c.args.cells.now) c.deref.result.now (search rules)) in
    rw known.size known

pub part_shared-requires-2-clause-spans : goal.part_shared-requires-2-clause-spans
part_shared-requires-2-clause-spans c =
    let known = c.in_ok-part_cells.ensures.all (marked_by_all (length c.args.cells.now) c.deref.result.now (search rules)) in
    omega (arith, c.requires.across, known.size, c.in_ok-part_shared.ensures.known.size)

pub part_shared-requires-2-clause-cells : goal.part_shared-requires-2-clause-cells
part_shared-requires-2-clause-cells c =
    rw c.in_ok-part_shared.ensures.known.size c.in_ok-part_shared.ensures.known

pub returns-clause-known : goal.returns-clause-known
returns-clause-known c =
    let known = c.in_ok-part_cells.ensures.all (marked_by_all (length c.args.cells.now) c.deref.result.now (search rules)) in
    rw (c.in_ok-part_shared.ensures.known.size ∙ known.size) at c.in_ok-part_shared-2.ensures.known
