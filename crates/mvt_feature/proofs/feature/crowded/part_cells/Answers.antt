use Rattle.std.proofs.Common.{◌≡◌, ◌<◌, ◌≢◌, ℕ, pos, arith, rules, get_or, length, refl, subst, SFits, w32, true≢false, sym}
use Rattle.std.proofs.lemmas.Int.{to_z-of_z}
use Rattle.mvt_plane.proofs.Orders.Order.{zs}
use Rattle.mvt_feature.proofs.Cells.PartedCells.{ArePartedTo, none_parted, read_within, read_begins, read_lasts, cells_of_all, cells_of_marked, parted_of_parts}
use Rattle.mvt_feature.proofs.feature.crowded.part_cells.Goals as goal
use Rattle.mvt_feature.proofs.feature.crowded.part_cells.Goals.{then-begins_cell, else-begins_cell}

pub loop-at-init : goal.loop-at-init
loop-at-init c = none_parted c.args.spans.now c.args.cells.now c.in_ok-order.order.items _

pub bounds-spans-number : goal.bounds-spans-number
bounds-spans-number c =
    let below = read_within c.args.spans.now c.args.cells.now c.args.marks.now c.in_ok-order.order.items c.in_ok-order.ensures c.loop-at.cells c.loop-at.at c.loop-at.cell _ (pos 0) (omega arith) c.loop-at.invariant
    c.index.result.now c.index.ensures in
    omega arith

pub bounds-cells-number : goal.bounds-cells-number
bounds-cells-number c =
    let below = read_within c.args.spans.now c.args.cells.now c.args.marks.now c.in_ok-order.order.items c.in_ok-order.ensures c.loop-at.cells c.loop-at.at c.loop-at.cell _ (pos 0) (omega arith) c.loop-at.invariant
    c.index.result.now c.index.ensures in
    let size = c.loop-at.invariant.size in
    omega arith

pub cell_order-requires-clause-marks : goal.cell_order-requires-clause-marks
cell_order-requires-clause-marks c = c.requires.marks.size

pub loop-at-preserved : goal.loop-at-preserved
loop-at-preserved c =
    let spans = c.args.spans.now in
    let marks = c.args.marks.now in
    let order = c.in_ok-order.order.items in
    let it = c.index.result.now in
    let end = (get_or spans it.2 (pos 0, pos 0)).1 in
    let fits : SFits w32 end = search rules in
    let own = to_z-of_z w32 end fits in
    let within : c.loop-at.at < length order = omega arith in
    elim c.if-begins_cell.branch [
      | then-begins_cell w ↦
          let why = rw c.deref.ensures.value at (w.if-begins_cell.ensures.apart refl) in
          let reach = w.reach-is in
          read_begins spans c.args.cells.now marks order c.in_ok-order.ensures c.loop-at.cells c.loop-at.at c.loop-at.cell _ _ within c.loop-at.invariant it c.index.ensures c.if-begins_cell.cell w.cell-is
          why (omega (arith, zs))
      | else-begins_cell w ↦
          let most = w.max-reach.result in
          let most_fits : SFits w32 most = search rules in
          let its = to_z-of_z w32 most most_fits in
          let reach = w.reach-is in
          let before = w.max-reach.ensures.self_bound in
          let last = w.max-reach.ensures.other_bound in
          let later : c.loop-at.at ≢ 0 = λ first. absurd (true≢false (sym (w.if-begins_cell.ensures.first first))) in
          read_lasts spans c.args.cells.now marks order c.in_ok-order.ensures c.loop-at.cells c.loop-at.at c.loop-at.cell _ _ within c.loop-at.invariant it c.index.ensures c.if-begins_cell.cell w.cell-is
          (omega arith) (omega (arith, zs)) (omega (arith, zs))
    ]

pub returns-clause-all : goal.returns-clause-all
returns-clause-all c =
    let order = c.in_ok-order.order.items in
    let all : c.loop-at.at ≡ length order = omega arith in
    cells_of_all c.args.spans.now c.args.cells.now c.args.marks.now order c.in_ok-order.ensures c.loop-at.cells c.loop-at.cell _
    (subst (λ (at : ℕ). ArePartedTo c.args.spans.now c.args.cells.now order c.loop-at.cells at c.loop-at.cell c.loop-at.reach) all (rw c.loop-at.reach-is at c.loop-at.invariant))

pub returns-clause-known : goal.returns-clause-known
returns-clause-known c =
    let order = c.in_ok-order.order.items in
    let all : c.loop-at.at ≡ length order = omega arith in
    cells_of_marked c.args.spans.now c.args.cells.now c.args.marks.now order c.in_ok-order.ensures c.loop-at.cells c.loop-at.cell _
    (subst (λ (at : ℕ). ArePartedTo c.args.spans.now c.args.cells.now order c.loop-at.cells at c.loop-at.cell c.loop-at.reach) all (rw c.loop-at.reach-is at c.loop-at.invariant))

pub returns-clause-parted : goal.returns-clause-parted
returns-clause-parted c =
    let order = c.in_ok-order.order.items in
    let all : c.loop-at.at ≡ length order = omega arith in
    parted_of_parts c.args.spans.now c.args.cells.now c.args.marks.now order c.in_ok-order.ensures c.loop-at.cells c.loop-at.cell _
    (subst (λ (at : ℕ). ArePartedTo c.args.spans.now c.args.cells.now order c.loop-at.cells at c.loop-at.cell c.loop-at.reach) all (rw c.loop-at.reach-is at c.loop-at.invariant)) c.requires.marks
