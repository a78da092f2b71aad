use Rattle.std.proofs.Common.{ℕ, ◌≡◌, length, subst, arith, rules, Vec, sym, ◌+◌, ℤ}
use Rattle.std.specs.declared.alloc.Global.{Global}
use Rattle.std.proofs.lemmas.List.Sorted.{answers_always}
use Rattle.mvt_feature.specs.Calls.Cells.{AreNumbered}
use Rattle.mvt_feature.proofs.Cells.CellOrders.{cells_sorted, key_of, number_added, number_passed}
use Rattle.mvt_feature.proofs.feature.crowded.cell_order.Goals as goal
use Rattle.mvt_feature.proofs.feature.crowded.cell_order.Goals.{then-marks-number+in_ok-push, else-marks-number}

pub loop-number-preserved : goal.loop-number-preserved
loop-number-preserved c =
    let spans = c.args.spans.now in
    let cells = c.args.cells.now in
    let marks = c.args.marks.now in
    let number = c.loop-number.number in
    elim c.if-marks-number.branch [
      | then-marks-number+in_ok-push w ↦
          subst (λ (order : Vec (ℕ × ℤ × ℕ) Global). AreNumbered spans cells marks (number + 1) order.items) (sym w.order-is)
          (number_added spans cells marks number c.loop-number.order.items c.loop-number.invariant w.push.new.self.items (search rules))
      | else-marks-number w ↦
          subst (λ (order : Vec (ℕ × ℤ × ℕ) Global). AreNumbered spans cells marks (number + 1) order.items) (sym w.order-is)
          (number_passed spans cells marks number c.loop-number.order.items c.loop-number.invariant (search rules))
    ]

pub returns : goal.returns
returns c =
    let all : c.loop-number.number ≡ length c.args.cells.now = omega arith in
    cells_sorted c.args.spans.now c.args.cells.now c.args.marks.now c.loop-number.order.items c.sort_unstable_by_key.new.self.items
    (subst (λ (count : ℕ). AreNumbered c.args.spans.now c.args.cells.now c.args.marks.now count c.loop-number.order.items) all c.loop-number.invariant) c.sort_unstable_by_key.ensures.permutation
    (c.sort_unstable_by_key.ensures.sorted key_of (answers_always _ _ _ (λ f a r g h. search rules)))
