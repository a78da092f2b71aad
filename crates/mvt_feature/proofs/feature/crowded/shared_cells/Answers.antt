use Rattle.std.proofs.Common.{arith, Vec, Bool, sym, subst, ◌+◌}
use Rattle.std.specs.declared.alloc.Global.{Global}
use Rattle.mvt_feature.proofs.Cells.SharedCells.{AreMarkedTo, read_marked, read_passed}
use Rattle.mvt_feature.proofs.feature.crowded.shared_cells.Goals as goal
use Rattle.mvt_feature.proofs.feature.crowded.shared_cells.Goals.{then-owner-number, else-owner-number}

pub loop-number-preserved : goal.loop-number-preserved
loop-number-preserved c =
    let cells = c.args.cells.now in
    let owners = c.in_ok-owners.owners.items in
    let number = c.loop-number.number in
    let owner = c.index-owner.result.now in
    let marks = c.loop-number.shared.items in
    elim c.if-owner-number.branch [
      | then-owner-number w ↦
          subst (λ (marks : Vec Bool Global). AreMarkedTo cells owners (number + 1) marks.items) (sym w.shared-is)
          (read_marked cells owners number owner marks c.requires c.in_ok-owners.ensures (omega arith) c.index-owner.ensures c.loop-number.invariant)
      | else-owner-number w ↦
          subst (λ (marks : Vec Bool Global). AreMarkedTo cells owners (number + 1) marks.items) (sym w.shared-is)
          (read_passed cells owners number owner marks c.requires c.in_ok-owners.ensures (omega arith) c.index-owner.ensures w.if-owner-number.false c.loop-number.invariant)
    ]
