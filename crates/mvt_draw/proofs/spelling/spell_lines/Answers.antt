use Rattle.std.proofs.Common.{[], map, sym, ◌∙◌, append-nil}
use Rattle.mvt_plane.specs.Position.{origin}
use Rattle.mvt_draw.proofs.SpellingFaults.{fault_passed}
use Rattle.mvt_draw.proofs.SpellingPaths.{ArePathsTo-begun, ArePathsTo-at, ArePathsTo-on, ArePathsTo-whole, some_parts}
use Rattle.mvt_draw.proofs.spelling.spell_lines.Goals as goal

pub returns-in_err-cursor-clause-fault : goal.returns-in_err-cursor-clause-fault
returns-in_err-cursor-clause-fault c =
    let here = ArePathsTo-at (λ line. line.items) 1 [] c.args.numbers.now.items origin c.args.lines.now c.walk.numbers.items c.walk.cursor c.line-item.result c.walk.line-index c.walk.invariant c.walk-test.true c.line-item.is in
    let refused = rw (c.deref.ensures.value) at c.in_err-cursor.ensures.fault in
    fault_passed c.from_residual.result c.in_err-cursor.field-0.0 c.from_residual.ensures.1 refused (λ whole. (here.left whole.0).0)

pub walk-init : goal.walk-init
walk-init c = rw c.origin-cursor.ensures (ArePathsTo-begun 1 [] c.args.numbers.now.items origin (map (λ line. line.items) c.args.lines.now))

pub walk-preserved : goal.walk-preserved
walk-preserved c =
    let here = ArePathsTo-at (λ line. line.items) 1 [] c.args.numbers.now.items origin c.args.lines.now c.walk.numbers.items c.walk.cursor c.line-item.result c.walk.line-index c.walk.invariant c.walk-test.true c.line-item.is in
    let told = rw (c.deref.ensures.value) at c.in_ok-cursor.ensures.spelled in
    rw (told.2) (ArePathsTo-on 1 [] c.args.numbers.now.items origin _ c.walk.numbers.items c.walk.cursor _ _ _ here told.0 (told.1 ∙ sym (append-nil _)))

pub returns-clause-spelled : goal.returns-clause-spelled
returns-clause-spelled c =
    let told = ArePathsTo-whole (λ line. line.items) 1 [] c.args.numbers.now.items origin c.args.lines.now c.walk.numbers.items c.walk.cursor c.walk.line-index c.walk.invariant c.walk-test.false in
    ((told.0, some_parts (λ line. line.items) c.args.lines.now c.if-is_empty.ensures), told.1)
