use Rattle.std.proofs.Common.{ℕ, List, [], ◌∷◌, ◌++◌, map, ap, ◌∙◌}
use Rattle.mvt_plane.specs.Commands.Figure.{close_path, command_integer}
use Rattle.mvt_plane.specs.Position.{origin}
use Rattle.mvt_draw.proofs.SpellingFaults.{fault_passed}
use Rattle.mvt_draw.proofs.SpellingPaths.{ArePathsTo-begun, ArePathsTo-at, ArePathsTo-on, ArePathsTo-whole, some_parts}
use Rattle.mvt_draw.proofs.spelling.spell_rings.Goals as goal

pub returns-in_err-cursor-clause-fault : goal.returns-in_err-cursor-clause-fault
returns-in_err-cursor-clause-fault c =
    let here = ArePathsTo-at (λ ring. ring.items) 2 (command_integer close_path 1 ∷ []) c.args.numbers.now.items origin c.args.rings.now c.walk.numbers.items c.walk.cursor c.ring-item.result c.walk.ring-index c.walk.invariant c.walk-test.true c.ring-item.is in
    let refused = rw (c.deref.ensures.value) at c.in_err-cursor.ensures.fault in
    fault_passed c.from_residual.result c.in_err-cursor.field-0.0 c.from_residual.ensures.1 refused (λ whole. (here.left whole.0).0)

pub walk-init : goal.walk-init
walk-init c =
    rw c.origin-cursor.ensures (ArePathsTo-begun 2 (command_integer close_path 1 ∷ []) c.args.numbers.now.items origin (map (λ ring. ring.items) c.args.rings.now))

pub walk-preserved : goal.walk-preserved
walk-preserved c =
    let end = command_integer close_path 1 ∷ [] in
    let here = ArePathsTo-at (λ ring. ring.items) 2 end c.args.numbers.now.items origin c.args.rings.now c.walk.numbers.items c.walk.cursor c.ring-item.result c.walk.ring-index c.walk.invariant c.walk-test.true c.ring-item.is in
    let told = rw (c.deref.ensures.value) at c.in_ok-cursor.ensures.spelled in
    rw (told.2) (ArePathsTo-on 2 end c.args.numbers.now.items origin _ c.walk.numbers.items c.walk.cursor _ _ _ here told.0
    (c.in_ok-spell_command.ensures.spelled.1 ∙ ap (λ (list : List ℕ). list ++ 15 ∷ []) told.1))

pub returns-clause-spelled : goal.returns-clause-spelled
returns-clause-spelled c =
    let told = ArePathsTo-whole (λ ring. ring.items) 2 (command_integer close_path 1 ∷ []) c.args.numbers.now.items origin c.args.rings.now c.walk.numbers.items c.walk.cursor c.walk.ring-index c.walk.invariant c.walk-test.false in
    ((told.0, some_parts (λ ring. ring.items) c.args.rings.now c.if-is_empty.ensures), told.1)
