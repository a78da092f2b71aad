use Rattle.std.proofs.Common.{List, [], ◌∷◌, ◌++◌, refl, ◌∙◌, ap}
use Rattle.mvt_plane.specs.Position.{Position}
use Rattle.mvt_mend.proofs.DrawnSteps.{ring_of_steps}
use Rattle.mvt_mend.proofs.loose.pen.draw_ring.Goals as goal

pub returns : goal.returns
returns c =
    let first = c.in-Some.first in
    ring_of_steps c.args.numbers.now c.args.pen.now _ c.draw_steps.new.pen _ first c.in-Some-command_at.count _ c.draw_steps.new.ring.items
    (c.in_ok-push.ensures.items ∙ ap (λ (list : List Position). list ++ first ∷ []) c.in_ok-ring.ensures.items) refl refl
    (c.is_command.ensures c.if-not-is_command.false) c.in-Some.ensures c.in-Some-command_at.ensures (c.in_ok-draw_steps.ensures c.if-not-branch.false) (c.is_command-2.ensures c.if-not-is_command-2.false)
