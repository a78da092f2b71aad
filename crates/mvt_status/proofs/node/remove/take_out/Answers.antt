use Rattle.std.proofs.Common.{ap, add-one, ◌∙◌, ◌++◌, ℕ, drop, take}
use Rattle.mvt_status.proofs.node.remove.take_out.Goals as goal

pub returns-clause-items : goal.returns-clause-items
returns-clause-items c =
    let own = c.args.own.now.items in
    let at = c.args.at in
    c.leave_out.ensures ∙ ap (λ (many : ℕ). take at own ++ drop many own) (add-one at)
