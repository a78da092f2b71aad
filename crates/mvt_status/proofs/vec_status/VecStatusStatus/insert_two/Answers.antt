use Rattle.std.proofs.Common.{ℕ, List, ap, ◌∙◌, insert, is_ok, remove}
use Rattle.mvt_status.proofs.ListEdits.{refused, remove_inserted}
use Rattle.mvt_status.proofs.vec_status.VecStatusStatus.insert_two.Goals as goal

pub returns-then-is_err-clause-list : goal.returns-then-is_err-clause-list
returns-then-is_err-clause-list c =
    let at = c.args.at in
    let back = refused (is_ok c.insert-placed.result) c.insert-placed.new.self c.insert.new.self (insert c.insert.new.self at c.args.lower) c.if-is_err.ensures.negation c.insert-placed.ensures.list in
    rw c.if-is_err.ensures.negation
    (c.remove.ensures.list ∙ ap (λ (list : List ℕ). remove list at) (back ∙ c.in_ok-insert.ensures.list) ∙ remove_inserted c.args.self.now at c.args.upper c.requires)
