use Rattle.mvt_status.proofs.Removals.{both_out}
use Rattle.std.proofs.Common.{◌∙◌}
use Rattle.mvt_status.proofs.node.remove.take_two_own.Goals as goal

pub returns-clause-edges : goal.returns-clause-edges
returns-clause-edges c = λ _. c.leave_out.ensures ∙ both_out c.args.own.now.items c.args.at
