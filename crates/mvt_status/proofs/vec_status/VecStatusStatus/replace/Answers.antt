use Rattle.std.proofs.Common.{◌∙◌, slice_set, ap}
use Rattle.mvt_status.proofs.ListEdits.{written}
use Rattle.mvt_status.proofs.vec_status.VecStatusStatus.replace.Goals as goal

pub returns-clause-list : goal.returns-clause-list
returns-clause-list c = ap (λ list. slice_set list c.args.at c.args.edge) c.self.view_is ∙ written c.args.self.now c.args.at c.args.edge c.requires
