use Rattle.std.proofs.lemmas.Result.{err_from_is_err_and}
use Rattle.mvt_confirm.proofs.Drawing.NextStates.{command_faults, points_go}
use Rattle.mvt_plane.specs.Commands.Drawing.{points_command}
use Rattle.mvt_plane.specs.Commands.Reading.{greatest_count, of_points}
use Rattle.mvt_confirm.proofs.commands.state.after_points_command.Goals as goal

pub returns-in_err-count-clause-fault : goal.returns-in_err-count-clause-fault
returns-in_err-count-clause-fault c =
    let p = err_from_is_err_and c.from_residual.result c.from_residual.ensures.1 in
    rw (p.1, p.2) (λ geometry_type. command_faults geometry_type points_command 1 1 greatest_count c.args.number _ of_points c.in_err-count.ensures.fault)

pub returns-clause-goes : goal.returns-clause-goes
returns-clause-goes c = λ geometry_type. points_go geometry_type c.origin.result c.in_ok-count.count c.args.number c.origin.ensures c.in_ok-count.ensures.count c.in_ok-count.ensures.allowed
