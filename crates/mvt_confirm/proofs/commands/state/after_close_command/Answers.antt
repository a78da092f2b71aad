use Rattle.std.proofs.lemmas.Result.{err_from_is_err_and}
use Rattle.mvt_confirm.proofs.Drawing.NextStates.{command_faults, command_goes}
use Rattle.mvt_plane.specs.Commands.Drawing.{close_command}
use Rattle.mvt_plane.specs.Commands.Reading.{of_close}
use Rattle.mvt_confirm.proofs.commands.state.after_close_command.Goals as goal

pub returns-in_err-command-clause-fault : goal.returns-in_err-command-clause-fault
returns-in_err-command-clause-fault c =
    let p = err_from_is_err_and c.from_residual.result c.from_residual.ensures.1 in
    rw (p.1, p.2) (λ geometry_type. command_faults geometry_type (close_command c.args.from) 7 1 1 c.args.number _ (of_close c.args.from) c.in_err-command.ensures.fault)

pub returns-clause-goes : goal.returns-clause-goes
returns-clause-goes c = λ geometry_type.
    command_goes geometry_type (close_command c.args.from) 7 1 1 c.args.number (of_close c.args.from) c.in_ok-command.ensures.allowed
