use Rattle.std.proofs.lemmas.Result.{err_from_is_err_and}
use Rattle.mvt_confirm.specs.Calls.Commands.{plane_leg}
use Rattle.mvt_confirm.proofs.Drawing.NextStates.{move_faults, x_goes}
use Rattle.mvt_plane.specs.Commands.Drawing.{step_x}
use Rattle.mvt_plane.specs.Commands.Reading.{of_x}
use Rattle.mvt_confirm.proofs.commands.state.after_x.Goals as goal

pub returns-in_err-beside-clause-fault : goal.returns-in_err-beside-clause-fault
returns-in_err-beside-clause-fault c =
    let p = err_from_is_err_and c.from_residual.result c.from_residual.ensures.1 in
    rw (p.1, p.2) (λ geometry_type. move_faults geometry_type (step_x (plane_leg c.args.leg) c.args.from) c.args.from.x c.args.x _ (of_x (plane_leg c.args.leg) c.args.from) c.in_err-beside.ensures.fault)

pub returns-clause-goes : goal.returns-clause-goes
returns-clause-goes c = λ geometry_type.
    x_goes geometry_type (plane_leg c.args.leg) c.args.from c.in_ok-beside.beside c.args.x c.in_ok-beside.ensures.allowed c.in_ok-beside.ensures.there
