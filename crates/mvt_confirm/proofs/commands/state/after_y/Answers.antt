use Rattle.std.proofs.Common.{sym, subst}
use Rattle.std.proofs.lemmas.Result.{err_from_is_err_and}
use Rattle.mvt_confirm.specs.Calls.Commands.{Goes, before_x, plane_leg, plane_type}
use Rattle.mvt_confirm.proofs.Drawing.NextStates.{move_faults, stay_faults, y_goes}
use Rattle.mvt_plane.specs.Commands.Drawing.{State, step_y}
use Rattle.mvt_plane.specs.Commands.Reading.{of_y}
use Rattle.mvt_confirm.proofs.commands.state.after_y.Goals as goal

pub returns-in_err-to-clause-fault : goal.returns-in_err-to-clause-fault
returns-in_err-to-clause-fault c =
    let p = err_from_is_err_and c.from_residual.result c.from_residual.ensures.1 in
    rw (p.1, p.2) (
    move_faults (plane_type c.args.geometry_type) _ c.args.beside.y c.args.y _
    (of_y (plane_leg c.args.leg) (before_x c.args.beside c.args.x) c.args.x) c.in_err-to.ensures.fault
    )

pub returns-then-stays-clause-fault : goal.returns-then-stays-clause-fault
returns-then-stays-clause-fault c =
    stay_faults (plane_type c.args.geometry_type) (plane_leg c.args.leg) c.args.beside c.args.x c.args.y c.in_ok-to.ensures.allowed (c.stays.ensures.stays c.if-stays.true)

pub returns-clause-goes : goal.returns-clause-goes
returns-clause-goes c =
    let from = step_y (plane_leg c.args.leg) (before_x c.args.beside c.args.x) c.args.x in
    subst (λ (to : State). Goes (plane_type c.args.geometry_type) from c.args.y to) (sym c.following.ensures)
    (y_goes (plane_type c.args.geometry_type) (plane_leg c.args.leg) c.args.beside c.in_ok-to.to c.args.x c.args.y c.in_ok-to.ensures.allowed c.in_ok-to.ensures.there (c.stays.ensures.goes c.if-stays.false))
