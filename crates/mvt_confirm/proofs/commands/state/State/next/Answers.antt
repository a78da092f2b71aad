use Rattle.std.proofs.Common.{sym, subst}
use Rattle.mvt_confirm.specs.Calls.Commands.{Faults, plane_state, plane_type}
use Rattle.mvt_confirm.proofs.Drawing.NextStates.{drawn_faults}
use Rattle.mvt_confirm.specs.declared.commands.state.State.{State}
use Rattle.mvt_fault.specs.declared.command.CommandCode.TheVariants.{OtherCommand}
use Rattle.mvt_confirm.proofs.commands.state.State.next.Goals as goal

pub returns-in-AllDrawn-clause-fault : goal.returns-in-AllDrawn-clause-fault
returns-in-AllDrawn-clause-fault c =
    let kind = plane_type c.args.geometry_type in
    subst (λ (it : State). Faults kind (plane_state it) c.args.number OtherCommand) (sym c.in-AllDrawn.is) (drawn_faults kind c.args.number)
