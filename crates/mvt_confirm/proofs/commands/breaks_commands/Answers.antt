use Rattle.mvt_confirm.specs.Calls.Commands.{plane_type}
use Rattle.mvt_confirm.proofs.Drawing.CommandWalks.{fault_of_type}
use Rattle.mvt_fault.specs.Code.{command_code}
use Rattle.mvt_confirm.proofs.commands.breaks_commands.Goals as goal

pub returns-in-Some : goal.returns-in-Some
returns-in-Some c = λ geometry left.
    let kind = plane_type c.in-Some.geometry_type in
    let decided = c.has_fault.ensures geometry left in (
      λ yes. (kind, c.in-Some.ensures.known, decided.0 yes),
      λ breaks. decided.1 (fault_of_type kind c.args.kind geometry (command_code c.args.code) c.args.index c.in-Some.ensures.known breaks),
    )
