use Rattle.std.proofs.lemmas.Result.{err_from_is_err_and}
use Rattle.mvt_confirm.specs.Calls.Commands.{plane_type}
use Rattle.mvt_confirm.proofs.Drawing.NextStates.{asks_line, command_faults, line_goes}
use Rattle.mvt_plane.specs.Commands.Drawing.{line_command}
use Rattle.mvt_plane.specs.Commands.Reading.{greatest_count}
use Rattle.mvt_confirm.proofs.commands.state.after_line_command.Goals as goal

pub returns-in_err-count-clause-fault : goal.returns-in_err-count-clause-fault
returns-in_err-count-clause-fault c =
    let p = err_from_is_err_and c.from_residual.result c.from_residual.ensures.1 in
    let kind = plane_type c.args.geometry_type in
    let asks = asks_line kind c.args.from c.least_further.result c.least_further.ensures.value in
    rw (p.1, p.2) (command_faults kind (line_command c.args.from) 2 c.least_further.result greatest_count c.args.number _ asks c.in_err-count.ensures.fault)

pub returns-clause-goes : goal.returns-clause-goes
returns-clause-goes c = line_goes (plane_type c.args.geometry_type) c.args.from c.least_further.result c.in_ok-count.count c.args.number c.least_further.ensures.value c.in_ok-count.ensures.count c.in_ok-count.ensures.allowed
