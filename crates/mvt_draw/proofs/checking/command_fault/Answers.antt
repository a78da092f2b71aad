use Rattle.std.proofs.Common.{subst}
use Rattle.mvt_fault.specs.Code.{command_code}
use Rattle.mvt_plane.proofs.Spelling.CommandFaults.{has_command_fault}
use Rattle.mvt_plane.proofs.Spelling.Geometries.{figure_faultless}
use Rattle.mvt_tile.specs.View.{kind_number}
use Rattle.mvt_draw.specs.Calls.Geometry.{IsFaultAhead}
use Rattle.mvt_draw.proofs.checking.command_fault.Goals as goal

pub returns-in-Err-Command-clause-fault : goal.returns-in-Err-Command-clause-fault
returns-in-Err-Command-clause-fault g c = λ given left.
    let found = c.in-Err-Command in
    let told = found.ensures.fault in
    let fault = subst (λ it. IsFaultAhead told.0 given it) found.field-0-is (told.2 given left) in
    (told.0, told.1, has_command_fault told.0 given (command_code found.code) found.index fault)

pub returns-in-Ok-clause-none : goal.returns-in-Ok-clause-none
returns-in-Ok-clause-none g c = λ given left code index. figure_faultless (kind_number c.args.kind) given (c.in-Ok.ensures.figure given left) (command_code code) index
