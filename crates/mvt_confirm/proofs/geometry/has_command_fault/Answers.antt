use Rattle.mvt_fault.specs.Code.{command_code}
use Rattle.mvt_plane.specs.FeatureGeometry.{BreaksCommands}
use Rattle.mvt_confirm.proofs.Features.DrawnFeatures.{nothing_decided, place_decides}
use Rattle.mvt_confirm.proofs.geometry.has_command_fault.Goals as goal

pub returns-in-Some : goal.returns-in-Some
returns-in-Some c = λ tile is.
    place_decides c.args.bytes.now c.args.layer c.args.feature tile c.in-Some.place c.breaks_commands.result
    (λ layer_record it. BreaksCommands it.kind it.geometry (command_code c.args.code) c.args.index) is c.in-Some.ensures.there
    (λ layer_record it there. c.breaks_commands.ensures it)

pub returns-in-None : goal.returns-in-None
returns-in-None c = λ tile is.
    nothing_decided c.args.bytes.now c.args.layer c.args.feature tile
    (λ layer_record it. BreaksCommands it.kind it.geometry (command_code c.args.code) c.args.index) is c.in-None.ensures.none
