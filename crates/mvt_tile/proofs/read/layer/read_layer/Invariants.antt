use Rattle.std.proofs.Common.{◌-◌, List, length, take}
use Rattle.mvt_wire.specs.Field.{Entry}
use Rattle.mvt_tile.specs.Calls.Reading.{GivesLayer}
use Rattle.mvt_tile.specs.View.{layer_of}
use Rattle.mvt_tile.proofs.read.layer.read_layer.Given as goal
use Rattle.mvt_wire.proofs.Walking.{IsWalking}

-- the record has the content of the fields that were passed
abbrev pub invariant-walk : goal.invariant-walk
invariant-walk l = (entries : List Entry) × IsWalking (take l.part.to l.part.bytes.now) l.part.from l.fields entries × GivesLayer l.part.bytes.now entries (layer_of l.layer)

abbrev pub decreases-walk : goal.decreases-walk
decreases-walk l = length l.fields.bytes - l.fields.at
