use Rattle.std.proofs.Common.{◌-◌, List, length, map, take}
use Rattle.mvt_wire.specs.Field.{Entry}
use Rattle.mvt_tile.specs.Calls.Reading.{GivesTile}
use Rattle.mvt_tile.specs.View.{layer_of}
use Rattle.mvt_tile.proofs.read.read_layers.Given as goal
use Rattle.mvt_wire.proofs.Walking.{IsWalking}

-- the record has the content of the fields that were passed
abbrev pub invariant-walk : goal.invariant-walk
invariant-walk l = (entries : List Entry) × IsWalking (take (length l.bytes) l.bytes) 0 l.fields entries × GivesTile l.bytes entries (record { layers = map layer_of l.layers.items })

abbrev pub decreases-walk : goal.decreases-walk
decreases-walk l = length l.fields.bytes - l.fields.at
