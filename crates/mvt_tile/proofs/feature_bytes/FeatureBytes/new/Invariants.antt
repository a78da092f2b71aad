use Rattle.std.proofs.Common.{◌-◌, List, length, take}
use Rattle.mvt_wire.specs.Field.{Entry}
use Rattle.mvt_tile.specs.Calls.FeatureBytes.{GivesParts}
use Rattle.mvt_tile.proofs.feature_bytes.FeatureBytes.new.Given as goal
use Rattle.mvt_wire.proofs.Walking.{IsWalking}

-- the parts are those of the fields that were passed
abbrev pub invariant-walk : goal.invariant-walk
invariant-walk l = (entries : List Entry) × IsWalking (take l.part.to l.part.bytes.now) l.part.from l.fields entries × GivesParts (take l.part.to l.part.bytes.now) l.part.from entries l.fields.at l.parts

abbrev pub decreases-walk : goal.decreases-walk
decreases-walk l = length l.fields.bytes - l.fields.at
