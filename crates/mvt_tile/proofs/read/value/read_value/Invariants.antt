use Rattle.std.proofs.Common.{◌≡◌, ◌-◌, List, [], filter, length, take}
use Rattle.mvt_wire.specs.Field.{Entry}
use Rattle.mvt_tile.proofs.Reading.ValueReading.{is_known}
use Rattle.mvt_tile.proofs.read.value.read_value.Given as goal
use Rattle.mvt_wire.proofs.Walking.{IsWalking}

-- no known field was passed
abbrev pub invariant-walk : goal.invariant-walk
invariant-walk l = (entries : List Entry) × IsWalking (take l.part.to l.part.bytes.now) l.part.from l.fields entries × (filter is_known entries ≡ [])

abbrev pub decreases-walk : goal.decreases-walk
decreases-walk l = length l.fields.bytes - l.fields.at
