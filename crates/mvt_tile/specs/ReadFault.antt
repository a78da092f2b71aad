-- Why a tile isn't read.
use Rattle.std.specs.Prelude.{ℕ, List}
use Rattle.mvt_fault.specs.Place.{IsLeast}
use Rattle.mvt_rules.specs.Parts.TrueFaults.{IsWireFault}
use Rattle.mvt_rules.specs.Tile.{TileRecord, IsTile}
use Rattle.mvt_tile.specs.declared.read.ReadFault.{ReadFault}
use Rattle.mvt_tile.specs.declared.read.ReadFault.TheVariants.{Wire, Memory}

-- the bytes have this wire fault, and none with a lesser place; or they are a tile, and memory was refused
abbrev pub IsReadFault : List ℕ → ReadFault → Type 0
IsReadFault bytes (Wire fault) = IsLeast (IsWireFault bytes) fault
IsReadFault bytes Memory = (tile : TileRecord) × IsTile bytes tile
