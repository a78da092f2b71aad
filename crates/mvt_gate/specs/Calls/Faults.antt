-- The faults that are found in the bytes of a tile by a further rule on its features.
use Rattle.std.specs.Prelude.{◌≡◌, ◌⊎◌, ℕ, List, [], ◌∷◌}
use Rattle.mvt_fault.specs.Place.{IsLeast}
use Rattle.mvt_rules.specs.Parts.TrueFaults.{IsWireFault}
use Rattle.mvt_fault.specs.declared.fault.Fault.{Fault}
use Rattle.mvt_tile.specs.FirstFaults.{AreFirstFaults}
use Rattle.mvt_tile.specs.RuleFaults.{Breaks, Frees, Keeps}
use Rattle.mvt_rules.specs.Tile.{IsTile, TileRecord}

-- the first wire fault alone; or, of bytes that are a tile, the first fault of each layer and of each feature, or a free one
abbrev pub AreFoundBy : Frees → Breaks → Keeps → List ℕ → List Fault → Type 0
AreFoundBy IsFree IsBroken IsKept bytes faults =
    ((fault : Fault) × IsLeast (IsWireFault bytes) fault × (faults ≡ fault ∷ []))
    ⊎ ((tile : TileRecord) × IsTile bytes tile × AreFirstFaults IsFree IsBroken IsKept tile faults)
