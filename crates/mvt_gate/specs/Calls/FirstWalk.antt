-- What is known of the bytes of a tile before its polygons are looked at.
use Rattle.std.specs.Prelude.{◌≡◌, ℕ, List, Option, Some, None}
use Rattle.mvt_fault.specs.Place.{IsLeast}
use Rattle.mvt_fault.specs.declared.fault.Fault.{Fault}
use Rattle.mvt_fault.specs.declared.profile.Profile.{Profile}
use Rattle.mvt_rules.specs.Parts.TrueFaults.{IsWireFault}
use Rattle.mvt_rules.specs.Parts.Geometry.{IsFaultOfGeometryBy}
use Rattle.mvt_rules.specs.Valid.{IsValidGeometryBy, ValidBy}
use Rattle.mvt_rules.specs.WireFault.{WireFault}
use Rattle.mvt_wire.specs.declared.cause.WireCause.{WireCause}
use Rattle.mvt_wire.specs.declared.scope.Scope.{Scope}
use Rattle.mvt_rules.specs.Tile.{IsTile, TileRecord}
use Rattle.mvt_tile.specs.RuleFaults.{KeepsButPolygons}
use Rattle.mvt_tile.specs.Sound.{AreSoundTo}
use Rattle.mvt_gate.specs.declared.first_walk.FirstWalk.{FirstWalk}
use Rattle.mvt_gate.specs.declared.first_walk.FirstWalk.TheVariants.{Valid, ButPolygons, Faulty, Whole}

-- they have no wire fault
abbrev pub HasNoWireFault : List ℕ → Type 0
HasNoWireFault bytes = (scope : Scope) (cause : WireCause) → ¬ WireFault bytes scope cause

-- they are a valid tile by each profile; or they have no wire fault, and keep all rules but those on polygons; or their first wire
-- fault is stored; or they have none, and the features that were seen no other by any profile, if their layers have what their tags
-- need; and otherwise nothing is stored
abbrev pub IsFirstWalk : List ℕ → FirstWalk → Option Fault → Type 0
IsFirstWalk bytes Valid found = (found ≡ None) × ((profile : Profile) → ValidBy profile bytes)
IsFirstWalk bytes ButPolygons found =
    (found ≡ None)
    × (HasNoWireFault bytes × ((profile : Profile) (tile : TileRecord) → IsTile bytes tile → KeepsButPolygons (IsFaultOfGeometryBy profile) (IsValidGeometryBy profile) tile))
IsFirstWalk bytes Faulty found = (fault : Fault) × (found ≡ Some fault) × IsLeast (IsWireFault bytes) fault
IsFirstWalk bytes (Whole seen) found =
    (found ≡ None)
    × (HasNoWireFault bytes × ((profile : Profile) → AreSoundTo (IsFaultOfGeometryBy profile) (IsValidGeometryBy profile) bytes seen))
