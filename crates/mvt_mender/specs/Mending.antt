-- The answer of mending.
use Rattle.std.specs.Prelude.{◌≡◌, ◌⊎◌, ℕ, Bool, false, List}
use Rattle.mvt_rules.specs.Shows.{ShowsBy}
use Rattle.mvt_rules.specs.Valid.{ValidBy}
use Rattle.mvt_fault.specs.Place.{IsLeast}
use Rattle.mvt_fault.specs.declared.fault.Fault.{Fault}
use Rattle.mvt_fault.specs.declared.profile.Profile.{Profile}
use Rattle.mvt_gate.specs.FaultList.{IsFirstOfItsSubject}
use Rattle.mvt_splice.specs.Splice.{AreChangesInOrder, IsSpliced}
use Rattle.mvt_splice.specs.declared.change.Change.{Change}
use Rattle.mvt_rules.specs.Tile.{Each, TileRecord, IsTile}
use Rattle.mvt_mender.specs.Changed.{IsChangeOf}
use Rattle.mvt_mender.specs.Mendable.{AreAllMendable, IsOther}
use Rattle.mvt_mender.specs.declared.mending.MendedTile.{MendedTile}
use Rattle.mvt_mender.specs.declared.mending.Mending.{Mending}
use Rattle.mvt_mender.specs.declared.mending.Mending.TheVariants.{Valid, Mended, Refused}

-- The bytes are a tile that isn't valid, all of whose faults are mended. The new bytes are a valid tile: the old one but for
-- the features that are told, each of which had a fault, in their order and none twice.
pub record IsMendedTo (profile : Profile) (drop : Bool) (bytes : List ℕ) (mended : MendedTile) : Type 0 where
  pub tile : TileRecord
  pub is : IsTile bytes tile
  pub invalid : ¬ ValidBy profile bytes
  pub mendable : AreAllMendable profile bytes
  pub valid : ValidBy profile mended.bytes.items
  pub changes : List Change
  pub in_order : AreChangesInOrder changes
  pub spliced : IsSpliced changes bytes mended.bytes.items
  pub each : Each (IsChangeOf profile drop bytes) mended.changes.items changes

-- All faults of the bytes are mended, but not this one, the first of its feature; and the caller didn't ask to leave such
-- features out.
pub record IsUnmended (profile : Profile) (drop : Bool) (bytes : List ℕ) (fault : Fault) : Type 0 where
  pub mendable : AreAllMendable profile bytes
  pub first : IsFirstOfItsSubject (ShowsBy profile bytes) fault
  pub kept_in : drop ≡ false

-- the fault is that of the least place among those that aren't mended; or there are none of these, and it stays
abbrev pub IsRefusal : Profile → Bool → List ℕ → Fault → Type 0
IsRefusal profile drop bytes fault = IsLeast (IsOther profile bytes) fault ⊎ IsUnmended profile drop bytes fault

-- what mending answers, by the profile, where the caller asks to leave out what can't be mended or doesn't
abbrev pub IsMendingBy : Profile → Bool → List ℕ → Mending → Type 0
IsMendingBy profile drop bytes Valid = ValidBy profile bytes
IsMendingBy profile drop bytes (Mended mended) = IsMendedTo profile drop bytes mended
IsMendingBy profile drop bytes (Refused fault) = IsRefusal profile drop bytes fault
