-- The answers of mending.
use Rattle.std.proofs.Common.{◌≡◌, ◌≢◌, ℕ, ◌<◌, Bool, false, List, [], ◌∷◌, length, slice_get, Some, refl, sym, subst, arith}
use Rattle.std.proofs.lemmas.Option.{slice_get_within}
use Rattle.mvt_rules.proofs.Validity.TrueFaults.{shown_is_invalid}
use Rattle.mvt_rules.specs.Valid.{ValidBy}
use Rattle.mvt_fault.specs.declared.fault.Fault.{Fault}
use Rattle.mvt_fault.specs.declared.profile.Profile.{Profile}
use Rattle.mvt_gate.specs.FaultList.{AreFaultsFor}
use Rattle.mvt_gate.specs.declared.quick.Search.TheVariants.{Least}
use Rattle.mvt_splice.proofs.SplicedTiles.ValidSplices.{spliced_is_valid}
use Rattle.mvt_splice.specs.Splice.{AreChangesInOrder, IsSpliced}
use Rattle.mvt_splice.specs.declared.change.Change.{Change}
use Rattle.mvt_tile.specs.declared.feature_bytes.FeatureBytes.{FeatureBytes}
use Rattle.mvt_rules.specs.Tile.{Each, TileRecord, IsTile}
use Rattle.mvt_mender.proofs.FaultPlaces.{in_turn, is_tile}
use Rattle.mvt_mender.proofs.Lists.{present}
use Rattle.mvt_mender.proofs.MadeChanges.{each_told, made_in_order}
use Rattle.mvt_mender.proofs.Refusals.{all_mendable, each_mendable}
use Rattle.mvt_mender.proofs.ValidFates.{valid_once_spliced}
use Rattle.mvt_mender.specs.Calls.Features.{AreAllFound, AreOfPolygons, ArePlacesOf}
use Rattle.mvt_mender.specs.Calls.Steps.{AreMade}
use Rattle.mvt_mender.specs.Changed.{IsChangeOf}
use Rattle.mvt_mender.specs.Mendable.{AreAllMendable}
use Rattle.mvt_mender.specs.Mending.{IsMendedTo, IsUnmended}
use Rattle.mvt_mender.specs.declared.mending.FeatureChange.{FeatureChange}
use Rattle.mvt_mender.specs.declared.mending.MendedTile.{MendedTile}
use Rattle.mvt_mender.specs.declared.place.FeaturePlace.{FeaturePlace}

-- a list that isn't empty has a first member
first_there : (faults : List Fault) → faults ≢ [] → (fault : Fault) × (slice_get faults 0 ≡ Some fault)
first_there [] some = absurd (some refl)
first_there (fault ∷ rest) some = (fault, refl)

-- so it isn't of length 0
pub some_within : (faults : List Fault) → faults ≢ [] → 0 < length faults
some_within [] some = absurd (some refl)
some_within (fault ∷ rest) some = omega arith

module _ (profile : Profile) (drop : Bool) (bytes : List ℕ) (faults : List Fault) (list : AreFaultsFor Least profile bytes faults) (some : faults ≢ []) (places : List FeaturePlace) (of : ArePlacesOf faults places)
    (features : List FeatureBytes) (found : AreAllFound bytes places features) (polygons : AreOfPolygons features) (complete : length faults ≡ length features) where
  -- all faults are mended
  pub mendable : AreAllMendable profile bytes
  mendable = all_mendable profile bytes faults list (each_mendable profile bytes faults list places of features found polygons complete)

  -- the bytes are a tile
  pub tile_there : (tile : TileRecord) × IsTile bytes tile
  tile_there =
      let (fault, here) = first_there faults some in
      let (place, there) = present places 0 (omega (arith, slice_get_within faults 0 fault here, found.count)) in
      is_tile profile bytes faults list places of place there

  -- a feature that couldn't be mended
  pub unmended : (at : ℕ) (fault : Fault) → slice_get faults at ≡ Some fault → drop ≡ false → IsUnmended profile drop bytes fault
  unmended at fault here kept = record { mendable = mendable; first = list.each at fault here; kept_in = kept }

  module _ (told : List FeatureChange) (made : List Change) (all : AreMade profile drop places features (length features) told made) where
    -- the changes are in order
    pub in_order : AreChangesInOrder made
    in_order = made_in_order profile drop bytes places features found told made all (in_turn profile bytes faults list places of)

    -- the tile with the changes is valid
    valid_after : (out : List ℕ) → IsSpliced made bytes out → ValidBy profile out
    valid_after out spliced =
        spliced_is_valid profile made bytes out tile_there.0 spliced tile_there.1
        (valid_once_spliced profile drop bytes faults list places of features found polygons complete mendable told made all tile_there.0 tile_there.1)

    -- the tile with the changes
    pub mended : (out : MendedTile) → IsSpliced made bytes out.bytes.items → out.changes.items ≡ told → IsMendedTo profile drop bytes out
    mended out spliced same = record {
      tile = tile_there.0;
      is = tile_there.1;
      invalid = λ was_valid.
          let (fault, here) = first_there faults some in
          let first = list.each 0 fault here in
          shown_is_invalid profile bytes fault first.holds was_valid;
      mendable = mendable;
      valid = valid_after out.bytes.items spliced;
      changes = made;
      in_order = in_order;
      spliced = spliced;
      each = subst (λ (list_of : List FeatureChange). Each (IsChangeOf profile drop bytes) list_of made) (sym same) (each_told profile drop bytes places features found told made all faults list of polygons);
    }
