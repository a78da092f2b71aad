-- What the steps of mending have found.
use Rattle.std.specs.Prelude.{◌≡◌, ◌<◌, ℕ, Bool, true, false, List, length, slice_get, Option, Some, None, Vec}
use Rattle.std.specs.declared.alloc.Global.{Global}
use Rattle.mvt_rules.specs.Valid.{AreValidRingsBy}
use Rattle.mvt_fault.specs.declared.profile.Profile.{Profile}
use Rattle.mvt_plane.specs.Commands.Figure.{polygon}
use Rattle.mvt_plane.specs.FeatureGeometry.{HasRings, type_number}
use Rattle.mvt_plane.specs.Position.{Position}
use Rattle.mvt_splice.specs.declared.change.Change.{Change}
use Rattle.mvt_tile.specs.FeatureBytes.{Encodes}
use Rattle.mvt_tile.specs.declared.feature_bytes.FeatureBytes.{FeatureBytes}
use Rattle.mvt_rules.specs.Tile.{FeatureRecord}
use Rattle.mvt_mender.specs.Changed.{IsMendedGeometry}
use Rattle.mvt_mender.specs.Measures.{AreMeasuresOf}
use Rattle.mvt_mender.specs.declared.changes.ChangesFound.{ChangesFound}
use Rattle.mvt_mender.specs.declared.changes.ChangesFound.TheVariants.{All, Unmended}
use Rattle.mvt_mender.specs.declared.mending.FeatureChange.{FeatureChange}
use Rattle.mvt_mender.specs.declared.mending.MendedFeature.{MendedFeature}
use Rattle.mvt_mender.specs.declared.mending.WhatChanged.{WhatChanged}
use Rattle.mvt_mender.specs.declared.mending.WhatChanged.TheVariants.{Mended, Dropped}
use Rattle.mvt_mender.specs.declared.place.FeaturePlace.{FeaturePlace}

-- the numbers spell the new rings, which are those of valid polygons, and the measures are those of both
pub record IsNewGeometry (profile : Profile) (old_rings new_rings : List (List Position)) (numbers : List ℕ) (mended : MendedFeature) : Type 0 where
  pub spelled : HasRings (type_number polygon) numbers new_rings
  pub valid : AreValidRingsBy profile new_rings
  pub before : AreMeasuresOf old_rings mended.before
  pub after : AreMeasuresOf new_rings mended.after

-- what became of a feature is what is told of it: its geometry was exchanged; or it is left out, and the caller asked for that
abbrev pub IsMadeOf : Profile → Bool → FeatureBytes → WhatChanged → Option (Vec ℕ Global) → Type 0
IsMadeOf profile drop feature (Mended mended) geometry =
    (numbers : Vec ℕ Global) × (geometry ≡ Some numbers) × ((it : FeatureRecord) → Encodes feature it → IsMendedGeometry profile it.geometry numbers.items mended)
IsMadeOf profile drop feature Dropped geometry = (drop ≡ true) × (geometry ≡ None)

-- so it is for the feature at a place
pub record IsMadeAt (profile : Profile) (drop : Bool) (place : FeaturePlace) (feature : FeatureBytes) (told : FeatureChange) (change : Change) : Type 0 where
  pub told_layer : told.layer ≡ place.layer
  pub told_feature : told.feature ≡ place.feature
  pub layer : change.layer ≡ place.layer
  pub ordinal : change.feature ≡ place.feature
  pub made : IsMadeOf profile drop feature told.what change.geometry

-- there is a change for each of the first features
pub record AreMade (profile : Profile) (drop : Bool) (places : List FeaturePlace) (features : List FeatureBytes) (count : ℕ) (told : List FeatureChange) (made : List Change) : Type 0 where
  pub told_count : length told ≡ count
  pub made_count : length made ≡ count
  pub each : (at : ℕ) (place : FeaturePlace) (feature : FeatureBytes) → at < count → slice_get places at ≡ Some place → slice_get features at ≡ Some feature
      → (one : FeatureChange) × (change : Change) × (slice_get told at ≡ Some one) × (slice_get made at ≡ Some change) × IsMadeAt profile drop place feature one change

-- there is one for each, or there is none for one of them, and the caller didn't ask for more
abbrev pub IsChangesAnswer : Profile → Bool → List FeaturePlace → List FeatureBytes → ChangesFound → Type 0
IsChangesAnswer profile drop places features (All changes) = AreMade profile drop places features (length features) changes.told.items changes.made.items
IsChangesAnswer profile drop places features (Unmended at) = (at < length features) × (drop ≡ false)
