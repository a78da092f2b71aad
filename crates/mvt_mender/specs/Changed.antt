-- What became of a feature that had a fault.
use Rattle.std.specs.Prelude.{◌≡◌, ℕ, Bool, true, List, Option, Some, None, Vec}
use Rattle.std.specs.declared.alloc.Global.{Global}
use Rattle.mvt_rules.specs.Shows.{IsFeatureIn, ShowsBy}
use Rattle.mvt_rules.specs.Valid.{AreValidRingsBy}
use Rattle.mvt_fault.specs.declared.fault.Fault.{Fault}
use Rattle.mvt_fault.specs.declared.profile.Profile.{Profile}
use Rattle.mvt_fault.specs.declared.profile.Profile.TheVariants.{Polygon}
use Rattle.mvt_gate.specs.FaultList.{of_feature, subject_of}
use Rattle.mvt_mend.specs.Kept.{AreKept, BeginWithExterior}
use Rattle.mvt_mend.specs.Loose.{DrawLoosely}
use Rattle.mvt_mend.specs.Near.{AreNear}
use Rattle.mvt_plane.specs.Commands.Figure.{polygon}
use Rattle.mvt_plane.specs.FeatureGeometry.{HasRings, type_number}
use Rattle.mvt_plane.specs.Position.{Position}
use Rattle.mvt_splice.specs.declared.change.Change.{Change}
use Rattle.mvt_rules.specs.Tile.{FeatureRecord, LayerRecord}
use Rattle.mvt_mender.specs.Measures.{AreMeasuresOf}
use Rattle.mvt_mender.specs.declared.mending.FeatureChange.{FeatureChange}
use Rattle.mvt_mender.specs.declared.mending.MendedFeature.{MendedFeature}
use Rattle.mvt_mender.specs.declared.mending.WhatChanged.{WhatChanged}
use Rattle.mvt_mender.specs.declared.mending.WhatChanged.TheVariants.{Mended, Dropped}

-- The old numbers draw rings loosely, and the new ones spell rings in their place: those of valid polygons, each of whose
-- vertices is near an old edge. By the profile that checks each polygon by itself the right ones of the old polygons are still
-- there, in order, unless the first ring with an area is a hole. The measures are those of both.
pub record IsMendedGeometry (profile : Profile) (old new : List ℕ) (mended : MendedFeature) : Type 0 where
  pub old_rings : List (List Position)
  pub drawn : DrawLoosely old old_rings
  pub new_rings : List (List Position)
  pub spelled : HasRings (type_number polygon) new new_rings
  pub valid : AreValidRingsBy profile new_rings
  pub near : AreNear old_rings new_rings
  pub kept : profile ≡ Polygon → BeginWithExterior old_rings → AreKept old_rings new_rings
  pub before : AreMeasuresOf old_rings mended.before
  pub after : AreMeasuresOf new_rings mended.after

-- a feature's numbers were exchanged for these; or it was left out, and the caller asked for that
abbrev pub IsChangedTo : Profile → Bool → FeatureRecord → WhatChanged → Option (Vec ℕ Global) → Type 0
IsChangedTo profile drop feature_record (Mended mended) geometry =
    (feature_record.kind ≡ type_number polygon) × ((numbers : Vec ℕ Global) × (geometry ≡ Some numbers) × IsMendedGeometry profile feature_record.geometry numbers.items mended)
IsChangedTo profile drop feature_record Dropped geometry = (drop ≡ true) × (geometry ≡ None)

-- what is told of a feature is what became of it, and a fault was true of it
pub record IsChangeOf (profile : Profile) (drop : Bool) (bytes : List ℕ) (told : FeatureChange) (change : Change) : Type 0 where
  pub layer : change.layer ≡ told.layer
  pub feature : change.feature ≡ told.feature
  pub fault : Fault
  pub shown : ShowsBy profile bytes fault
  pub its : subject_of fault ≡ of_feature told.layer told.feature
  pub layer_record : LayerRecord
  pub feature_record : FeatureRecord
  pub there : IsFeatureIn bytes told.layer told.feature layer_record feature_record
  pub changed : IsChangedTo profile drop feature_record told.what change.geometry
