-- Features that have faults, as they stand in the bytes of a tile.
use Rattle.std.specs.Prelude.{◌≡◌, ◌≢◌, ℕ, ◌<◌, ◌≤◌, ◌⊎◌, List, length, slice_get, Some}
use Rattle.mvt_rules.specs.Shows.{IsFeatureIn}
use Rattle.mvt_fault.specs.declared.fault.Fault.{Fault}
use Rattle.mvt_fault.specs.declared.fault.Fault.TheVariants.{Wire, Version, Name, Tag, Command, Ring, Meeting, Outside, HoleInHole, InPolygon}
use Rattle.mvt_gate.specs.FaultList.{of_feature, subject_of}
use Rattle.mvt_plane.specs.Commands.Figure.{polygon}
use Rattle.mvt_plane.specs.FeatureGeometry.{type_number}
use Rattle.mvt_tile.specs.FeatureBytes.{Encodes}
use Rattle.mvt_tile.specs.declared.feature_bytes.FeatureBytes.{FeatureBytes}
use Rattle.mvt_rules.specs.Tile.{FeatureRecord, LayerRecord}
use Rattle.mvt_mender.specs.Mendable.{MayDrawRings}
use Rattle.mvt_mender.specs.declared.place.FeaturePlace.{FeaturePlace}

-- the fault may be one that is mended, by its cause alone
abbrev pub MayBeMended : Fault → Type 0
MayBeMended (Wire code scope at field) = ⊥
MayBeMended (Version layer) = ⊥
MayBeMended (Name first second) = ⊥
MayBeMended (Tag code layer feature index) = ⊥
MayBeMended (Command code layer feature index) = MayDrawRings code
MayBeMended (Ring code layer feature ring) = Unit {0}
MayBeMended (Meeting layer feature number first second x y w) = Unit {0}
MayBeMended (Outside layer feature number ring vertex) = Unit {0}
MayBeMended (HoleInHole layer feature number ring vertex other) = Unit {0}
MayBeMended (InPolygon layer feature number vertex other) = Unit {0}

-- the fault is of the feature at this place
abbrev pub IsOfPlace : FeaturePlace → Fault → Type 0
IsOfPlace place fault = subject_of fault ≡ of_feature place.layer place.feature

-- these are the places of the first faults, up to one that isn't mended whatever its feature is
pub record ArePlacesOf (faults : List Fault) (places : List FeaturePlace) : Type 0 where
  pub few : length places ≤ length faults
  pub each : (at : ℕ) (place : FeaturePlace) → slice_get places at ≡ Some place → (fault : Fault) × (slice_get faults at ≡ Some fault) × MayBeMended fault × IsOfPlace place fault
  pub stop : (fault : Fault) → slice_get faults (length places) ≡ Some fault → ¬ MayBeMended fault

-- the place is before the feature of these ordinals
abbrev pub IsInFront : FeaturePlace → ℕ → ℕ → Type 0
IsInFront place layer feature = (place.layer < layer) ⊎ ((place.layer ≡ layer) × (place.feature < feature))

-- the places are in order, none twice
abbrev pub AreInTurn : List FeaturePlace → Type 0
AreInTurn places = (at later : ℕ) (place other : FeaturePlace) → at < later → slice_get places at ≡ Some place → slice_get places later ≡ Some other
    → IsInFront place other.layer other.feature

-- these bytes of a feature stand at the place in a tile's bytes
pub record StandsAt (bytes : List ℕ) (place : FeaturePlace) (feature : FeatureBytes) : Type 0 where
  pub layer_record : LayerRecord
  pub feature_record : FeatureRecord
  pub there : IsFeatureIn bytes place.layer place.feature layer_record feature_record
  pub encodes : Encodes feature feature_record

-- at each place stands a feature
abbrev pub HaveFeatures : List ℕ → List FeaturePlace → Type 0
HaveFeatures bytes places = (at : ℕ) (place : FeaturePlace) → slice_get places at ≡ Some place → (layer_record : LayerRecord) × (feature_record : FeatureRecord) × IsFeatureIn bytes place.layer place.feature layer_record feature_record

-- the features at the first of these places, and those that are left aren't in front of the feature of these ordinals
pub record AreFoundTo (bytes : List ℕ) (places : List FeaturePlace) (layer feature : ℕ) (found : List FeatureBytes) : Type 0 where
  pub each : (at : ℕ) (it : FeatureBytes) → slice_get found at ≡ Some it → (place : FeaturePlace) × (slice_get places at ≡ Some place) × StandsAt bytes place it
  pub left : (at : ℕ) (place : FeaturePlace) → length found ≤ at → slice_get places at ≡ Some place → ¬ IsInFront place layer feature

-- the features at all of them
pub record AreAllFound (bytes : List ℕ) (places : List FeaturePlace) (found : List FeatureBytes) : Type 0 where
  pub count : length found ≡ length places
  pub each : (at : ℕ) (it : FeatureBytes) → slice_get found at ≡ Some it → (place : FeaturePlace) × (slice_get places at ≡ Some place) × StandsAt bytes place it

-- each is of the type of polygons
abbrev pub AreOfPolygons : List FeatureBytes → Type 0
AreOfPolygons features = (at : ℕ) (it : FeatureBytes) (feature_record : FeatureRecord) → slice_get features at ≡ Some it → Encodes it feature_record → feature_record.kind ≡ type_number polygon

-- of the faults of these features, the first whose feature is of another type, or else the first after them
pub record IsFirstOther (faults : List Fault) (features : List FeatureBytes) (fault : Fault) : Type 0 where
  pub at : ℕ
  pub here : slice_get faults at ≡ Some fault
  pub before : (earlier : ℕ) (it : FeatureBytes) (feature_record : FeatureRecord) → earlier < at → slice_get features earlier ≡ Some it → Encodes it feature_record → feature_record.kind ≡ type_number polygon
  pub other : (it : FeatureBytes) (feature_record : FeatureRecord) → slice_get features at ≡ Some it → Encodes it feature_record → feature_record.kind ≢ type_number polygon
  pub within : at ≤ length features
