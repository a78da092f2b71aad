-- The list of a tile's faults: one of each layer and of each feature that has any, its first, or one that is found quickly.
use Rattle.std.specs.Prelude.{◌≡◌, ◌⊎◌, ℕ, List, Some, slice_get}
use Rattle.mvt_rules.specs.Shows.{IsFeatureIn, ShowsBy}
use Rattle.mvt_fault.specs.Place.{ComesFirst, place_of}
use Rattle.mvt_fault.specs.declared.fault.Fault.{Fault}
use Rattle.mvt_fault.specs.declared.fault.Fault.TheVariants.{Wire, Version, Name, Tag, Command, Ring, Meeting, Outside, HoleInHole, InPolygon}
use Rattle.mvt_fault.specs.declared.profile.Profile.{Profile}
use Rattle.mvt_tile.specs.FirstFaults.{AreFaultsInOrder, OneOf}
use Rattle.mvt_rules.specs.Tile.{FeatureRecord, LayerRecord}
use Rattle.mvt_gate.specs.Quick.{HasNoMeeting, IsFreeBy}
use Rattle.mvt_gate.specs.declared.quick.Search.{Search}
use Rattle.mvt_gate.specs.declared.quick.Search.TheVariants.{Least, Quick}

-- what a fault is of: the bytes, which are no tile; the version or the name of a layer; or a feature of a layer
pub data Subject : Type 0 where
  of_bytes : Subject
  of_layer : ℕ → Subject
  of_feature : ℕ → ℕ → Subject

-- Two layers of one name are a fault of the second.
abbrev pub subject_of : Fault → Subject
subject_of (Wire code scope at field) = of_bytes
subject_of (Version layer) = of_layer layer
subject_of (Name first second) = of_layer second
subject_of (Tag code layer feature index) = of_feature layer feature
subject_of (Command code layer feature index) = of_feature layer feature
subject_of (Ring code layer feature ring) = of_feature layer feature
subject_of (Meeting layer feature polygon first second x y w) = of_feature layer feature
subject_of (Outside layer feature polygon ring vertex) = of_feature layer feature
subject_of (HoleInHole layer feature polygon ring vertex other) = of_feature layer feature
subject_of (InPolygon layer feature polygon vertex other) = of_feature layer feature

-- of all faults of a kind with the same subject, one with the least place
pub record IsFirstOfItsSubject (Holds : Fault → Type 0) (fault : Fault) : Type 0 where
  pub holds : Holds fault
  pub least : (other : Fault) → Holds other → subject_of other ≡ subject_of fault → ComesFirst (place_of fault) (place_of other)

-- no edges of a feature of the bytes meet wrongly, if the subject is one
abbrev pub HasNoMeetingIn : List ℕ → Subject → Type 0
HasNoMeetingIn bytes subject =
    (layer feature : ℕ) (layer_record : LayerRecord) (feature_record : FeatureRecord) → subject ≡ of_feature layer feature → IsFeatureIn bytes layer feature layer_record feature_record → HasNoMeeting feature_record

-- the fault that a search lists of a subject: its first; or, quickly, its first or any meeting
abbrev pub IsListedFor : Search → Profile → List ℕ → Fault → Type 0
IsListedFor Least profile bytes fault = IsFirstOfItsSubject (ShowsBy profile bytes) fault
IsListedFor Quick profile bytes fault = IsFirstOfItsSubject (ShowsBy profile bytes) fault ⊎ (IsFreeBy profile fault × ShowsBy profile bytes fault)

-- Each fault of the list is the one that is searched for of its subject; the subject of each fault that is true of the bytes has
-- one in the list; and they are in the order of layers and features, none of which has two.
pub record AreFaultsFor (search : Search) (profile : Profile) (bytes : List ℕ) (faults : List Fault) : Type 0 where
  pub each : (at : ℕ) (fault : Fault) → slice_get faults at ≡ Some fault → IsListedFor search profile bytes fault
  pub every : (fault : Fault) → ShowsBy profile bytes fault → OneOf faults (λ first. subject_of first ≡ subject_of fault)
  pub in_order : AreFaultsInOrder faults
