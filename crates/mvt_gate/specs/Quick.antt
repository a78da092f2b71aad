-- The faults that can be found quickly, whatever the tile: the first one; or, where polygons are kept apart and edges of a
-- feature meet wrongly, any meeting of them.
use Rattle.std.specs.Prelude.{ℕ, List}
use Rattle.mvt_rules.specs.Shows.{ShowsBy}
use Rattle.mvt_rules.specs.Parts.Geometry.{IsFaultOfGeometryBy}
use Rattle.mvt_rules.specs.Parts.Rings.{AreAllApart}
use Rattle.mvt_fault.specs.declared.fault.Fault.{Fault}
use Rattle.mvt_fault.specs.declared.fault.Fault.TheVariants.{Meeting}
use Rattle.mvt_fault.specs.declared.profile.Profile.{Profile}
use Rattle.mvt_fault.specs.declared.profile.Profile.TheVariants as profiles
use Rattle.mvt_plane.specs.FeatureGeometry.{HasRings}
use Rattle.mvt_plane.specs.Position.{Position}
use Rattle.mvt_tile.specs.FreeFaults.{IsLeastOr}
use Rattle.mvt_rules.specs.Tile.{FeatureRecord}
use Rattle.mvt_gate.specs.declared.quick.Search.{Search}
use Rattle.mvt_gate.specs.declared.quick.Search.TheVariants.{Least, Quick}

-- no two edges of the feature's rings meet wrongly
abbrev pub HasNoMeeting : FeatureRecord → Type 0
HasNoMeeting feature_record = (rings : List (List Position)) → HasRings feature_record.kind feature_record.geometry rings → AreAllApart rings

-- the fault is a meeting
abbrev pub HasMeetingCode : Fault → Type 0
HasMeetingCode (Meeting layer feature polygon first second x y w) = Unit {0}
HasMeetingCode _ = ⊥

-- where polygons are kept apart, any meeting may be named in place of the first fault
abbrev pub IsFreeBy : Profile → Fault → Type 0
IsFreeBy profiles.Polygon = λ fault. ⊥
IsFreeBy profiles.Feature = HasMeetingCode

-- Of all faults that are true of the bytes, the first; or such a meeting, where no fault that is true is of an earlier layer or
-- feature.
abbrev pub IsQuickFaultBy : Profile → List ℕ → Fault → Type 0
IsQuickFaultBy profile bytes = IsLeastOr (IsFreeBy profile) (ShowsBy profile bytes)

-- By a search

-- the faults that may be named in place of the first one: none, or these
abbrev pub IsFreeFor : Search → Profile → Fault → Type 0
IsFreeFor Least profile = λ fault. ⊥
IsFreeFor Quick profile = IsFreeBy profile

-- of a feature that has these rings, and these ordinals, the fault is the first, or one that may be named in its place
abbrev pub IsFirstOfRingsFor : Search → Profile → List (List Position) → ℕ → ℕ → Fault → Type 0
IsFirstOfRingsFor search profile rings layer feature fault =
    (feature_record : FeatureRecord) → HasRings feature_record.kind feature_record.geometry rings → IsLeastOr (IsFreeFor search profile) (IsFaultOfGeometryBy profile feature_record layer feature) fault
