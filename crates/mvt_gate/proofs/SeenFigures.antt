-- What the first walk has seen, by the rules of any profile.
use Rattle.std.proofs.Common.{ℕ, inl, inr, List}
use Rattle.mvt_fault.specs.declared.fault.Fault.{Fault}
use Rattle.mvt_fault.specs.declared.profile.Profile.{Profile}
use Rattle.mvt_rules.specs.Parts.Geometry.{IsFaultOfGeometryBy}
use Rattle.mvt_rules.specs.Tile.{FeatureRecord, LayerRecord}
use Rattle.mvt_rules.specs.Valid.{IsValidGeometryBy}
use Rattle.mvt_rules.proofs.Validity.ValidParts.{geometry_kept}
use Rattle.mvt_tile.specs.RuleFaults.{Keeps, IsSoundFeature}
use Rattle.mvt_tile.specs.Sound.{AreSoundTo, tells_none}
use Rattle.mvt_tile.specs.declared.seen.Seen.{Seen}

-- a feature with valid geometry has none of its faults
pub geometry_right : (profile : Profile) (it : FeatureRecord) (layer feature : ℕ) → IsValidGeometryBy profile it → ((fault : Fault) → ¬ IsFaultOfGeometryBy profile it layer feature fault) × IsValidGeometryBy profile it
geometry_right profile it layer feature valid = (λ fault broken. geometry_kept profile it layer feature fault valid broken, valid)

module _ (profile : Profile) (IsKept : Keeps) (valid : (it : FeatureRecord) → IsKept it → IsValidGeometryBy profile it) where
  -- a feature with valid geometry has no fault of it
  sound_by : (layer_record : LayerRecord) (it : FeatureRecord) (layer feature : ℕ) → IsSoundFeature tells_none IsKept layer_record it layer feature
      → IsSoundFeature (IsFaultOfGeometryBy profile) (IsValidGeometryBy profile) layer_record it layer feature
  sound_by layer_record it layer feature sound = record {
    faultless = λ fault broken. elim broken [
      | inl of_tags ↦ sound.faultless fault (inl of_tags)
      | inr of_geometry ↦ geometry_kept profile it layer feature fault (valid it sound.kept) of_geometry
    ];
    kept = valid it sound.kept;
  }

  pub seen_sound : (bytes : List ℕ) (seen : Seen) → AreSoundTo tells_none IsKept bytes seen → AreSoundTo (IsFaultOfGeometryBy profile) (IsValidGeometryBy profile) bytes seen
  seen_sound bytes seen sound layer outer part =
      let known = sound layer outer part in
      record {
        whole = λ less layer_record is feature it there. sound_by layer_record it layer feature (known.whole less layer_record is feature it there);
        front = λ beyond feature inner there ends it is layer_record like. sound_by layer_record it layer feature (known.front beyond feature inner there ends it is layer_record like);
      }
