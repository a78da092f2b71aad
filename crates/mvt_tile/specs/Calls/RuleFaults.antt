-- What is kept of a layer, to search for the first fault of its tags.
use Rattle.std.specs.Prelude.{◌≡◌, ℕ, ◌<◌, ◌≤◌, ◌⊎◌, List, length, Option, MatchOption}
use Rattle.mvt_fault.specs.Code.{tag_code}
use Rattle.mvt_fault.specs.Place.{place_of}
use Rattle.mvt_rules.specs.Rules.{TagsBreak}
use Rattle.mvt_fault.specs.declared.fault.Fault.{Fault}
use Rattle.mvt_fault.specs.declared.tag.TagCode.{TagCode}
use Rattle.mvt_rules.specs.Tile.{FeatureRecord, LayerRecord}
use Rattle.mvt_tile.specs.RuleFaults.{Breaks, IsAfterTags}
use Rattle.mvt_tile.specs.declared.rules.summary.LayerSummary.{LayerSummary}

-- what the layer has, as far as the rules need it
pub record IsSummary (summary : LayerSummary) (layer : LayerRecord) : Type 0 where
  pub version : summary.version ≡ layer.version
  pub name : summary.name.now ≡ layer.name
  pub keys : summary.keys ≡ length layer.keys
  pub values : summary.values ≡ length layer.values

-- of the faults of tags, the one at the first place, and there the one of least code
pub record IsFirstTagFault (keys values : ℕ) (tags : List ℕ) (code : TagCode) (place : ℕ) : Type 0 where
  pub broken : TagsBreak code keys values tags place
  pub first : (other : TagCode) (other_place : ℕ) → TagsBreak other keys values tags other_place
      → (place < other_place) ⊎ ((place ≡ other_place) × (tag_code code ≤ tag_code other))

-- that one is found, or none where there is none
abbrev pub FindsFirstTagFault : ℕ → ℕ → List ℕ → Option (TagCode × ℕ) → Type 0
FindsFirstTagFault keys values tags found = MatchOption found ((code : TagCode) (place : ℕ) → ¬ TagsBreak code keys values tags place) (λ fault. IsFirstTagFault keys values tags fault.0 fault.1)

-- the places of a further rule's faults are such places
abbrev pub AreAfterTags : Breaks → Type 0
AreAfterTags IsBroken = (feature_record : FeatureRecord) (layer feature : ℕ) (fault : Fault) → IsBroken feature_record layer feature fault → IsAfterTags layer feature (place_of fault)
