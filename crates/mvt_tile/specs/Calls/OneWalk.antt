-- What one walk over a tile has found to be right.
use Rattle.std.specs.Prelude.{◌≡◌, ◌⊎◌, ℕ, ◌+◌, ◌-◌, ◌≤◌, List, length, Some}
use Rattle.mvt_wire.specs.Field.{Entry}
use Rattle.mvt_wire.specs.Payload.{Span, span_of}
use Rattle.mvt_wire.specs.declared.cause.WireCause.{WireCause}
use Rattle.mvt_wire.specs.declared.schema.Message.TheVariants as messages
use Rattle.mvt_wire.specs.declared.scope.Scope.{Scope}
use Rattle.mvt_rules.specs.Parts.TrueFaults.{IsFaultOfLayers}
use Rattle.mvt_rules.specs.Tile.{FeatureRecord, IsFeature, LayerRecord, IsLayer, TileRecord, IsTile}
use Rattle.mvt_rules.specs.Rules.{TagsBreak}
use Rattle.mvt_rules.specs.WireFault.{WireFault}
use Rattle.mvt_fault.specs.declared.fault.Fault.{Fault}
use Rattle.mvt_fault.specs.declared.tag.TagCode.{TagCode}
use Rattle.mvt_tile.specs.RuleFaults.{Keeps, KeepsRules, IsSoundFeature, AllSoundInLayer}
use Rattle.mvt_tile.specs.Sound.{AreSoundBefore, tells_none}
use Rattle.mvt_tile.specs.Enough.{IsLike}
use Rattle.mvt_tile.specs.Calls.Embedded.{HasNone, IsFaultlessLayer}
use Rattle.mvt_tile.specs.Calls.Passed.{ArePartsPassed}
use Rattle.mvt_tile.specs.Calls.PassedLayers.{passed, EndsLayers, IsNextLayer, PassesLayers}
use Rattle.mvt_tile.specs.Calls.RuleFaults.{IsSummary}
use Rattle.mvt_tile.specs.declared.rules.layer_rules.LayerRules.{LayerRules}
use Rattle.mvt_tile.specs.declared.rules.summary.LayerSummary.{LayerSummary}
use Rattle.mvt_tile.specs.declared.rules.tags.TagNeeds.{TagNeeds}
use Rattle.mvt_tile.specs.declared.seen.Seen.{Seen}

-- the tags of a feature have no fault in a layer that has what they need, and at most so many keys and values
abbrev pub HasGoodTags : ℕ → TagNeeds → FeatureRecord → Type 0
HasGoodTags most needs it =
    (layer_record : LayerRecord) → IsLike most most needs layer_record → (code : TagCode) (place : ℕ) → ¬ TagsBreak code (length layer_record.keys) (length layer_record.values) it.tags place

-- the feature in a span keeps a further rule, and its tags have no fault in a layer that has what they need, and at most so many
-- keys and values
abbrev pub PassesFeature : Keeps → List ℕ → ℕ → ℕ → TagNeeds → ℕ → Span → Type 0
PassesFeature IsKept bytes layer most needs ordinal span =
    (it : FeatureRecord) → IsFeature bytes span it → (layer_record : LayerRecord) → IsLike most most needs layer_record → IsSoundFeature tells_none IsKept layer_record it layer ordinal

-- so does each feature of the layer in a span, with tags that have no fault there
abbrev pub PassesLayer : Keeps → List ℕ → ℕ → Span → Type 0
PassesLayer IsKept bytes ordinal span = (layer_record : LayerRecord) → IsLayer bytes span layer_record → AllSoundInLayer tells_none IsKept layer_record ordinal

-- the feature in a span has no wire fault, and passes, whatever its ordinal and that of its layer
pub record IsRightFeature (IsKept : Keeps) (bytes : List ℕ) (most : ℕ) (needs : TagNeeds) (span : Span) : Type 0 where
  pub wire : (ordinal : ℕ) → HasNone messages.Feature bytes ordinal span
  pub passes : (layer ordinal : ℕ) → PassesFeature IsKept bytes layer most needs ordinal span

-- a field of a layer, if it is a value, holds one without wire fault; if a feature, one that is right
pub record PassesField (IsKept : Keeps) (bytes : List ℕ) (most : ℕ) (needs : TagNeeds) (entry : Entry) : Type 0 where
  pub value : entry.number ≡ 4 → (span : Span) × (span_of entry.content ≡ Some span) × ((ordinal : ℕ) → HasNone messages.Value bytes ordinal span)
  pub feature : entry.number ≡ 2 → (span : Span) × (span_of entry.content ≡ Some span) × IsRightFeature IsKept bytes most needs span

-- the layer in a span is right, whatever its ordinal, and this is its summary
pub record IsRightLayer (IsKept : Keeps) (bytes : List ℕ) (span : Span) (summary : LayerSummary) : Type 0 where
  pub wire : (ordinal : ℕ) → IsFaultlessLayer bytes ordinal span
  pub summed : (layer_record : LayerRecord) → IsLayer bytes span layer_record → IsSummary summary layer_record
  pub passes : (ordinal : ℕ) → PassesLayer IsKept bytes ordinal span

-- in the layer in a span nothing is wrong with values and features in front of a place in it
pub record IsSeenIn (IsKept : Keeps) (bytes : List ℕ) (seen : Seen) (span : Span) : Type 0 where
  pub begun : span.from ≤ seen.to
  pub inside : seen.to ≤ span.to
  pub passed : ArePartsPassed bytes seen.to span
  pub sound : (layer : ℕ) → AreSoundBefore tells_none IsKept bytes (span.to - span.from) (span.to - span.from) seen layer span

-- a tile has no wire fault, and keeps the rules if its layers do, which were passed
pub record IsRightTile (IsKept : Keeps) (bytes : List ℕ) (rules : LayerRules) : Type 0 where
  pub wire : (scope : Scope) (cause : WireCause) → ¬ WireFault bytes scope cause
  pub keeps : ((tile : TileRecord) → EndsLayers rules tile → (fault : Fault) → ¬ IsFaultOfLayers tile fault) → (tile : TileRecord) → IsTile bytes tile → KeepsRules IsKept tile

-- the layer in a span is right, and kept as the next one of a tile
pub record PassesAsNext (IsKept : Keeps) (bytes : List ℕ) (span : Span) (old new : LayerRules) : Type 0 where
  pub wire : (ordinal : ℕ) → IsFaultlessLayer bytes ordinal span
  pub passes : (ordinal : ℕ) → PassesLayer IsKept bytes ordinal span
  pub one : passed new ≡ passed old + 1
  pub kept : (tile : TileRecord) → PassesLayers old tile
      → ((summary : LayerSummary) → ((layer_record : LayerRecord) → IsLayer bytes span layer_record → IsSummary summary layer_record) → IsNextLayer old tile summary.version summary.name.now) → PassesLayers new tile

-- the walk ends in the layer in a span; or the layer is right, and it ends after it, where the layer's field ends
abbrev pub EndsAtLayer : Keeps → List ℕ → Span → ℕ → Seen → Type 0
EndsAtLayer IsKept bytes span end seen =
    IsSeenIn IsKept bytes seen span ⊎ ((seen.to ≡ end + 1) × ((ordinal : ℕ) → IsFaultlessLayer bytes ordinal span) × ((ordinal : ℕ) → PassesLayer IsKept bytes ordinal span))
