-- A walk over a layer that checks its features before all its keys and values were counted.
use Rattle.std.proofs.Common.{◌≡◌, ◌≢◌, ℕ, ◌+◌, ◌-◌, ◌≤◌, true, false, is_some, inl, inr, List, take, Option, Some, None, MatchOption, arith}
use Rattle.mvt_wire.specs.Field.{Entry}
use Rattle.mvt_wire.specs.Payload.{Span, span_of}
use Rattle.mvt_rules.specs.Tile.{FeatureRecord, IsFeature, LayerRecord, IsLayer}
use Rattle.mvt_wire.specs.Walk.{Walk, IsOver, GivesField}
use Rattle.mvt_wire.proofs.Walking.{IsWalking}
use Rattle.mvt_fault.specs.declared.fault.Fault.{Fault}
use Rattle.mvt_tile.specs.FreeFaults.{IsLeastOr}
use Rattle.mvt_tile.specs.RuleFaults.{Breaks, Frees, Keeps}
use Rattle.mvt_tile.specs.Calls.FeatureRules.{IsFaultInLayer, FindsInFeature, FindsInLayer}
use Rattle.mvt_tile.specs.Calls.Reading.{GivesSummary}
use Rattle.mvt_tile.specs.Calls.RuleFaults.{AreAfterTags, IsSummary}
use Rattle.mvt_tile.specs.Enough.{IsLike}
use Rattle.mvt_tile.specs.declared.rules.summary.LayerSummary.{LayerSummary}
use Rattle.mvt_tile.specs.declared.rules.tags.TagNeeds.{TagNeeds}
use Rattle.mvt_tile.proofs.WireFaults.CleanWalk.{CleanWalk, CleanWalk-weaker, CleanWalk-other, CleanWalk-more, CleanWalk-next, CleanWalk-over}
use Rattle.mvt_tile.proofs.RuleFaults.FeatureFaults.{IsGoodFeature, good_layer, first_in_layer}
use Rattle.mvt_tile.proofs.RuleFaults.SummaryReading.{few_parts}

-- what is good in front of a feature
abbrev Good : Breaks → Keeps → List ℕ → ℕ → ℕ → ℕ → TagNeeds → ℕ → Span → Type 0
Good IsBroken IsKept bytes layer keys values needs = IsGoodFeature IsBroken IsKept bytes (IsLike keys values needs) layer

-- what is known after the fields so far: the features have no fault, or this is the first that they have or a free one
pub record IsScanned (IsFree : Frees) (IsBroken : Breaks) (IsKept : Keeps) (bytes : List ℕ) (span : Span) (layer keys values : ℕ) (needs : TagNeeds) (found : Option Fault) (walk : Walk) (count : ℕ) : Type 0 where
  pub first : MatchOption found (CleanWalk (Good IsBroken IsKept bytes layer keys values needs) 2 (take span.to bytes) span.from walk count)
      (λ fault. (layer_record : LayerRecord) → IsLayer bytes span layer_record → IsLike keys values needs layer_record → IsLeastOr IsFree (IsFaultInLayer IsBroken layer_record layer) fault)

-- a layer is like those that are like it by more needs
pub fewer : {keys values : ℕ} (before needs : TagNeeds) → before.keys ≤ needs.keys → before.values ≤ needs.values → (layer_record : LayerRecord) → IsLike keys values needs layer_record → IsLike keys values before layer_record
fewer before needs more_keys more_values layer_record (inl same) = inl same
fewer before needs more_keys more_values layer_record (inr enough) =
    inr (record { keys = omega (arith, enough.0.keys); values = omega (arith, enough.0.values) }, omega (arith, enough.1), omega (arith, enough.2))

-- what is good in layers that are like it by fewer needs is so by more
grown : {IsBroken : Breaks} {IsKept : Keeps} {bytes : List ℕ} {layer keys values : ℕ} (before needs : TagNeeds) → before.keys ≤ needs.keys → before.values ≤ needs.values → {message : List ℕ} {from : ℕ} {walk : Walk} {count : ℕ}
    → CleanWalk (Good IsBroken IsKept bytes layer keys values before) 2 message from walk count → CleanWalk (Good IsBroken IsKept bytes layer keys values needs) 2 message from walk count
grown {IsBroken} {IsKept} {bytes} {layer} {keys} {values} before needs more_keys more_values = CleanWalk-weaker (Good IsBroken IsKept bytes layer keys values needs) (λ ordinal other good it stands layer_record like.
    good it stands layer_record (fewer before needs more_keys more_values layer_record like))

module _ {IsFree : Frees} {IsBroken : Breaks} {IsKept : Keeps} {bytes : List ℕ} {outer : Span} {layer keys values : ℕ} where
  -- a field that holds no feature
  pub IsScanned-other : (found : Option Fault) {needs : TagNeeds} {old new : Walk} {count : ℕ} → IsScanned IsFree IsBroken IsKept bytes outer layer keys values needs found old count
      → {entry : Entry} → GivesField old new entry → entry.number ≢ 2 → IsScanned IsFree IsBroken IsKept bytes outer layer keys values needs found new count
  IsScanned-other None so_far given other = record { first = CleanWalk-other so_far.first given other }
  IsScanned-other (Some fault) so_far given other = record { first = so_far.first }

  -- a feature that was checked, by what the tags need that were seen by then
  module _ {old new : Walk} {count : ℕ} {before : TagNeeds} (so_far : CleanWalk (Good IsBroken IsKept bytes layer keys values before) 2 (take outer.to bytes) outer.from old count) {entry : Entry} (given : GivesField old new entry)
      (own : entry.number ≡ 2) (span : Span) (there : span_of entry.content ≡ Some span) (needs : TagNeeds) (more_keys : before.keys ≤ needs.keys) (more_values : before.values ≤ needs.values) where
    pub IsScanned-more : AreAfterTags IsBroken → (Reads : FeatureRecord → Type 0) → ((it : FeatureRecord) → IsFeature bytes span it → Reads it)
        → (found : Option Fault) → ((layer_record : LayerRecord) (it : FeatureRecord) → Reads it → IsLike keys values needs layer_record → FindsInFeature IsFree IsBroken IsKept layer_record it layer count found)
        → IsScanned IsFree IsBroken IsKept bytes outer layer keys values needs found new (count + 1)
    IsScanned-more after_tags Reads reads None finds = record { first = CleanWalk-more (grown before needs more_keys more_values so_far) given own span there (λ it is layer_record like. finds layer_record it (reads it is) like) }
    IsScanned-more after_tags Reads reads (Some fault) finds = record {
      first = λ layer_record is like.
          first_in_layer IsBroken after_tags IsKept bytes outer layer_record is layer (IsLike keys values needs) like IsFree count span fault
          (CleanWalk-next (grown before needs more_keys more_values so_far) given own span there is.entries is.whole) (λ it stands other known. finds other it (reads it stands) known);
    }

  -- after the last field
  pub IsScanned-finds : AreAfterTags IsBroken → (found : Option Fault) {needs : TagNeeds} {old new : Walk} {count : ℕ} → IsOver old new → IsScanned IsFree IsBroken IsKept bytes outer layer keys values needs found old count
      → (layer_record : LayerRecord) → IsLayer bytes outer layer_record → IsLike keys values needs layer_record → FindsInLayer IsFree IsBroken IsKept layer_record layer found
  IsScanned-finds after_tags None {needs} over so_far layer_record is like =
      good_layer IsBroken after_tags IsKept bytes outer layer_record is layer (IsLike keys values needs) like (CleanWalk-over so_far.first over is.entries is.whole)
  IsScanned-finds after_tags (Some fault) over so_far layer_record is like = so_far.first layer_record is like

-- the fields that were passed, their content, and what was found of the features, unless a fault was found before
pub record IsLayerScan (IsFree : Frees) (IsBroken : Breaks) (IsKept : Keeps) (bytes : List ℕ) (span : Span) (layer keys values : ℕ) (before : Option Fault) (summary : LayerSummary) (needs : TagNeeds) (found : Option Fault) (walk : Walk) (count : ℕ) : Type 0 where
  pub entries : List Entry
  pub walking : IsWalking (take span.to bytes) span.from walk entries
  pub gives : GivesSummary entries summary
  pub kept : is_some before ≡ true → found ≡ before
  pub features : is_some before ≡ false → IsScanned IsFree IsBroken IsKept bytes span layer keys values needs found walk count
  pub few : count ≤ walk.at

-- a layer that was counted, and has what the tags need, is like one with as many keys and values as it has bytes
pub IsLike-counted : (bytes : List ℕ) (from to : ℕ) {needs : TagNeeds} {summary : LayerSummary} (layer_record : LayerRecord) → from ≤ to → IsLayer bytes (record { from = from; to = to }) layer_record
    → needs.keys ≤ summary.keys → needs.values ≤ summary.values → IsSummary summary layer_record → IsLike (to - from) (to - from) needs layer_record
IsLike-counted bytes from to layer_record forward is keys values sum =
    let few = few_parts bytes from to layer_record is forward in
    inr (record { keys = omega (arith, keys, sum.keys); values = omega (arith, values, sum.values) }, omega (arith, keys, sum.keys, few.0), omega (arith, values, sum.values, few.1))
