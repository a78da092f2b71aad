-- Walks over a layer and over a tile that gather the first fault of each feature.
use Rattle.std.proofs.Common.{◌≡◌, ℕ, ◌+◌, ◌≤◌, List, [], ◌∷◌, ◌++◌, length, take, Option, Some, None, slice_get, inl, inr, refl, sym, ◌∙◌, ap, subst}
use Rattle.std.proofs.lemmas.List.{append-nil}
use Rattle.mvt_wire.specs.Field.{Entry}
use Rattle.mvt_wire.specs.Payload.{Span, span_of, spans_of}
use Rattle.mvt_rules.specs.Tile.{FeatureRecord, IsFeature, LayerRecord, IsLayer, TileRecord, IsTile}
use Rattle.mvt_wire.specs.Walk.{Walk, IsOver, GivesField}
use Rattle.mvt_wire.proofs.Parts.EmbeddedSpans.{slice_get-push}
use Rattle.mvt_rules.proofs.Tiles.PairedLists.{each_there, same_length}
use Rattle.mvt_wire.proofs.Walking.{IsWalking, IsWalking-over}
use Rattle.mvt_fault.specs.declared.fault.Fault.{Fault}
use Rattle.mvt_tile.specs.RuleFaults.{Breaks, Frees, Keeps}
use Rattle.mvt_tile.specs.Calls.FeatureRules.{FindsInFeature}
use Rattle.mvt_tile.specs.Calls.Gathered.{AreGatheredTo}
use Rattle.mvt_tile.specs.Calls.Reading.{GivesSummary}
use Rattle.mvt_tile.specs.Calls.RuleFaults.{AreAfterTags, IsSummary}
use Rattle.mvt_tile.specs.Enough.{IsLike}
use Rattle.mvt_tile.specs.declared.rules.summary.LayerSummary.{LayerSummary}
use Rattle.mvt_tile.specs.declared.rules.tags.TagNeeds.{TagNeeds}
use Rattle.mvt_tile.proofs.RuleFaults.FeatureScan.{fewer}
use Rattle.mvt_tile.proofs.RuleFaults.Gathered.{gathered_kept, gathered_pushed, gathered_layer}
use Rattle.mvt_tile.proofs.RuleFaults.TileScan.{PassedLayers, Summarizes}
use Rattle.mvt_tile.proofs.WireFaults.CleanWalk.{CleanWalk, CleanWalk-next}

-- so many features were passed, of which nothing is required
abbrev pub PassedFeatures : List ℕ → Span → Walk → ℕ → Type 0
PassedFeatures bytes span walk count = CleanWalk (λ ordinal inner. Unit {0}) 2 (take span.to bytes) span.from walk count

-- a list with what was found
abbrev pub with_found : List Fault → Option Fault → List Fault
with_found faults None = faults
with_found faults (Some fault) = faults ++ fault ∷ []

-- it is the list, with more after it
pub with_found-more : (faults : List Fault) (found : Option Fault) → (more : List Fault) × (with_found faults found ≡ faults ++ more)
with_found-more faults None = ([], sym (append-nil faults))
with_found-more faults (Some fault) = (fault ∷ [], refl)

-- the faults are gathered of the features in front of this one, in each layer of which so much is known, where they are of the layers in front of it
abbrev pub Gathers : Frees → Breaks → Keeps → List ℕ → Span → ℕ → ℕ → ℕ → List Fault → TagNeeds → List Fault → ℕ → Type 0
Gathers IsFree IsBroken IsKept bytes span layer keys values before needs faults count =
    (tile : TileRecord) (layer_record : LayerRecord) → slice_get tile.layers layer ≡ Some layer_record → IsLayer bytes span layer_record → IsLike keys values needs layer_record
    → AreGatheredTo IsFree IsBroken IsKept tile layer 0 before → AreGatheredTo IsFree IsBroken IsKept tile layer count faults

-- the fields that were passed, their content, and what was added
pub record IsGatherScan (IsFree : Frees) (IsBroken : Breaks) (IsKept : Keeps) (bytes : List ℕ) (span : Span) (layer keys values : ℕ) (before : List Fault) (summary : LayerSummary) (needs : TagNeeds) (faults : List Fault) (walk : Walk) (count : ℕ) : Type 0 where
  pub entries : List Entry
  pub walking : IsWalking (take span.to bytes) span.from walk entries
  pub gives : GivesSummary entries summary
  pub features : PassedFeatures bytes span walk count
  pub own : List Fault
  pub added : faults ≡ before ++ own
  pub gathers : Gathers IsFree IsBroken IsKept bytes span layer keys values before needs faults count
  pub few : count ≤ walk.at

module _ (IsFree : Frees) (IsBroken : Breaks) (IsKept : Keeps) (after_tags : AreAfterTags IsBroken) (bytes : List ℕ) (outer : Span) (layer keys values : ℕ) (before : List Fault) {old new : Walk} {count : ℕ} (so_far : PassedFeatures bytes outer old count) where
  -- one more feature was checked
  module _ {entry : Entry} (given : GivesField old new entry) (own : entry.number ≡ 2) (span : Span) (there : span_of entry.content ≡ Some span)
      (fewest needs : TagNeeds) (more_keys : fewest.keys ≤ needs.keys) (more_values : fewest.values ≤ needs.values) (Reads : FeatureRecord → Type 0) (reads : (it : FeatureRecord) → IsFeature bytes span it → Reads it)
      (faults : List Fault) (gathers : Gathers IsFree IsBroken IsKept bytes outer layer keys values before fewest faults count) where
    its : (layer_record : LayerRecord) → IsLayer bytes outer layer_record → (it : FeatureRecord) × (slice_get layer_record.features count ≡ Some it) × IsFeature bytes span it
    its layer_record is =
        let next = CleanWalk-next so_far given own span there is.entries is.whole in
        each_there (IsFeature bytes) (spans_of 2 is.entries) layer_record.features count span is.features next.here

    pub Gathers-more : (found : Option Fault) → ((layer_record : LayerRecord) (it : FeatureRecord) → Reads it → IsLike keys values needs layer_record → FindsInFeature IsFree IsBroken IsKept layer_record it layer count found)
        → (longer : List Fault) → longer ≡ with_found faults found → Gathers IsFree IsBroken IsKept bytes outer layer keys values before needs longer (count + 1)
    Gathers-more None finds longer same = λ tile layer_record in_tile is like in_front.
        let it = its layer_record is in
        let old_faults = gathers tile layer_record in_tile is (fewer fewest needs more_keys more_values layer_record like) in_front in
        subst (AreGatheredTo IsFree IsBroken IsKept tile layer (count + 1)) (sym same)
        (gathered_kept IsFree IsBroken IsKept tile layer count layer_record it.0 (record { in_tile = in_tile; in_layer = it.1 }) faults old_faults (finds layer_record it.0 (reads it.0 it.2) like))
    Gathers-more (Some fault) finds longer same = λ tile layer_record in_tile is like in_front.
        let it = its layer_record is in
        let old_faults = gathers tile layer_record in_tile is (fewer fewest needs more_keys more_values layer_record like) in_front in
        subst (AreGatheredTo IsFree IsBroken IsKept tile layer (count + 1)) (sym same)
        (gathered_pushed IsFree IsBroken IsKept tile layer count layer_record it.0 (record { in_tile = in_tile; in_layer = it.1 }) faults old_faults after_tags fault (finds layer_record it.0 (reads it.0 it.2) like))

  -- all were
  pub Gathers-all : IsOver old new → (needs : TagNeeds) (faults : List Fault) → Gathers IsFree IsBroken IsKept bytes outer layer keys values before needs faults count
      → (tile : TileRecord) (layer_record : LayerRecord) → slice_get tile.layers layer ≡ Some layer_record → IsLayer bytes outer layer_record → IsLike keys values needs layer_record
      → AreGatheredTo IsFree IsBroken IsKept tile layer 0 before → AreGatheredTo IsFree IsBroken IsKept tile (layer + 1) 0 faults
  Gathers-all over needs faults gathers tile layer_record in_tile is like in_front =
      let all = IsWalking-over is.entries so_far.walking is.whole over in
      let size = same_length (IsFeature bytes) (spans_of 2 is.entries) layer_record.features is.features in
      let count_is : count ≡ length layer_record.features = so_far.counted ∙ ap (λ (entries : List Entry). length (spans_of 2 entries)) all ∙ size in
      gathered_layer IsFree IsBroken IsKept tile layer layer_record in_tile faults
      (subst (λ (n : ℕ). AreGatheredTo IsFree IsBroken IsKept tile layer n faults) count_is (gathers tile layer_record in_tile is like in_front))

-- the layers that were passed, their summaries, and the faults of their features
pub record IsTileGather (IsFree : Frees) (IsBroken : Breaks) (IsKept : Keeps) (bytes : List ℕ) (layers : List LayerSummary) (faults : List Fault) (walk : Walk) (count : ℕ) : Type 0 where
  pub passed : PassedLayers bytes walk count
  pub size : length layers ≡ count
  pub each : (tile : TileRecord) → IsTile bytes tile → (layer : ℕ) (summary : LayerSummary) → slice_get layers layer ≡ Some summary
      → (layer_record : LayerRecord) × (slice_get tile.layers layer ≡ Some layer_record) × IsSummary summary layer_record
  pub gathered : (tile : TileRecord) → IsTile bytes tile → AreGatheredTo IsFree IsBroken IsKept tile count 0 faults

module _ {bytes : List ℕ} {old new : Walk} {count : ℕ} (so_far : PassedLayers bytes old count) where
  module _ {entry : Entry} (given : GivesField old new entry) (own : entry.number ≡ 3) (span : Span) (there : span_of entry.content ≡ Some span) where
    -- the layer in a span is the next of the tile
    pub next_layer : (tile : TileRecord) → IsTile bytes tile → (layer_record : LayerRecord) × (slice_get tile.layers count ≡ Some layer_record) × IsLayer bytes span layer_record
    next_layer tile is =
        let next = CleanWalk-next so_far given own span there is.entries is.whole in
        each_there (IsLayer bytes) (spans_of 3 is.entries) tile.layers count span is.layers next.here

    -- and so is its summary
    pub next_summary : (layers longer : List LayerSummary) (summary : LayerSummary) → length layers ≡ count → Summarizes bytes span summary → longer ≡ layers ++ summary ∷ []
        → (tile : TileRecord) → IsTile bytes tile
        → ((layer : ℕ) (it : LayerSummary) → slice_get layers layer ≡ Some it → (layer_record : LayerRecord) × (slice_get tile.layers layer ≡ Some layer_record) × IsSummary it layer_record)
        → (layer : ℕ) (it : LayerSummary) → slice_get longer layer ≡ Some it → (layer_record : LayerRecord) × (slice_get tile.layers layer ≡ Some layer_record) × IsSummary it layer_record
    next_summary layers longer summary size summarizes more tile is each layer it held =
        elim (slice_get-push layers summary layer it (ap (λ (list : List LayerSummary). slice_get list layer) (sym more) ∙ held)) [
          | inl here ↦ each layer it here
          | inr last ↦
              let next = next_layer tile is in
              let place : layer ≡ count = last.0 ∙ size in
              (next.0, ap (slice_get tile.layers) place ∙ next.1, subst (λ (summary : LayerSummary). IsSummary summary next.0) (sym last.1) (summarizes next.0 next.2))
        ]

  -- after the last field all layers were passed
  pub all_layers : IsOver old new → (tile : TileRecord) → IsTile bytes tile → count ≡ length tile.layers
  all_layers over tile is =
      let all = IsWalking-over is.entries so_far.walking is.whole over in
      so_far.counted ∙ ap (λ (entries : List Entry). length (spans_of 3 entries)) all ∙ same_length (IsLayer bytes) (spans_of 3 is.entries) tile.layers is.layers
