-- A walk over the layers of a tile that keeps their names, and the first fault of their features.
use Rattle.std.proofs.Common.{◌≡◌, ◌≢◌, ℕ, ◌+◌, List, length, take, Option, Some, None, MatchOption, true, false, is_some, slice_get, refl, sym, ◌∙◌, ap, arith, inl, inr}
use Rattle.std.proofs.lemmas.Option.{slice_get_within}
use Rattle.mvt_wire.specs.Field.{Entry}
use Rattle.mvt_wire.specs.Payload.{Span, span_of, spans_of}
use Rattle.mvt_rules.specs.Tile.{LayerRecord, IsLayer, TileRecord, IsTile}
use Rattle.mvt_wire.specs.Walk.{Walk, IsOver, GivesField}
use Rattle.mvt_rules.proofs.Tiles.PairedLists.{each_there, same_length}
use Rattle.mvt_rules.specs.Parts.TrueFaults.{OneFeatureHas}
use Rattle.mvt_fault.specs.declared.fault.Fault.{Fault}
use Rattle.mvt_tile.specs.FreeFaults.{IsLeastOr}
use Rattle.mvt_tile.specs.RuleFaults.{Breaks, Frees, Keeps, IsFaultOfFeature}
use Rattle.mvt_tile.specs.Calls.FeatureRules.{FindsInLayer, FindsInTile}
use Rattle.mvt_tile.specs.Calls.PassedLayers.{passed, EndsLayers, IsNextLayer, PassesLayers}
use Rattle.mvt_tile.specs.declared.rules.layer_rules.LayerRules.{LayerRules}
use Rattle.mvt_tile.specs.Calls.RuleFaults.{AreAfterTags, IsSummary}
use Rattle.mvt_tile.specs.declared.rules.summary.LayerSummary.{LayerSummary}
use Rattle.mvt_tile.proofs.WireFaults.CleanWalk.{CleanWalk, CleanWalk-other, CleanWalk-more, CleanWalk-next, CleanWalk-over}
use Rattle.mvt_tile.proofs.RuleFaults.FeatureFaults.{IsGoodLayer, first_in_tile, good_tile}
use Rattle.mvt_wire.proofs.Walking.{IsWalking-over}

-- so many layers were passed, of which nothing is required
abbrev pub PassedLayers : List ℕ → Walk → ℕ → Type 0
PassedLayers bytes walk count = CleanWalk (λ ordinal span. Unit {0}) 3 (take (length bytes) bytes) 0 walk count

-- no layer that was passed has a fault of features, or this is the first that they have or a free one
pub record AreScanned (IsFree : Frees) (IsBroken : Breaks) (IsKept : Keeps) (bytes : List ℕ) (found : Option Fault) (walk : Walk) (count : ℕ) : Type 0 where
  pub first : MatchOption found (CleanWalk (IsGoodLayer IsBroken IsKept bytes) 3 (take (length bytes) bytes) 0 walk count) (λ fault. (tile : TileRecord) → IsTile bytes tile → IsLeastOr IsFree (OneFeatureHas (IsFaultOfFeature IsBroken) tile) fault)

-- and the names of the layers are kept
pub record IsTileScan (IsFree : Frees) (IsBroken : Breaks) (IsKept : Keeps) (bytes : List ℕ) (found : Option Fault) (rules : LayerRules) (walk : Walk) (count : ℕ) : Type 0 where
  pub layers : PassedLayers bytes walk count
  pub named : passed rules ≡ count
  pub passes : (tile : TileRecord) → IsTile bytes tile → PassesLayers rules tile
  pub features : AreScanned IsFree IsBroken IsKept bytes found walk count

module _ {IsFree : Frees} {IsBroken : Breaks} {IsKept : Keeps} {bytes : List ℕ} {old new : Walk} {count : ℕ} where
  -- a field that holds no layer
  pub AreScanned-other : (found : Option Fault) → AreScanned IsFree IsBroken IsKept bytes found old count → {entry : Entry} → GivesField old new entry → entry.number ≢ 3 → AreScanned IsFree IsBroken IsKept bytes found new count
  AreScanned-other None so_far given other = record { first = CleanWalk-other so_far.first given other }
  AreScanned-other (Some fault) so_far given other = record { first = so_far.first }

  -- a layer that was checked, unless a fault was found in front of it
  pub AreScanned-next : (before after : Option Fault) → AreScanned IsFree IsBroken IsKept bytes before old count → {entry : Entry} → GivesField old new entry → entry.number ≡ 3
      → (span : Span) → span_of entry.content ≡ Some span → AreAfterTags IsBroken → (is_some before ≡ true → after ≡ before)
      → (is_some before ≡ false → (layer_record : LayerRecord) → IsLayer bytes span layer_record → FindsInLayer IsFree IsBroken IsKept layer_record count after) → AreScanned IsFree IsBroken IsKept bytes after new (count + 1)
  AreScanned-next None None so_far given own span there after_tags kept finds = record { first = CleanWalk-more so_far.first given own span there (finds refl) }
  AreScanned-next None (Some fault) so_far given own span there after_tags kept finds = record {
    first = λ tile is. first_in_tile IsBroken after_tags IsKept bytes tile is IsFree count span fault (CleanWalk-next so_far.first given own span there is.entries is.whole) (finds refl);
  }
  AreScanned-next (Some fault) after so_far given own span there after_tags kept finds = rw (kept refl) (record { first = so_far.first })

  -- after the last
  pub AreScanned-finds : AreAfterTags IsBroken → (found : Option Fault) → IsOver old new → AreScanned IsFree IsBroken IsKept bytes found old count → (tile : TileRecord) → IsTile bytes tile → FindsInTile IsFree IsBroken IsKept tile found
  AreScanned-finds after_tags None over so_far tile is = good_tile IsBroken after_tags IsKept bytes tile is (CleanWalk-over so_far.first over is.entries is.whole)
  AreScanned-finds after_tags (Some fault) over so_far tile is = so_far.first tile is

-- the summary is that of the layer in a span
abbrev pub Summarizes : List ℕ → Span → LayerSummary → Type 0
Summarizes bytes span summary = (layer : LayerRecord) → IsLayer bytes span layer → IsSummary summary layer

module _ {bytes : List ℕ} {old new : Walk} {count : ℕ} (so_far : PassedLayers bytes old count) {rules : LayerRules} (named : passed rules ≡ count) {tile : TileRecord} (is : IsTile bytes tile) where
  -- a layer that is given is the next of the tile
  pub IsNextLayer-given : {entry : Entry} → GivesField old new entry → entry.number ≡ 3 → (span : Span) → span_of entry.content ≡ Some span → {summary : LayerSummary} → Summarizes bytes span summary
      → IsNextLayer rules tile summary.version summary.name.now
  IsNextLayer-given given own span there summarizes =
      let next = CleanWalk-next so_far given own span there is.entries is.whole in
      let layer = each_there (IsLayer bytes) (spans_of 3 is.entries) tile.layers count span is.layers next.here in
      let sum = summarizes layer.0 layer.2 in
      record { layer_record = layer.0; there = ap (slice_get tile.layers) named ∙ layer.1; of_version = sum.version; of_name = sum.name }

  -- after the last field all layers were passed
  pub EndsLayers-over : IsOver old new → PassesLayers rules tile → EndsLayers rules tile
  EndsLayers-over over passes =
      let all = IsWalking-over is.entries so_far.walking is.whole over in
      let size = same_length (IsLayer bytes) (spans_of 3 is.entries) tile.layers is.layers in
      record { layers = passes.layers; end = inr (passes.no_other, omega (arith, named, so_far.counted, size, ap (λ (entries : List Entry). length (spans_of 3 entries)) all)) }

-- no tile of which a layer of another version was met has all its layers passed
pub not_all_passed : (rules : LayerRules) (tile : TileRecord) → rules.other_version ≡ true → EndsLayers rules tile → passed rules ≡ length tile.layers → ⊥
not_all_passed rules tile other ends all = elim ends.end [
  | inl next ↦ let within = slice_get_within tile.layers (passed rules) next.1.layer_record next.1.there in omega arith
  | inr last ↦ let both : true ≡ false = sym other ∙ last.0 in absurd (cc)
]
