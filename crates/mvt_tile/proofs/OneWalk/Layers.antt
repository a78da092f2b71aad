-- A walk over a layer, none of whose fields, values and features that were passed has a fault.
use Rattle.std.proofs.Common.{◌≡◌, ◌≢◌, ◌⊎◌, slice_get, ℕ, ◌-◌, ◌<◌, ◌≤◌, List, [], ◌∷◌, ◌++◌, length, take, false, is_some, Option, Some, inl, inr, refl, sym, ◌∙◌, subst, arith}
use Rattle.std.proofs.lemmas.Bool.{cases_eq}
use Rattle.std.proofs.lemmas.List.{length-take-le}
use Rattle.mvt_wire.specs.Embedded.{AreClean}
use Rattle.mvt_wire.specs.Field.{Entry, entry_of}
use Rattle.mvt_wire.specs.Message.{FieldList, IsMessage}
use Rattle.mvt_wire.specs.Payload.{Span, span_of, spans_of}
use Rattle.mvt_wire.specs.declared.cause.WireCause.{WireCause}
use Rattle.mvt_wire.specs.declared.field.Field.{Field}
use Rattle.mvt_wire.specs.declared.schema.Message.{Message}
use Rattle.mvt_wire.specs.declared.schema.Message.TheVariants as messages
use Rattle.mvt_wire.proofs.Encoding.Messages.{one_list}
use Rattle.mvt_wire.proofs.Encoding.Payloads.{picked-push, picked-other}
use Rattle.mvt_wire.proofs.FieldNumbers.NumberStops.{fields_forward}
use Rattle.mvt_wire.proofs.Parts.EmbeddedSpans.{AreClean-push}
use Rattle.mvt_rules.specs.Parts.Fields.{FitsRule}
use Rattle.mvt_rules.specs.Scope.{IsPart}
use Rattle.mvt_rules.specs.Tile.{FeatureRecord, LayerRecord, IsLayer}
use Rattle.mvt_rules.specs.WireFault.{EndFault, MessageFault}
use Rattle.mvt_tile.specs.RuleFaults.{Keeps}
use Rattle.mvt_tile.specs.Calls.Embedded.{HasNone, IsFaultlessLayer}
use Rattle.mvt_tile.specs.Calls.FieldScan.{HasScanned, PassesNext}
use Rattle.mvt_tile.specs.Calls.Least.{FindsLeastCause}
use Rattle.mvt_tile.specs.Calls.OneWalk.{IsRightFeature, IsSeenIn, PassesFeature, PassesField, PassesLayer}
use Rattle.mvt_tile.specs.Sound.{AreSoundBefore, tells_none}
use Rattle.mvt_tile.specs.Calls.Passed.{ArePassed, ArePartsPassed}
use Rattle.mvt_tile.specs.Calls.Reading.{GivesSummary}
use Rattle.mvt_tile.specs.Calls.RuleFaults.{AreAfterTags, IsSummary}
use Rattle.mvt_tile.specs.Enough.{IsLike}
use Rattle.mvt_tile.specs.declared.rules.summary.LayerSummary.{LayerSummary}
use Rattle.mvt_tile.specs.declared.rules.tags.TagNeeds.{TagNeeds}
use Rattle.mvt_tile.specs.declared.wire.scan.FieldScan.{FieldScan}
use Rattle.mvt_tile.proofs.OneWalk.CutFields.{passes_cut}
use Rattle.mvt_tile.proofs.Reading.ScannedFeatures.{FitsRule-scanned, nothing_found}
use Rattle.mvt_tile.proofs.RuleFaults.FeatureFaults.{good_layer}
use Rattle.mvt_tile.proofs.RuleFaults.FeatureScan.{fewer, IsLike-counted}
use Rattle.mvt_tile.proofs.RuleFaults.SummaryReading.{few_counted, IsSummary-from_told}
use Rattle.mvt_tile.proofs.WireFaults.LaterParts.{passed_or_later, passed_or_next}
use Rattle.mvt_tile.proofs.WireFaults.Layers.{IsLayerFault-none}
use Rattle.mvt_tile.proofs.WireFaults.Walking.{IsScanning, IsScanning-more, IsScanning-whole}

-- a rule of which no fault is told has none before those of tags
pub after_tags : AreAfterTags tells_none
after_tags it layer feature fault never = absurd never

-- a message of one field, which a scan has passed in all the bytes
pub one_field : (message : Message) (bytes : List ℕ) (from to : ℕ) → to ≤ length bytes → {old new : FieldScan} {read : Field × ℕ} → HasScanned message old [] → PassesNext message bytes from old new read → read.1 ≡ to
    → (found : Option WireCause) → false ≡ is_some found → ((passed : List Entry) → HasScanned message new passed → FindsLeastCause (EndFault message passed to) found)
    → (cause : WireCause) → ¬ MessageFault message (take to bytes) from cause
one_field message bytes from to within scanned next end found nothing finds =
    nothing_found _ found nothing (IsScanning-whole bytes to found within end (IsScanning-more (record { passed = refl; passes = scanned }) (passes_cut message bytes from to within next end)) finds)

-- one more message is clean, or the field holds none of them
module _ (Clean : ℕ → Span → Type 0) (field_number : ℕ) (entries : List Entry) (entry : Entry) (so_far : AreClean Clean (spans_of field_number entries)) where
  clean_other : entry.number ≢ field_number → AreClean Clean (spans_of field_number (entries ++ entry ∷ []))
  clean_other other = subst (AreClean Clean) (sym (picked-other span_of field_number entries entry other)) so_far

  clean_more : entry.number ≡ field_number → (span : Span) → span_of entry.content ≡ Some span → ((ordinal : ℕ) → Clean ordinal span) → AreClean Clean (spans_of field_number (entries ++ entry ∷ []))
  clean_more own span there clean =
      subst (AreClean Clean) (sym (picked-push span_of field_number entries entry span own there)) (AreClean-push Clean (spans_of field_number entries) span so_far (clean (length (spans_of field_number entries))))

-- What is known of the fields up to a place: none has a fault, nor has a value or a feature among them; the features keep a
-- further rule, and their tags need no more than is kept.
pub record IsLayerPassed (IsKept : Keeps) (bytes : List ℕ) (from to at : ℕ) (own : FieldScan) (summary : LayerSummary) (needs : TagNeeds) : Type 0 where
  pub within : at ≤ to
  pub entries : List Entry
  pub scanning : IsScanning messages.Layer (take to bytes) from at own entries
  pub gives : GivesSummary entries summary
  pub values : AreClean (HasNone messages.Value bytes) (spans_of 4 entries)
  pub features : AreClean (HasNone messages.Feature bytes) (spans_of 2 entries)
  pub good : (layer : ℕ) → AreClean (PassesFeature IsKept bytes layer (to - from) needs) (spans_of 2 entries)

-- where no field was passed, nothing has changed
pub passed_unchanged : {IsKept : Keeps} {bytes : List ℕ} {from to at : ℕ} {own next_own : FieldScan} {summary : LayerSummary} {needs : TagNeeds} → IsLayerPassed IsKept bytes from to at own summary needs → next_own ≡ own
    → IsLayerPassed IsKept bytes from to at next_own summary needs
passed_unchanged {IsKept} {bytes} {from} {to} {at} {summary = summary} {needs = needs} so_far same = subst (λ (scan : FieldScan). IsLayerPassed IsKept bytes from to at scan summary needs) (sym same) so_far

-- a part of the layer is one of those that were passed, or ends at a place or later
abbrev pub IsPlace : {IsKept : Keeps} {bytes : List ℕ} {from to at : ℕ} {own : FieldScan} {summary : LayerSummary} {needs : TagNeeds} → IsLayerPassed IsKept bytes from to at own summary needs → ℕ → Type 0
IsPlace {bytes = bytes} {from = from} {to = to} so_far place =
    (field_number ordinal : ℕ) (inner : Span) → IsPart bytes (record { from = from; to = to }) field_number ordinal inner → (slice_get (spans_of field_number so_far.entries) ordinal ≡ Some inner) ⊎ (place ≤ inner.to)

module _ {IsKept : Keeps} {bytes : List ℕ} {from to at : ℕ} {own : FieldScan} {summary : LayerSummary} {needs : TagNeeds} (so_far : IsLayerPassed IsKept bytes from to at own summary needs) where
  -- the walk's place is such a one
  place_here : IsPlace so_far at
  place_here field_number ordinal inner part = elim (passed_or_later (take to bytes) from at field_number so_far.entries part.entries so_far.scanning.passed part.whole ordinal inner part.here) [
    | inl here ↦ inl here
    | inr later ↦ inr (omega (arith, later.after, later.forward))
  ]

  -- and so is the end of the next field
  pub place_next : {next_own : FieldScan} {read : Field × ℕ} → PassesNext messages.Layer (take to bytes) at own next_own read → IsPlace so_far read.1
  place_next {read = read} next field_number ordinal inner part =
      passed_or_next (take to bytes) from at field_number so_far.entries part.entries so_far.scanning.passed part.whole ordinal inner part.here read.1 (entry_of read.0) next.given.here next.given.encoded

  -- the next field ends in the layer
  pub next_inside : {next_own : FieldScan} {read : Field × ℕ} → to ≤ length bytes → PassesNext messages.Layer (take to bytes) at own next_own read → read.1 ≤ to
  next_inside inside next = let size = length-take-le to bytes inside in omega (arith, next.given.within)

  -- the place is in the layer
  begun : from ≤ at
  begun = fields_forward (take to bytes) from at so_far.entries so_far.scanning.passed

  pub next_begun : {next_own : FieldScan} {read : Field × ℕ} → PassesNext messages.Layer (take to bytes) at own next_own read → from ≤ read.1
  next_begun next = let here = begun in omega (arith, next.given.further)

  -- in front of such a place no value and no feature has a fault
  none_before : (place : ℕ) → IsPlace so_far place → (message : Message) (field_number : ℕ) → AreClean (HasNone message bytes) (spans_of field_number so_far.entries) → ArePassed message field_number bytes place (record { from = from; to = to })
  none_before place is message field_number clean ordinal inner cause part fault = elim (is field_number ordinal inner part) [
    | inl here ↦ absurd (clean ordinal inner here cause fault)
    | inr later ↦ later
  ]

  pub parts_passed : (place : ℕ) → IsPlace so_far place → ArePartsPassed bytes place (record { from = from; to = to })
  parts_passed place is = record { values = none_before place is messages.Value 4 so_far.values; features = none_before place is messages.Feature 2 so_far.features }

-- what is good by fewer needs and one rule is so by more needs and a more lenient rule
module _ (IsKept Other : Keeps) (still : (it : FeatureRecord) → IsKept it → Other it) (bytes : List ℕ) (layer most : ℕ) (before needs : TagNeeds) (more_keys : before.keys ≤ needs.keys) (more_values : before.values ≤ needs.values) where
  still_good : (spans : List Span) → AreClean (PassesFeature IsKept bytes layer most before) spans → AreClean (PassesFeature Other bytes layer most needs) spans
  still_good spans good ordinal span here it is layer_record like =
      let sound = good ordinal span here it is layer_record (fewer before needs more_keys more_values layer_record like) in
      record { faultless = sound.faultless; kept = still it sound.kept }

-- so is what was passed
pub passed_still : {IsKept : Keeps} {bytes : List ℕ} {from to at : ℕ} {own : FieldScan} {summary : LayerSummary} {needs : TagNeeds} → IsLayerPassed IsKept bytes from to at own summary needs
    → (Other : Keeps) → ((it : FeatureRecord) → IsKept it → Other it) → (more : TagNeeds) → needs.keys ≤ more.keys → needs.values ≤ more.values → IsLayerPassed Other bytes from to at own summary more
passed_still {IsKept} {bytes} {from} {to} {needs = needs} so_far Other still more more_keys more_values = record {
  within = so_far.within;
  entries = so_far.entries;
  scanning = so_far.scanning;
  gives = so_far.gives;
  values = so_far.values;
  features = so_far.features;
  good = λ layer. still_good IsKept Other still bytes layer (to - from) needs more more_keys more_values _ (so_far.good layer);
}

-- in front of such a place the features are sound, by more needs and a more lenient rule
pub front_sound : {IsKept : Keeps} {bytes : List ℕ} {from to at : ℕ} {own : FieldScan} {summary : LayerSummary} {needs : TagNeeds} (so_far : IsLayerPassed IsKept bytes from to at own summary needs) (place : ℕ) → IsPlace so_far place
    → (Other : Keeps) → ((it : FeatureRecord) → IsKept it → Other it) → (more : TagNeeds) → needs.keys ≤ more.keys → needs.values ≤ more.values
    → (layer : ℕ) → AreSoundBefore tells_none Other bytes (to - from) (to - from) (record { to = place; needs = more }) layer (record { from = from; to = to })
front_sound {IsKept} {bytes} {from} {to} {needs = needs} so_far place is Other still more more_keys more_values layer feature inner part ends = elim (is 2 feature inner part) [
  | inl here ↦ still_good IsKept Other still bytes layer (to - from) needs more more_keys more_values (spans_of 2 so_far.entries) (so_far.good layer) feature inner here
  | inr later ↦ absurd (omega arith)
]

-- so it is in front of the walk's place
pub seen_here : {IsKept : Keeps} {bytes : List ℕ} {from to at : ℕ} {own : FieldScan} {summary : LayerSummary} {needs : TagNeeds} → IsLayerPassed IsKept bytes from to at own summary needs
    → IsSeenIn IsKept bytes (record { to = at; needs = needs }) (record { from = from; to = to })
seen_here {IsKept} {at = at} {needs = needs} so_far = record {
  begun = begun so_far;
  inside = so_far.within;
  passed = parts_passed so_far at (place_here so_far);
  sound = front_sound so_far at (place_here so_far) IsKept (λ it kept. kept) needs (omega arith) (omega arith);
}

module _ {IsKept : Keeps} {bytes : List ℕ} {from to at : ℕ} {own next_own : FieldScan} {summary : LayerSummary} {needs : TagNeeds} (inside : to ≤ length bytes) (so_far : IsLayerPassed IsKept bytes from to at own summary needs)
    {read : Field × ℕ} (next : PassesNext messages.Layer (take to bytes) at own next_own read) where
  -- the next field fits its rule, and there is room to count it
  pub fits_next : FitsRule messages.Layer (entry_of read.0)
  fits_next = FitsRule-scanned so_far.entries (entry_of read.0) (next.passed so_far.entries so_far.scanning.passes)

  pub room_next : (summary.keys < to) × (summary.values < to)
  room_next = few_counted bytes to {old = record { bytes = take to bytes; at = at }} (record { same_bytes = refl; passed = so_far.scanning.passed }) next.given so_far.gives

  module _ (after : LayerSummary) (gives : (entries : List Entry) → GivesSummary entries summary → GivesSummary (entries ++ entry_of read.0 ∷ []) after) where
    within_next : read.1 ≤ to
    within_next = let size = length-take-le to bytes inside in omega (arith, next.given.within)

    -- it is passed: one that holds no message
    passes_other : read.0.number ≢ 2 → read.0.number ≢ 4 → IsLayerPassed IsKept bytes from to read.1 next_own after needs
    passes_other no_feature no_value = record {
      within = within_next;
      entries = so_far.entries ++ entry_of read.0 ∷ [];
      scanning = IsScanning-more so_far.scanning next;
      gives = gives so_far.entries so_far.gives;
      values = clean_other _ 4 so_far.entries (entry_of read.0) so_far.values no_value;
      features = clean_other _ 2 so_far.entries (entry_of read.0) so_far.features no_feature;
      good = λ layer. clean_other _ 2 so_far.entries (entry_of read.0) (so_far.good layer) no_feature;
    }

    -- a value that has no fault
    passes_value : read.0.number ≡ 4 → (span : Span) → span_of (entry_of read.0).content ≡ Some span → ((ordinal : ℕ) → HasNone messages.Value bytes ordinal span) → IsLayerPassed IsKept bytes from to read.1 next_own after needs
    passes_value is span there clean = record {
      within = within_next;
      entries = so_far.entries ++ entry_of read.0 ∷ [];
      scanning = IsScanning-more so_far.scanning next;
      gives = gives so_far.entries so_far.gives;
      values = clean_more _ 4 so_far.entries (entry_of read.0) so_far.values is span there clean;
      features = clean_other _ 2 so_far.entries (entry_of read.0) so_far.features (omega (arith, is));
      good = λ layer. clean_other _ 2 so_far.entries (entry_of read.0) (so_far.good layer) (omega (arith, is));
    }

    -- a feature that has none, keeps the rule, and has tags that need no more
    passes_feature : read.0.number ≡ 2 → (span : Span) → span_of (entry_of read.0).content ≡ Some span → IsRightFeature IsKept bytes (to - from) needs span → IsLayerPassed IsKept bytes from to read.1 next_own after needs
    passes_feature is span there right = record {
      within = within_next;
      entries = so_far.entries ++ entry_of read.0 ∷ [];
      scanning = IsScanning-more so_far.scanning next;
      gives = gives so_far.entries so_far.gives;
      values = clean_other _ 4 so_far.entries (entry_of read.0) so_far.values (omega (arith, is));
      features = clean_more _ 2 so_far.entries (entry_of read.0) so_far.features is span there right.wire;
      good = λ layer. clean_more _ 2 so_far.entries (entry_of read.0) (so_far.good layer) is span there (right.passes layer);
    }

    -- whatever it holds
    pub passes_field : PassesField IsKept bytes (to - from) needs (entry_of read.0) → IsLayerPassed IsKept bytes from to read.1 next_own after needs
    passes_field passes = elim (cases_eq read.0.number 2) [
      | inl feature ↦ let held = passes.feature feature in passes_feature feature held.0 held.1 held.2
      | inr no_feature ↦ elim (cases_eq read.0.number 4) [
        | inl value ↦ let held = passes.value value in passes_value value held.0 held.1 held.2
        | inr no_value ↦ passes_other no_feature no_value
      ]
    ]

-- after the last field
module _ (IsKept : Keeps) (bytes : List ℕ) (from to : ℕ) (forward : from ≤ to) (inside : to ≤ length bytes) {at : ℕ} (end : at ≡ to) {own : FieldScan} {summary : LayerSummary} {needs : TagNeeds} (so_far : IsLayerPassed IsKept bytes from to at own summary needs) where
  whole : IsMessage (take to bytes) from so_far.entries
  whole = let size = length-take-le to bytes inside in subst (λ (place : ℕ). FieldList (take to bytes) from so_far.entries place) (end ∙ sym size) so_far.scanning.passed

  -- the layer has no wire fault
  pub faultless_layer : (found : Option WireCause) → false ≡ is_some found → ((passed : List Entry) → HasScanned messages.Layer own passed → FindsLeastCause (EndFault messages.Layer passed to) found)
      → (ordinal : ℕ) → IsFaultlessLayer bytes ordinal (record { from = from; to = to })
  faultless_layer found nothing finds ordinal =
      IsLayerFault-none bytes (record { from = from; to = to }) ordinal so_far.entries whole (nothing_found _ found nothing (IsScanning-whole bytes to found inside end so_far.scanning finds)) so_far.values so_far.features

  -- it is summed up
  pub summary_passed : (layer_record : LayerRecord) → IsLayer bytes (record { from = from; to = to }) layer_record → IsSummary summary layer_record
  summary_passed layer_record is =
      IsSummary-from_told is (subst (λ (entries : List Entry). GivesSummary entries summary) (one_list (take to bytes) from so_far.entries is.entries whole is.whole) so_far.gives)

  -- and its features are sound, where it has what their tags need
  pub passes_layer : needs.keys ≤ summary.keys → needs.values ≤ summary.values → (ordinal : ℕ) → PassesLayer IsKept bytes ordinal (record { from = from; to = to })
  passes_layer keys values ordinal = λ layer_record is.
      good_layer tells_none after_tags IsKept bytes (record { from = from; to = to }) layer_record is ordinal (IsLike (to - from) (to - from) needs)
      (IsLike-counted bytes from to layer_record forward is keys values (summary_passed layer_record is))
      (subst (λ (entries : List Entry). AreClean (PassesFeature IsKept bytes ordinal (to - from) needs) (spans_of 2 entries)) (one_list (take to bytes) from so_far.entries is.entries whole is.whole) (so_far.good ordinal))
