-- What is known while the fields of a layer are walked, and what it says of the layer's faults.
use Rattle.std.proofs.Common.{◌≡◌, ℕ, ◌+◌, ◌≤◌, List, [], ◌∷◌, ◌++◌, length, take, slice_get, Option, Some, None, MatchOption, IfNone, IfSome, inl, inr, sym, ◌∙◌, subst, arith}
use Rattle.std.proofs.lemmas.List.{length-take-le}
use Rattle.mvt_wire.specs.Field.{Entry, entry_of}
use Rattle.mvt_wire.specs.Payload.{Span, spans_of}
use Rattle.mvt_wire.specs.Calls.Scope.{span_between}
use Rattle.mvt_wire.specs.Message.{FieldList, IsMessage}
use Rattle.mvt_rules.specs.WireFault.{EndFault, MessageFault}
use Rattle.mvt_wire.specs.declared.cause.WireCause.{WireCause}
use Rattle.mvt_wire.specs.declared.field.Field.{Field}
use Rattle.mvt_wire.specs.declared.schema.Message.{Message}
use Rattle.mvt_wire.specs.declared.schema.Message.TheVariants as messages
use Rattle.mvt_wire.specs.declared.scope.Scope.TheVariants as scopes
use Rattle.mvt_tile.specs.Calls.Embedded.{HasNone, HasFirst, IsInnerFault}
use Rattle.mvt_tile.specs.Calls.Passed.{HasNoneAfter, HasFirstAfter, IsFaultlessAfter, IsFirstAfter, IsMessageKnownTo, IsKnownTo}
use Rattle.mvt_wire.specs.Embedded.{FindsFirst}
use Rattle.mvt_tile.specs.Calls.Least.{FindsLeastCause}
use Rattle.mvt_tile.specs.Calls.FieldScan.{HasScanned, PassesNext, IsFirstFrom}
use Rattle.mvt_wire.specs.declared.embedded.EmbeddedScan.{EmbeddedScan}
use Rattle.mvt_tile.specs.declared.wire.message.MessageCheck.{MessageCheck}
use Rattle.mvt_tile.specs.declared.wire.scan.FieldScan.{FieldScan}
use Rattle.mvt_fault.specs.Cause.{wire_fault_in}
use Rattle.mvt_fault.specs.declared.fault.Fault.{Fault}
use Rattle.mvt_tile.proofs.WireFaults.Known.{FindsFirst-known}
use Rattle.mvt_tile.proofs.WireFaults.Layers.{IsLeast-own, IsLeast-value, IsLeast-feature, IsLayerFault-none}
use Rattle.mvt_tile.proofs.WireFaults.Walking.{IsScanning, IsScanning-more, IsScanning-whole}

-- the scan has passed these fields
abbrev pub ScansEmbedded : List ℕ → EmbeddedScan MessageCheck (ℕ × WireCause) → List Entry → Type 0
ScansEmbedded bytes scan entries =
    FindsFirst (HasNoneAfter scan.check.message scan.check.passed bytes) (HasFirstAfter scan.check.message scan.check.passed bytes) (spans_of scan.number entries) scan.count scan.first

-- the messages that it looks at, and the place in front of which they aren't looked at
abbrev pub check_of : Message → ℕ → MessageCheck
check_of message place = record { message = message; passed = place }

-- the fields that were passed, and what the three scans keep of them
pub record LayerWalk (bytes : List ℕ) (place from to at : ℕ) (own : FieldScan) (value_scan feature_scan : EmbeddedScan MessageCheck (ℕ × WireCause)) : Type 0 where
  pub within : at ≤ to
  pub entries : List Entry
  pub scanning : IsScanning messages.Layer (take to bytes) from at own entries
  pub values : ScansEmbedded bytes value_scan entries
  pub features : ScansEmbedded bytes feature_scan entries
  pub value_check : value_scan.check ≡ check_of messages.Value place
  pub value_number : value_scan.number ≡ 4
  pub feature_check : feature_scan.check ≡ check_of messages.Feature place
  pub feature_number : feature_scan.number ≡ 2
  pub few_values : value_scan.count ≤ at
  pub few_features : feature_scan.count ≤ at

-- what a scan of embedded messages has found, by its message and number, where those in front of the place have no fault
scan_finds : (bytes : List ℕ) (scan : EmbeddedScan MessageCheck (ℕ × WireCause)) (entries : List Entry) (message : Message) (place field_number : ℕ) (found : Option (ℕ × WireCause)) → scan.check ≡ check_of message place → scan.number ≡ field_number → scan.first ≡ found
    → ScansEmbedded bytes scan entries → ((ordinal : ℕ) (span : Span) → slice_get (spans_of field_number entries) ordinal ≡ Some span → IsMessageKnownTo message place bytes span)
    → FindsFirst (HasNone message bytes) (HasFirst message bytes) (spans_of field_number entries) scan.count found
scan_finds bytes scan entries message place field_number found kind number first scans known =
    FindsFirst-known (HasNone message bytes) (HasFirst message bytes) (λ ordinal. IsMessageKnownTo message place bytes) (spans_of field_number entries) scan.count found known
    (subst (λ (check : MessageCheck). FindsFirst (HasNoneAfter check.message check.passed bytes) (HasFirstAfter check.message check.passed bytes) (spans_of field_number entries) scan.count found) kind
    (subst (λ (n : ℕ). FindsFirst (HasNoneAfter scan.check.message scan.check.passed bytes) (HasFirstAfter scan.check.message scan.check.passed bytes) (spans_of n entries) scan.count found) number
    (subst (λ (f : Option (ℕ × WireCause)). FindsFirst (HasNoneAfter scan.check.message scan.check.passed bytes) (HasFirstAfter scan.check.message scan.check.passed bytes) (spans_of scan.number entries) scan.count f) first scans)))

-- what a scan of embedded messages keeps of the field that it passes
pub record Notes (bytes : List ℕ) (before after : EmbeddedScan MessageCheck (ℕ × WireCause)) (entry : Entry) : Type 0 where
  pub check : after.check ≡ before.check
  pub number : after.number ≡ before.number
  pub count : after.count ≤ before.count + 1
  pub noted : (entries : List Entry) → ScansEmbedded bytes before entries → ScansEmbedded bytes after (entries ++ entry ∷ [])

-- where the layer's own field wasn't passed the quick way, nothing has changed
pub LayerWalk-unchanged : {bytes : List ℕ} {place from to at : ℕ} {own next_own : FieldScan} {value_scan feature_scan : EmbeddedScan MessageCheck (ℕ × WireCause)} → LayerWalk bytes place from to at own value_scan feature_scan → next_own ≡ own
    → LayerWalk bytes place from to at next_own value_scan feature_scan
LayerWalk-unchanged {bytes} {place} {from} {to} {at} {value_scan = value_scan} {feature_scan = feature_scan} so_far same = subst (λ (scan : FieldScan). LayerWalk bytes place from to at scan value_scan feature_scan) (sym same) so_far

module _ (bytes : List ℕ) (place from to at : ℕ) (own : FieldScan) (value_scan feature_scan : EmbeddedScan MessageCheck (ℕ × WireCause)) (within : to ≤ length bytes) (so_far : LayerWalk bytes place from to at own value_scan feature_scan) where
  -- one more field is passed
  pub LayerWalk-more : (read : Field × ℕ) (next_own : FieldScan) (next_values next_features : EmbeddedScan MessageCheck (ℕ × WireCause)) → PassesNext messages.Layer (take to bytes) at own next_own read
      → Notes bytes value_scan next_values (entry_of read.0) → Notes bytes feature_scan next_features (entry_of read.0)
      → LayerWalk bytes place from to read.1 next_own next_values next_features
  LayerWalk-more read next_own next_values next_features next values features =
      let size = length-take-le to bytes within in
      let further = next.given.further in
      let few_values = so_far.few_values in
      let few_features = so_far.few_features in
      record {
        within = omega (arith, next.given.within);
        entries = so_far.entries ++ entry_of read.0 ∷ [];
        scanning = IsScanning-more so_far.scanning next;
        values = values.noted so_far.entries so_far.values;
        features = features.noted so_far.entries so_far.features;
        value_check = values.check ∙ so_far.value_check;
        value_number = values.number ∙ so_far.value_number;
        feature_check = features.check ∙ so_far.feature_check;
        feature_number = features.number ∙ so_far.feature_number;
        few_values = omega (arith, values.count);
        few_features = omega (arith, features.count);
      }

  -- or has a fault, which is the first of the layer
  pub LayerWalk-fault : (layer : ℕ) (cause : WireCause) → IsFirstFrom messages.Layer (take to bytes) at own cause → IsFirstAfter place bytes (wire_fault_in (scopes.Layer layer) cause) layer (span_between from to)
  LayerWalk-fault layer cause fault = λ known. IsLeast-own bytes (span_between from to) layer cause (fault from so_far.entries so_far.scanning.passed so_far.scanning.passes)

  module _ (over : at ≡ to) where
    -- the whole layer was passed
    whole : IsMessage (take to bytes) from so_far.entries
    whole = let size = length-take-le to bytes within in subst (λ (place : ℕ). FieldList (take to bytes) from so_far.entries place) (over ∙ sym size) so_far.scanning.passed

    -- what the scan of the layer's own fields finds
    own_finds : (found : Option WireCause) → ((passed : List Entry) → HasScanned messages.Layer own passed → FindsLeastCause (EndFault messages.Layer passed to) found)
        → FindsLeastCause (MessageFault messages.Layer (take to bytes) from) found
    own_finds found finds = IsScanning-whole bytes to found within over so_far.scanning finds

    pub LayerWalk-own : (layer : ℕ) (cause : WireCause)
        → ((passed : List Entry) → HasScanned messages.Layer own passed → FindsLeastCause (EndFault messages.Layer passed to) (Some cause))
        → IsFirstAfter place bytes (wire_fault_in (scopes.Layer layer) cause) layer (span_between from to)
    LayerWalk-own layer cause finds = λ known. IsLeast-own bytes (span_between from to) layer cause (own_finds (Some cause) finds)

    -- in front of the place no value and no feature has a fault
    value_known : IsKnownTo bytes place (span_between from to) → (ordinal : ℕ) (span : Span) → slice_get (spans_of 4 so_far.entries) ordinal ≡ Some span → IsMessageKnownTo messages.Value place bytes span
    value_known known ordinal span here cause = known.parts.values ordinal span cause (record { entries = so_far.entries; whole = whole; here = here })

    feature_known : IsKnownTo bytes place (span_between from to) → (ordinal : ℕ) (span : Span) → slice_get (spans_of 2 so_far.entries) ordinal ≡ Some span → IsMessageKnownTo messages.Feature place bytes span
    feature_known known ordinal span here cause = known.parts.features ordinal span cause (record { entries = so_far.entries; whole = whole; here = here })

    module _ (none : (passed : List Entry) → HasScanned messages.Layer own passed → FindsLeastCause (EndFault messages.Layer passed to) None) where
      -- that of a value, where the layer has none of its own
      LayerWalk-value : (layer ordinal : ℕ) (cause : WireCause) → value_scan.first ≡ Some (ordinal, cause) → IsFirstAfter place bytes (wire_fault_in (scopes.Value layer ordinal) cause) layer (span_between from to)
      LayerWalk-value layer ordinal cause first = λ known.
          IsLeast-value bytes (span_between from to) layer so_far.entries ordinal cause whole (own_finds None none)
          (scan_finds bytes value_scan so_far.entries messages.Value place 4 (Some (ordinal, cause)) so_far.value_check so_far.value_number first so_far.values (value_known known))

      -- that of a feature, where no value has one
      LayerWalk-feature : (layer ordinal : ℕ) (cause : WireCause) → value_scan.first ≡ None → feature_scan.first ≡ Some (ordinal, cause)
          → IsFirstAfter place bytes (wire_fault_in (scopes.Feature layer ordinal) cause) layer (span_between from to)
      LayerWalk-feature layer ordinal cause values first = λ known.
          IsLeast-feature bytes (span_between from to) layer so_far.entries ordinal cause whole (own_finds None none)
          (scan_finds bytes value_scan so_far.entries messages.Value place 4 None so_far.value_check so_far.value_number values so_far.values (value_known known)).1
          (scan_finds bytes feature_scan so_far.entries messages.Feature place 2 (Some (ordinal, cause)) so_far.feature_check so_far.feature_number first so_far.features (feature_known known))

      -- none
      LayerWalk-none : (layer : ℕ) → value_scan.first ≡ None → feature_scan.first ≡ None → IsFaultlessAfter place bytes layer (span_between from to)
      LayerWalk-none layer values features = λ known.
          IsLayerFault-none bytes (span_between from to) layer so_far.entries whole (own_finds None none)
          (scan_finds bytes value_scan so_far.entries messages.Value place 4 None so_far.value_check so_far.value_number values so_far.values (value_known known)).1
          (scan_finds bytes feature_scan so_far.entries messages.Feature place 2 None so_far.feature_check so_far.feature_number features so_far.features (feature_known known)).1

      -- that of a value, or else of a feature, or none
      pub LayerWalk-inner : (layer : ℕ) (found : Option Fault) → IfNone found ((value_scan.first ≡ None) × (feature_scan.first ≡ None)) → IfSome found (IsInnerFault layer value_scan.first feature_scan.first)
          → MatchOption found (IsFaultlessAfter place bytes layer (span_between from to)) (λ fault. IsFirstAfter place bytes fault layer (span_between from to))
      LayerWalk-inner layer None nothing first = LayerWalk-none layer nothing.0 nothing.1
      LayerWalk-inner layer (Some fault) nothing first = elim first [
        | inl of_value ↦ subst (λ (it : Fault). IsFirstAfter place bytes it layer (span_between from to)) (sym of_value.2) (LayerWalk-value layer of_value.0.0 of_value.0.1 of_value.1)
        | inr of_feature ↦ subst (λ (it : Fault). IsFirstAfter place bytes it layer (span_between from to)) (sym of_feature.3) (LayerWalk-feature layer of_feature.0.0 of_feature.0.1 of_feature.1 of_feature.2)
      ]
