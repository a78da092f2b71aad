-- A feature whose fields are scanned for faults while its parts are kept.
use Rattle.std.proofs.Common.{◌≡◌, ℕ, ◌≤◌, inl, inr, Bool, false, List, [], ◌∷◌, ◌++◌, length, take, is_some, Option, Some, None, refl, sym, ◌∙◌, subst}
use Rattle.std.specs.Str.{is_utf8}
use Rattle.std.proofs.lemmas.Bool.{cases_Bool, both_ways}
use Rattle.std.proofs.lemmas.List.{length-take-le}
use Rattle.std.proofs.lemmas.Str.{IsUtf8-from_is_utf8, is_utf8-from_IsUtf8}
use Rattle.mvt_wire.specs.Field.{Content, Entry, IsField, cause_at, entry_of, wire_type_of}
use Rattle.mvt_wire.specs.Number.{States, AreSmall}
use Rattle.mvt_wire.specs.Schema.{is_own, is_out_of_range}
use Rattle.mvt_wire.specs.NumberSources.{StandIn}
use Rattle.mvt_wire.specs.Walk.{Walk, IsOver}
use Rattle.mvt_wire.specs.declared.cause.WireCause.{WireCause}
use Rattle.mvt_wire.specs.declared.cause.WireCode.TheVariants.{OtherType, NotUtf8, OutOfRange}
use Rattle.mvt_wire.specs.declared.field.Field.{Field}
use Rattle.mvt_wire.specs.declared.schema.FieldRule.{FieldRule}
use Rattle.mvt_wire.specs.declared.schema.Message.{Message}
use Rattle.mvt_wire.specs.declared.schema.Message.TheVariants.{Feature}
use Rattle.mvt_wire.proofs.Encoding.PackedLists.{numbers_or_fault}
use Rattle.mvt_wire.proofs.Walking.{IsWalking}
use Rattle.mvt_rules.specs.Parts.Fields.{FitsRule}
use Rattle.mvt_rules.specs.Tile.{FeatureRecord, Fits, IsFeature}
use Rattle.mvt_rules.specs.WireFault.{EndFault, EntryFault, MessageFault, other_type, no_text, out_of_range, packed}
use Rattle.mvt_rules.proofs.Tiles.Records.{feature_or_fault}
use Rattle.mvt_tile.specs.FeatureBytes.{Encodes}
use Rattle.mvt_tile.specs.Calls.FeatureBytes.{GivesParts, PassesParts}
use Rattle.mvt_tile.specs.Calls.FieldScan.{HasScanned, PassesNext}
use Rattle.mvt_tile.specs.Calls.Least.{FindsLeastCause}
use Rattle.mvt_tile.specs.declared.feature_bytes.FeatureBytes.{FeatureBytes}
use Rattle.mvt_tile.specs.declared.feature_bytes.FeatureParts.{FeatureParts}
use Rattle.mvt_tile.specs.declared.wire.scan.FieldScan.{FieldScan}
use Rattle.mvt_tile.proofs.Reading.FeatureParts.{Encodes-all, tags_lie, geometry_lies}
use Rattle.mvt_tile.proofs.WireFaults.Walking.{IsScanning, IsScanning-more, IsScanning-whole}

-- a field that has no fault fits its rule
fits_faultless : (rule : FieldRule) (stood : Bool) (entry : Entry) → ((cause : WireCause) → ¬ EntryFault rule stood entry cause) → Fits rule entry.content
fits_faultless rule stood entry none = record {
  own = elim (cases_Bool (is_own rule.shape (wire_type_of entry.content))) [
    | inl own ↦ own
    | inr other ↦ absurd (none (cause_at OtherType entry.at entry.number) (other_type other refl))
  ];
  text = λ from part shape content. elim (cases_Bool (is_utf8 part)) [
    | inl text ↦ IsUtf8-from_is_utf8 part text
    | inr other ↦
        absurd (none (cause_at NotUtf8 entry.at entry.number) (no_text from part shape content (λ text. both_ways (is_utf8 part) other (is_utf8-from_IsUtf8 part text)) refl))
  ];
  in_range = λ value at content. elim (cases_Bool (is_out_of_range rule.shape value)) [
    | inl over ↦ absurd (none (cause_at OutOfRange at entry.number) (out_of_range value at content over refl))
    | inr within ↦ within
  ];
  packed = λ from part shape content. elim (numbers_or_fault from part entry.number) [
    | inl list ↦ subst (λ (c : Content). (numbers : List ℕ) × States c numbers × AreSmall numbers) (sym content) list
    | inr fault ↦ absurd (none fault.0 (packed from part shape content fault.1))
  ];
}

-- so does each that a scan has passed
pub FitsRule-scanned : {message : Message} {scan : FieldScan} (entries : List Entry) (entry : Entry) → HasScanned message scan (entries ++ entry ∷ []) → FitsRule message entry
FitsRule-scanned entries entry scanned rule known =
    fits_faultless rule _ entry (λ cause fault. scanned.faultless cause (record { before = entries; entry = entry; after = []; split = refl; rule = rule; known = known; fault = fault }))

-- where nothing was found, there is none
pub nothing_found : (Holds : WireCause → Type 0) (found : Option WireCause) → false ≡ is_some found → FindsLeastCause Holds found → (cause : WireCause) → ¬ Holds cause
nothing_found Holds None nothing finds = finds
nothing_found Holds (Some cause) nothing finds = absurd (cc)

-- before the first field
pub PassesParts-none : {message : List ℕ} {from : ℕ} {scan : FieldScan} {parts : FeatureParts} → HasScanned Feature scan [] → GivesParts message from [] from parts → PassesParts message from from scan parts
PassesParts-none scanned gives = record { entries = []; passed = refl; passes = scanned; gives = gives }

-- where no field was passed, nothing has changed
pub PassesParts-unchanged : {message : List ℕ} {from at : ℕ} {old new : FieldScan} {parts : FeatureParts} → PassesParts message from at old parts → new ≡ old → PassesParts message from at new parts
PassesParts-unchanged {message} {from} {at} {parts = parts} so_far same = subst (λ (scan : FieldScan). PassesParts message from at scan parts) (sym same) so_far

module _ {message : List ℕ} {from at : ℕ} {old new : FieldScan} {parts : FeatureParts} {read : Field × ℕ} (so_far : PassesParts message from at old parts) (next : PassesNext Feature message at old new read) where
  -- the next field fits its rule
  pub fits_next : FitsRule Feature (entry_of read.0)
  fits_next = FitsRule-scanned so_far.entries (entry_of read.0) (next.passed so_far.entries so_far.passes)

  -- and is passed
  pub PassesParts-more : (more : FeatureParts)
      → ((message : List ℕ) (from : ℕ) (entries : List Entry) → IsField message read.1 (entry_of read.0) → GivesParts message from entries read.0.at parts → GivesParts message from (entries ++ entry_of read.0 ∷ []) read.1 more)
      → PassesParts message from read.1 new more
  PassesParts-more more gives =
      let scanning : IsScanning Feature message from at old so_far.entries = record { passed = so_far.passed; passes = so_far.passes } in
      let further = IsScanning-more scanning next in
      record {
        entries = so_far.entries ++ entry_of read.0 ∷ [];
        passed = further.passed;
        passes = further.passes;
        gives = gives message from so_far.entries next.given.encoded (subst (λ (place : ℕ). GivesParts message from so_far.entries place parts) (sym next.given.here) so_far.gives);
      }

-- after the last field
module _ (bytes : List ℕ) (from to : ℕ) (forward : from ≤ to) (within : to ≤ length bytes) {at : ℕ} (end : at ≡ to) {scan : FieldScan} {parts : FeatureParts} (so_far : PassesParts (take to bytes) from at scan parts)
    (found : Option WireCause) (nothing : false ≡ is_some found) (finds : (passed : List Entry) → HasScanned Feature scan passed → FindsLeastCause (EndFault Feature passed to) found) where
  -- the feature has no fault
  pub none_scanned : (cause : WireCause) → ¬ MessageFault Feature (take to bytes) from cause
  none_scanned = nothing_found _ found nothing (IsScanning-whole bytes to found within end (record { passed = so_far.passed; passes = so_far.passes }) finds)

  -- so there is one
  there : (it : FeatureRecord) × IsFeature bytes (record { from = from; to = to }) it
  there = elim (feature_or_fault bytes (record { from = from; to = to }) (record { forward = forward; inside = within })) [
    | inl feature ↦ feature
    | inr fault ↦ absurd (none_scanned fault.0 fault.1)
  ]

  size : length (take to bytes) ≡ to
  size = length-take-le to bytes within

  abbrev walk : Walk
  walk = record { bytes = take to bytes; at = at }

  walking : IsWalking (take to bytes) from walk so_far.entries
  walking = record { same_bytes = refl; passed = so_far.passed }

  over : IsOver walk walk
  over = record { at_end = end ∙ sym size; unchanged = refl }

  -- and its parts are those that were kept
  pub encodes_scanned : (shown : FeatureBytes) → shown.bytes.now ≡ take to bytes → shown.parts ≡ parts → (it : FeatureRecord) → IsFeature bytes (record { from = from; to = to }) it → Encodes shown it
  encodes_scanned shown same_bytes same_parts it is = Encodes-all is walking over parts so_far.gives shown same_bytes same_parts

  pub tags_scanned : StandIn (take to bytes) 2 parts.tags
  tags_scanned = tags_lie there.1 walking over parts so_far.gives

  pub geometry_scanned : StandIn (take to bytes) 4 parts.geometry
  geometry_scanned = geometry_lies there.1 walking over parts so_far.gives
