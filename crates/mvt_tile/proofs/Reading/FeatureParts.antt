-- The parts of a feature, as a walk over its fields finds them.
use Rattle.std.proofs.Common.{◌≡◌, ◌≢◌, ℕ, ◌≤◌, List, [], ◌∷◌, ◌++◌, length, map, slice_get, take, Some, None, refl, sym, ◌∙◌, ap, subst, arith}
use Rattle.std.proofs.lemmas.List.{map_push}
use Rattle.mvt_wire.specs.Field.{Entry, IsField}
use Rattle.mvt_wire.specs.Payload.{Span, number_in, numbers_of}
use Rattle.mvt_rules.specs.Tile.{FeatureRecord, IsFeature}
use Rattle.mvt_wire.specs.Walk.{Walk, IsOver}
use Rattle.mvt_rules.proofs.Tiles.SmallNumbers.{tags_end, geometry_end}
use Rattle.mvt_wire.proofs.Walking.{IsWalking, IsWalking-over}
use Rattle.mvt_tile.specs.FeatureBytes.{Encodes}
use Rattle.mvt_tile.specs.Calls.FeatureBytes.{GivesParts}
use Rattle.mvt_wire.specs.NumberSources.{StandIn, StandBefore}
use Rattle.mvt_tile.specs.Calls.Reading.{last_of}
use Rattle.mvt_tile.specs.View.{kind_number}
use Rattle.mvt_tile.specs.declared.feature_bytes.FeatureBytes.{FeatureBytes}
use Rattle.mvt_tile.specs.declared.feature_bytes.FeatureParts.{FeatureParts}
use Rattle.mvt_wire.specs.declared.numbers.span.NumberSpan.{NumberSpan}
use Rattle.mvt_tile.specs.declared.record.Kind.{Kind}
use Rattle.mvt_wire.proofs.Encoding.Payloads.{few_picked, picked-other, picked-push}
use Rattle.mvt_tile.proofs.Reading.ReadingRules.{last_of-push}
use Rattle.mvt_wire.proofs.FieldNumbers.NumberSpans.{StandIn-whole, StandBefore-other, all_in, left_whole}

module _ (message : List ℕ) (from to : ℕ) (entries : List Entry) (entry : Entry) (field : IsField message to entry) (parts : FeatureParts) (gives : GivesParts message from entries entry.at parts) where
  -- what a field of another number leaves
  same_id : entry.number ≢ 1 → parts.id ≡ last_of None (map Some (numbers_of 1 (entries ++ entry ∷ [])))
  same_id other = gives.id ∙ ap (λ (numbers : List ℕ). last_of None (map Some numbers)) (sym (picked-other number_in 1 entries entry other))

  same_kind : entry.number ≢ 3 → kind_number parts.kind ≡ last_of 0 (numbers_of 3 (entries ++ entry ∷ []))
  same_kind other = gives.kind ∙ ap (last_of 0) (sym (picked-other number_in 3 entries entry other))

  -- the parts with one more field, by its number
  pub gives_id : (id : ℕ) → entry.number ≡ 1 → number_in entry.content ≡ Some id → GivesParts message from (entries ++ entry ∷ []) to (record parts { id = Some id })
  gives_id id is told = record {
    id =
        sym (last_of-push None (Some id) (map Some (numbers_of 1 entries)))
        ∙ ap (last_of None) (sym (map_push Some (numbers_of 1 entries) id))
        ∙ ap (λ (numbers : List ℕ). last_of None (map Some numbers)) (sym (picked-push number_in 1 entries entry id is told));
    kind = same_kind (omega arith);
    tags = StandBefore-other message from field 2 parts.tags (omega arith) gives.tags;
    geometry = StandBefore-other message from field 4 parts.geometry (omega arith) gives.geometry;
  }

  pub gives_kind : (number : ℕ) (kind : Kind) → entry.number ≡ 3 → number_in entry.content ≡ Some number → kind_number kind ≡ number → GivesParts message from (entries ++ entry ∷ []) to (record parts { kind = kind })
  gives_kind number kind is told same = record {
    id = same_id (omega arith);
    kind =
        same ∙ sym (last_of-push 0 number (numbers_of 3 entries))
        ∙ ap (last_of 0) (sym (picked-push number_in 3 entries entry number is told));
    tags = StandBefore-other message from field 2 parts.tags (omega arith) gives.tags;
    geometry = StandBefore-other message from field 4 parts.geometry (omega arith) gives.geometry;
  }

  pub gives_tags : (span : NumberSpan) → entry.number ≡ 2 → StandBefore message from 2 to span → GivesParts message from (entries ++ entry ∷ []) to (record parts { tags = span })
  gives_tags span is stands = record {
    id = same_id (omega arith);
    kind = same_kind (omega arith);
    tags = stands;
    geometry = StandBefore-other message from field 4 parts.geometry (omega arith) gives.geometry;
  }

  pub gives_geometry : (span : NumberSpan) → entry.number ≡ 4 → StandBefore message from 4 to span → GivesParts message from (entries ++ entry ∷ []) to (record parts { geometry = span })
  gives_geometry span is stands = record {
    id = same_id (omega arith);
    kind = same_kind (omega arith);
    tags = StandBefore-other message from field 2 parts.tags (omega arith) gives.tags;
    geometry = stands;
  }

  pub gives_other : entry.number ≢ 1 → entry.number ≢ 2 → entry.number ≢ 3 → entry.number ≢ 4 → GivesParts message from (entries ++ entry ∷ []) to parts
  gives_other no_id no_tags no_kind no_geometry = record {
    id = same_id no_id;
    kind = same_kind no_kind;
    tags = StandBefore-other message from field 2 parts.tags no_tags gives.tags;
    geometry = StandBefore-other message from field 4 parts.geometry no_geometry gives.geometry;
  }

-- a list of at most one number
only : (numbers : List ℕ) → length numbers ≤ 1 → last_of None (map Some numbers) ≡ slice_get numbers 0
only [] few = refl
only (n ∷ []) few = refl
only (n ∷ m ∷ numbers) few = absurd (omega arith)

module _ {bytes : List ℕ} {span : Span} {feature : FeatureRecord} (is : IsFeature bytes span feature) {walk new : Walk} {entries : List Entry} (walking : IsWalking (take span.to bytes) span.from walk entries) (over : IsOver walk new) (parts : FeatureParts) (gives : GivesParts (take span.to bytes) span.from entries walk.at parts) where
  abbrev message : List ℕ
  message = take span.to bytes

  -- the parts after the last field are those of all fields
  all : GivesParts message span.from is.entries (length message) parts
  all =
      subst (λ (place : ℕ). GivesParts message span.from is.entries place parts) (over.at_end ∙ ap length walking.same_bytes)
      (subst (λ (fields : List Entry). GivesParts message span.from fields walk.at parts) (IsWalking-over is.entries walking is.whole over) gives)

  -- and those of the feature
  pub Encodes-all : (shown : FeatureBytes) → shown.bytes.now ≡ message → shown.parts ≡ parts → Encodes shown feature
  Encodes-all shown same_bytes same_parts = record {
    id = is.id ∙ sym (only (numbers_of 1 is.entries) (few_picked number_in 1 is.entries (is.keeps.at_most 1 _ refl refl))) ∙ rw same_parts (sym all.id);
    kind = rw same_parts (sym (all.kind ∙ ap (last_of 0) is.kind));
    tags = rw (same_bytes, same_parts) (left_whole message span.from 2 parts.tags feature.tags all.tags (tags_end bytes span feature is));
    geometry = rw (same_bytes, same_parts) (left_whole message span.from 4 parts.geometry feature.geometry all.geometry (geometry_end bytes span feature is));
  }

  pub tags_lie : StandIn message 2 parts.tags
  tags_lie = StandIn-whole message span.from 2 parts.tags feature.tags all.tags (tags_end bytes span feature is)

  pub geometry_lies : StandIn message 4 parts.geometry
  geometry_lies = StandIn-whole message span.from 4 parts.geometry feature.geometry all.geometry (geometry_end bytes span feature is)

-- the bytes of a feature show one
pub shown : (feature : FeatureBytes) → (it : FeatureRecord) × Encodes feature it
shown feature =
    let tags = all_in feature.bytes.now 2 feature.parts.tags feature.tags_stand in
    let geometry = all_in feature.bytes.now 4 feature.parts.geometry feature.geometry_stands in
    (record { id = feature.parts.id; tags = tags.0; kind = kind_number feature.parts.kind; geometry = geometry.0 }, record { id = refl; kind = refl; tags = tags.1; geometry = geometry.1 })
