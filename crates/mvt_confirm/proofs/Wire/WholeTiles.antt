-- Bytes are a tile where each message in them is whole and keeps its schema.
use Rattle.std.proofs.Common.{◌≡◌, ℕ, zero, suc, inl, inr, List, [], ◌∷◌, take, slice_get, All, Some, sym, ◌∙◌, ap, subst}
use Rattle.std.proofs.lemmas.List.Elements.{All-nil, All-cons, All-head, All-tail}
use Rattle.mvt_wire.specs.Field.{Entry}
use Rattle.mvt_wire.specs.Payload.{Span, spans_of}
use Rattle.mvt_rules.specs.Scope.{whole_span, IsPart, IsScope, message_of}
use Rattle.mvt_rules.specs.Tile.{IsFeature, IsValue, LayerRecord, IsLayer, TileRecord, IsTile, Each}
use Rattle.mvt_rules.specs.WireFault.{MessageFault}
use Rattle.mvt_wire.specs.declared.cause.WireCause.{WireCause}
use Rattle.mvt_wire.specs.declared.schema.Message.{Message}
use Rattle.mvt_wire.specs.declared.schema.Message.TheVariants as messages
use Rattle.mvt_wire.specs.declared.scope.Scope.{Scope}
use Rattle.mvt_wire.specs.declared.scope.Scope.TheVariants.{Tile, Layer, Value, Feature}
use Rattle.mvt_rules.proofs.Tiles.Judgements.{message_or_fault}
use Rattle.mvt_wire.proofs.Encoding.Messages.{one_list}
use Rattle.mvt_rules.proofs.Tiles.Tiles.{tile_or_fault}
use Rattle.mvt_confirm.specs.Calls.Walking.{HoldsMessage, HoldsParts, HoldsLayer}

-- a member of a list
member : {A : Type 0} (P : A → Type 0) (xs : List A) (i : ℕ) (x : A) → All P xs → slice_get xs i ≡ Some x → P x
member P [] i x all here = absurd (cc)
member P (first ∷ xs) zero x all here = let same : first ≡ x = cc in subst P same (All-head P first xs all)
member P (first ∷ xs) (suc i) x all here = member P xs i x (All-tail P first xs all) here

-- a part of a message is as all its payloads of the number are
part_stands : (Stands : Span → Type 0) (bytes : List ℕ) (outer : Span) (field_number ordinal : ℕ) (span : Span) → HoldsParts bytes outer field_number Stands → IsPart bytes outer field_number ordinal span → Stands span
part_stands Stands bytes outer field_number ordinal span held part =
    let same : held.entries ≡ part.entries = one_list (take outer.to bytes) outer.from held.entries part.entries held.whole part.whole in
    member Stands (spans_of field_number held.entries) ordinal span held.have (ap (λ (es : List Entry). slice_get (spans_of field_number es) ordinal) same ∙ part.here)

-- a message that keeps its schema has no fault
faultless : (message : Message) (bytes : List ℕ) (span : Span) (cause : WireCause) → HoldsMessage message bytes span → ¬ MessageFault message (take span.to bytes) span.from cause
faultless message bytes span cause held fault = message_or_fault message (take span.to bytes) span.from held.entries cause held.whole held.have fault

module _ (bytes : List ℕ) where
  -- no message of the tile has a fault
  no_scope_fault : (scope : Scope) (span : Span) (cause : WireCause) → HoldsMessage messages.Tile bytes (whole_span bytes) → HoldsParts bytes (whole_span bytes) 3 (HoldsLayer bytes)
      → IsScope bytes scope span → ¬ MessageFault (message_of scope) (take span.to bytes) span.from cause
  no_scope_fault Tile span cause own layers there fault =
      faultless messages.Tile bytes span cause (subst (HoldsMessage messages.Tile bytes) (sym there) own) fault
  no_scope_fault (Layer layer) span cause own layers there fault =
      let held = part_stands (HoldsLayer bytes) bytes (whole_span bytes) 3 layer span layers there in
      faultless messages.Layer bytes span cause held.own fault
  no_scope_fault (Value layer value) span cause own layers there fault =
      let held = part_stands (HoldsLayer bytes) bytes (whole_span bytes) 3 layer there.0 layers there.1 in
      faultless messages.Value bytes span cause (part_stands (HoldsMessage messages.Value bytes) bytes there.0 4 value span held.values there.2) fault
  no_scope_fault (Feature layer feature) span cause own layers there fault =
      let held = part_stands (HoldsLayer bytes) bytes (whole_span bytes) 3 layer there.0 layers there.1 in
      faultless messages.Feature bytes span cause (part_stands (HoldsMessage messages.Feature bytes) bytes there.0 2 feature span held.features there.2) fault

  -- where the tile's own message and its layers keep their schemas, the bytes are a tile
  pub is_tile : HoldsMessage messages.Tile bytes (whole_span bytes) → HoldsParts bytes (whole_span bytes) 3 (HoldsLayer bytes) → (tile : TileRecord) × IsTile bytes tile
  is_tile own layers = elim (tile_or_fault bytes) [
    | inl tile ↦ tile
    | inr bad ↦ let fault = bad.2 in absurd (no_scope_fault bad.0 fault.span bad.1 own layers fault.there fault.fault)
  ]

  -- what stands for a span says how the span is
  each_stands : {A : Type 0} (related : Span → A → Type 0) (Stands : Span → Type 0) → ((span : Span) (x : A) → related span x → Stands span) → (spans : List Span) (xs : List A) → Each related spans xs → All Stands spans
  each_stands related Stands says [] [] each = All-nil Stands
  each_stands related Stands says [] (x ∷ xs) each = absurd each
  each_stands related Stands says (span ∷ spans) [] each = absurd each
  each_stands related Stands says (span ∷ spans) (x ∷ xs) each = All-cons Stands span spans (says span x each.0) (each_stands related Stands says spans xs each.1)

  -- a layer keeps its schema, with all that is in it
  layer_holds : (span : Span) (layer : LayerRecord) → IsLayer bytes span layer → HoldsLayer bytes span
  layer_holds span layer is = record {
    own = record { entries = is.entries; whole = is.whole; have = is.keeps };
    features = record {
      entries = is.entries;
      whole = is.whole;
      have = each_stands (IsFeature bytes) (HoldsMessage messages.Feature bytes) (λ part feature held. record { entries = held.entries; whole = held.whole; have = held.keeps }) (spans_of 2 is.entries) layer.features is.features;
    };
    values = record {
      entries = is.entries;
      whole = is.whole;
      have = each_stands (IsValue bytes) (HoldsMessage messages.Value bytes) (λ part value held. record { entries = held.entries; whole = held.whole; have = held.keeps }) (spans_of 4 is.entries) layer.values is.values;
    };
  }

  -- the layers of a tile keep their schemas, with all that is in them
  pub layers_hold : (tile : TileRecord) → IsTile bytes tile → HoldsParts bytes (whole_span bytes) 3 (HoldsLayer bytes)
  layers_hold tile is = record { entries = is.entries; whole = is.whole; have = each_stands (IsLayer bytes) (HoldsLayer bytes) layer_holds (spans_of 3 is.entries) tile.layers is.layers }
