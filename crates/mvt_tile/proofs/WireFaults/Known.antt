-- What is known of a layer, and of the messages in it, where nothing in front of a place has a wire fault.
use Rattle.std.proofs.Common.{◌≡◌, ℕ, ◌<◌, List, length, take, Option, Some, None, slice_get, arith}
use Rattle.std.proofs.lemmas.List.{length-take}
use Rattle.mvt_wire.specs.Embedded.{FindsFirst}
use Rattle.mvt_wire.specs.Field.{cause_at}
use Rattle.mvt_wire.specs.Payload.{Span}
use Rattle.mvt_wire.specs.declared.cause.WireCause.{WireCause}
use Rattle.mvt_wire.specs.declared.scope.Scope.{Scope}
use Rattle.mvt_wire.specs.declared.scope.Scope.TheVariants.{Tile, Layer, Value, Feature}
use Rattle.mvt_rules.specs.Scope.{whole_span, IsPart}
use Rattle.mvt_tile.specs.Passed.{IsPassed}
use Rattle.mvt_tile.specs.Calls.Embedded.{FaultInLayer, wire, IsFaultlessLayer}
use Rattle.mvt_tile.specs.Calls.Passed.{IsKnownTo}
use Rattle.mvt_tile.proofs.WireFaults.LaterParts.{LiesAfter, parts_after}

-- what is found where something is known of each span is found as that is known
pub FindsFirst-known : {R : Type 0} (Clean : ℕ → Span → Type 0) (Found : R → ℕ → Span → Type 0) (Known : ℕ → Span → Type 0) (spans : List Span) (count : ℕ) (first : Option R)
    → ((ordinal : ℕ) (span : Span) → slice_get spans ordinal ≡ Some span → Known ordinal span)
    → FindsFirst (λ ordinal span. Known ordinal span → Clean ordinal span) (λ found ordinal span. Known ordinal span → Found found ordinal span) spans count first → FindsFirst Clean Found spans count first
FindsFirst-known Clean Found Known spans count None known finds = (finds.0, λ ordinal span here. finds.1 ordinal span here (known ordinal span here))
FindsFirst-known Clean Found Known spans count (Some found) known finds = record {
  ordinal = finds.ordinal;
  span = finds.span;
  here = finds.here;
  found = finds.found (known finds.ordinal finds.span finds.here);
  before = λ earlier other less here. finds.before earlier other less here (known earlier other here);
}

-- where a part of a message lies
pub IsPart-after : (bytes : List ℕ) (outer : Span) (field_number ordinal : ℕ) (span : Span) → IsPart bytes outer field_number ordinal span → LiesAfter outer.from outer.to span
IsPart-after bytes outer field_number ordinal span part =
    let lies = parts_after (take outer.to bytes) outer.from (length (take outer.to bytes)) field_number part.entries part.whole ordinal span part.here in
    let size = length-take outer.to bytes in
    let before = lies.before in
    record { after = lies.after; forward = lies.forward; before = omega arith }

module _ (bytes : List ℕ) (place : ℕ) where
  -- a layer that ends before the place has no fault
  module _ (ordinal : ℕ) (span : Span) (ends : span.to < place) (known : IsKnownTo bytes place span) where
    not_in_front : (scope : Scope) (cause : WireCause) → FaultInLayer bytes span ordinal scope cause → ⊥
    not_in_front Tile cause fault = fault
    not_in_front (Layer layer) cause fault = let beyond = known.own cause fault.1 in omega arith
    not_in_front (Value layer value) cause fault =
        let beyond = known.parts.values value fault.1.0 cause fault.1.1 fault.1.2 in
        let lies = IsPart-after bytes span 4 value fault.1.0 fault.1.1 in
        omega (arith, lies.before)
    not_in_front (Feature layer feature) cause fault =
        let beyond = known.parts.features feature fault.1.0 cause fault.1.1 fault.1.2 in
        let lies = IsPart-after bytes span 2 feature fault.1.0 fault.1.1 in
        omega (arith, lies.before)

    pub faultless_in_front : IsFaultlessLayer bytes ordinal span
    faultless_in_front fault (wire code scope at field holds) = not_in_front scope (cause_at code at field) holds

  -- what is known of a layer of the tile
  pub layer_known : IsPassed bytes place → (ordinal : ℕ) (span : Span) → IsPart bytes (whole_span bytes) 3 ordinal span → IsKnownTo bytes place span
  layer_known passed ordinal span part = record {
    own = λ cause fault. passed (Layer ordinal) cause (record { span = span; there = part; fault = fault });
    parts = record {
      values = λ value inner cause there fault. passed (Value ordinal value) cause (record { span = inner; there = (span, part, there); fault = fault });
      features = λ feature inner cause there fault. passed (Feature ordinal feature) cause (record { span = inner; there = (span, part, there); fault = fault });
    };
  }

-- in front of the first byte is nothing
pub passed_none : (bytes : List ℕ) → IsPassed bytes 0
passed_none bytes Tile cause fault = tt
passed_none bytes (Layer layer) cause fault = omega arith
passed_none bytes (Value layer value) cause fault = let lies = IsPart-after bytes fault.there.0 4 value fault.span fault.there.2 in omega (arith, lies.after, lies.forward)
passed_none bytes (Feature layer feature) cause fault = let lies = IsPart-after bytes fault.there.0 2 feature fault.span fault.there.2 in omega (arith, lies.after, lies.forward)
