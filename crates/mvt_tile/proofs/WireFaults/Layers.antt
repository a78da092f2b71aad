-- The faults of a layer and of the messages in it: which comes first.
use Rattle.std.proofs.Common.{◌≡◌, ℕ, inl, inr, List, ◌∷◌, Some, slice_get, refl, sym, ◌∙◌, ap, subst, arith}
use Rattle.std.proofs.lemmas.Bool.{cases_lt}
use Rattle.mvt_wire.specs.Field.{Entry, cause_at}
use Rattle.mvt_wire.specs.Payload.{Span, spans_of}
use Rattle.mvt_rules.specs.Scope.{IsMessageAt, IsPart}
use Rattle.mvt_wire.specs.declared.cause.WireCause.{WireCause}
use Rattle.mvt_wire.specs.declared.scope.Scope.{Scope}
use Rattle.mvt_wire.specs.declared.scope.Scope.TheVariants.{Tile, Layer, Value, Feature}
use Rattle.mvt_wire.specs.declared.schema.Message.{Message}
use Rattle.mvt_wire.specs.declared.schema.Message.TheVariants as messages
use Rattle.mvt_rules.proofs.Tiles.Tiles.{part_here}
use Rattle.mvt_fault.specs.Place.{ComesFirst, IsLeast, place_of}
use Rattle.mvt_fault.specs.Cause.{wire_fault_in}
use Rattle.mvt_fault.specs.declared.fault.Fault.{Fault}
use Rattle.mvt_tile.specs.Calls.Embedded.{HasFault, HasNone, HasFirst, FaultInLayer, IsLayerFault, wire}
use Rattle.mvt_wire.specs.Embedded.{AreClean, IsFirst}
use Rattle.mvt_tile.specs.Calls.Least.{cause_place, IsLeastCause}

-- where all are clean, none of them has a fault
part_clean : (message : Message) (bytes : List ℕ) (outer : Span) (entries : List Entry) (field_number ordinal : ℕ) (inner : Span) (cause : WireCause) → IsMessageAt bytes outer entries
    → AreClean (HasNone message bytes) (spans_of field_number entries) → IsPart bytes outer field_number ordinal inner → HasFault message bytes inner cause → ⊥
part_clean message bytes outer entries field_number ordinal inner cause whole clean part fault = clean ordinal inner (part_here bytes outer field_number ordinal inner entries whole part) cause fault

-- the first that has a fault is one of them
first_part : (message : Message) (bytes : List ℕ) (outer : Span) (entries : List Entry) (field_number ordinal : ℕ) (cause : WireCause) → IsMessageAt bytes outer entries
    → IsFirst (HasNone message bytes) (HasFirst message bytes (ordinal, cause)) (spans_of field_number entries) → (inner : Span) × IsPart bytes outer field_number ordinal inner × HasFault message bytes inner cause
first_part message bytes outer entries field_number ordinal cause whole first =
    (first.span, record { entries = entries; whole = whole; here = ap (slice_get (spans_of field_number entries)) (sym first.found.0) ∙ first.here }, first.found.1.holds)

-- and its first fault comes before those of the others
part_first : (message : Message) (bytes : List ℕ) (outer : Span) (entries : List Entry) (field_number ordinal : ℕ) (cause : WireCause) (other : ℕ) (inner : Span) (fault : WireCause) → IsMessageAt bytes outer entries
    → IsFirst (HasNone message bytes) (HasFirst message bytes (ordinal, cause)) (spans_of field_number entries)
    → IsPart bytes outer field_number other inner → HasFault message bytes inner fault → ComesFirst (ordinal ∷ cause_place cause) (other ∷ cause_place fault)
part_first message bytes outer entries field_number ordinal cause other inner fault whole first part holds =
    let among = part_here bytes outer field_number other inner entries whole part in
    let place : first.ordinal ≡ ordinal = first.found.0 in
    elim (cases_lt ordinal other) [
      | inl following ↦ inl following
      | inr not_after ↦ elim (cases_lt other ordinal) [
        | inl before ↦ absurd (first.before other inner (omega arith) among fault holds)
        | inr not_before ↦
            let same : ordinal ≡ other = omega arith in
            let both : Some inner ≡ Some first.span = sym among ∙ ap (slice_get (spans_of field_number entries)) (sym (place ∙ same)) ∙ first.here in
            let spans : inner ≡ first.span = cc in
            inr (same, first.found.1.least fault (subst (λ (span : Span). HasFault message bytes span fault) spans holds))
      ]
    ]

-- two places in one layer are compared after its ordinal
within_layer : (layer other : ℕ) (xs ys : List ℕ) → other ≡ layer → ComesFirst xs ys → ComesFirst (0 ∷ 1 ∷ layer ∷ xs) (0 ∷ 1 ∷ other ∷ ys)
within_layer layer other xs ys same first = inr (refl, inr (refl, inr (sym same, first)))

module _ (bytes : List ℕ) (outer : Span) (layer : ℕ) where
  -- a fault of the layer's own fields comes before those of the messages in it
  after_own : (cause : WireCause) → IsLeastCause (HasFault messages.Layer bytes outer) cause → (scope : Scope) (fault : WireCause) → FaultInLayer bytes outer layer scope fault
      → ComesFirst (place_of (wire_fault_in (Layer layer) cause)) (place_of (wire_fault_in scope fault))
  after_own cause least Tile fault holds = absurd holds
  after_own cause least (Layer other) fault holds = within_layer layer other (0 ∷ 0 ∷ cause_place cause) (0 ∷ 0 ∷ cause_place fault) holds.0 (inr (refl, inr (refl, least.least fault holds.1)))
  after_own cause least (Value other value) fault holds =
      within_layer layer other (0 ∷ 0 ∷ cause_place cause) (1 ∷ value ∷ cause_place fault) holds.0 (inl (omega arith))
  after_own cause least (Feature other feature) fault holds =
      within_layer layer other (0 ∷ 0 ∷ cause_place cause) (2 ∷ feature ∷ cause_place fault) holds.0 (inl (omega arith))

  pub IsLeast-own : (cause : WireCause) → IsLeastCause (HasFault messages.Layer bytes outer) cause → IsLeast (IsLayerFault bytes outer layer) (wire_fault_in (Layer layer) cause)
  IsLeast-own cause least = record { holds = wire cause.code (Layer layer) cause.at cause.field (refl, least.holds); least = following }
    where
      following : (fault : Fault) → IsLayerFault bytes outer layer fault → ComesFirst (place_of (wire_fault_in (Layer layer) cause)) (place_of fault)
      following fault (wire code scope at field holds) = after_own cause least scope (cause_at code at field) holds

  -- else that of a value
  after_value : (entries : List Entry) (ordinal : ℕ) (cause : WireCause) → IsMessageAt bytes outer entries → ((own : WireCause) → ¬ HasFault messages.Layer bytes outer own)
      → IsFirst (HasNone messages.Value bytes) (HasFirst messages.Value bytes (ordinal, cause)) (spans_of 4 entries)
      → (scope : Scope) (fault : WireCause) → FaultInLayer bytes outer layer scope fault → ComesFirst (place_of (wire_fault_in (Value layer ordinal) cause)) (place_of (wire_fault_in scope fault))
  after_value entries ordinal cause whole none first Tile fault holds = absurd holds
  after_value entries ordinal cause whole none first (Layer other) fault holds = absurd (none fault holds.1)
  after_value entries ordinal cause whole none first (Value other value) fault holds =
      within_layer layer other (1 ∷ ordinal ∷ cause_place cause) (1 ∷ value ∷ cause_place fault) holds.0 (inr (refl, part_first messages.Value bytes outer entries 4 ordinal cause value holds.1.0 fault whole first holds.1.1 holds.1.2))
  after_value entries ordinal cause whole none first (Feature other feature) fault holds =
      within_layer layer other (1 ∷ ordinal ∷ cause_place cause) (2 ∷ feature ∷ cause_place fault) holds.0 (inl (omega arith))

  pub IsLeast-value : (entries : List Entry) (ordinal : ℕ) (cause : WireCause) → IsMessageAt bytes outer entries → ((own : WireCause) → ¬ HasFault messages.Layer bytes outer own)
      → IsFirst (HasNone messages.Value bytes) (HasFirst messages.Value bytes (ordinal, cause)) (spans_of 4 entries)
      → IsLeast (IsLayerFault bytes outer layer) (wire_fault_in (Value layer ordinal) cause)
  IsLeast-value entries ordinal cause whole none first = record { holds = wire cause.code (Value layer ordinal) cause.at cause.field (refl, first_part messages.Value bytes outer entries 4 ordinal cause whole first); least = following }
    where
      following : (fault : Fault) → IsLayerFault bytes outer layer fault → ComesFirst (place_of (wire_fault_in (Value layer ordinal) cause)) (place_of fault)
      following fault (wire code scope at field holds) = after_value entries ordinal cause whole none first scope (cause_at code at field) holds

  -- else that of a feature
  after_feature : (entries : List Entry) (ordinal : ℕ) (cause : WireCause) → IsMessageAt bytes outer entries → ((own : WireCause) → ¬ HasFault messages.Layer bytes outer own)
      → AreClean (HasNone messages.Value bytes) (spans_of 4 entries)
      → IsFirst (HasNone messages.Feature bytes) (HasFirst messages.Feature bytes (ordinal, cause)) (spans_of 2 entries)
      → (scope : Scope) (fault : WireCause) → FaultInLayer bytes outer layer scope fault → ComesFirst (place_of (wire_fault_in (Feature layer ordinal) cause)) (place_of (wire_fault_in scope fault))
  after_feature entries ordinal cause whole none values first Tile fault holds = absurd holds
  after_feature entries ordinal cause whole none values first (Layer other) fault holds = absurd (none fault holds.1)
  after_feature entries ordinal cause whole none values first (Value other value) fault holds =
      absurd (part_clean messages.Value bytes outer entries 4 value holds.1.0 fault whole values holds.1.1 holds.1.2)
  after_feature entries ordinal cause whole none values first (Feature other feature) fault holds =
      within_layer layer other (2 ∷ ordinal ∷ cause_place cause) (2 ∷ feature ∷ cause_place fault) holds.0 (inr (refl, part_first messages.Feature bytes outer entries 2 ordinal cause feature holds.1.0 fault whole first holds.1.1 holds.1.2))

  pub IsLeast-feature : (entries : List Entry) (ordinal : ℕ) (cause : WireCause) → IsMessageAt bytes outer entries → ((own : WireCause) → ¬ HasFault messages.Layer bytes outer own)
      → AreClean (HasNone messages.Value bytes) (spans_of 4 entries)
      → IsFirst (HasNone messages.Feature bytes) (HasFirst messages.Feature bytes (ordinal, cause)) (spans_of 2 entries)
      → IsLeast (IsLayerFault bytes outer layer) (wire_fault_in (Feature layer ordinal) cause)
  IsLeast-feature entries ordinal cause whole none values first = record { holds = wire cause.code (Feature layer ordinal) cause.at cause.field (refl, first_part messages.Feature bytes outer entries 2 ordinal cause whole first); least = following }
    where
      following : (fault : Fault) → IsLayerFault bytes outer layer fault → ComesFirst (place_of (wire_fault_in (Feature layer ordinal) cause)) (place_of fault)
      following fault (wire code scope at field holds) = after_feature entries ordinal cause whole none values first scope (cause_at code at field) holds

  -- else there is none
  none_in : (entries : List Entry) → IsMessageAt bytes outer entries → ((own : WireCause) → ¬ HasFault messages.Layer bytes outer own)
      → AreClean (HasNone messages.Value bytes) (spans_of 4 entries) → AreClean (HasNone messages.Feature bytes) (spans_of 2 entries)
      → (scope : Scope) (fault : WireCause) → FaultInLayer bytes outer layer scope fault → ⊥
  none_in entries whole none values features Tile fault holds = holds
  none_in entries whole none values features (Layer other) fault holds = none fault holds.1
  none_in entries whole none values features (Value other value) fault holds = part_clean messages.Value bytes outer entries 4 value holds.1.0 fault whole values holds.1.1 holds.1.2
  none_in entries whole none values features (Feature other feature) fault holds = part_clean messages.Feature bytes outer entries 2 feature holds.1.0 fault whole features holds.1.1 holds.1.2

  pub IsLayerFault-none : (entries : List Entry) → IsMessageAt bytes outer entries → ((own : WireCause) → ¬ HasFault messages.Layer bytes outer own)
      → AreClean (HasNone messages.Value bytes) (spans_of 4 entries) → AreClean (HasNone messages.Feature bytes) (spans_of 2 entries)
      → (fault : Fault) → ¬ IsLayerFault bytes outer layer fault
  IsLayerFault-none entries whole none values features fault (wire code scope at field holds) = none_in entries whole none values features scope (cause_at code at field) holds
