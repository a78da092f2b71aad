-- The wire faults of a tile: those of its own fields, and those of its layers; which comes first.
use Rattle.std.proofs.Common.{◌≡◌, ℕ, ◌<◌, ◌⊎◌, inl, inr, List, ◌∷◌, Some, None, slice_get, refl, sym, ◌∙◌, ap, subst, arith}
use Rattle.std.proofs.lemmas.Bool.{cases_lt}
use Rattle.mvt_wire.specs.Field.{Entry, cause_at}
use Rattle.mvt_wire.specs.Payload.{Span, spans_of}
use Rattle.mvt_rules.specs.Scope.{whole_span, IsMessageAt, IsPart}
use Rattle.mvt_rules.specs.Tile.{TileRecord, IsTile}
use Rattle.mvt_rules.specs.WireFault.{WireFault}
use Rattle.mvt_wire.specs.declared.cause.WireCause.{WireCause}
use Rattle.mvt_wire.specs.declared.scope.Scope.{Scope}
use Rattle.mvt_wire.specs.declared.scope.Scope.TheVariants.{Tile, Layer, Value, Feature}
use Rattle.mvt_wire.specs.declared.schema.Message.TheVariants as messages
use Rattle.mvt_rules.proofs.Tiles.Tiles.{tile_or_fault, part_here}
use Rattle.mvt_fault.specs.Place.{ComesFirst, IsLeast, place_of}
use Rattle.mvt_rules.specs.Parts.TrueFaults.{IsWireFault, wire}
use Rattle.mvt_fault.specs.Cause.{wire_fault_in}
use Rattle.mvt_fault.specs.declared.fault.Fault.{Fault}
use Rattle.mvt_tile.specs.Calls.Embedded.{HasFault, FaultInLayer, IsLayerFault, IsFaultlessLayer, IsFirstOfLayer}
use Rattle.mvt_wire.specs.Embedded.{IsFirst, FindsFirst}
use Rattle.mvt_tile.specs.Calls.Embedded as layer_faults
use Rattle.mvt_tile.specs.Calls.Least.{cause_place, IsLeastCause}

-- bytes with no wire fault are a tile
pub is_tile : (bytes : List ℕ) → ((scope : Scope) (cause : WireCause) → WireFault bytes scope cause → ⊥) → (tile : TileRecord) × IsTile bytes tile
is_tile bytes faultless = elim (tile_or_fault bytes) [
  | inl tile ↦ tile
  | inr fault ↦ absurd (faultless fault.0 fault.1 fault.2)
]

-- a fault of a message in a layer
record InSomeLayer (bytes : List ℕ) (scope : Scope) (cause : WireCause) : Type 0 where
  layer : ℕ
  span : Span
  part : IsPart bytes (whole_span bytes) 3 layer span
  fault : FaultInLayer bytes span layer scope cause

-- a wire fault is one of the tile's own fields, or of a message in a layer
abbrev OwnOrIn : List ℕ → Scope → WireCause → Type 0
OwnOrIn bytes scope cause = ((scope ≡ Tile) × HasFault messages.Tile bytes (whole_span bytes) cause) ⊎ InSomeLayer bytes scope cause

own_or_in : (bytes : List ℕ) (scope : Scope) (cause : WireCause) → WireFault bytes scope cause → OwnOrIn bytes scope cause
own_or_in bytes Tile cause holds = inl (refl, subst (λ (span : Span). HasFault messages.Tile bytes span cause) holds.there holds.fault)
own_or_in bytes (Layer layer) cause holds = inr (record { layer = layer; span = holds.span; part = holds.there; fault = (refl, holds.fault) })
own_or_in bytes (Value layer value) cause holds = inr (record { layer = layer; span = holds.there.0; part = holds.there.1; fault = (refl, (holds.span, holds.there.2, holds.fault)) })
own_or_in bytes (Feature layer feature) cause holds = inr (record { layer = layer; span = holds.there.0; part = holds.there.1; fault = (refl, (holds.span, holds.there.2, holds.fault)) })

-- and the other way round
layer_part : (bytes : List ℕ) (ordinal layer : ℕ) (span : Span) → layer ≡ ordinal → IsPart bytes (whole_span bytes) 3 ordinal span → IsPart bytes (whole_span bytes) 3 layer span
layer_part bytes ordinal layer span same part = subst (λ (l : ℕ). IsPart bytes (whole_span bytes) 3 l span) (sym same) part

in_layer : (bytes : List ℕ) (ordinal : ℕ) (span : Span) (scope : Scope) (cause : WireCause) → IsPart bytes (whole_span bytes) 3 ordinal span → FaultInLayer bytes span ordinal scope cause → WireFault bytes scope cause
in_layer bytes ordinal span Tile cause part fault = absurd fault
in_layer bytes ordinal span (Layer layer) cause part fault = record { span = span; there = layer_part bytes ordinal layer span fault.0 part; fault = fault.1 }
in_layer bytes ordinal span (Value layer value) cause part fault = record { span = fault.1.0; there = (span, layer_part bytes ordinal layer span fault.0 part, fault.1.1); fault = fault.1.2 }
in_layer bytes ordinal span (Feature layer feature) cause part fault = record { span = fault.1.0; there = (span, layer_part bytes ordinal layer span fault.0 part, fault.1.1); fault = fault.1.2 }

IsWireFault-in : (bytes : List ℕ) (ordinal : ℕ) (span : Span) (fault : Fault) → IsPart bytes (whole_span bytes) 3 ordinal span → IsLayerFault bytes span ordinal fault → IsWireFault bytes fault
IsWireFault-in bytes ordinal span fault part (layer_faults.wire code scope at field holds) = wire code scope at field (in_layer bytes ordinal span scope (cause_at code at field) part holds)

-- the place of a fault in a layer begins with the layer's ordinal
abbrev IsAfter : ℕ → List ℕ → Type 0
IsAfter ordinal place = (rest : List ℕ) × (place ≡ 0 ∷ 1 ∷ ordinal ∷ rest)

place_in_layer : (bytes : List ℕ) (span : Span) (ordinal : ℕ) (scope : Scope) (cause : WireCause) → FaultInLayer bytes span ordinal scope cause → IsAfter ordinal (place_of (wire_fault_in scope cause))
place_in_layer bytes span ordinal Tile cause fault = absurd fault
place_in_layer bytes span ordinal (Layer layer) cause fault = (0 ∷ 0 ∷ cause_place cause, ap (λ (l : ℕ). 0 ∷ 1 ∷ l ∷ 0 ∷ 0 ∷ cause_place cause) fault.0)
place_in_layer bytes span ordinal (Value layer value) cause fault = (1 ∷ value ∷ cause_place cause, ap (λ (l : ℕ). 0 ∷ 1 ∷ l ∷ 1 ∷ value ∷ cause_place cause) fault.0)
place_in_layer bytes span ordinal (Feature layer feature) cause fault = (2 ∷ feature ∷ cause_place cause, ap (λ (l : ℕ). 0 ∷ 1 ∷ l ∷ 2 ∷ feature ∷ cause_place cause) fault.0)

fault_place : (bytes : List ℕ) (span : Span) (ordinal : ℕ) (fault : Fault) → IsLayerFault bytes span ordinal fault → IsAfter ordinal (place_of fault)
fault_place bytes span ordinal fault (layer_faults.wire code scope at field holds) = place_in_layer bytes span ordinal scope (cause_at code at field) holds

-- so a fault in a layer comes before one in a later layer
earlier_layer : (ordinal other : ℕ) (place following : List ℕ) → IsAfter ordinal place → IsAfter other following → ordinal < other → ComesFirst place following
earlier_layer ordinal other place following first second less =
    let ordered : ComesFirst (0 ∷ 1 ∷ ordinal ∷ first.0) (0 ∷ 1 ∷ other ∷ second.0) = inr (refl, inr (refl, inl less)) in
    subst (λ (p : List ℕ). ComesFirst p following) (sym first.1) (subst (ComesFirst (0 ∷ 1 ∷ ordinal ∷ first.0)) (sym second.1) ordered)

-- a fault of the tile's own fields comes before those in its layers
after_own : (bytes : List ℕ) (cause : WireCause) → IsLeastCause (HasFault messages.Tile bytes (whole_span bytes)) cause → (scope : Scope) (fault : WireCause) → WireFault bytes scope fault
    → ComesFirst (place_of (wire_fault_in Tile cause)) (place_of (wire_fault_in scope fault))
after_own bytes cause least Tile fault holds =
    inr (refl, inr (refl, inr (refl, inr (refl, inr (refl, least.least fault (subst (λ (span : Span). HasFault messages.Tile bytes span fault) holds.there holds.fault))))))
after_own bytes cause least (Layer layer) fault holds = inr (refl, inl (omega arith))
after_own bytes cause least (Value layer value) fault holds = inr (refl, inl (omega arith))
after_own bytes cause least (Feature layer feature) fault holds = inr (refl, inl (omega arith))

pub IsLeast-tile : (bytes : List ℕ) (cause : WireCause) → IsLeastCause (HasFault messages.Tile bytes (whole_span bytes)) cause → IsLeast (IsWireFault bytes) (wire_fault_in Tile cause)
IsLeast-tile bytes cause least = record { holds = wire cause.code Tile cause.at cause.field (record { span = whole_span bytes; there = refl; fault = least.holds }); least = following }
  where
    following : (fault : Fault) → IsWireFault bytes fault → ComesFirst (place_of (wire_fault_in Tile cause)) (place_of fault)
    following fault (wire code scope at field holds) = after_own bytes cause least scope (cause_at code at field) holds

module _ (bytes : List ℕ) (entries : List Entry) (whole : IsMessageAt bytes (whole_span bytes) entries) (none : (cause : WireCause) → ¬ HasFault messages.Tile bytes (whole_span bytes) cause) where
  -- where no layer has a fault either, there is none
  pub WireFault-none : (count : ℕ) → FindsFirst (IsFaultlessLayer bytes) (IsFirstOfLayer bytes) (spans_of 3 entries) count None → (scope : Scope) (cause : WireCause) → ¬ WireFault bytes scope cause
  WireFault-none count finds scope cause holds = elim (own_or_in bytes scope cause holds) [
    | inl own ↦ none cause own.1
    | inr inside ↦ finds.1 inside.layer inside.span (part_here bytes (whole_span bytes) 3 inside.layer inside.span entries whole inside.part) (wire_fault_in scope cause) (layer_faults.wire cause.code scope cause.at cause.field inside.fault)
  ]

  -- the first fault of the first layer that has one comes before those of the others
  module _ (first : Fault) (finds : IsFirst (IsFaultlessLayer bytes) (IsFirstOfLayer bytes first) (spans_of 3 entries)) where
    first_part : IsPart bytes (whole_span bytes) 3 finds.ordinal finds.span
    first_part = record { entries = entries; whole = whole; here = finds.here }

    after_first : (fault : Fault) (layer : ℕ) (span : Span) → IsPart bytes (whole_span bytes) 3 layer span → IsLayerFault bytes span layer fault → ComesFirst (place_of first) (place_of fault)
    after_first fault layer span part holds =
        let among = part_here bytes (whole_span bytes) 3 layer span entries whole part in
        elim (cases_lt finds.ordinal layer) [
          | inl following ↦ earlier_layer finds.ordinal layer (place_of first) (place_of fault) (fault_place bytes finds.span finds.ordinal first finds.found.holds) (fault_place bytes span layer fault holds) following
          | inr not_after ↦ elim (cases_lt layer finds.ordinal) [
            | inl before ↦ absurd (finds.before layer span before among fault holds)
            | inr not_before ↦
                let same : layer ≡ finds.ordinal = omega arith in
                let both : Some span ≡ Some finds.span = sym among ∙ ap (slice_get (spans_of 3 entries)) same ∙ finds.here in
                let spans : span ≡ finds.span = cc in
                finds.found.least fault (subst (λ (l : ℕ). IsLayerFault bytes finds.span l fault) same (subst (λ (s : Span). IsLayerFault bytes s layer fault) spans holds))
          ]
        ]

    after_all : (scope : Scope) (cause : WireCause) → WireFault bytes scope cause → ComesFirst (place_of first) (place_of (wire_fault_in scope cause))
    after_all scope cause holds = elim (own_or_in bytes scope cause holds) [
      | inl own ↦ absurd (none cause own.1)
      | inr inside ↦ after_first (wire_fault_in scope cause) inside.layer inside.span inside.part (layer_faults.wire cause.code scope cause.at cause.field inside.fault)
    ]

    pub IsLeast-layer : IsLeast (IsWireFault bytes) first
    IsLeast-layer = record { holds = IsWireFault-in bytes finds.ordinal finds.span first first_part finds.found.holds; least = following }
      where
        following : (fault : Fault) → IsWireFault bytes fault → ComesFirst (place_of first) (place_of fault)
        following fault (wire code scope at field holds) = after_all scope (cause_at code at field) holds
