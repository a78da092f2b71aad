-- The wire faults of a layer and of the messages in it, as walks over the fields find them.
use Rattle.std.specs.Prelude.{◌≡◌, ◌⊎◌, ℕ, List, take, Option, Some, None}
use Rattle.mvt_wire.specs.Field.{cause_at}
use Rattle.mvt_wire.specs.Payload.{Span}
use Rattle.mvt_rules.specs.Scope.{IsPart}
use Rattle.mvt_rules.specs.WireFault.{MessageFault}
use Rattle.mvt_wire.specs.declared.cause.WireCause.{WireCause}
use Rattle.mvt_wire.specs.declared.cause.WireCode.{WireCode}
use Rattle.mvt_wire.specs.declared.scope.Scope.{Scope}
use Rattle.mvt_wire.specs.declared.scope.Scope.TheVariants.{Tile, Layer, Value, Feature}
use Rattle.mvt_wire.specs.declared.schema.Message.{Message}
use Rattle.mvt_wire.specs.declared.schema.Message.TheVariants as messages
use Rattle.mvt_fault.specs.Cause.{wire_fault_in}
use Rattle.mvt_fault.specs.Place.{IsLeast}
use Rattle.mvt_fault.specs.declared.fault.Fault.{Fault}
use Rattle.mvt_fault.specs.declared.fault.Fault.TheVariants.{Wire}
use Rattle.mvt_tile.specs.Calls.Least.{IsLeastCause}

-- the message in a span of the bytes has a fault
abbrev pub HasFault : Message → List ℕ → Span → WireCause → Type 0
HasFault message bytes span cause = MessageFault message (take span.to bytes) span.from cause

-- it has none
abbrev pub HasNone : Message → List ℕ → ℕ → Span → Type 0
HasNone message bytes ordinal span = (cause : WireCause) → ¬ HasFault message bytes span cause

-- with this ordinal, it has this one as its first
abbrev pub HasFirst : Message → List ℕ → ℕ × WireCause → ℕ → Span → Type 0
HasFirst message bytes found ordinal span = (ordinal ≡ found.0) × IsLeastCause (HasFault message bytes span) found.1

-- the message of a scope, in the layer that lies in a span and has an ordinal, has a fault
abbrev pub FaultInLayer : List ℕ → Span → ℕ → Scope → WireCause → Type 0
FaultInLayer bytes span ordinal Tile cause = ⊥
FaultInLayer bytes span ordinal (Layer layer) cause = (layer ≡ ordinal) × HasFault messages.Layer bytes span cause
FaultInLayer bytes span ordinal (Value layer value) cause =
    (layer ≡ ordinal) × ((inner : Span) × IsPart bytes span 4 value inner × HasFault messages.Value bytes inner cause)
FaultInLayer bytes span ordinal (Feature layer feature) cause =
    (layer ≡ ordinal) × ((inner : Span) × IsPart bytes span 2 feature inner × HasFault messages.Feature bytes inner cause)

-- the fault is one of that layer, or of a message in it
pub data IsLayerFault (bytes : List ℕ) (span : Span) (ordinal : ℕ) : Fault → Type 0 where
  wire : (code : WireCode) (scope : Scope) (at field : ℕ) → FaultInLayer bytes span ordinal scope (cause_at code at field)
      → IsLayerFault bytes span ordinal (Wire code scope at field)

-- the layer has no fault
abbrev pub IsFaultlessLayer : List ℕ → ℕ → Span → Type 0
IsFaultlessLayer bytes ordinal span = (fault : Fault) → ¬ IsLayerFault bytes span ordinal fault

-- the layer has this fault as its first
abbrev pub IsFirstOfLayer : List ℕ → Fault → ℕ → Span → Type 0
IsFirstOfLayer bytes fault ordinal span = IsLeast (IsLayerFault bytes span ordinal) fault

-- the fault is the one that was found in the values of a layer with an ordinal, or else in its features
abbrev pub IsInnerFault : ℕ → Option (ℕ × WireCause) → Option (ℕ × WireCause) → Fault → Type 0
IsInnerFault layer of_value of_feature fault =
    ((found : ℕ × WireCause) × (of_value ≡ Some found) × (fault ≡ wire_fault_in (Value layer found.0) found.1))
    ⊎ ((found : ℕ × WireCause) × (of_value ≡ None) × (of_feature ≡ Some found) × (fault ≡ wire_fault_in (Feature layer found.0) found.1))
