-- Where no wire fault is in front of a place: what of a layer, of its values and of its features this leaves.
use Rattle.std.specs.Prelude.{ℕ, ◌≤◌, List}
use Rattle.mvt_wire.specs.Payload.{Span}
use Rattle.mvt_wire.specs.declared.cause.WireCause.{WireCause}
use Rattle.mvt_wire.specs.declared.schema.Message.{Message}
use Rattle.mvt_wire.specs.declared.schema.Message.TheVariants as messages
use Rattle.mvt_rules.specs.Scope.{IsPart}
use Rattle.mvt_fault.specs.declared.fault.Fault.{Fault}
use Rattle.mvt_tile.specs.Calls.Embedded.{HasFault, HasNone, HasFirst, IsFaultlessLayer, IsFirstOfLayer}

-- the messages of a number in the layer that a span holds have no fault where they end in front of the place
abbrev pub ArePassed : Message → ℕ → List ℕ → ℕ → Span → Type 0
ArePassed message field_number bytes place span =
    (ordinal : ℕ) (inner : Span) (cause : WireCause) → IsPart bytes span field_number ordinal inner → HasFault message bytes inner cause → place ≤ inner.to

-- so it is with its values and its features
pub record ArePartsPassed (bytes : List ℕ) (place : ℕ) (span : Span) : Type 0 where
  pub values : ArePassed messages.Value 4 bytes place span
  pub features : ArePassed messages.Feature 2 bytes place span

-- and with the layer's own fields, where it ends in front of the place
pub record IsKnownTo (bytes : List ℕ) (place : ℕ) (span : Span) : Type 0 where
  pub own : (cause : WireCause) → HasFault messages.Layer bytes span cause → place ≤ span.to
  pub parts : ArePartsPassed bytes place span

-- if so, the layer has no fault
abbrev pub IsFaultlessAfter : ℕ → List ℕ → ℕ → Span → Type 0
IsFaultlessAfter place bytes ordinal span = IsKnownTo bytes place span → IsFaultlessLayer bytes ordinal span

-- if so, it has this fault as its first
abbrev pub IsFirstAfter : ℕ → List ℕ → Fault → ℕ → Span → Type 0
IsFirstAfter place bytes fault ordinal span = IsKnownTo bytes place span → IsFirstOfLayer bytes fault ordinal span

-- a message has no fault if it ends in front of the place
abbrev pub IsMessageKnownTo : Message → ℕ → List ℕ → Span → Type 0
IsMessageKnownTo message place bytes span = (cause : WireCause) → HasFault message bytes span cause → place ≤ span.to

-- if so, it has none
abbrev pub HasNoneAfter : Message → ℕ → List ℕ → ℕ → Span → Type 0
HasNoneAfter message place bytes ordinal span = IsMessageKnownTo message place bytes span → HasNone message bytes ordinal span

-- if so, with this ordinal, it has this one as its first
abbrev pub HasFirstAfter : Message → ℕ → List ℕ → ℕ × WireCause → ℕ → Span → Type 0
HasFirstAfter message place bytes found ordinal span = IsMessageKnownTo message place bytes span → HasFirst message bytes found ordinal span
