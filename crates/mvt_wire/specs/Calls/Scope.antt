-- Spans between two places, and what embeds a message.
use Rattle.std.specs.Prelude.{◌≡◌, ℕ, Some}
use Rattle.mvt_wire.specs.Field.{Entry}
use Rattle.mvt_wire.specs.Payload.{Span, span_of}

-- the bytes from one place up to another
abbrev pub span_between : ℕ → ℕ → Span
span_between from to = record { from = from; to = to }

-- where the field has the number and a payload of wire type 2, the span of that payload has the property
abbrev pub Embeds : ℕ → (Span → Type 0) → Entry → Type 0
Embeds field_number Holds entry = (span : Span) → entry.number ≡ field_number → span_of entry.content ≡ Some span → Holds span
