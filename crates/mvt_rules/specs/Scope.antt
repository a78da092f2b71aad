-- Where the messages of a tile lie in its bytes (Mapbox Vector Tile Specification 2.1, section 4).
use Rattle.std.specs.Prelude.{◌≡◌, ℕ, List, length, take, slice_get, Some}
use Rattle.mvt_wire.specs.Field.{Entry}
use Rattle.mvt_wire.specs.Message.{IsMessage}
use Rattle.mvt_wire.specs.Payload.{Span, spans_of}
use Rattle.mvt_wire.specs.declared.schema.Message.{Message}
use Rattle.mvt_wire.specs.declared.scope.Scope.{Scope}
use Rattle.mvt_wire.specs.declared.scope.Scope.TheVariants.{Tile, Layer, Value, Feature}
use Rattle.mvt_wire.specs.declared.schema.Message.TheVariants as messages

-- the span holds a whole message, with this field list
abbrev pub IsMessageAt : List ℕ → Span → List Entry → Type 0
IsMessageAt bytes span entries = IsMessage (take span.to bytes) span.from entries

-- all the bytes
abbrev pub whole_span : List ℕ → Span
whole_span bytes = record { from = 0; to = length bytes }

-- of the payloads of a number in a whole message, the one with this ordinal
pub record IsPart (bytes : List ℕ) (outer : Span) (field_number ordinal : ℕ) (span : Span) : Type 0 where
  pub entries : List Entry
  pub whole : IsMessageAt bytes outer entries
  pub here : slice_get (spans_of field_number entries) ordinal ≡ Some span

-- where the message of a scope lies: the tile is all the bytes, its layers are its fields 3; a layer's values are its
-- fields 4, and its features its fields 2
abbrev pub IsScope : List ℕ → Scope → Span → Type 0
IsScope bytes Tile span = span ≡ whole_span bytes
IsScope bytes (Layer layer) span = IsPart bytes (whole_span bytes) 3 layer span
IsScope bytes (Value layer value) span = (outer : Span) × IsPart bytes (whole_span bytes) 3 layer outer × IsPart bytes outer 4 value span
IsScope bytes (Feature layer feature) span = (outer : Span) × IsPart bytes (whole_span bytes) 3 layer outer × IsPart bytes outer 2 feature span

-- which message a scope is
abbrev pub message_of : Scope → Message
message_of Tile = messages.Tile
message_of (Layer layer) = messages.Layer
message_of (Value layer value) = messages.Value
message_of (Feature layer feature) = messages.Feature
