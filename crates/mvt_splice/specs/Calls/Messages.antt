-- The messages of a tile whose fields are copied: they are whole, and hold the messages that they should.
use Rattle.std.specs.Prelude.{◌≡◌, ℕ, ◌≤◌, List, All, Some}
use Rattle.mvt_wire.specs.Field.{Entry}
use Rattle.mvt_wire.specs.Message.{IsMessage}
use Rattle.mvt_wire.specs.Payload.{bytes_in, count_of}

-- the field is of another number, or embeds a message with the property
abbrev pub EmbedsWhole : ℕ → (List ℕ → Type 0) → Entry → Type 0
EmbedsWhole field_number Holds field = field.number ≡ field_number → (message : List ℕ) × (bytes_in field.content ≡ Some message) × Holds message

-- a feature's message: it states a geometry
pub record IsFeatureMessage (message : List ℕ) : Type 0 where
  pub fields : List Entry
  pub whole : IsMessage message 0 fields
  pub drawn : 1 ≤ count_of 4 fields

-- a layer's message: its fields 2 embed features
pub record IsLayerMessage (message : List ℕ) : Type 0 where
  pub fields : List Entry
  pub whole : IsMessage message 0 fields
  pub features : All (EmbedsWhole 2 IsFeatureMessage) fields

-- a tile's message: its fields 3 embed layers
pub record IsTileMessage (message : List ℕ) : Type 0 where
  pub fields : List Entry
  pub whole : IsMessage message 0 fields
  pub layers : All (EmbedsWhole 3 IsLayerMessage) fields
