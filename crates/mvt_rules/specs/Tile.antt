-- The record that a tile's bytes encode (Mapbox Vector Tile Specification 2.1, section 4). Its fields are filters of
-- the field lists of its messages.
use Rattle.std.specs.Prelude.{◌≡◌, ℕ, ◌==◌, ◌≤◌, Bool, true, false, not, List, [], ◌∷◌, filter, All, ℤ, Option, Some, unwrap_or, is_some, IsUtf8, slice_get}
use Rattle.std.specs.Int.{cast_signed, w64}
use Rattle.mvt_wire.specs.Field.{Content, varint, eight_bytes, delimited, four_bytes, Entry, wire_type_of}
use Rattle.mvt_wire.specs.Number.{zigzag, States, StateTogether, AreSmall}
use Rattle.mvt_wire.specs.Schema.{rule_of, is_own, is_out_of_range, is_singular, is_required}
use Rattle.mvt_wire.specs.Payload.{contents_of, count_of, numbers_of, texts_of, Span, spans_of}
use Rattle.mvt_rules.specs.Scope.{whole_span, IsMessageAt}
use Rattle.mvt_rules.specs.WireFault.{count_known}
use Rattle.mvt_wire.specs.declared.schema.FieldRule.{FieldRule}
use Rattle.mvt_wire.specs.declared.schema.Message.{Message}
use Rattle.mvt_wire.specs.declared.schema.Message.TheVariants.{Tile, Layer, Value, Feature}
use Rattle.mvt_wire.specs.declared.schema.Shape.TheVariants.{Text, Numbers}

-- a payload that keeps a rule: of an own wire type; a text in UTF-8; a number in its range; a packed list of numbers
-- of 32 bits
pub record Fits (rule : FieldRule) (content : Content) : Type 0 where
  pub own : is_own rule.shape (wire_type_of content) ≡ true
  pub text : (from : ℕ) (part : List ℕ) → rule.shape ≡ Text → content ≡ delimited from part → IsUtf8 part
  pub in_range : (value at : ℕ) → content ≡ varint value at → is_out_of_range rule.shape value ≡ false
  pub packed : (from : ℕ) (part : List ℕ) → rule.shape ≡ Numbers → content ≡ delimited from part → (numbers : List ℕ) × States content numbers × AreSmall numbers

-- What the fields of a message keep: each of a known number fits its rule, and each number occurs as often as it may. A
-- value has just one known field.
pub record KeepsSchema (message : Message) (entries : List Entry) : Type 0 where
  pub fits : All (λ entry. (rule : FieldRule) → rule_of message entry.number ≡ Some rule → Fits rule entry.content) entries
  pub at_most : (field_number : ℕ) (rule : FieldRule) → rule_of message field_number ≡ Some rule → is_singular rule.occurrence ≡ true → count_of field_number entries ≤ 1
  pub at_least : (field_number : ℕ) (rule : FieldRule) → rule_of message field_number ≡ Some rule → is_required rule.occurrence ≡ true → 1 ≤ count_of field_number entries
  pub one : message ≡ Value → count_known message entries ≡ 1

-- a feature (section 4.2): its id, its tags, its geometry type from 0 to 3, and its geometry's numbers
pub record FeatureRecord : Type 0 where
  pub id : Option ℕ
  pub tags : List ℕ
  pub kind : ℕ
  pub geometry : List ℕ

-- a value (section 4.4): a text, the bytes of a float or a double, a number or a truth value
pub data ValueRecord : Type 0 where
  text : List ℕ → ValueRecord
  float : List ℕ → ValueRecord
  double : List ℕ → ValueRecord
  int : ℤ → ValueRecord
  uint : ℕ → ValueRecord
  sint : ℤ → ValueRecord
  truth : Bool → ValueRecord

-- a layer (section 4.1)
pub record LayerRecord : Type 0 where
  pub version : ℕ
  pub name : List ℕ
  pub features : List FeatureRecord
  pub keys : List (List ℕ)
  pub values : List ValueRecord
  pub extent : ℕ

-- a tile (section 4): its layers
pub record TileRecord : Type 0 where
  pub layers : List LayerRecord

-- the feature that the span holds
pub record IsFeature (bytes : List ℕ) (span : Span) (feature : FeatureRecord) : Type 0 where
  pub entries : List Entry
  pub whole : IsMessageAt bytes span entries
  pub keeps : KeepsSchema Feature entries
  pub id : feature.id ≡ slice_get (numbers_of 1 entries) 0
  pub tags : StateTogether (contents_of 2 entries) feature.tags
  pub kind : numbers_of 3 entries ≡ feature.kind ∷ []
  pub geometry : StateTogether (contents_of 4 entries) feature.geometry

-- what a field of a value says, by its number
pub data Says (field_number : ℕ) (content : Content) (value : ValueRecord) : Type 0 where
  says_text : (from : ℕ) (part : List ℕ) → field_number ≡ 1 → content ≡ delimited from part → value ≡ text part → Says field_number content value
  says_float : (part : List ℕ) → field_number ≡ 2 → content ≡ four_bytes part → value ≡ float part → Says field_number content value
  says_double : (part : List ℕ) → field_number ≡ 3 → content ≡ eight_bytes part → value ≡ double part → Says field_number content value
  -- two's complement of 64 bits
  says_int : (n at : ℕ) → field_number ≡ 4 → content ≡ varint n at → value ≡ int (cast_signed w64 n) → Says field_number content value
  says_uint : (n at : ℕ) → field_number ≡ 5 → content ≡ varint n at → value ≡ uint n → Says field_number content value
  -- the varint is the number's zigzag form (Protocol Buffers encoding, "Signed Integers")
  says_sint : (z : ℤ) (at : ℕ) → field_number ≡ 6 → content ≡ varint (zigzag z) at → value ≡ sint z → Says field_number content value
  -- true where the varint isn't 0
  says_truth : (n at : ℕ) → field_number ≡ 7 → content ≡ varint n at → value ≡ truth (not (n == 0)) → Says field_number content value

-- the value that the span holds: what its one known field says
pub record IsValue (bytes : List ℕ) (span : Span) (value : ValueRecord) : Type 0 where
  pub entries : List Entry
  pub whole : IsMessageAt bytes span entries
  pub keeps : KeepsSchema Value entries
  pub entry : Entry
  pub known : filter (λ (e : Entry). is_some (rule_of Value e.number)) entries ≡ entry ∷ []
  pub says : Says entry.number entry.content value

-- two lists of one length, whose members belong together in order
abbrev pub Each : {A B : Type 0} → (A → B → Type 0) → List A → List B → Type 0
Each related [] [] = Unit {0}
Each related (x ∷ xs) (y ∷ ys) = related x y × Each related xs ys
Each related [] (y ∷ ys) = ⊥
Each related (x ∷ xs) [] = ⊥

-- the layer that the span holds; an absent extent is 4096
pub record IsLayer (bytes : List ℕ) (span : Span) (layer : LayerRecord) : Type 0 where
  pub entries : List Entry
  pub whole : IsMessageAt bytes span entries
  pub keeps : KeepsSchema Layer entries
  pub version : numbers_of 15 entries ≡ layer.version ∷ []
  pub name : texts_of 1 entries ≡ layer.name ∷ []
  pub features : Each (IsFeature bytes) (spans_of 2 entries) layer.features
  pub keys : texts_of 3 entries ≡ layer.keys
  pub values : Each (IsValue bytes) (spans_of 4 entries) layer.values
  pub extent : layer.extent ≡ unwrap_or (slice_get (numbers_of 5 entries) 0) 4096

-- the tile that the bytes are
pub record IsTile (bytes : List ℕ) (tile : TileRecord) : Type 0 where
  pub entries : List Entry
  pub whole : IsMessageAt bytes (whole_span bytes) entries
  pub keeps : KeepsSchema Tile entries
  pub layers : Each (IsLayer bytes) (spans_of 3 entries) tile.layers
