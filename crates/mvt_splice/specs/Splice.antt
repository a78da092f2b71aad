-- What became of a tile's bytes where the geometries of some features were exchanged and other features were left out
-- (Mapbox Vector Tile Specification 2.1, sections 4.1 and 4.2). A message is the encodings of its fields, joined one after
-- another; all but the fields that are told here keep their bytes and their order.
use Rattle.std.specs.Prelude.{◌≡◌, ℕ, suc, ◌<◌, ◌⊎◌, ◌==◌, ◌&&◌, not, if◌then◌else◌, List, [], ◌∷◌, ◌++◌, filter, AllPairs, Option, Some, None, Vec}
use Rattle.std.specs.declared.alloc.Global.{Global}
use Rattle.mvt_wire.specs.Field.{delimited, Entry, IsFieldEncoding}
use Rattle.mvt_wire.specs.Number.{States}
use Rattle.mvt_wire.specs.Payload.{bytes_in}
use Rattle.mvt_splice.specs.declared.change.Change.{Change}

-- what becomes of a feature
pub data Fate : Type 0 where
  -- it is as it was
  stays : Fate
  -- its geometry has these numbers
  redrawn : List ℕ → Fate
  -- it is left out
  dropped : Fate

-- the fate that a change names
abbrev pub fate_of : Option (Vec ℕ Global) → Fate
fate_of (Some geometry) = redrawn geometry.items
fate_of None = dropped

-- the fate of the feature of these ordinals: that of the first change about it; it stays where there is none
abbrev pub fate_in : List Change → ℕ → ℕ → Fate
fate_in [] layer feature = stays
fate_in (change ∷ changes) layer feature =
    if (change.layer == layer) && (change.feature == feature) then fate_of change.geometry else fate_in changes layer feature

-- the change is about an earlier feature than the one of these ordinals
abbrev pub IsBefore : Change → ℕ → ℕ → Type 0
IsBefore change layer feature = (change.layer < layer) ⊎ ((change.layer ≡ layer) × (change.feature < feature))

-- the changes are in the order of their features, and no two are about one
abbrev pub AreChangesInOrder : List Change → Type 0
AreChangesInOrder changes = AllPairs (λ change later. IsBefore change later.layer later.feature) changes

-- a field with the bytes that encode it; its places are counted from the first of them
pub record Piece : Type 0 where
  pub bytes : List ℕ
  pub field : Entry

-- the bytes of pieces, one after another
abbrev pub bytes_of : List Piece → List ℕ
bytes_of [] = []
bytes_of (piece ∷ pieces) = piece.bytes ++ bytes_of pieces

-- each piece is one field's encoding
abbrev pub AreEncoded : List Piece → Type 0
AreEncoded [] = Unit {0}
AreEncoded (piece ∷ pieces) = IsFieldEncoding piece.bytes piece.field × AreEncoded pieces

-- the bytes are a message of these fields
pub record IsPieced (bytes : List ℕ) (pieces : List Piece) : Type 0 where
  pub encoded : AreEncoded pieces
  pub joined : bytes ≡ bytes_of pieces

-- the message that a field embeds, where it has this number and wire type 2
abbrev pub message_in : ℕ → Entry → Option (List ℕ)
message_in field_number field = if field.number == field_number then bytes_in field.content else None

-- the ordinal that is next after a field that embeds a message, or that embeds none
abbrev pub ordinal_after : Option (List ℕ) → ℕ → ℕ
ordinal_after None ordinal = ordinal
ordinal_after (Some message) ordinal = suc ordinal

-- the field of the number and wire type 2 has this payload
pub record HasPayload (field_number : ℕ) (payload : List ℕ) (field : Entry) : Type 0 where
  pub numbered : field.number ≡ field_number
  pub place : ℕ
  pub content : field.content ≡ delimited place payload

-- the fields of a feature that state its geometry, and all others
abbrev pub geometry_of : List Piece → List Piece
geometry_of pieces = filter (λ piece. piece.field.number == 4) pieces

abbrev pub others_of : List Piece → List Piece
others_of pieces = filter (λ piece. not (piece.field.number == 4)) pieces

-- a feature's message before and after: one field states the new geometry, and all other fields are as they were
pub record IsRedrawn (geometry before after : List ℕ) : Type 0 where
  pub pieces : List Piece
  pub whole : IsPieced before pieces
  pub pieces_after : List Piece
  pub whole_after : IsPieced after pieces_after
  pub others : others_of pieces_after ≡ others_of pieces
  pub drawn : Piece
  pub one : geometry_of pieces_after ≡ drawn ∷ []
  pub numbers : States drawn.field.content geometry

-- what became of a feature's field: it is as it was, or embeds the message with the new geometry, or is left out
abbrev pub Becomes : Fate → List ℕ → Piece → List Piece → Type 0
Becomes stays message piece after = after ≡ piece ∷ []
Becomes (redrawn geometry) message piece after =
    (drawn : Piece) × (message_after : List ℕ) × (after ≡ drawn ∷ []) × HasPayload 2 message_after drawn.field × IsRedrawn geometry message message_after
Becomes dropped message piece after = after ≡ []

-- what became of a field of a layer: one that is no feature is as it was
abbrev pub BecomesInLayer : Fate → Option (List ℕ) → Piece → List Piece → Type 0
BecomesInLayer fate None piece after = after ≡ piece ∷ []
BecomesInLayer fate (Some message) piece after = Becomes fate message piece after

-- what became of the fields of a layer, the first feature of which has this ordinal
abbrev pub AreInLayer : (ℕ → Fate) → ℕ → List Piece → List Piece → Type 0
AreInLayer fates feature [] after = after ≡ []
AreInLayer fates feature (piece ∷ pieces) after =
    (first : List Piece) × (rest : List Piece) × (after ≡ first ++ rest)
    × BecomesInLayer (fates feature) (message_in 2 piece.field) piece first
    × AreInLayer fates (ordinal_after (message_in 2 piece.field) feature) pieces rest

-- a layer's message before and after, by the fates of its features
pub record IsSplicedLayer (fates : ℕ → Fate) (before after : List ℕ) : Type 0 where
  pub pieces : List Piece
  pub whole : IsPieced before pieces
  pub pieces_after : List Piece
  pub whole_after : IsPieced after pieces_after
  pub fields : AreInLayer fates 0 pieces pieces_after

-- what became of a field of a tile: it is as it was, or embeds the layer with the changes; a layer with no changes is as it was
abbrev pub BecomesInTile : (ℕ → Fate) → Option (List ℕ) → Piece → Piece → Type 0
BecomesInTile fates None piece after = after ≡ piece
BecomesInTile fates (Some message) piece after =
    (message_after : List ℕ) × HasPayload 3 message_after after.field × IsSplicedLayer fates message message_after
    × (((feature : ℕ) → fates feature ≡ stays) → after ≡ piece)

-- what became of the fields of a tile, the first layer of which has this ordinal
abbrev pub AreInTile : List Change → ℕ → List Piece → List Piece → Type 0
AreInTile changes layer [] after = after ≡ []
AreInTile changes layer (piece ∷ pieces) after =
    (first : Piece) × (rest : List Piece) × (after ≡ first ∷ rest)
    × BecomesInTile (fate_in changes layer) (message_in 3 piece.field) piece first
    × AreInTile changes (ordinal_after (message_in 3 piece.field) layer) pieces rest

-- a tile's bytes before and after the changes
pub record IsSpliced (changes : List Change) (before after : List ℕ) : Type 0 where
  pub pieces : List Piece
  pub whole : IsPieced before pieces
  pub pieces_after : List Piece
  pub whole_after : IsPieced after pieces_after
  pub layers : AreInTile changes 0 pieces pieces_after
