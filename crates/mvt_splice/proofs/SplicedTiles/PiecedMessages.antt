-- A message that is joined of pieces has their fields.
use Rattle.std.proofs.Common.{◌≡◌, ℕ, ◌+◌, List, [], ◌∷◌, ◌++◌, length, map, refl, sym, ◌∙◌, ap, subst}
use Rattle.std.specs.List.{concat}
use Rattle.mvt_wire.specs.Field.{Entry}
use Rattle.mvt_wire.specs.Message.{IsMessage, entry_moved, AreEncodings}
use Rattle.mvt_rules.specs.Tile.{Each}
use Rattle.mvt_wire.proofs.Encoding.FieldEncodings.{joined}
use Rattle.mvt_splice.specs.Splice.{Piece, bytes_of, AreEncoded, IsPieced}
use Rattle.mvt_splice.proofs.SplicedTiles.SameFields.{IsSameField, field_first_moved}

-- the fields of pieces, each with its places counted from its own first byte
abbrev pub fields_in : List Piece → List Entry
fields_in pieces = map (λ (piece : Piece). piece.field) pieces

-- the same, with places from the first byte of them all
abbrev pub placed : ℕ → List Piece → List Entry
placed at [] = []
placed at (piece ∷ pieces) = entry_moved at piece.field ∷ placed (at + length piece.bytes) pieces

encodings : (at : ℕ) (pieces : List Piece) → AreEncoded pieces → AreEncodings at (map (λ (piece : Piece). piece.bytes) pieces) (placed at pieces)
encodings at [] encoded = tt
encodings at (piece ∷ pieces) encoded = (piece.field, encoded.0, refl, encodings (at + length piece.bytes) pieces encoded.1)

joined_bytes : (pieces : List Piece) → concat (map (λ (piece : Piece). piece.bytes) pieces) ≡ bytes_of pieces
joined_bytes [] = refl
joined_bytes (piece ∷ pieces) = ap (λ (rest : List ℕ). piece.bytes ++ rest) (joined_bytes pieces)

pub pieced_message : (part : List ℕ) (pieces : List Piece) → IsPieced part pieces → IsMessage part 0 (placed 0 pieces)
pieced_message part pieces pieced =
    subst (λ (bytes : List ℕ). IsMessage bytes 0 (placed 0 pieces)) (joined_bytes pieces ∙ sym pieced.joined)
    (joined (map (λ (piece : Piece). piece.bytes) pieces) (placed 0 pieces) (encodings 0 pieces pieced.encoded))

pub fields_placed : (at : ℕ) (pieces : List Piece) → Each IsSameField (fields_in pieces) (placed at pieces)
fields_placed at [] = tt
fields_placed at (piece ∷ pieces) = (field_first_moved at piece.field, fields_placed (at + length piece.bytes) pieces)
