-- What is written after other bytes.
use Rattle.std.specs.Prelude.{◌≡◌, ℕ, List, ◌++◌}
use Rattle.mvt_wire.specs.Field.{IsFieldEncoding}
use Rattle.mvt_wire.specs.Varint.{IsVarint}
use Rattle.mvt_splice.specs.Splice.{Piece, AreEncoded, bytes_of}

-- a number's encoding was written
abbrev pub WritesVarint : ℕ → List ℕ → List ℕ → Type 0
WritesVarint number before after = (encoding : List ℕ) × IsVarint encoding number × (after ≡ before ++ encoding)

-- fields were written
pub record WritesFields (pieces : List Piece) (before after : List ℕ) : Type 0 where
  pub encoded : AreEncoded pieces
  pub longer : after ≡ before ++ bytes_of pieces

-- the bytes encode this field
pub record EncodesPiece (bytes : List ℕ) (piece : Piece) : Type 0 where
  pub encoded : IsFieldEncoding piece.bytes piece.field
  pub same : bytes ≡ piece.bytes
