-- A walk over a whole message that has passed some of its pieces.
use Rattle.std.proofs.Common.{◌≡◌, ◌≢◌, ℕ, suc, ◌+◌, ◌-◌, ◌≤◌, ◌==◌, List, [], ◌∷◌, ◌++◌, length, take, slice_range, Option, Some, None, refl, sym, ◌∙◌, ap, subst, arith, append-nil}
use Rattle.std.proofs.Math.Seq.{take-add, take-length}
use Rattle.std.proofs.lemmas.Bool.{eq-eqb, ne_eqb, cond-true, cond-false}
use Rattle.mvt_wire.specs.Field.{Entry, IsField}
use Rattle.mvt_wire.specs.Payload.{bytes_in}
use Rattle.mvt_wire.specs.Walk.{Walk, IsOver, GivesField}
use Rattle.mvt_wire.proofs.Walking.{IsWalking, IsWalking-none, IsWalking-more}
use Rattle.mvt_splice.specs.Splice.{Piece, bytes_of, AreEncoded, IsPieced, message_in, ordinal_after}
use Rattle.mvt_splice.specs.Calls.Writing.{WritesFields, EncodesPiece}
use Rattle.mvt_splice.proofs.Splicing.Messages.{bytes_in-moved}
use Rattle.mvt_splice.proofs.Splicing.Pieces.{bytes_of-append, bytes_of-push, AreEncoded-append, IsPieceAt, piece_at}

-- the fields that were passed, and their pieces
pub record HasPassed (message : List ℕ) (walk : Walk) (entries : List Entry) (pieces : List Piece) : Type 0 where
  pub walking : IsWalking message 0 walk entries
  pub passed : take walk.at message ≡ bytes_of pieces
  pub encoded : AreEncoded pieces

-- none at first
pub HasPassed-none : (message : List ℕ) (walk : Walk) → walk ≡ record { bytes = take (length message) message; at = 0 } → HasPassed message walk [] []
HasPassed-none message walk begins =
    let is : walk ≡ record { bytes = message; at = 0 } = begins ∙ ap (λ (list : List ℕ). record { bytes = list; at = 0 }) (take-length message) in
    record { walking = IsWalking-none is; passed = ap (λ (w : Walk). take w.at message) is; encoded = tt }

module _ {message : List ℕ} {old new : Walk} {entries : List Entry} {pieces : List Piece} (so_far : HasPassed message old entries pieces) where
  -- the field that was given is a piece
  pub piece_given : {entry : Entry} → GivesField old new entry → (piece : Piece) × IsPieceAt message old.at new.at entry piece
  piece_given {entry} given = piece_at message old.at new.at entry given.here (subst (λ (list : List ℕ). IsField list new.at entry) so_far.walking.same_bytes given.encoded)

  -- it was passed too
  pub HasPassed-more : {entry : Entry} → GivesField old new entry → (piece : Piece) → IsPieceAt message old.at new.at entry piece → HasPassed message new (entries ++ entry ∷ []) (pieces ++ piece ∷ [])
  HasPassed-more {entry} given piece is =
      let further = given.further in
      let end : new.at ≡ old.at + (new.at - old.at) = omega arith in
      let longer : take new.at message ≡ take old.at message ++ slice_range message old.at new.at = ap (λ (n : ℕ). take n message) end ∙ take-add old.at (new.at - old.at) message in
      record {
        walking = IsWalking-more message 0 old new entries entry so_far.walking given;
        passed = longer ∙ ap (λ (front : List ℕ). front ++ slice_range message old.at new.at) so_far.passed ∙ ap (λ (last : List ℕ). bytes_of pieces ++ last) (sym is.same) ∙ sym (bytes_of-push pieces piece);
        encoded = AreEncoded-append pieces (piece ∷ []) so_far.encoded (is.encoded, tt);
      }

  -- after the last field all were passed
  pub HasPassed-over : IsOver old new → IsPieced message pieces
  HasPassed-over over =
      let end : old.at ≡ length message = over.at_end ∙ ap length so_far.walking.same_bytes in
      record { encoded = so_far.encoded; joined = sym (take-length message) ∙ ap (λ (n : ℕ). take n message) (sym end) ∙ so_far.passed }

-- the bytes between a field's places are its piece
pub EncodesPiece-read : {message : List ℕ} {from next : ℕ} {entry : Entry} {piece : Piece} → IsPieceAt message from next entry piece → (start stop : ℕ) → start ≡ from → stop ≡ next → EncodesPiece (slice_range message start stop) piece
EncodesPiece-read {message} {from} {next} is start stop begins ends = record {
  encoded = is.encoded;
  same = ap (λ (place : ℕ). slice_range message place stop) begins ∙ ap (λ (place : ℕ). slice_range message from place) ends ∙ sym is.same;
}

-- the message that a piece embeds is its field's
pub message_in-own : {message : List ℕ} {from next : ℕ} {entry : Entry} {piece : Piece} → IsPieceAt message from next entry piece → (field_number : ℕ) (part : List ℕ) → entry.number ≡ field_number → bytes_in entry.content ≡ Some part
    → message_in field_number piece.field ≡ Some part
message_in-own {from = from} {piece = piece} is field_number part own embeds =
    let number : piece.field.number ≡ field_number = sym (ap (λ (e : Entry). e.number) is.told) ∙ own in
    cond-true (piece.field.number == field_number) (bytes_in piece.field.content) None (eq-eqb piece.field.number field_number number)
    ∙ sym (bytes_in-moved from piece.field.content) ∙ sym (ap (λ (e : Entry). bytes_in e.content) is.told) ∙ embeds

pub message_in-other : {message : List ℕ} {from next : ℕ} {entry : Entry} {piece : Piece} → IsPieceAt message from next entry piece → (field_number : ℕ) → entry.number ≢ field_number → message_in field_number piece.field ≡ None
message_in-other {piece = piece} is field_number other =
    cond-false (piece.field.number == field_number) (bytes_in piece.field.content) None
    (ne_eqb piece.field.number field_number (λ own. other (ap (λ (e : Entry). e.number) is.told ∙ own)))

-- fields that were written after others
pub IsPieced-more : (out longer : List ℕ) (pieces first : List Piece) → IsPieced out pieces → WritesFields first out longer → IsPieced longer (pieces ++ first)
IsPieced-more out longer pieces first written more = record {
  encoded = AreEncoded-append pieces first written.encoded more.encoded;
  joined = more.longer ∙ ap (λ (front : List ℕ). front ++ bytes_of first) written.joined ∙ sym (bytes_of-append pieces first);
}

-- a field that was copied
pub WritesFields-copy : (out longer encoding : List ℕ) (piece : Piece) → EncodesPiece encoding piece → longer ≡ out ++ encoding → WritesFields (piece ∷ []) out longer
WritesFields-copy out longer encoding piece encodes copied = record {
  encoded = (encodes.encoded, tt);
  longer = copied ∙ ap (λ (last : List ℕ). out ++ last) (encodes.same ∙ sym (append-nil piece.bytes));
}

-- none was written
pub WritesFields-none : (out : List ℕ) → WritesFields [] out out
WritesFields-none out = record { encoded = tt; longer = sym (append-nil out) }

pub IsPieced-none : IsPieced [] []
IsPieced-none = record { encoded = tt; joined = refl }

-- the ordinal that is next after pieces
abbrev pub ordinal_through : ℕ → ℕ → List Piece → ℕ
ordinal_through field_number ordinal [] = ordinal
ordinal_through field_number ordinal (piece ∷ pieces) = ordinal_through field_number (ordinal_after (message_in field_number piece.field) ordinal) pieces

pub ordinal_through-push : (field_number ordinal : ℕ) (pieces : List Piece) (piece : Piece) → ordinal_through field_number ordinal (pieces ++ piece ∷ []) ≡ ordinal_after (message_in field_number piece.field) (ordinal_through field_number ordinal pieces)
ordinal_through-push field_number ordinal [] piece = refl
ordinal_through-push field_number ordinal (first ∷ pieces) piece = ordinal_through-push field_number (ordinal_after (message_in field_number first.field) ordinal) pieces piece

pub few_ordinals : (message : Option (List ℕ)) (ordinal : ℕ) → ordinal_after message ordinal ≤ suc ordinal
few_ordinals None ordinal = omega arith
few_ordinals (Some message) ordinal = omega arith
