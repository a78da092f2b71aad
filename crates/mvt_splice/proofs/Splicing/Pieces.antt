-- Messages in pieces: a message is whole exactly where its bytes are pieces, one after another.
use Rattle.std.proofs.Common.{◌≡◌, ℕ, suc, ◌+◌, ◌-◌, ◌≤◌, Bool, true, false, cond, ◌==◌, List, [], ◌∷◌, ◌++◌, length, take, drop, slice_range, All, refl, sym, ◌∙◌, ap, subst, arith, append_assoc, append-nil, length-drop}
use Rattle.std.specs.List.{concat}
use Rattle.std.proofs.lemmas.List.{drop_all, drop-take, length-take-le, take-append-drop}
use Rattle.std.proofs.lemmas.List.Edits.{length-between}
use Rattle.std.proofs.lemmas.List.Elements.{All-nil, All-cons, All-head, All-tail}
use Rattle.std.proofs.lemmas.List.Folds.{drop_split}
use Rattle.mvt_wire.specs.Field.{Entry, IsField, IsFieldEncoding}
use Rattle.mvt_wire.specs.Message.{IsMessage, entry_moved, AreEncodings}
use Rattle.mvt_wire.specs.Payload.{fields_of, Span, count_of}
use Rattle.mvt_rules.specs.Scope.{IsMessageAt}
use Rattle.mvt_wire.proofs.Encoding.Entries.{field_extent}
use Rattle.mvt_wire.proofs.Encoding.FieldEncodings.{joined}
use Rattle.mvt_splice.specs.Splice.{Piece, bytes_of, AreEncoded, IsPieced}
use Rattle.mvt_splice.proofs.Splicing.FieldsBetween.{encoding_between}

-- pieces after others
pub bytes_of-append : (xs ys : List Piece) → bytes_of (xs ++ ys) ≡ bytes_of xs ++ bytes_of ys
bytes_of-append [] ys = refl
bytes_of-append (x ∷ xs) ys = ap (λ (rest : List ℕ). x.bytes ++ rest) (bytes_of-append xs ys) ∙ sym (append_assoc x.bytes (bytes_of xs) (bytes_of ys))

pub AreEncoded-append : (xs ys : List Piece) → AreEncoded xs → AreEncoded ys → AreEncoded (xs ++ ys)
AreEncoded-append [] ys first second = second
AreEncoded-append (x ∷ xs) ys first second = (first.0, AreEncoded-append xs ys first.1 second)

-- one piece more
pub bytes_of-push : (pieces : List Piece) (piece : Piece) → bytes_of (pieces ++ piece ∷ []) ≡ bytes_of pieces ++ piece.bytes
bytes_of-push pieces piece = bytes_of-append pieces (piece ∷ []) ∙ ap (λ (last : List ℕ). bytes_of pieces ++ last) (append-nil piece.bytes)

-- the fields of pieces that are joined from a place on
abbrev pub fields_at : ℕ → List Piece → List Entry
fields_at at [] = []
fields_at at (piece ∷ pieces) = entry_moved at piece.field ∷ fields_at (at + length piece.bytes) pieces

abbrev lists_of : List Piece → List (List ℕ)
lists_of [] = []
lists_of (piece ∷ pieces) = piece.bytes ∷ lists_of pieces

concat-lists : (pieces : List Piece) → concat (lists_of pieces) ≡ bytes_of pieces
concat-lists [] = refl
concat-lists (piece ∷ pieces) = ap (λ (rest : List ℕ). piece.bytes ++ rest) (concat-lists pieces)

encodings : (at : ℕ) (pieces : List Piece) → AreEncoded pieces → AreEncodings at (lists_of pieces) (fields_at at pieces)
encodings at [] encoded = tt
encodings at (piece ∷ pieces) encoded = (piece.field, encoded.0, refl, encodings (at + length piece.bytes) pieces encoded.1)

-- pieces are a whole message
pub whole_pieces : (bytes : List ℕ) (pieces : List Piece) → IsPieced bytes pieces → IsMessage bytes 0 (fields_at 0 pieces)
whole_pieces bytes pieces pieced =
    subst (λ (list : List ℕ). IsMessage list 0 (fields_at 0 pieces)) (concat-lists pieces ∙ sym pieced.joined)
    (joined (lists_of pieces) (fields_at 0 pieces) (encodings 0 pieces pieced.encoded))

-- a field of a message that begins at a place is moved there from a piece
pub record IsPieceAt (bytes : List ℕ) (from next : ℕ) (entry : Entry) (piece : Piece) : Type 0 where
  pub encoded : IsFieldEncoding piece.bytes piece.field
  pub same : piece.bytes ≡ slice_range bytes from next
  pub told : entry ≡ entry_moved from piece.field

pub piece_at : (bytes : List ℕ) (from next : ℕ) (entry : Entry) → entry.at ≡ from → IsField bytes next entry → (piece : Piece) × IsPieceAt bytes from next entry piece
piece_at bytes from next entry here field =
    let extent = field_extent bytes next entry field in
    let piece : List ℕ = take (next - from) (drop from bytes) in
    let size = length-drop from bytes in
    let long : length piece ≡ next - from = length-take-le (next - from) (drop from bytes) (omega arith) in
    let front : length (take from bytes) ≡ from = length-take-le from bytes (omega arith) in
    let following : drop from bytes ≡ piece ++ drop next bytes = drop_split bytes from next (omega arith) in
    let whole : bytes ≡ take from bytes ++ (piece ++ drop next bytes) = sym (take-append-drop from bytes) ∙ ap (λ (rest : List ℕ). take from bytes ++ rest) following in
    let width : next ≡ length (take from bytes) + length piece = omega arith in
    let there : IsField (take from bytes ++ (piece ++ drop next bytes)) (length (take from bytes) + length piece) entry =
    subst (λ (to : ℕ). IsField (take from bytes ++ (piece ++ drop next bytes)) to entry) width (subst (λ (list : List ℕ). IsField list next entry) whole field) in
    let found = encoding_between (take from bytes) piece (drop next bytes) entry (omega arith) there in
    (record { bytes = piece; field = found.0 }, record { encoded = found.1; same = refl; told = subst (λ (by : ℕ). entry ≡ entry_moved by found.0) front found.2 })

-- the bytes of a whole message from a place on are pieces
pub pieced_from : (bytes : List ℕ) (from : ℕ) (entries : List Entry) → IsMessage bytes from entries → (pieces : List Piece) × (drop from bytes ≡ bytes_of pieces) × AreEncoded pieces × (entries ≡ fields_at from pieces)
pieced_from bytes from [] whole = ([], drop_all from bytes (omega arith), tt, refl)
pieced_from bytes from (entry ∷ entries) whole =
    let next = whole.1.0 in
    let found = piece_at bytes from next entry whole.0 whole.1.1 in
    let piece = found.0 in
    let is = found.1 in
    let extent = field_extent bytes next entry whole.1.1 in
    let here : entry.at ≡ from = whole.0 in
    let long : length piece.bytes ≡ next - from = ap length is.same ∙ length-between bytes from next extent.1 in
    let end : next ≡ from + length piece.bytes = omega arith in
    let rest = pieced_from bytes next entries whole.1.2 in
    let parts : drop from bytes ≡ piece.bytes ++ drop next bytes = drop_split bytes from next (omega arith) ∙ ap (λ (front : List ℕ). front ++ drop next bytes) (sym is.same) in
    let tail : entries ≡ fields_at (from + length piece.bytes) rest.0 = rest.3 ∙ ap (λ (at : ℕ). fields_at at rest.0) end in (
      piece ∷ rest.0,
      parts ∙ ap (λ (tail : List ℕ). piece.bytes ++ tail) rest.1,
      (is.encoded, rest.2),
      ap (λ (first : Entry). first ∷ entries) is.told ∙ ap (λ (tail : List Entry). entry_moved from piece.field ∷ tail) tail,
    )

-- so are the bytes of a message in others
pub pieced_at : (bytes : List ℕ) (span : Span) (entries : List Entry) → span.from ≤ span.to → IsMessageAt bytes span entries
    → (pieces : List Piece) × IsPieced (slice_range bytes span.from span.to) pieces × (entries ≡ fields_at span.from pieces)
pieced_at bytes span entries forward whole =
    let found = pieced_from (take span.to bytes) span.from entries whole in
    let end : span.to ≡ span.from + (span.to - span.from) = omega arith in
    let same : drop span.from (take span.to bytes) ≡ slice_range bytes span.from span.to =
    ap (λ (to : ℕ). drop span.from (take to bytes)) end ∙ drop-take span.from (span.to - span.from) bytes in
    (found.0, record { encoded = found.2; joined = sym same ∙ found.1 }, found.3)

-- and those of a whole message
pub pieced_whole : (bytes : List ℕ) (entries : List Entry) → IsMessage bytes 0 entries → (pieces : List Piece) × IsPieced bytes pieces × (entries ≡ fields_at 0 pieces)
pieced_whole bytes entries whole =
    let found = pieced_from bytes 0 entries whole in
    (found.0, record { encoded = found.2; joined = found.1 }, found.3)

-- what holds of fields wherever they are
pub All-moved : (P : Entry → Type 0) → ((by other : ℕ) (entry : Entry) → P (entry_moved by entry) → P (entry_moved other entry)) → (at other : ℕ) (pieces : List Piece) → All P (fields_at at pieces) → All P (fields_at other pieces)
All-moved P move at other [] all = All-nil P
All-moved P move at other (piece ∷ pieces) all =
    All-cons P (entry_moved other piece.field) (fields_at (other + length piece.bytes) pieces)
    (move at other piece.field (All-head P (entry_moved at piece.field) (fields_at (at + length piece.bytes) pieces) all))
    (All-moved P move (at + length piece.bytes) (other + length piece.bytes) pieces (All-tail P (entry_moved at piece.field) (fields_at (at + length piece.bytes) pieces) all))

one_counted : (b : Bool) (x y : Entry) (xs ys : List Entry) → length xs ≡ length ys → length (cond b (x ∷ xs) xs) ≡ length (cond b (y ∷ ys) ys)
one_counted true x y xs ys same = ap suc same
one_counted false x y xs ys same = same

-- how many there are of a number
pub count_of-moved : (field_number at other : ℕ) (pieces : List Piece) → count_of field_number (fields_at at pieces) ≡ count_of field_number (fields_at other pieces)
count_of-moved field_number at other [] = refl
count_of-moved field_number at other (piece ∷ pieces) =
    one_counted (piece.field.number == field_number) (entry_moved at piece.field) (entry_moved other piece.field)
    (fields_of field_number (fields_at (at + length piece.bytes) pieces)) (fields_of field_number (fields_at (other + length piece.bytes) pieces))
    (count_of-moved field_number (at + length piece.bytes) (other + length piece.bytes) pieces)
