-- A walk over a tile's message that has written what became of the fields that it passed.
use Rattle.std.proofs.Common.{◌≡◌, ◌≢◌, ℕ, suc, ◌≤◌, ◌==◌, inl, inr, List, [], ◌∷◌, ◌++◌, length, take, Option, Some, None, refl, sym, ◌∙◌, ap, subst, arith}
use mathlib.Core.Path.{fun_ext}
use Rattle.std.proofs.lemmas.Bool.{cases_eq, eq-eqb, ne_eqb, cond-true, cond-false}
use Rattle.mvt_wire.specs.Field.{Content, delimited, Entry}
use Rattle.mvt_wire.specs.Payload.{bytes_in}
use Rattle.mvt_wire.specs.Walk.{Walk, IsOver, GivesField}
use Rattle.mvt_splice.specs.Splice.{Fate, stays, fate_in, bytes_of, Piece, HasPayload, IsPieced, message_in, ordinal_after, BecomesInTile, AreInTile, IsSpliced}
use Rattle.mvt_splice.specs.Calls.Writing.{EncodesPiece, WritesFields}
use Rattle.mvt_splice.specs.declared.change.Change.{Change}
use Rattle.mvt_splice.proofs.Splicing.Pieces.{IsPieceAt}
use Rattle.mvt_splice.proofs.Splicing.Walks.{HasPassed, HasPassed-none, HasPassed-more, HasPassed-over, piece_given, message_in-own, message_in-other, IsPieced-more, IsPieced-none, WritesFields-copy, ordinal_through, ordinal_through-push, few_ordinals}

pub record IsSplicingTile (changes : List Change) (message out : List ℕ) (walk : Walk) (layer : ℕ) : Type 0 where
  pub entries : List Entry
  pub pieces : List Piece
  pub passed : HasPassed message walk entries pieces
  pub pieces_after : List Piece
  pub written : IsPieced out pieces_after
  pub fields : AreInTile changes 0 pieces pieces_after
  pub next : layer ≡ ordinal_through 3 0 pieces
  pub few : layer ≤ walk.at

pub IsSplicingTile-none : (changes : List Change) (message out : List ℕ) (walk : Walk) → walk ≡ record { bytes = take (length message) message; at = 0 } → out ≡ [] → IsSplicingTile changes message out walk 0
IsSplicingTile-none changes message out walk begins empty = record {
  entries = [];
  pieces = [];
  passed = HasPassed-none message walk begins;
  pieces_after = [];
  written = subst (λ (list : List ℕ). IsPieced list []) (sym empty) IsPieced-none;
  fields = refl;
  next = refl;
  few = omega arith;
}

-- what became of one field more
AreInTile-push : (changes : List Change) (ordinal : ℕ) (pieces after : List Piece) (piece first : Piece) → AreInTile changes ordinal pieces after
    → BecomesInTile (fate_in changes (ordinal_through 3 ordinal pieces)) (message_in 3 piece.field) piece first → AreInTile changes ordinal (pieces ++ piece ∷ []) (after ++ first ∷ [])
AreInTile-push changes ordinal [] after piece first fields becomes = (first, [], ap (λ (list : List Piece). list ++ first ∷ []) fields, becomes, refl)
AreInTile-push changes ordinal (earlier ∷ pieces) after piece first fields becomes = (
  fields.0,
  fields.1 ++ first ∷ [],
  ap (λ (list : List Piece). list ++ first ∷ []) fields.2,
  fields.3,
  AreInTile-push changes (ordinal_after (message_in 3 earlier.field) ordinal) pieces fields.1 piece first fields.4 becomes,
)

module _ {changes : List Change} {message out : List ℕ} {old new : Walk} {layer : ℕ} (so_far : IsSplicingTile changes message out old layer) where
  module _ {entry : Entry} (given : GivesField old new entry) (longer : List ℕ) where
    further : (piece : Piece) → IsPieceAt message old.at new.at entry piece → (first : Piece) → WritesFields (first ∷ []) out longer → (o : Option (List ℕ)) → message_in 3 piece.field ≡ o → BecomesInTile (fate_in changes layer) o piece first
        → IsSplicingTile changes message longer new (ordinal_after o layer)
    further piece is first writes o there becomes =
        let at_ordinal : BecomesInTile (fate_in changes (ordinal_through 3 0 so_far.pieces)) (message_in 3 piece.field) piece first =
        subst (λ (n : ℕ). BecomesInTile (fate_in changes n) (message_in 3 piece.field) piece first) so_far.next
        (subst (λ (m : Option (List ℕ)). BecomesInTile (fate_in changes layer) m piece first) (sym there) becomes) in
        let one_more = few_ordinals o layer in
        let on = given.further in
        let before = so_far.few in
        record {
          entries = so_far.entries ++ entry ∷ [];
          pieces = so_far.pieces ++ piece ∷ [];
          passed = HasPassed-more so_far.passed given piece is;
          pieces_after = so_far.pieces_after ++ first ∷ [];
          written = IsPieced-more out longer so_far.pieces_after (first ∷ []) so_far.written writes;
          fields = AreInTile-push changes 0 so_far.pieces so_far.pieces_after piece first so_far.fields at_ordinal;
          next = ap (λ (m : Option (List ℕ)). ordinal_after m layer) (sym there) ∙ ap (ordinal_after (message_in 3 piece.field)) so_far.next ∙ sym (ordinal_through-push 3 0 so_far.pieces piece);
          few = omega arith;
        }

    -- a field that is no layer was copied
    pub IsSplicingTile-other : entry.number ≢ 3 → (encoding : List ℕ) → ((piece : Piece) → IsPieceAt message old.at new.at entry piece → EncodesPiece encoding piece) → longer ≡ out ++ encoding → IsSplicingTile changes message longer new layer
    IsSplicingTile-other other encoding encodes copied =
        let found = piece_given {new = new} so_far.passed given in
        further found.0 found.1 found.0 (WritesFields-copy out longer encoding found.0 (encodes found.0 found.1) copied) None (message_in-other found.1 3 other) refl

    -- what became of a layer was written
    pub IsSplicingTile-layer : (part : List ℕ) → entry.number ≡ 3 → bytes_in entry.content ≡ Some part
        → ((piece : Piece) → IsPieceAt message old.at new.at entry piece → message_in 3 piece.field ≡ Some part → (after : Piece) × WritesFields (after ∷ []) out longer × BecomesInTile (fate_in changes layer) (Some part) piece after)
        → IsSplicingTile changes message longer new (suc layer)
    IsSplicingTile-layer part own embeds added =
        let found = piece_given {new = new} so_far.passed given in
        let there = message_in-own found.1 3 part own embeds in
        let writes = added found.0 found.1 there in
        further found.0 found.1 writes.0 writes.1 (Some part) there writes.2

  -- after the last field the whole tile was
  pub IsSplicingTile-over : IsOver old new → IsSpliced changes message out
  IsSplicingTile-over over = record {
    pieces = so_far.pieces;
    whole = HasPassed-over so_far.passed over;
    pieces_after = so_far.pieces_after;
    whole_after = so_far.written;
    layers = so_far.fields;
  }

-- a piece in which a message was found embeds it
delimited_in : (content : Content) (message : List ℕ) → bytes_in content ≡ Some message → (place : ℕ) × (content ≡ delimited place message)
delimited_in (delimited place part) message there = (place, let same : part ≡ message = cc in ap (delimited place) same)
delimited_in content message there = absurd (cc)

pub HasPayload-in : (field_number : ℕ) (field : Entry) (message : List ℕ) → message_in field_number field ≡ Some message → HasPayload field_number message field
HasPayload-in field_number field message there = elim (cases_eq field.number field_number) [
  | inl own ↦
      let here : bytes_in field.content ≡ Some message = sym (cond-true (field.number == field_number) (bytes_in field.content) None (eq-eqb field.number field_number own)) ∙ there in
      let found = delimited_in field.content message here in
      record { numbered = own; place = found.0; content = found.1 }
  | inr other ↦
      let none : None ≡ Some message = sym (cond-false (field.number == field_number) (bytes_in field.content) None (ne_eqb field.number field_number other)) ∙ there in
      absurd (cc)
]

-- fates that are the same one by one
pub BecomesInTile-same : (fates others : ℕ → Fate) (message : List ℕ) (piece after : Piece) → ((feature : ℕ) → fates feature ≡ others feature) → BecomesInTile fates (Some message) piece after → BecomesInTile others (Some message) piece after
BecomesInTile-same fates others message piece after same becomes = subst (λ (of_features : ℕ → Fate). BecomesInTile of_features (Some message) piece after) (fun_ext same) becomes

-- with no changes each field is as it was
piece_unchanged : (fates : ℕ → Fate) (o : Option (List ℕ)) (piece first : Piece) → ((feature : ℕ) → fates feature ≡ stays) → BecomesInTile fates o piece first → first ≡ piece
piece_unchanged fates None piece first stay becomes = becomes
piece_unchanged fates (Some message) piece first stay becomes = becomes.3 stay

tile_unchanged : (ordinal : ℕ) (pieces after : List Piece) → AreInTile [] ordinal pieces after → after ≡ pieces
tile_unchanged ordinal [] after fields = fields
tile_unchanged ordinal (piece ∷ pieces) after fields =
    fields.2
    ∙ ap (λ (first : Piece). first ∷ fields.1) (piece_unchanged (fate_in [] ordinal) (message_in 3 piece.field) piece fields.0 (λ feature. refl) fields.3)
    ∙ ap (λ (rest : List Piece). piece ∷ rest) (tile_unchanged (ordinal_after (message_in 3 piece.field) ordinal) pieces fields.1 fields.4)

-- so with no changes the bytes are as they were
pub IsSpliced-unchanged : (changes : List Change) (bytes out : List ℕ) → IsSpliced changes bytes out → changes ≡ [] → out ≡ bytes
IsSpliced-unchanged changes bytes out spliced none =
    let same : spliced.pieces_after ≡ spliced.pieces = tile_unchanged 0 spliced.pieces spliced.pieces_after (subst (λ (list : List Change). AreInTile list 0 spliced.pieces spliced.pieces_after) none spliced.layers) in
    spliced.whole_after.joined ∙ ap bytes_of same ∙ sym spliced.whole.joined
