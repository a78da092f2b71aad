-- A walk over a layer's message that has written what became of the fields that it passed.
use Rattle.std.proofs.Common.{◌≡◌, ◌≢◌, ℕ, suc, ◌≤◌, List, [], ◌∷◌, ◌++◌, length, take, Option, Some, None, refl, sym, ◌∙◌, ap, subst, arith, append_assoc, append-nil}
use Rattle.mvt_wire.specs.Field.{Entry}
use Rattle.mvt_wire.specs.Payload.{bytes_in}
use Rattle.mvt_wire.specs.Walk.{Walk, IsOver, GivesField}
use Rattle.mvt_splice.specs.Splice.{Fate, stays, Piece, IsPieced, message_in, ordinal_after, Becomes, BecomesInLayer, AreInLayer, IsSplicedLayer}
use Rattle.mvt_splice.specs.Calls.Messages.{IsLayerMessage}
use Rattle.mvt_splice.specs.Calls.Writing.{EncodesPiece, WritesFields}
use Rattle.mvt_splice.proofs.Splicing.Pieces.{IsPieceAt, pieced_whole}
use Rattle.mvt_splice.proofs.Splicing.Walks.{HasPassed, HasPassed-none, HasPassed-more, HasPassed-over, piece_given, message_in-own, message_in-other, IsPieced-more, IsPieced-none, WritesFields-copy, ordinal_through, ordinal_through-push, few_ordinals}

pub record IsSplicing (fates : ℕ → Fate) (message out : List ℕ) (walk : Walk) (feature : ℕ) : Type 0 where
  pub entries : List Entry
  pub pieces : List Piece
  pub passed : HasPassed message walk entries pieces
  pub pieces_after : List Piece
  pub written : IsPieced out pieces_after
  pub fields : AreInLayer fates 0 pieces pieces_after
  pub next : feature ≡ ordinal_through 2 0 pieces
  pub few : feature ≤ walk.at

pub IsSplicing-none : (fates : ℕ → Fate) (message out : List ℕ) (walk : Walk) → walk ≡ record { bytes = take (length message) message; at = 0 } → out ≡ [] → IsSplicing fates message out walk 0
IsSplicing-none fates message out walk begins empty = record {
  entries = [];
  pieces = [];
  passed = HasPassed-none message walk begins;
  pieces_after = [];
  written = subst (λ (list : List ℕ). IsPieced list []) (sym empty) IsPieced-none;
  fields = refl;
  next = refl;
  few = omega arith;
}

-- what became of one field more
AreInLayer-push : (fates : ℕ → Fate) (ordinal : ℕ) (pieces after : List Piece) (piece : Piece) (first : List Piece) → AreInLayer fates ordinal pieces after
    → BecomesInLayer (fates (ordinal_through 2 ordinal pieces)) (message_in 2 piece.field) piece first → AreInLayer fates ordinal (pieces ++ piece ∷ []) (after ++ first)
AreInLayer-push fates ordinal [] after piece first fields becomes = (first, [], ap (λ (list : List Piece). list ++ first) fields ∙ sym (append-nil first), becomes, refl)
AreInLayer-push fates ordinal (earlier ∷ pieces) after piece first fields becomes = (
  fields.0,
  fields.1 ++ first,
  ap (λ (list : List Piece). list ++ first) fields.2 ∙ append_assoc fields.0 fields.1 first,
  fields.3,
  AreInLayer-push fates (ordinal_after (message_in 2 earlier.field) ordinal) pieces fields.1 piece first fields.4 becomes,
)

module _ {fates : ℕ → Fate} {message out : List ℕ} {old new : Walk} {feature : ℕ} (so_far : IsSplicing fates message out old feature) where
  module _ {entry : Entry} (given : GivesField old new entry) (longer : List ℕ) where
    further : (piece : Piece) → IsPieceAt message old.at new.at entry piece → (first : List Piece) → WritesFields first out longer → (o : Option (List ℕ)) → message_in 2 piece.field ≡ o → BecomesInLayer (fates feature) o piece first
        → IsSplicing fates message longer new (ordinal_after o feature)
    further piece is first writes o there becomes =
        let at_ordinal : BecomesInLayer (fates (ordinal_through 2 0 so_far.pieces)) (message_in 2 piece.field) piece first =
        subst (λ (n : ℕ). BecomesInLayer (fates n) (message_in 2 piece.field) piece first) so_far.next
        (subst (λ (m : Option (List ℕ)). BecomesInLayer (fates feature) m piece first) (sym there) becomes) in
        let one_more = few_ordinals o feature in
        let on = given.further in
        let before = so_far.few in
        record {
          entries = so_far.entries ++ entry ∷ [];
          pieces = so_far.pieces ++ piece ∷ [];
          passed = HasPassed-more so_far.passed given piece is;
          pieces_after = so_far.pieces_after ++ first;
          written = IsPieced-more out longer so_far.pieces_after first so_far.written writes;
          fields = AreInLayer-push fates 0 so_far.pieces so_far.pieces_after piece first so_far.fields at_ordinal;
          next = ap (λ (m : Option (List ℕ)). ordinal_after m feature) (sym there) ∙ ap (ordinal_after (message_in 2 piece.field)) so_far.next ∙ sym (ordinal_through-push 2 0 so_far.pieces piece);
          few = omega arith;
        }

    -- a field that is no feature was copied
    pub IsSplicing-other : entry.number ≢ 2 → (encoding : List ℕ) → ((piece : Piece) → IsPieceAt message old.at new.at entry piece → EncodesPiece encoding piece) → longer ≡ out ++ encoding → IsSplicing fates message longer new feature
    IsSplicing-other other encoding encodes copied =
        let found = piece_given {new = new} so_far.passed given in
        further found.0 found.1 (found.0 ∷ []) (WritesFields-copy out longer encoding found.0 (encodes found.0 found.1) copied) None (message_in-other found.1 2 other) refl

    -- what became of a feature was written
    pub IsSplicing-feature : (part : List ℕ) → entry.number ≡ 2 → bytes_in entry.content ≡ Some part
        → ((piece : Piece) → IsPieceAt message old.at new.at entry piece → (after : List Piece) × WritesFields after out longer × Becomes (fates feature) part piece after)
        → IsSplicing fates message longer new (suc feature)
    IsSplicing-feature part own embeds added =
        let found = piece_given {new = new} so_far.passed given in
        let writes = added found.0 found.1 in
        further found.0 found.1 writes.0 writes.1 (Some part) (message_in-own found.1 2 part own embeds) writes.2

  -- after the last field the whole layer was
  pub IsSplicing-over : IsOver old new → IsSplicedLayer fates message out
  IsSplicing-over over = record {
    pieces = so_far.pieces;
    whole = HasPassed-over so_far.passed over;
    pieces_after = so_far.pieces_after;
    whole_after = so_far.written;
    fields = so_far.fields;
  }

-- a field becomes itself where its feature stays
stays_in_layer : (fate : Fate) (o : Option (List ℕ)) (piece : Piece) → fate ≡ stays → BecomesInLayer fate o piece (piece ∷ [])
stays_in_layer fate None piece same = refl
stays_in_layer fate (Some message) piece same = subst (λ (f : Fate). Becomes f message piece (piece ∷ [])) (sym same) refl

all_stay : (fates : ℕ → Fate) (ordinal : ℕ) (pieces : List Piece) → ((feature : ℕ) → fates feature ≡ stays) → AreInLayer fates ordinal pieces pieces
all_stay fates ordinal [] stay = refl
all_stay fates ordinal (piece ∷ pieces) stay =
    (piece ∷ [], pieces, refl, stays_in_layer (fates ordinal) (message_in 2 piece.field) piece (stay ordinal), all_stay fates (ordinal_after (message_in 2 piece.field) ordinal) pieces stay)

-- a layer with no changes
pub IsSplicedLayer-same : (fates : ℕ → Fate) (message : List ℕ) → IsLayerMessage message → ((feature : ℕ) → fates feature ≡ stays) → IsSplicedLayer fates message message
IsSplicedLayer-same fates message is stay =
    let found = pieced_whole message is.fields is.whole in
    record { pieces = found.0; whole = found.1; pieces_after = found.0; whole_after = found.1; fields = all_stay fates 0 found.0 stay }
