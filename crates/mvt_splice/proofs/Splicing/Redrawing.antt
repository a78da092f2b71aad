-- A walk over a feature's message that copies all fields but those of the geometry.
use Rattle.std.proofs.Common.{◌≡◌, ◌≢◌, ℕ, ◌≤◌, ◌==◌, not, Bool, true, false, List, [], ◌∷◌, ◌++◌, length, take, refl, sym, ◌∙◌, ap, subst, arith, append-nil}
use Rattle.std.proofs.lemmas.Bool.{eq-eqb, ne_eqb, cond-true, cond-false}
use Rattle.std.proofs.lemmas.List.Elements.{filter-append}
use Rattle.mvt_wire.specs.Field.{Entry}
use Rattle.mvt_wire.specs.Number.{States, VarintList}
use Rattle.mvt_wire.specs.Payload.{count_of}
use Rattle.mvt_wire.specs.Walk.{Walk, IsOver, GivesField}
use Rattle.mvt_rules.proofs.Tiles.Schemas.{count_of-append}
use Rattle.mvt_wire.proofs.Walking.{IsWalking-over}
use Rattle.mvt_splice.specs.Splice.{Piece, HasPayload, IsPieced, geometry_of, others_of, IsRedrawn}
use Rattle.mvt_splice.specs.Calls.Messages.{IsFeatureMessage}
use Rattle.mvt_splice.specs.Calls.Writing.{EncodesPiece, WritesFields}
use Rattle.mvt_splice.proofs.Splicing.Pieces.{IsPieceAt}
use Rattle.mvt_splice.proofs.Splicing.Walks.{HasPassed, HasPassed-none, HasPassed-more, HasPassed-over, piece_given, IsPieced-more, IsPieced-none, WritesFields-copy}

-- whether the new geometry was written: no field of the old one was passed before
abbrev pub IsDrawn : List ℕ → Bool → List Entry → List Piece → Type 0
IsDrawn numbers false entries after = (geometry_of after ≡ []) × (count_of 4 entries ≡ 0)
IsDrawn numbers true entries after = (drawn : Piece) × (geometry_of after ≡ drawn ∷ []) × States drawn.field.content numbers

pub record IsRedrawing (numbers message out : List ℕ) (walk : Walk) (is_drawn : Bool) : Type 0 where
  pub entries : List Entry
  pub pieces : List Piece
  pub passed : HasPassed message walk entries pieces
  pub pieces_after : List Piece
  pub written : IsPieced out pieces_after
  pub others : others_of pieces_after ≡ others_of pieces
  pub drawn : IsDrawn numbers is_drawn entries pieces_after

pub IsRedrawing-none : (numbers message out : List ℕ) (walk : Walk) → walk ≡ record { bytes = take (length message) message; at = 0 } → out ≡ [] → IsRedrawing numbers message out walk false
IsRedrawing-none numbers message out walk begins empty = record {
  entries = [];
  pieces = [];
  passed = HasPassed-none message walk begins;
  pieces_after = [];
  written = subst (λ (list : List ℕ). IsPieced list []) (sym empty) IsPieced-none;
  others = refl;
  drawn = (refl, refl);
}

-- one piece more, by its number
others_of-own : (pieces : List Piece) (piece : Piece) → piece.field.number ≡ 4 → others_of (pieces ++ piece ∷ []) ≡ others_of pieces
others_of-own pieces piece own =
    filter-append (λ (p : Piece). not (p.field.number == 4)) pieces (piece ∷ [])
    ∙ ap (λ (rest : List Piece). others_of pieces ++ rest) (cond-false (not (piece.field.number == 4)) (piece ∷ []) [] (ap not (eq-eqb piece.field.number 4 own)))
    ∙ append-nil (others_of pieces)

others_of-other : (pieces : List Piece) (piece : Piece) → piece.field.number ≢ 4 → others_of (pieces ++ piece ∷ []) ≡ others_of pieces ++ piece ∷ []
others_of-other pieces piece other =
    filter-append (λ (p : Piece). not (p.field.number == 4)) pieces (piece ∷ [])
    ∙ ap (λ (rest : List Piece). others_of pieces ++ rest) (cond-true (not (piece.field.number == 4)) (piece ∷ []) [] (ap not (ne_eqb piece.field.number 4 other)))

geometry_of-own : (pieces : List Piece) (piece : Piece) → piece.field.number ≡ 4 → geometry_of (pieces ++ piece ∷ []) ≡ geometry_of pieces ++ piece ∷ []
geometry_of-own pieces piece own =
    filter-append (λ (p : Piece). p.field.number == 4) pieces (piece ∷ [])
    ∙ ap (λ (rest : List Piece). geometry_of pieces ++ rest) (cond-true (piece.field.number == 4) (piece ∷ []) [] (eq-eqb piece.field.number 4 own))

geometry_of-other : (pieces : List Piece) (piece : Piece) → piece.field.number ≢ 4 → geometry_of (pieces ++ piece ∷ []) ≡ geometry_of pieces
geometry_of-other pieces piece other =
    filter-append (λ (p : Piece). p.field.number == 4) pieces (piece ∷ [])
    ∙ ap (λ (rest : List Piece). geometry_of pieces ++ rest) (cond-false (piece.field.number == 4) (piece ∷ []) [] (ne_eqb piece.field.number 4 other))
    ∙ append-nil (geometry_of pieces)

count_of-other : (entries : List Entry) (entry : Entry) → entry.number ≢ 4 → count_of 4 (entries ++ entry ∷ []) ≡ count_of 4 entries
count_of-other entries entry other =
    let parts = count_of-append 4 entries (entry ∷ []) in
    let none : count_of 4 (entry ∷ []) ≡ 0 = ap length (cond-false (entry.number == 4) (entry ∷ []) [] (ne_eqb entry.number 4 other)) in
    omega arith

-- another field changes nothing of the geometry
drawn_still : (numbers : List ℕ) (is_drawn : Bool) (entries : List Entry) (entry : Entry) (after : List Piece) (piece : Piece) → entry.number ≢ 4 → piece.field.number ≢ 4 → IsDrawn numbers is_drawn entries after
    → IsDrawn numbers is_drawn (entries ++ entry ∷ []) (after ++ piece ∷ [])
drawn_still numbers false entries entry after piece other also drawn = (geometry_of-other after piece also ∙ drawn.0, count_of-other entries entry other ∙ drawn.1)
drawn_still numbers true entries entry after piece other also drawn = (drawn.0, geometry_of-other after piece also ∙ drawn.1, drawn.2)

-- where a field of the geometry was passed, the new one was written
all_drawn : (numbers : List ℕ) (b : Bool) (entries : List Entry) (after : List Piece) → 1 ≤ count_of 4 entries → IsDrawn numbers b entries after → (drawn : Piece) × (geometry_of after ≡ drawn ∷ []) × States drawn.field.content numbers
all_drawn numbers true entries after least drawn = drawn
all_drawn numbers false entries after least drawn = absurd (let none = drawn.1 in omega arith)

module _ {numbers message out : List ℕ} {old new : Walk} {is_drawn : Bool} (so_far : IsRedrawing numbers message out old is_drawn) where
  module _ {entry : Entry} (given : GivesField old new entry) where
    piece_number : (piece : Piece) → IsPieceAt message old.at new.at entry piece → entry.number ≡ piece.field.number
    piece_number piece is = ap (λ (e : Entry). e.number) is.told

    -- a field that states no geometry was copied
    pub IsRedrawing-other : entry.number ≢ 4 → (longer encoding : List ℕ) → ((piece : Piece) → IsPieceAt message old.at new.at entry piece → EncodesPiece encoding piece) → longer ≡ out ++ encoding → IsRedrawing numbers message longer new is_drawn
    IsRedrawing-other other longer encoding encodes copied =
        let found = piece_given {new = new} so_far.passed given in
        let piece = found.0 in
        let also : piece.field.number ≢ 4 = λ own. other (piece_number piece found.1 ∙ own) in
        record {
          entries = so_far.entries ++ entry ∷ [];
          pieces = so_far.pieces ++ piece ∷ [];
          passed = HasPassed-more so_far.passed given piece found.1;
          pieces_after = so_far.pieces_after ++ piece ∷ [];
          written = IsPieced-more out longer so_far.pieces_after (piece ∷ []) so_far.written (WritesFields-copy out longer encoding piece (encodes piece found.1) copied);
          others = others_of-other so_far.pieces_after piece also ∙ ap (λ (list : List Piece). list ++ piece ∷ []) so_far.others ∙ sym (others_of-other so_far.pieces piece also);
          drawn = drawn_still numbers is_drawn so_far.entries entry so_far.pieces_after piece other also so_far.drawn;
        }

    -- a further field of the old geometry was left out
    pub IsRedrawing-passed : entry.number ≡ 4 → is_drawn ≡ true → IsRedrawing numbers message out new true
    IsRedrawing-passed own done =
        let found = piece_given {new = new} so_far.passed given in
        let piece = found.0 in
        let also : piece.field.number ≡ 4 = sym (piece_number piece found.1) ∙ own in
        record {
          entries = so_far.entries ++ entry ∷ [];
          pieces = so_far.pieces ++ piece ∷ [];
          passed = HasPassed-more so_far.passed given piece found.1;
          pieces_after = so_far.pieces_after;
          written = so_far.written;
          others = so_far.others ∙ sym (others_of-own so_far.pieces piece also);
          drawn = subst (λ (b : Bool). IsDrawn numbers b so_far.entries so_far.pieces_after) done so_far.drawn;
        }

    -- in place of the first one the new geometry was written
    pub IsRedrawing-drawn : entry.number ≡ 4 → is_drawn ≡ false → (longer packed : List ℕ) → VarintList packed 0 numbers (length packed) → (first : Piece) → HasPayload 4 packed first.field → WritesFields (first ∷ []) out longer → IsRedrawing numbers message longer new true
    IsRedrawing-drawn own fresh longer packed list first embeds writes =
        let found = piece_given {new = new} so_far.passed given in
        let piece = found.0 in
        let also : piece.field.number ≡ 4 = sym (piece_number piece found.1) ∙ own in
        let none : IsDrawn numbers false so_far.entries so_far.pieces_after = subst (λ (b : Bool). IsDrawn numbers b so_far.entries so_far.pieces_after) fresh so_far.drawn in
        record {
          entries = so_far.entries ++ entry ∷ [];
          pieces = so_far.pieces ++ piece ∷ [];
          passed = HasPassed-more so_far.passed given piece found.1;
          pieces_after = so_far.pieces_after ++ first ∷ [];
          written = IsPieced-more out longer so_far.pieces_after (first ∷ []) so_far.written writes;
          others = others_of-own so_far.pieces_after first embeds.numbered ∙ so_far.others ∙ sym (others_of-own so_far.pieces piece also);
          drawn = (
            first,
            geometry_of-own so_far.pieces_after first embeds.numbered ∙ ap (λ (front : List Piece). front ++ first ∷ []) none.0,
            subst (λ (content : _). States content numbers) (sym embeds.content) list,
          );
        }

  -- after the last field the geometry is the new one
  pub IsRedrawing-over : IsFeatureMessage message → IsOver old new → IsRedrawn numbers message out
  IsRedrawing-over is over =
      let same : so_far.entries ≡ is.fields = IsWalking-over is.fields so_far.passed.walking is.whole over in
      let least : 1 ≤ count_of 4 so_far.entries = subst (λ (entries : List Entry). 1 ≤ count_of 4 entries) (sym same) is.drawn in
      let drawn = all_drawn numbers is_drawn so_far.entries so_far.pieces_after least so_far.drawn in
      record {
        pieces = so_far.pieces;
        whole = HasPassed-over so_far.passed over;
        pieces_after = so_far.pieces_after;
        whole_after = so_far.written;
        others = so_far.others;
        drawn = drawn.0;
        one = drawn.1;
        numbers = drawn.2;
      }
