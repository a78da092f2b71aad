-- Bytes that were spliced are the tile with the features that are left.
use Rattle.std.proofs.Common.{◌≡◌, ℕ, suc, ◌+◌, inl, inr, List, [], ◌∷◌, ◌++◌, slice_get, All, Option, Some, None, refl, sym, ◌∙◌, ap, subst, arith}
use Rattle.std.proofs.lemmas.List.Elements.{All-cons, All-head, All-tail}
use Rattle.mvt_wire.specs.Field.{Entry}
use Rattle.mvt_wire.specs.Schema.{field_rule}
use Rattle.mvt_rules.specs.Parts.Fields.{FitsRule}
use Rattle.mvt_rules.specs.Tile.{Each, LayerRecord, TileRecord, IsTile}
use Rattle.mvt_wire.specs.declared.schema.Message.TheVariants as messages
use Rattle.mvt_wire.specs.declared.schema.Occurrence.TheVariants.{AnyNumber}
use Rattle.mvt_wire.specs.declared.schema.Shape.TheVariants.{Embedded}
use Rattle.mvt_splice.specs.Splice.{Fate, fate_in, Piece, message_in, ordinal_after, BecomesInTile, AreInTile, IsSpliced}
use Rattle.mvt_splice.specs.SplicedTile.{layers_after, spliced_tile, DrawsSmall}
use Rattle.mvt_splice.specs.declared.change.Change.{Change}
use Rattle.mvt_splice.proofs.SplicedTiles.LoneMessages.{StatesTile, StatesTile-same, LayerAlone, pieces_state, joined_states, tile_alone, tile_placed}
use Rattle.mvt_splice.proofs.SplicedTiles.OtherFields.{fields_but, KeepsSchema-but}
use Rattle.mvt_splice.proofs.SplicedTiles.PiecedMessages.{fields_in}
use Rattle.mvt_splice.proofs.SplicedTiles.SplicedLayers.{option_cases, embedding, embedded, others, texts, others-append, texts-append, no_other, text_of_one, no_text_of_one, embedded_fits, DrawSmall, layer_spliced}

-- the fields that are no layers are the same
other_fields : (changes : List Change) (ordinal : ℕ) (pieces after : List Piece) → AreInTile changes ordinal pieces after → others 3 after ≡ others 3 pieces
other_fields changes ordinal [] after are = ap (others 3) are
other_fields changes ordinal (piece ∷ pieces) after are =
    let first : Piece = are.0 in
    let rest : List Piece = are.1 in
    let tail : others 3 rest ≡ others 3 pieces = other_fields changes (ordinal_after (message_in 3 piece.field) ordinal) pieces rest are.4 in
    let head : others 3 (first ∷ []) ≡ others 3 (piece ∷ []) = elim (option_cases (message_in 3 piece.field)) [
      | inl none ↦ ap (λ (p : Piece). others 3 (p ∷ [])) (subst (λ (message : Option (List ℕ)). BecomesInTile (fate_in changes ordinal) message piece first) none are.3)
      | inr some ↦
          let becomes : BecomesInTile (fate_in changes ordinal) (Some some.0) piece first = subst (λ (message : Option (List ℕ)). BecomesInTile (fate_in changes ordinal) message piece first) some.1 are.3 in
          no_other 3 first becomes.1.numbered ∙ sym (no_other 3 piece ((embedding 3 piece.field some.0 some.1).0))
    ] in
    ap (others 3) are.2 ∙ others-append 3 (first ∷ []) rest ∙ ap (λ (list : List Entry). list ++ others 3 rest) head ∙ ap (λ (list : List Entry). others 3 (piece ∷ []) ++ list) tail
    ∙ sym (others-append 3 (piece ∷ []) pieces)

-- all fields fit the rules for them
fields_fit : (changes : List Change) (ordinal : ℕ) (pieces after : List Piece) → AreInTile changes ordinal pieces after → All (FitsRule messages.Tile) (fields_in pieces) → All (FitsRule messages.Tile) (fields_in after)
fields_fit changes ordinal [] after are fit = subst (λ (list : List Piece). All (FitsRule messages.Tile) (fields_in list)) (sym are) fit
fields_fit changes ordinal (piece ∷ pieces) after are fit =
    let first : Piece = are.0 in
    let rest : List Piece = are.1 in
    let own = All-head (FitsRule messages.Tile) piece.field (fields_in pieces) fit in
    let tail = fields_fit changes (ordinal_after (message_in 3 piece.field) ordinal) pieces rest are.4 (All-tail (FitsRule messages.Tile) piece.field (fields_in pieces) fit) in
    let head : FitsRule messages.Tile first.field = elim (option_cases (message_in 3 piece.field)) [
      | inl none ↦
          subst (λ (p : Piece). FitsRule messages.Tile p.field) (sym (subst (λ (message : Option (List ℕ)). BecomesInTile (fate_in changes ordinal) message piece first) none are.3)) own
      | inr some ↦
          let becomes : BecomesInTile (fate_in changes ordinal) (Some some.0) piece first = subst (λ (message : Option (List ℕ)). BecomesInTile (fate_in changes ordinal) message piece first) some.1 are.3 in
          embedded_fits messages.Tile 3 becomes.0 first.field refl becomes.1
    ] in
    subst (λ (list : List Piece). All (FitsRule messages.Tile) (fields_in list)) (sym are.2) (All-cons (FitsRule messages.Tile) first.field (fields_in rest) head tail)

-- so do the features of layers, the first of which has this ordinal
abbrev DrawSmallIn : (ℕ → ℕ → Fate) → ℕ → List LayerRecord → Type 0
DrawSmallIn fates ordinal layers = (k : ℕ) (layer : LayerRecord) → slice_get layers k ≡ Some layer → DrawSmall (fates (ordinal + k)) 0 layer.features

-- what is left of the layers of some fields, wherever they stand
abbrev LayersBecome : List Change → List Piece → Type 0
LayersBecome changes pieces = (ordinal : ℕ) (after : List Piece) (layers : List LayerRecord) → AreInTile changes ordinal pieces after → DrawSmallIn (fate_in changes) ordinal layers → Each LayerAlone (texts 3 pieces) layers
    → Each LayerAlone (texts 3 after) (layers_after (fate_in changes) ordinal layers)

module _ (changes : List Change) (piece : Piece) (pieces : List Piece) (further : LayersBecome changes pieces) (ordinal : ℕ) (after : List Piece) (are : AreInTile changes ordinal (piece ∷ pieces) after) where
  together : texts 3 after ≡ texts 3 (are.0 ∷ []) ++ texts 3 are.1
  together = ap (texts 3) are.2 ∙ texts-append 3 (are.0 ∷ []) are.1

  -- the first field is no layer
  no_layer : (layers : List LayerRecord) → message_in 3 piece.field ≡ None → DrawSmallIn (fate_in changes) ordinal layers → Each LayerAlone (texts 3 (piece ∷ pieces)) layers → Each LayerAlone (texts 3 after) (layers_after (fate_in changes) ordinal layers)
  no_layer layers none small each =
      let same : are.0 ≡ piece = subst (λ (message : Option (List ℕ)). BecomesInTile (fate_in changes ordinal) message piece are.0) none are.3 in
      let next : AreInTile changes ordinal pieces are.1 = subst (λ (message : Option (List ℕ)). AreInTile changes (ordinal_after message ordinal) pieces are.1) none are.4 in
      let left : texts 3 (piece ∷ pieces) ≡ texts 3 pieces = texts-append 3 (piece ∷ []) pieces ∙ ap (λ (list : List (List ℕ)). list ++ texts 3 pieces) (no_text_of_one 3 piece none) in
      let tail = further ordinal are.1 layers next small (subst (λ (list : List (List ℕ)). Each LayerAlone list layers) left each) in
      subst (λ (list : List (List ℕ)). Each LayerAlone list (layers_after (fate_in changes) ordinal layers))
      (sym (together ∙ ap (λ (list : List (List ℕ)). list ++ texts 3 are.1) (ap (λ (p : Piece). texts 3 (p ∷ [])) same ∙ no_text_of_one 3 piece none))) tail

  -- it is one
  a_layer : (layers : List LayerRecord) (message : List ℕ) → message_in 3 piece.field ≡ Some message → DrawSmallIn (fate_in changes) ordinal layers → Each LayerAlone (message ∷ texts 3 pieces) layers
      → Each LayerAlone (texts 3 after) (layers_after (fate_in changes) ordinal layers)
  a_layer [] message is small each = absurd each
  a_layer (layer ∷ layers) message is small each =
      let becomes : BecomesInTile (fate_in changes ordinal) (Some message) piece are.0 = subst (λ (message : Option (List ℕ)). BecomesInTile (fate_in changes ordinal) message piece are.0) is are.3 in
      let next : AreInTile changes (suc ordinal) pieces are.1 = subst (λ (message : Option (List ℕ)). AreInTile changes (ordinal_after message ordinal) pieces are.1) is are.4 in
      let text : texts 3 (are.0 ∷ []) ≡ becomes.0 ∷ [] = text_of_one 3 are.0 becomes.0 (embedded 3 are.0.field becomes.0 becomes.1) in
      let head = layer_spliced (fate_in changes ordinal) message becomes.0 layer becomes.2
      (subst (λ (k : ℕ). DrawSmall (fate_in changes k) 0 layer.features) (omega arith) (small 0 layer refl)) each.0 in
      let tail = further (suc ordinal) are.1 layers next
      (λ k other here. subst (λ (m : ℕ). DrawSmall (fate_in changes m) 0 other.features) (omega arith) (small (suc k) other here)) each.1 in
      subst (λ (list : List (List ℕ)). Each LayerAlone list (layers_after (fate_in changes) ordinal (layer ∷ layers))) (sym (together ∙ ap (λ (list : List (List ℕ)). list ++ texts 3 are.1) text)) (head, tail)

  first_on : (layers : List LayerRecord) → DrawSmallIn (fate_in changes) ordinal layers → Each LayerAlone (texts 3 (piece ∷ pieces)) layers → Each LayerAlone (texts 3 after) (layers_after (fate_in changes) ordinal layers)
  first_on layers small each = elim (option_cases (message_in 3 piece.field)) [
    | inl none ↦ no_layer layers none small each
    | inr some ↦
        let left : texts 3 (piece ∷ pieces) ≡ some.0 ∷ texts 3 pieces =
        texts-append 3 (piece ∷ []) pieces ∙ ap (λ (list : List (List ℕ)). list ++ texts 3 pieces) (text_of_one 3 piece some.0 some.1) in
        a_layer layers some.0 some.1 small (subst (λ (list : List (List ℕ)). Each LayerAlone list layers) left each)
  ]

layers_become : (changes : List Change) (pieces : List Piece) → LayersBecome changes pieces
layers_become changes [] ordinal after [] are small each = subst (λ (list : List Piece). Each LayerAlone (texts 3 list) []) (sym are) tt
layers_become changes [] ordinal after (layer ∷ layers) are small each = absurd each
layers_become changes (piece ∷ pieces) ordinal after layers are small each = first_on changes piece pieces (layers_become changes pieces) ordinal after are layers small each

-- the law: spliced bytes are the tile that is left
pub spliced_is_tile : (changes : List Change) (bytes out : List ℕ) (tile : TileRecord) → IsSpliced changes bytes out → IsTile bytes tile → DrawsSmall (fate_in changes) tile
    → IsTile out (spliced_tile (fate_in changes) tile)
spliced_is_tile changes bytes out tile it is small =
    let all_small : DrawSmallIn (fate_in changes) 0 tile.layers =
    λ i layer here k feature geometry there drawn. small i k layer feature geometry (record { in_tile = here; in_layer = there })
    (ap (λ (m : ℕ). fate_in changes m k) (omega arith) ∙ ap (fate_in changes (0 + i)) (omega arith) ∙ drawn) in
    let states : StatesTile (fields_in it.pieces) tile = pieces_state StatesTile StatesTile-same bytes it.pieces tile it.whole (tile_alone bytes tile is) in
    let same : fields_but 3 (fields_in it.pieces_after) ≡ fields_but 3 (fields_in it.pieces) = other_fields changes 0 it.pieces it.pieces_after it.layers in
    let fit = fields_fit changes 0 it.pieces it.pieces_after it.layers states.keeps.fits in
    let left : StatesTile (fields_in it.pieces_after) (spliced_tile (fate_in changes) tile) = record {
      keeps = KeepsSchema-but messages.Tile 3 (field_rule 3 Embedded AnyNumber) (fields_in it.pieces) (fields_in it.pieces_after) refl refl (λ required. absurd (cc)) (λ value. absurd (cc)) same fit states.keeps;
      layers = layers_become changes it.pieces 0 it.pieces_after tile.layers it.layers all_small states.layers;
    } in
    tile_placed out (spliced_tile (fate_in changes) tile) (joined_states StatesTile StatesTile-same out it.pieces_after (spliced_tile (fate_in changes) tile) it.whole_after left)
