-- A feature whose message has another geometry is the same feature with other numbers.
use Rattle.std.proofs.Common.{◌≡◌, ◌≢◌, ℕ, ◌^◌, ◌<◌, ◌==◌, not, cond, Bool, true, false, List, [], ◌∷◌, length, map, filter, filter_map, slice_get, All, refl, sym, ◌∙◌, ap, subst, arith, append-nil}
use Rattle.std.proofs.lemmas.Bool.{eqb-true, lt-leb}
use Rattle.std.proofs.lemmas.List.Elements.{All-nil, All-cons, All-head, All-filter, filter_passes}
use Rattle.std.proofs.lemmas.Option.{same_Some}
use Rattle.mvt_wire.specs.Field.{Content, varint, eight_bytes, delimited, four_bytes, Entry}
use Rattle.mvt_wire.specs.Number.{States, StateTogether, AreSmall}
use Rattle.mvt_wire.specs.Schema.{rule_of, is_own, is_out_of_range, field_rule}
use Rattle.mvt_wire.specs.Payload.{fields_of, contents_of, number_in, count_of}
use Rattle.mvt_rules.specs.Parts.Fields.{FitsRule}
use Rattle.mvt_rules.specs.Tile.{Fits, FeatureRecord}
use Rattle.mvt_wire.specs.declared.schema.FieldRule.{FieldRule}
use Rattle.mvt_wire.specs.declared.schema.Message.TheVariants as messages
use Rattle.mvt_wire.specs.declared.schema.Occurrence.TheVariants.{AtLeastOnce}
use Rattle.mvt_wire.specs.declared.schema.Shape.TheVariants.{Numbers}
use Rattle.mvt_splice.specs.Splice.{Piece, IsRedrawn}
use Rattle.mvt_splice.specs.SplicedTile.{redrawn_feature}
use Rattle.mvt_splice.proofs.SplicedTiles.LoneMessages.{StatesFeature, StatesFeature-same, FeatureAlone, pieces_state, joined_states}
use Rattle.mvt_splice.proofs.SplicedTiles.OtherFields.{all_parted, fields_but, same_contents_of, KeepsSchema-but}
use Rattle.mvt_splice.proofs.SplicedTiles.PiecedMessages.{fields_in}

cond_mapped : {A B : Type 0} (f : A → B) (test : Bool) (x : A) (xs : List A) → cond test (f x ∷ map f xs) (map f xs) ≡ map f (cond test (x ∷ xs) xs)
cond_mapped f true x xs = refl
cond_mapped f false x xs = refl

-- a test of what is made of each member
pub filter_mapped : {A B : Type 0} (f : A → B) (test : B → Bool) (xs : List A) → filter test (map f xs) ≡ map f (filter (λ (x : A). test (f x)) xs)
filter_mapped f test [] = refl
filter_mapped {A} {B} f test (x ∷ xs) =
    ap (λ (list : List B). cond (test (f x)) (f x ∷ list) list) (filter_mapped f test xs) ∙ cond_mapped f (test (f x)) x (filter (λ (y : A). test (f y)) xs)

-- a payload of small numbers fits the rule for numbers
numbers_fit : (rule : FieldRule) (content : Content) (numbers : List ℕ) → rule.shape ≡ Numbers → States content numbers → AreSmall numbers → Fits rule content
numbers_fit rule (varint value at) numbers shape states small =
    let own = All-head (λ (n : ℕ). n < 2 ^ 32) value [] (subst (λ (list : List ℕ). AreSmall list) states small) in
    record {
      own = ap (λ s. is_own s 0) shape;
      text = λ from part other is. absurd (cc);
      in_range = λ n place is.
          let same : value ≡ n = cc in
          ap (λ s. is_out_of_range s n) shape ∙ lt-leb (2 ^ 32) n (subst (λ (k : ℕ). k < 2 ^ 32) same own);
      packed = λ from part other is. absurd (cc);
    }
numbers_fit rule (eight_bytes part) numbers shape states small = absurd states
numbers_fit rule (delimited from part) numbers shape states small = record {
  own = ap (λ s. is_own s 2) shape;
  text = λ place list other is. absurd (cc);
  in_range = λ n place is. absurd (cc);
  packed = λ place list other is. (numbers, states, small);
}
numbers_fit rule (four_bytes part) numbers shape states small = absurd states

-- the field of the new geometry fits its rule
drawn_fits : (drawn : Entry) (numbers : List ℕ) → drawn.number ≡ 4 → States drawn.content numbers → AreSmall numbers → FitsRule messages.Feature drawn
drawn_fits drawn numbers numbered states small rule known =
    let one : field_rule 4 Numbers AtLeastOnce ≡ rule = same_Some (field_rule 4 Numbers AtLeastOnce) rule (sym (ap (rule_of messages.Feature) numbered) ∙ known) in
    numbers_fit rule drawn.content numbers (sym (ap (λ (r : FieldRule). r.shape) one)) states small

states_redrawn : (before after : List Entry) (drawn : Entry) (geometry : List ℕ) (feature : FeatureRecord) → fields_but 4 after ≡ fields_but 4 before → fields_of 4 after ≡ drawn ∷ [] → States drawn.content geometry → AreSmall geometry
    → StatesFeature before feature → StatesFeature after (redrawn_feature geometry feature)
states_redrawn before after drawn geometry feature same one states small it =
    let numbered = All-head (λ (e : Entry). (e.number == 4) ≡ true) drawn [] (subst (λ (list : List Entry). All (λ (e : Entry). (e.number == 4) ≡ true) list) one (filter_passes (λ (e : Entry). e.number == 4) after)) in
    let fits : FitsRule messages.Feature drawn = drawn_fits drawn geometry (eqb-true drawn.number 4 numbered) states small in
    let fitting : All (FitsRule messages.Feature) after =
    all_parted (FitsRule messages.Feature) (λ (e : Entry). e.number == 4) after
    (subst (λ (list : List Entry). All (FitsRule messages.Feature) list) (sym one) (All-cons (FitsRule messages.Feature) drawn [] fits (All-nil (FitsRule messages.Feature))))
    (subst (λ (list : List Entry). All (FitsRule messages.Feature) list) (sym same) (All-filter (λ (e : Entry). not (e.number == 4)) (FitsRule messages.Feature) before it.keeps.fits)) in
    let count : count_of 4 after ≡ 1 = ap length one in
    let contents : (k : ℕ) → k ≢ 4 → contents_of k after ≡ contents_of k before = λ k other. same_contents_of 4 k before after other same in
    record {
      keeps = KeepsSchema-but messages.Feature 4 (field_rule 4 Numbers AtLeastOnce) before after refl refl (λ required. omega arith) (λ value. absurd (cc)) same fitting it.keeps;
      id = it.id ∙ ap (λ (list : List Content). slice_get (filter_map number_in list) 0) (sym (contents 1 (λ is. absurd (omega arith))));
      tags = subst (λ (list : List Content). StateTogether list feature.tags) (sym (contents 2 (λ is. absurd (omega arith)))) it.tags;
      kind = ap (filter_map number_in) (contents 3 (λ is. absurd (omega arith))) ∙ it.kind;
      geometry = subst (λ (list : List Content). StateTogether list geometry) (sym (ap (map (λ (e : Entry). e.content)) one)) (geometry, [], states, refl, sym (append-nil geometry));
    }

-- the message after a change of its geometry is that feature with the new numbers
pub feature_redrawn : (geometry before after : List ℕ) (feature : FeatureRecord) → IsRedrawn geometry before after → AreSmall geometry → FeatureAlone before feature → FeatureAlone after (redrawn_feature geometry feature)
feature_redrawn geometry before after feature it small alone =
    let others : fields_but 4 (fields_in it.pieces_after) ≡ fields_but 4 (fields_in it.pieces) =
    filter_mapped (λ (piece : Piece). piece.field) (λ (e : Entry). not (e.number == 4)) it.pieces_after ∙ ap (map (λ (piece : Piece). piece.field)) it.others
    ∙ sym (filter_mapped (λ (piece : Piece). piece.field) (λ (e : Entry). not (e.number == 4)) it.pieces) in
    let one : fields_of 4 (fields_in it.pieces_after) ≡ it.drawn.field ∷ [] =
    filter_mapped (λ (piece : Piece). piece.field) (λ (e : Entry). e.number == 4) it.pieces_after ∙ ap (map (λ (piece : Piece). piece.field)) it.one in
    joined_states StatesFeature StatesFeature-same after it.pieces_after (redrawn_feature geometry feature) it.whole_after
    (states_redrawn (fields_in it.pieces) (fields_in it.pieces_after) it.drawn.field geometry feature others one it.numbers small
    (pieces_state StatesFeature StatesFeature-same before it.pieces feature it.whole alone))
