use Rattle.std.proofs.Common.{◌≡◌, ◌↔◌, ◌<◌, ℕ, Bool, Decides, IsTrue, List, Some, slice_get, sym, ◌∙◌}
use Rattle.std.proofs.lemmas.Bool.Decides.{Decides-eqb}
use Rattle.std.proofs.lemmas.Slice.Eq.{slice_eq-Decides}
use Rattle.mvt_rules.specs.Rules.{SameName}
use Rattle.mvt_rules.specs.Tile.{LayerRecord, TileRecord}
use Rattle.mvt_confirm.proofs.layers.has_same_name.Goals as goal

-- the layer of a tile with an ordinal has this name
abbrev HasName : TileRecord → ℕ → List ℕ → Type 0
HasName tile layer name = (layer_record : LayerRecord) × (slice_get tile.layers layer ≡ Some layer_record) × (layer_record.name ≡ name)

-- a test of two names
names_decide : (tile : TileRecord) (first second : ℕ) (name other : List ℕ) (test : Bool) → first < second → HasName tile first name → HasName tile second other
    → Decides test (name ≡ other) → IsTrue test ↔ SameName tile first second
names_decide tile first second name other test below one two decides = (
  λ holds. record {
    earlier = below;
    layer_record = one.0;
    there = one.1;
    other = two.0;
    other_there = two.1;
    same = one.2 ∙ decides.0 holds ∙ sym two.2;
  },
  λ same.
      let its : one.0 ≡ same.layer_record = cc (one.1, same.there) in
      let others : two.0 ≡ same.other = cc (two.1, same.other_there) in
      decides.1 (cc (one.2, two.2, same.same)),
)

pub returns : goal.returns
returns c = λ tile is.
    names_decide tile c.args.first c.args.second c.in-Some.name.now c.in-Some-name_of.other.now c.eq.result c.if-first-second.false (c.in-Some.ensures.there tile is) (c.in-Some-name_of.ensures.there tile is)
    (slice_eq-Decides Decides-eqb c.in-Some.name.now c.in-Some-name_of.other.now c.eq.result c.eq.ensures)
