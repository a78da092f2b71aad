use Rattle.std.proofs.Common.{inr, ◌≡◌, ℕ, ◌<◌, List, length, map, slice_get, get_or, refl, sym, ◌∙◌, ap, arith}
use Rattle.std.proofs.lemmas.List.{length-map}
use Rattle.std.proofs.lemmas.Option.{slice_get-map, slice_get_read}
use Rattle.std.specs.Option.{option_map}
use Rattle.mvt_tile.specs.Calls.PassedLayers.{passed, IsNextLayer}
use Rattle.mvt_tile.specs.View.{layer_of, tile_of}
use Rattle.mvt_tile.specs.declared.record.Layer.{Layer}
use Rattle.mvt_tile.specs.declared.record.Tile.{Tile}
use Rattle.mvt_tile.specs.declared.rules.layer_rules.LayerRules.{LayerRules}
use Rattle.mvt_tile.proofs.rules.layers.note_layers.Goals as goal

pub loop-layer-init : goal.loop-layer-init
loop-layer-init c = (c.requires.passes, c.requires.none)

-- the layer at the place of as many as were passed is the next
next : (rules : LayerRules) (tile : Tile) (layers : List Layer) (place : ℕ) (layer : Layer) (name : List ℕ) → layers ≡ tile.layers.items → passed rules ≡ place → place < length layers
    → layer ≡ get_or layers place layer → name ≡ layer.name.now → IsNextLayer rules (tile_of tile) layer.version name
next rules tile layers place layer name all count within here named = record {
  layer_record = layer_of layer;
  there = ap (slice_get (map layer_of tile.layers.items)) count ∙ ap (λ (list : List Layer). slice_get (map layer_of list) place) (sym all)
      ∙ slice_get-map layer_of layers place ∙ ap (option_map layer_of) (slice_get_read layers (length layers) place layer refl within here);
  of_version = refl;
  of_name = named;
}

pub loop-layer-preserved : goal.loop-layer-preserved
loop-layer-preserved c = (
  c.in_ok-note.ensures.passes c.if-not-branch.false (tile_of c.args.tile.now) c.loop-layer.invariant.0
      (next c.loop-layer.rules c.args.tile.now c.deref-layer-items.result.now c.loop-layer.layer-index c.layer-item.result c.as_bytes.result.now
      c.deref-layer-items.ensures.value c.loop-layer.invariant.1 c.loop-layer-test.true c.layer-item.is c.as_bytes.ensures.value),
  omega (arith, c.in_ok-note.ensures.count c.if-not-branch.false, c.loop-layer.invariant.1),
)

pub returns-then-not-branch : goal.returns-then-not-branch
returns-then-not-branch c =
    c.in_ok-note.ensures.ends c.if-not-branch.true (tile_of c.args.tile.now) c.loop-layer.invariant.0
    (next c.loop-layer.rules c.args.tile.now c.deref-layer-items.result.now c.loop-layer.layer-index c.layer-item.result c.as_bytes.result.now
    c.deref-layer-items.ensures.value c.loop-layer.invariant.1 c.loop-layer-test.true c.layer-item.is c.as_bytes.ensures.value)

pub returns : goal.returns
returns c = record {
  layers = c.loop-layer.invariant.0.layers;
  end = inr (
    c.loop-layer.invariant.0.no_other,
    omega (arith, length-map c.args.tile.now.layers.items layer_of, ap length c.deref-layer-items.ensures.value, c.loop-layer-test.false, c.loop-layer.auto.layer-index-end, c.loop-layer.invariant.1),
  );
}
