use Rattle.std.proofs.Common.{◌≡◌}
use Rattle.mvt_tile.specs.Calls.PassedLayers.{passed, PassesLayers}
use Rattle.mvt_tile.specs.View.{tile_of}
use Rattle.mvt_tile.proofs.rules.layers.note_layers.Given as goal

-- the layers so far were passed
abbrev pub invariant-loop-layer : goal.invariant-loop-layer
invariant-loop-layer l = PassesLayers l.rules (tile_of l.tile) × (passed l.rules ≡ l.layer-index)
