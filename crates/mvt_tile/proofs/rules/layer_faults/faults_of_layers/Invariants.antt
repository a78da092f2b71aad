use Rattle.mvt_rules.specs.Tile.{TileRecord}
use Rattle.mvt_tile.specs.Calls.Gathered.{AreGatheredLayers, AreSummaries}
use Rattle.mvt_tile.proofs.rules.layer_faults.faults_of_layers.Given as goal

-- the faults of the layers that were passed
abbrev pub invariant-loop-layer : goal.invariant-loop-layer
invariant-loop-layer l = (tile : TileRecord) → AreSummaries l.layers tile → AreGatheredLayers tile l.layer l.faults.items
