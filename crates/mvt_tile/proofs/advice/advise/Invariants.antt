use Rattle.std.proofs.Common.{map, take}
use Rattle.mvt_tile.specs.Advice.{AreLayersAdvice}
use Rattle.mvt_tile.specs.View.{layer_of}
use Rattle.mvt_tile.proofs.advice.advise.Given as goal

-- the advice on the layers that were passed
abbrev pub invariant-loop-number : goal.invariant-loop-number
invariant-loop-number l = AreLayersAdvice 0 (map layer_of (take l.number l.tile.layers.items)) l.advice.items
