use Rattle.std.proofs.Common.{◌-◌, length}
use Rattle.mvt_tile.proofs.OneWalk.Tiles.{IsTilePassed}
use Rattle.mvt_tile.proofs.walk.walk_layers.Given as goal

-- the fields that were passed have no fault
abbrev pub invariant-walk : goal.invariant-walk
invariant-walk over l = IsTilePassed (over.T.FeatureTest.IsKept l.test) l.bytes l.at l.own l.layers

abbrev pub decreases-walk : goal.decreases-walk
decreases-walk over l = length l.bytes - l.at
