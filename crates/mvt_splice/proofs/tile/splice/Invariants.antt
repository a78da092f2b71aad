use Rattle.std.proofs.Common.{◌-◌, length}
use Rattle.mvt_splice.specs.Calls.Fates.{AreChangesLeft}
use Rattle.mvt_splice.proofs.Splicing.Tiles.{IsSplicingTile}
use Rattle.mvt_splice.proofs.tile.splice.Given as goal

-- the fields that were passed, what was written of them, and the changes that are left
abbrev pub invariant-walk : goal.invariant-walk
invariant-walk l = record {
  splicing : IsSplicingTile l.changes l.bytes l.out.items l.fields l.layer;
  left : AreChangesLeft l.changes l.layer 0 l.left;
}

abbrev pub decreases-walk : goal.decreases-walk
decreases-walk l = length l.fields.bytes - l.fields.at
