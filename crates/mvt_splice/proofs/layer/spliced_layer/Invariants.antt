use Rattle.std.proofs.Common.{◌-◌, length}
use Rattle.mvt_splice.specs.Splice.{fate_in}
use Rattle.mvt_splice.specs.Calls.Fates.{AreChangesLeft}
use Rattle.mvt_splice.proofs.Splicing.Layers.{IsSplicing}
use Rattle.mvt_splice.proofs.layer.spliced_layer.Given as goal

-- the fields that were passed, what was written of them, and the changes that are left
abbrev pub invariant-walk : goal.invariant-walk
invariant-walk l = record {
  splicing : IsSplicing (fate_in l.changes l.layer) l.message l.out.items l.fields l.feature;
  left : AreChangesLeft l.changes l.layer l.feature l.left;
}

abbrev pub decreases-walk : goal.decreases-walk
decreases-walk l = length l.fields.bytes - l.fields.at
