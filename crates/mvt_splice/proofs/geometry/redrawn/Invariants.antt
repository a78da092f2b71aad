use Rattle.std.proofs.Common.{◌-◌, length}
use Rattle.mvt_splice.proofs.Splicing.Redrawing.{IsRedrawing}
use Rattle.mvt_splice.proofs.geometry.redrawn.Given as goal

-- the fields that were passed, and what was written of them
abbrev pub invariant-walk : goal.invariant-walk
invariant-walk l = IsRedrawing l.numbers l.message l.out.items l.fields l.is_drawn

abbrev pub decreases-walk : goal.decreases-walk
decreases-walk l = length l.fields.bytes - l.fields.at
