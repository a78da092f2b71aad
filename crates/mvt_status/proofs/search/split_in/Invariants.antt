use Rattle.std.proofs.Common.{◌-◌, length}
use Rattle.mvt_status.proofs.Halves.{SplitsWithin, ChecksLeft}
use Rattle.mvt_status.proofs.search.split_in.Given as goal

-- the split point is in the part that is left, and so are the checks
abbrev pub invariant-halves : goal.invariant-halves
invariant-halves g l = record {
  part : SplitsWithin (goal.F-post g l.below) l.edges l.from l.to;
  checks : ChecksLeft (l.to - l.from) (length l.edges) l.checked;
}

-- places that are left
abbrev pub decreases-halves : goal.decreases-halves
decreases-halves g l = l.to - l.from
