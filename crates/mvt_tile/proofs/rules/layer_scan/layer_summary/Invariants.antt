use Rattle.std.proofs.Common.{◌-◌, length}
use Rattle.mvt_tile.proofs.RuleFaults.Seen.{IsSummaryWalk}
use Rattle.mvt_tile.proofs.rules.layer_scan.layer_summary.Given as goal

-- the content of the fields that were passed
abbrev pub invariant-walk : goal.invariant-walk
invariant-walk l = IsSummaryWalk l.part.bytes.now (record { from = l.part.from; to = l.part.to }) l.summary l.fields

abbrev pub decreases-walk : goal.decreases-walk
decreases-walk l = length l.fields.bytes - l.fields.at
