use Rattle.std.proofs.Common.{◌+◌, ◌≤◌, ℕ, List, drop, Some}
use Rattle.mvt_tile.specs.Calls.PassedTags.{IsScanned}
use Rattle.mvt_tile.specs.declared.rules.key_marks.KeyMarks.{KeyMarks}
use Rattle.mvt_tile.proofs.rules.tags.scan_rest.Given as goal

-- the pairs before the place were passed too, and the rest is left
abbrev pub invariant-pairs : goal.invariant-pairs
invariant-pairs g l = record {
  few : l.at + g.N.NumberSource.most l.tags ≤ l.fn.from + g.N.NumberSource.most l.fn.tags;
  scanned : (given : List ℕ) → g.N.NumberSource.Leaves l.fn.tags (drop l.fn.from given) → (set : KeyMarks) (keys values : ℕ) → IsScanned set keys values given l.fn.from l.fn.before (Some l.fn.fault)
      → g.N.NumberSource.Leaves l.tags (drop l.at given) × IsScanned set keys values given l.at l.needs (Some l.fn.fault);
}

abbrev pub decreases-pairs : goal.decreases-pairs
decreases-pairs g l = g.N.NumberSource.most l.tags
