use Rattle.std.proofs.Common.{◌≡◌, ◌+◌, ◌≤◌, ℕ, List, None, drop}
use Rattle.mvt_tile.specs.Calls.PassedTags.{IsScanned}
use Rattle.mvt_tile.proofs.rules.tags.scan_tags.Given as goal

-- the pairs before the place were passed, and the rest is left
abbrev pub invariant-pairs : goal.invariant-pairs
invariant-pairs g l = record {
  few : l.at + g.N.NumberSource.most l.tags ≤ g.N.NumberSource.most l.fn.tags;
  nothing : l.found ≡ None;
  scanned : (given : List ℕ) → g.N.NumberSource.Leaves l.fn.tags given → g.N.NumberSource.Leaves l.tags (drop l.at given) × IsScanned l.marks l.keys l.values given l.at l.needs None;
}

abbrev pub decreases-pairs : goal.decreases-pairs
decreases-pairs g l = g.N.NumberSource.most l.tags
