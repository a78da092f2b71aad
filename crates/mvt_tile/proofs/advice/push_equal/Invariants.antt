use Rattle.std.proofs.Common.{◌≡◌, ◌++◌, ℕ, List}
use Rattle.mvt_tile.specs.Advice.{ArePairs}
use Rattle.mvt_tile.specs.Calls.Equal.{equal_advice}
use Rattle.mvt_tile.proofs.RuleFaults.Advised.{StandsBefore}
use Rattle.mvt_tile.proofs.advice.push_equal.Given as goal

-- the advice on the pairs that were passed was added
abbrev pub invariant-loop-second : goal.invariant-loop-second
invariant-loop-second l = (pairs : List (ℕ × ℕ)) × ArePairs (StandsBefore l.firsts l.second) pairs × (l.advice.items ≡ l.fn.advice.items ++ equal_advice l.equal l.layer pairs)
