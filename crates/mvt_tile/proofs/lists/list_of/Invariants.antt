use Rattle.std.proofs.Common.{◌≡◌, ℕ, List, ◌++◌}
use Rattle.mvt_tile.proofs.lists.list_of.Given as goal

-- what was given stands in the list, and the rest is left
abbrev pub invariant-numbers : goal.invariant-numbers
invariant-numbers g l = (given : List ℕ) → g.N.NumberSource.Leaves l.fn.numbers given → (rest : List ℕ) × (given ≡ l.list.items ++ rest) × g.N.NumberSource.Leaves l.numbers rest

abbrev pub decreases-numbers : goal.decreases-numbers
decreases-numbers g l = g.N.NumberSource.most l.numbers
