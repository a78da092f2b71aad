use Rattle.mvt_tile.specs.declared.first_places.Held.{Held}
use Rattle.mvt_tile.proofs.RuleFaults.Names.{IsLeastPair}
use Rattle.mvt_tile.proofs.rules.names.SeveralNames.first_repeated.Given as goal

-- the least pair of neighbours of one name that were passed
abbrev pub invariant-loop-at : goal.invariant-loop-at
invariant-loop-at l = IsLeastPair (λ (named : Held). named.text.now) (λ named. named.place) l.fn.self l.names.items l.at l.found
