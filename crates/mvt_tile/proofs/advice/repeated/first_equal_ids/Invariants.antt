use Rattle.mvt_tile.specs.Calls.Equal.{held_value}
use Rattle.mvt_tile.specs.View.{layer_of}
use Rattle.mvt_tile.proofs.RuleFaults.HeldPlaces.{place_of, IdHeldAt}
use Rattle.mvt_tile.proofs.RuleFaults.Names.{IsNaming}
use Rattle.mvt_tile.proofs.RuleFaults.Repetitions.{Before}
use Rattle.mvt_tile.proofs.advice.repeated.first_equal_ids.Given as goal

-- the ids of the features that were passed are held
abbrev pub invariant-loop-place : goal.invariant-loop-place
invariant-loop-place l = IsNaming held_value place_of (Before (IdHeldAt (layer_of l.layer)) l.place) l.held.items
