use Rattle.mvt_tile.specs.Calls.Equal.{held_value}
use Rattle.mvt_tile.proofs.RuleFaults.HeldPlaces.{place_of, NameHeldAt}
use Rattle.mvt_tile.proofs.RuleFaults.Names.{IsNaming}
use Rattle.mvt_tile.proofs.RuleFaults.Repetitions.{Before}
use Rattle.mvt_tile.proofs.rules.layer_faults.first_equal_names.Given as goal

-- the names of the layers that were passed are held
abbrev pub invariant-loop-place : goal.invariant-loop-place
invariant-loop-place l = IsNaming held_value place_of (Before (NameHeldAt l.layers) l.place) l.held.items
