use Rattle.std.proofs.Common.{ℕ, List, None}
use Rattle.mvt_confirm.specs.Calls.Commands.{plane_state}
use Rattle.mvt_confirm.proofs.Drawing.CommandWalks.{IsAmid}
use Rattle.mvt_plane.specs.Commands.Figure.{polygon}
use Rattle.mvt_wire.specs.Numbers.{NumbersLeft, most_left}
use Rattle.mvt_confirm.proofs.commands.draws_rings.Given as goal

-- whichever numbers they are, some of them are passed, and they lead to the state
abbrev pub invariant-numbers : goal.invariant-numbers
invariant-numbers l = (geometry : List ℕ) → NumbersLeft l.fn.numbers geometry None
    → (passed : ℕ) × IsAmid polygon geometry l.numbers (plane_state l.state) passed

abbrev pub decreases-numbers : goal.decreases-numbers
decreases-numbers l = most_left l.numbers
