use Rattle.std.proofs.Common.{ℕ, List, None}
use Rattle.mvt_confirm.specs.Calls.Commands.{IsAhead, plane_state, plane_type}
use Rattle.mvt_confirm.proofs.Drawing.CommandWalks.{IsAmid}
use Rattle.mvt_wire.specs.Numbers.{NumbersLeft, most_left}
use Rattle.mvt_confirm.proofs.commands.has_fault.Given as goal

-- whichever numbers they are, so many of them are passed, and they lead to the state
abbrev pub invariant-numbers : goal.invariant-numbers
invariant-numbers l = (geometry : List ℕ) → NumbersLeft l.fn.numbers geometry None
    → (passed : ℕ) × IsAmid (plane_type l.geometry_type) geometry l.numbers (plane_state l.state) passed × IsAhead l.before passed l.index

abbrev pub decreases-numbers : goal.decreases-numbers
decreases-numbers l = most_left l.numbers
