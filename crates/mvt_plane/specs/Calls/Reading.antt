-- Where a reader of numbers is, and what is wrong with the next one.
use Rattle.std.specs.Prelude.{ℕ, List, []}
use Rattle.mvt_plane.specs.Commands.Drawing.{State, start, FaultFrom}
use Rattle.mvt_plane.specs.Commands.Figure.{GeometryType}
use Rattle.mvt_plane.specs.Commands.Reading.{Leads}

-- all numbers before this index are allowed, and this state is after them
abbrev pub StandsAt : GeometryType → List ℕ → ℕ → State → Type 0
StandsAt geometry_type numbers index state = Leads geometry_type (start geometry_type) numbers index state

-- at this index is the first number that isn't allowed, or they end there where they may not; the code is to blame for
-- it
abbrev pub IsFaulty : GeometryType → List ℕ → ℕ → ℕ → Type 0
IsFaulty geometry_type numbers code index = FaultFrom geometry_type (start geometry_type) numbers code index
