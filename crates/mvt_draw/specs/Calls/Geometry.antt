-- The command fault that a reader has ahead.
use Rattle.std.specs.Prelude.{ℕ, List}
use Rattle.mvt_fault.specs.Code.{command_code}
use Rattle.mvt_plane.specs.Commands.Figure.{GeometryType}
use Rattle.mvt_plane.specs.Calls.Reading.{IsFaulty}
use Rattle.mvt_draw.specs.declared.drawing.DrawFault.{DrawFault}
use Rattle.mvt_draw.specs.declared.drawing.DrawFault.TheVariants as draw_faults

-- the numbers have the fault at the first one that isn't allowed, or memory was refused
abbrev pub IsFaultAhead : GeometryType → List ℕ → DrawFault → Type 0
IsFaultAhead geometry_type numbers (draw_faults.Command code index) = IsFaulty geometry_type numbers (command_code code) index
IsFaultAhead geometry_type numbers draw_faults.Memory = Unit {0}
