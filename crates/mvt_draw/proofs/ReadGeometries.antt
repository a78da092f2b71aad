-- The command fault of a geometry that was read.
use Rattle.std.proofs.Common.{refl, ℕ, List}
use Rattle.mvt_fault.specs.Code.{command_code}
use Rattle.mvt_plane.specs.Commands.Figure.{polygon}
use Rattle.mvt_plane.proofs.Spelling.CommandFaults.{has_command_fault}
use Rattle.mvt_draw.specs.Geometry.{IsDrawFault}
use Rattle.mvt_draw.specs.Calls.Geometry.{IsFaultAhead}
use Rattle.mvt_draw.specs.declared.drawing.DrawFault.{DrawFault}
use Rattle.mvt_draw.specs.declared.drawing.DrawFault.TheVariants.{Command, Memory}

-- of rings, the first number that isn't allowed is their fault
pub rings_fault : (numbers : List ℕ) (fault : DrawFault) → IsFaultAhead polygon numbers fault → IsDrawFault 3 numbers fault
rings_fault numbers (Command code index) ahead = (polygon, refl, has_command_fault polygon numbers (command_code code) index ahead)
rings_fault numbers Memory ahead = tt
