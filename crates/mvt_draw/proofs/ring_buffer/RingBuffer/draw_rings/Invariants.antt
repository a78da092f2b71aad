use Rattle.std.proofs.Common.{◌≤◌, ◌+◌, Bool, ℕ, List, true}
use Rattle.mvt_plane.specs.Commands.Course.{ArePathsAhead}
use Rattle.mvt_plane.specs.Calls.Course.{course_at}
use Rattle.mvt_plane.specs.Commands.Drawing.{path_command}
use Rattle.mvt_plane.specs.Commands.Figure.{polygon}
use Rattle.mvt_plane.specs.Position.{Position, origin}
use Rattle.mvt_plane.specs.Calls.Reading.{StandsAt}
use Rattle.mvt_draw.specs.Calls.Cursor.{position_of, course_of}
use Rattle.mvt_draw.specs.Calls.Given.{IsGivenAt}
use Rattle.mvt_draw.proofs.Paths.{IsAmidPaths}
use Rattle.mvt_draw.proofs.ring_buffer.RingBuffer.draw_rings.Given as goal

-- whichever rings they are, the first of them are drawn
abbrev pub invariant-rings : goal.invariant-rings
invariant-rings g l = record {
  fewer : l.cursor.at + 1 + g.N.NumberSource.most l.numbers ≤ g.N.NumberSource.most l.fn.numbers;
  there : (given : List ℕ) → g.N.NumberSource.Leaves l.fn.numbers given
      → IsGivenAt (g.N.NumberSource.Leaves l.numbers) given l.cursor.at l.first × ((drawn : Bool) × StandsAt polygon given l.cursor.at (path_command drawn (position_of l.cursor)));
  drawn : (given : List ℕ) → g.N.NumberSource.Leaves l.fn.numbers given → (rings : List (List Position)) → ArePathsAhead (course_at given 0 origin) true rings
      → IsAmidPaths true rings l.self (course_of given l.cursor);
}

abbrev pub decreases-rings : goal.decreases-rings
decreases-rings g l = g.N.NumberSource.most l.numbers
