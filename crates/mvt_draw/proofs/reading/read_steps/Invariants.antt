use Rattle.std.proofs.Common.{◌+◌, ◌≤◌, ℕ, List, drop}
use Rattle.mvt_plane.specs.Calls.Course.{AreStepsAhead}
use Rattle.mvt_plane.specs.Commands.Figure.{GeometryType}
use Rattle.mvt_plane.specs.Position.{Position}
use Rattle.mvt_plane.specs.Calls.Reading.{StandsAt}
use Rattle.mvt_plane.specs.Commands.Reading.{with_left}
use Rattle.mvt_draw.specs.Calls.Cursor.{position_of, course_of}
use Rattle.mvt_draw.proofs.Courses.{IsAmidRun}
use Rattle.mvt_draw.proofs.reading.read_steps.Given as goal

-- whichever numbers are read, and whichever steps are ahead, the first of them are drawn
abbrev pub invariant-steps : goal.invariant-steps
invariant-steps g l = record {
  forward : l.fn.cursor.at ≤ l.cursor.at;
  fewer : l.cursor.at + g.N.NumberSource.most l.source ≤ l.fn.cursor.at + g.N.NumberSource.most l.fn.source;
  left : (numbers : List ℕ) → g.N.NumberSource.Leaves l.fn.source (drop l.fn.cursor.at numbers) → g.N.NumberSource.Leaves l.source (drop l.cursor.at numbers);
  goes : (numbers : List ℕ) → g.N.NumberSource.Leaves l.fn.source (drop l.fn.cursor.at numbers)
      → (geometry_type : GeometryType) → StandsAt geometry_type numbers l.fn.cursor.at (with_left geometry_type l.line l.count (position_of l.fn.cursor))
      → StandsAt geometry_type numbers l.cursor.at (with_left geometry_type l.line l.left (position_of l.cursor));
  drawn : g.S.PositionSink.Keeps → (numbers : List ℕ) → g.N.NumberSource.Leaves l.fn.source (drop l.fn.cursor.at numbers)
      → (positions : List Position) (rest : List ℕ) → AreStepsAhead (course_of numbers l.fn.cursor) l.count positions rest
      → IsAmidRun (g.S.PositionSink.kept l.fn.sink) (course_of numbers l.fn.cursor) positions rest (g.S.PositionSink.kept l.sink) (course_of numbers l.cursor) l.left;
}

abbrev pub decreases-steps : goal.decreases-steps
decreases-steps g l = l.left
