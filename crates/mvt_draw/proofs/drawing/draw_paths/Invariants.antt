use Rattle.std.proofs.Common.{◌≤◌, ◌+◌, List, length, map, drop}
use Rattle.mvt_plane.specs.Position.{Position, origin}
use Rattle.mvt_plane.specs.Commands.Course.{ArePathsAhead}
use Rattle.mvt_wire.specs.NumberSources.{AreListed, most_listed}
use Rattle.mvt_draw.specs.Calls.Cursor.{course_of}
use Rattle.mvt_draw.proofs.Paths.{IsAmidPaths}
use Rattle.mvt_draw.proofs.drawing.draw_paths.Given as goal

-- whichever lines or rings they are, the first of them are drawn
abbrev pub invariant-paths : goal.invariant-paths
invariant-paths l = record {
  fewer : l.cursor.at + most_listed l.source ≤ length l.numbers;
  left : AreListed l.source (drop l.cursor.at l.numbers);
  drawn : (parts : List (List Position)) → ArePathsAhead (record { here = origin; left = l.numbers }) l.closed parts
      → IsAmidPaths l.closed parts (map (λ part. part.items) l.parts.items) (course_of l.numbers l.cursor);
}

abbrev pub decreases-paths : goal.decreases-paths
decreases-paths l = most_listed l.source
