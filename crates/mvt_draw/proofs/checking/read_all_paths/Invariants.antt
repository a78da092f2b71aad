use Rattle.std.proofs.Common.{◌≤◌, ◌+◌, Bool, List, ℕ}
use Rattle.mvt_plane.specs.Commands.Drawing.{path_command}
use Rattle.mvt_plane.specs.Calls.Reading.{StandsAt}
use Rattle.mvt_plane.specs.Commands.Reading.{path_type}
use Rattle.mvt_draw.specs.Calls.Cursor.{position_of}
use Rattle.mvt_draw.specs.Calls.Given.{IsGivenAt}
use Rattle.mvt_draw.proofs.checking.read_all_paths.Given as goal

abbrev pub invariant-paths : goal.invariant-paths
invariant-paths g l = record {
  fewer : l.cursor.at + 1 + g.N.NumberSource.most l.source ≤ g.N.NumberSource.most l.fn.source;
  there : (given : List ℕ) → g.N.NumberSource.Leaves l.fn.source given
      → IsGivenAt (g.N.NumberSource.Leaves l.source) given l.cursor.at l.first × ((drawn : Bool) × StandsAt (path_type l.closed) given l.cursor.at (path_command drawn (position_of l.cursor)));
}

abbrev pub decreases-paths : goal.decreases-paths
decreases-paths g l = g.N.NumberSource.most l.source
