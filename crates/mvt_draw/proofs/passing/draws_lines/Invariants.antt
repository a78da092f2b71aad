use Rattle.std.proofs.Common.{◌≤◌, ◌^◌, Bool, List, ℕ}
use Rattle.mvt_plane.specs.Commands.Drawing.{path_command}
use Rattle.mvt_plane.specs.Commands.Figure.{line_string}
use Rattle.mvt_draw.specs.Calls.Reach.{Follows, Reaches}
use Rattle.mvt_draw.proofs.passing.draws_lines.Given as goal

-- the lines that were passed end in the range, and lead to the number that was read last
abbrev pub invariant-lines : goal.invariant-lines
invariant-lines g l = record {
  near : l.reach ≤ 2 ^ 30;
  passes : (given : List ℕ) → g.N.NumberSource.Leaves l.fn.source given
      → (drawn : Bool) × Reaches line_string given (Follows l.first (g.N.NumberSource.Leaves l.source)) l.reach (path_command drawn);
}

abbrev pub decreases-lines : goal.decreases-lines
decreases-lines g l = g.N.NumberSource.most l.source
