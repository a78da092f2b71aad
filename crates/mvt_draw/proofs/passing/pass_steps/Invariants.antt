use Rattle.std.proofs.Common.{◌+◌, ◌*◌, ◌≤◌, ◌^◌, List, ℕ}
use Rattle.mvt_plane.specs.Commands.Figure.{GeometryType}
use Rattle.mvt_plane.specs.Commands.Reading.{with_left}
use Rattle.mvt_draw.specs.Calls.Reach.{Reaches}
use Rattle.mvt_draw.proofs.passing.pass_steps.Given as goal

-- each step adds at most two parameters, and leads to where one less is to go
abbrev pub invariant-steps : goal.invariant-steps
invariant-steps g l = record {
  near : l.reach + 2 ^ 33 * l.left ≤ l.fn.reach + 2 ^ 33 * l.count;
  fewer : g.N.NumberSource.most l.source ≤ g.N.NumberSource.most l.fn.source;
  passes : (geometry_type : GeometryType) (numbers : List ℕ) → Reaches geometry_type numbers (g.N.NumberSource.Leaves l.fn.source) l.fn.reach (with_left geometry_type l.line l.count)
      → Reaches geometry_type numbers (g.N.NumberSource.Leaves l.source) l.reach (with_left geometry_type l.line l.left);
}

abbrev pub decreases-steps : goal.decreases-steps
decreases-steps g l = l.left
