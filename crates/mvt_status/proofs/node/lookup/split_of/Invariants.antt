use Rattle.std.proofs.Common.{◌≡◌, ◌⊎◌, ◌+◌, ◌*◌, ◌<◌, ◌≤◌, length}
use Rattle.mvt_status.specs.Calls.Tree.{edges_of, fewest, height_of}
use Rattle.mvt_status.proofs.NodeSplits.{IsSearched}
use Rattle.mvt_status.proofs.node.lookup.split_of.Given as goal

-- levels that are left
abbrev pub decreases-levels : goal.decreases-levels
decreases-levels g l = height_of l.part

-- the search has come to this part; one level at least was gone down where the part isn't all, each of them at most two
-- levels higher than the next one, and what was passed has as many edges as are wanted for them
abbrev pub invariant-levels : goal.invariant-levels
invariant-levels g l = record {
  searched : IsSearched (goal.F-post g l.below) (edges_of l.side) l.last (edges_of l.part) l.passed l.following;
  high : 0 < length l.last → 0 < height_of l.side;
  room : length l.last ≤ 32;
  begun : (l.part ≡ l.side) ⊎ (0 < l.depth);
  left : l.depth + height_of l.part ≤ height_of l.side;
  down : height_of l.side ≤ 2 * l.depth + height_of l.part;
  filled : fewest (height_of l.side) + length (edges_of l.part) ≤ length (edges_of l.side) + fewest (height_of l.part);
  filled_there : fewest (height_of l.side) + length l.last ≤ length (edges_of l.side) + 2;
}
