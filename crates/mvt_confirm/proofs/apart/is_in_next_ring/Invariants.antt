use Rattle.std.proofs.Common.{◌≡◌, ◌==◌, ◌∷◌, List}
use Rattle.mvt_confirm.specs.Calls.Vertices.{RingsLeft}
use Rattle.mvt_confirm.proofs.Shapes.CrossingWalks.{IsAmidCrossings}
use Rattle.mvt_plane.specs.Position.{Position}
use Rattle.mvt_confirm.proofs.apart.is_in_next_ring.Given as goal

-- whichever rings were left, the walk is between the vertices of the first of them; each vertex adds one edge
abbrev pub invariant-vertices : goal.invariant-vertices
invariant-vertices l = record {
  amid : (ring : List Position) (rest : List (List Position)) → RingsLeft l.fn.vertices (ring ∷ rest) → IsAmidCrossings l.position ring rest l.vertices l.first l.last l.is_over l.crossings;
  over : l.is_over ≡ (l.vertices.left == 0);
}

abbrev pub decreases-vertices : goal.decreases-vertices
decreases-vertices l = l.vertices.left
