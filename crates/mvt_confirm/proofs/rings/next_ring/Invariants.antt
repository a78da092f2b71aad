use Rattle.std.proofs.Common.{◌≡◌, ◌*◌, ◌-◌, ◌^◌, ◌<◌, ◌==◌, List}
use Rattle.mvt_confirm.specs.Calls.Vertices.{RingsLeft}
use Rattle.mvt_confirm.proofs.Drawing.RingWalks.{IsAmidRing}
use Rattle.mvt_plane.specs.Bound.{IsWithin}
use Rattle.mvt_plane.specs.Position.{Position}
use Rattle.mvt_wire.specs.Numbers.{most_left}
use Rattle.mvt_confirm.proofs.rings.next_ring.Given as goal

-- whichever rings were left, the walk is between the vertices of the first of them; each vertex adds one edge to the area
abbrev pub invariant-vertices : goal.invariant-vertices
invariant-vertices l = record {
  amid : (rings : List (List Position)) → RingsLeft l.fn.vertices rings → IsAmidRing rings l.vertices l.first l.last l.is_over l.area;
  over : l.is_over ≡ (l.vertices.left == 0);
  few : l.vertices.left < 2 ^ 32;
  bound : IsWithin (2 ^ 61 * (2 ^ 32 - l.vertices.left)) l.area;
  fewer : most_left l.vertices.numbers < most_left l.fn.vertices.numbers;
}

abbrev pub decreases-vertices : goal.decreases-vertices
decreases-vertices l = l.vertices.left
