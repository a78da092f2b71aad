use Rattle.std.proofs.Common.{◌≡◌, ◌*◌, ◌^◌, drop, ◌+ℤ◌}
use Rattle.mvt_plane.specs.Bound.{IsWithin}
use Rattle.mvt_plane.specs.Geometry.Ring.{edges_through, area_of_edges, doubled_area}
use Rattle.mvt_plane.proofs.geometry.measure.twice_area.Given as goal

-- the area so far, and that of the edges still to come
abbrev pub invariant-loop-i : goal.invariant-loop-i
invariant-loop-i l = record {
  whole : l.area +ℤ area_of_edges (edges_through l.first l.from (drop l.i l.ring)) ≡ doubled_area l.ring;
  bound : IsWithin (2 ^ 61 * l.i) l.area;
}
