-- Edges of known answers that meet wrongly.
use Rattle.std.proofs.Common.{◌≡◌, ◌≢◌, rules, List, [], ◌∷◌, slice_get, Some, refl}
use Rattle.mvt_rules.specs.Meeting.{IsShared, MeetsWrongly}
use Rattle.mvt_fault.specs.declared.ring.RingEdge.{RingEdge}
use Rattle.mvt_plane.specs.Position.{Position}
use Rattle.mvt_plane.specs.Geometry.RationalPoint.{RationalPoint, LiesOn, IsAt}
use Rattle.mvt_plane.specs.Geometry.Ring.{edges}
use Rattle.mvt_plane.specs.declared.geometry.edge.Edge.{Edge}
use Rattle.mvt_plane.specs.Geometry.Examples.{fraction, square}
use Rattle.mvt_rules.specs.Laws.Examples.{ring_edge, crossed, spike, touched, pinched, touching_hole}

-- two edges of rings meet wrongly, by what that requires
meets : {rings : List (List Position)} {first second : RingEdge} {point : RationalPoint} {ring other_ring : List Position} {one other : Edge}
    → slice_get rings first.ring ≡ Some ring → slice_get (edges ring) first.edge ≡ Some one → slice_get rings second.ring ≡ Some other_ring → slice_get (edges other_ring) second.edge ≡ Some other
    → first ≢ second → LiesOn point one → LiesOn point other → ((vertex : Position) → IsShared rings first second vertex → ¬ IsAt point vertex) → MeetsWrongly rings first second point
meets {ring = ring} {other_ring = other_ring} {one = one} {other = other} there here other_there other_here different on_one on_other forbidden = record {
  different = different;
  one = one;
  one_there = record { ring = ring; there = there; here = here };
  other = other;
  other_there = record { ring = other_ring; there = other_there; here = other_here };
  on_one = on_one;
  on_other = on_other;
  forbidden = forbidden;
}

-- edges that cross
pub edges_cross : MeetsWrongly (crossed ∷ []) (ring_edge 0 0) (ring_edge 0 2) (fraction 800 800 180)
edges_cross = meets refl refl refl refl (search rules) (search rules) (search rules) (search rules)

-- neighbours, one of which goes back on the other
pub neighbours_overlap : MeetsWrongly (spike ∷ []) (ring_edge 0 0) (ring_edge 0 1) (fraction 5 0 1)
neighbours_overlap = meets refl refl refl refl (search rules) (search rules) (search rules) (search rules)

-- a vertex on an edge
pub vertex_on_edge : MeetsWrongly (touched ∷ []) (ring_edge 0 1) (ring_edge 0 3) (fraction 10 5 1)
vertex_on_edge = meets refl refl refl refl (search rules) (search rules) (search rules) (search rules)

-- the edge before, which ends there, is a neighbour, but they share another vertex
pub end_on_neighbour : MeetsWrongly (touched ∷ []) (ring_edge 0 1) (ring_edge 0 2) (fraction 10 5 1)
end_on_neighbour = meets refl refl refl refl (search rules) (search rules) (search rules) (search rules)

-- two vertices at one position
pub vertices_at_one_position : MeetsWrongly (pinched ∷ []) (ring_edge 0 1) (ring_edge 0 4) (fraction 5 5 1)
vertices_at_one_position = meets refl refl refl refl (search rules) (search rules) (search rules) (search rules)

-- a hole that touches its exterior
pub rings_touch : MeetsWrongly (square ∷ touching_hole ∷ []) (ring_edge 0 3) (ring_edge 1 0) (fraction 0 5 1)
rings_touch = meets refl refl refl refl (search rules) (search rules) (search rules) (search rules)

-- an edge that ends where another one begins, which isn't next to it
pub end_at_another_beginning : MeetsWrongly (pinched ∷ []) (ring_edge 0 1) (ring_edge 0 5) (fraction 5 5 1)
end_at_another_beginning = meets refl refl refl refl (search rules) (search rules) (search rules) (search rules)

-- one edge in two rings
pub one_ring_twice : MeetsWrongly (square ∷ square ∷ []) (ring_edge 0 0) (ring_edge 1 0) (fraction 5 0 1)
one_ring_twice = meets refl refl refl refl (search rules) (search rules) (search rules) (search rules)

-- vertices of two rings at one position
pub corners_of_two_rings : MeetsWrongly (square ∷ square ∷ []) (ring_edge 0 0) (ring_edge 1 1) (fraction 10 0 1)
corners_of_two_rings = meets refl refl refl refl (search rules) (search rules) (search rules) (search rules)
