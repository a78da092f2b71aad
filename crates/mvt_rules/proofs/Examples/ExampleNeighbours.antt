-- Neighbours that meet at their shared vertex alone.
use Rattle.std.proofs.Common.{◌≡◌, List, [], ◌∷◌, slice_get, Some, pos, ◌-ℤ◌, ◌*ℤ◌, refl, subst, arith}
use Rattle.std.proofs.lemmas.Int.{ints}
use Rattle.mvt_plane.specs.Position.{Position}
use Rattle.mvt_plane.specs.Geometry.RationalPoint.{RationalPoint, LiesOn, IsAt}
use Rattle.mvt_plane.specs.Geometry.Ring.{edges}
use Rattle.mvt_rules.specs.Meeting.{IsEdgeOf, backward, MeetsWrongly}
use Rattle.mvt_fault.specs.declared.ring.RingEdge.{RingEdge}
use Rattle.mvt_plane.specs.declared.geometry.edge.Edge.{Edge}
use Rattle.mvt_plane.specs.Geometry.Examples.{at, triangle}
use Rattle.mvt_rules.specs.Laws.Examples.{ring_edge}

-- an edge has one number
pub same_edge : (rings : List (List Position)) (number : RingEdge) (ring : List Position) (it other : Edge) → slice_get rings number.ring ≡ Some ring → slice_get (edges ring) number.edge ≡ Some it → IsEdgeOf rings number other → other ≡ it
same_edge rings number ring it other there here is_other =
    let same : is_other.ring ≡ ring = cc in
    let moved : slice_get (edges ring) number.edge ≡ Some other = subst (λ (r : List Position). slice_get (edges r) number.edge ≡ Some other) same is_other.here in
    cc

-- the triangle's edge from its first vertex
abbrev pub from_first : Edge
from_first = record { a = at 3 6; b = at 8 12 }

-- the one that ends there
abbrev pub to_first : Edge
to_first = record { a = at 20 34; b = at 3 6 }

-- they have only that vertex in common
at_first : (point : RationalPoint) → LiesOn point from_first → LiesOn point to_first → IsAt point (at 3 6)
at_first point on_from on_to =
    let from : (pos 8 -ℤ pos 3) *ℤ (point.y -ℤ pos 6 *ℤ point.w) ≡ (pos 12 -ℤ pos 6) *ℤ (point.x -ℤ pos 3 *ℤ point.w) = on_from.on_line in
    let to : (pos 3 -ℤ pos 20) *ℤ (point.y -ℤ pos 34 *ℤ point.w) ≡ (pos 6 -ℤ pos 34) *ℤ (point.x -ℤ pos 20 *ℤ point.w) = on_to.on_line in
    record { x = omega (arith, ints); y = omega (arith, ints) }

-- so they don't meet wrongly
pub neighbours_round : (point : RationalPoint) → ¬ MeetsWrongly (triangle ∷ []) (ring_edge 0 0) (ring_edge 0 2) point
neighbours_round point meets =
    let one : meets.one ≡ from_first = same_edge (triangle ∷ []) (ring_edge 0 0) triangle from_first meets.one refl refl meets.one_there in
    let other : meets.other ≡ to_first = same_edge (triangle ∷ []) (ring_edge 0 2) triangle to_first meets.other refl refl meets.other_there in
    meets.forbidden (at 3 6) (backward (record { ring = triangle; there = refl; same = refl; next = refl; between = refl }))
    (at_first point (subst (LiesOn point) one meets.on_one) (subst (LiesOn point) other meets.on_other))
