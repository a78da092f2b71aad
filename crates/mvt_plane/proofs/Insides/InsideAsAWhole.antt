-- What has nothing in common with a ring is inside it as a whole, or not at all: so one vertex decides where another
-- ring is.
use Rattle.std.proofs.Common.{◌≡◌, ◌⊎◌, inl, inr, ◌↔◌, ℕ, zero, suc, IsTrue, List, [], ◌∷◌, slice_get, Some, pos, ◌*ℤ◌, ◌≤ℤ◌, ◌<ℤ◌, refl, sym, subst, arith}
use Rattle.std.proofs.lemmas.Option.{same_Some}
use Rattle.mvt_plane.specs.Geometry.Apart.{IsClearOf, HaveNothingInCommon}
use Rattle.mvt_plane.specs.Geometry.Inside.{PassesOver, IsInside, PassesOverPoint, IsPointInside}
use Rattle.mvt_plane.specs.Position.{Position}
use Rattle.mvt_plane.specs.Geometry.RationalPoint.{RationalPoint, LiesOn, whole}
use Rattle.mvt_plane.specs.Geometry.Ring.{edges, edges_through}
use Rattle.mvt_plane.specs.declared.geometry.edge.Edge.{Edge}
use Rattle.mvt_plane.proofs.Orders.ClearEdges.{IsSpan, is_over, is_marked, balances}
use Rattle.mvt_plane.proofs.Insides.EdgeParity.{odd, odd_decides, odd_together, same_by_marks, test_decides}
use Rattle.mvt_plane.proofs.Orders.Order.{zs, le_or_lt}
use Rattle.mvt_plane.proofs.Insides.PointsUnder.{passes_decide, passes_over_whole}
use Rattle.mvt_plane.proofs.Points.RationalPoints.{begin_lies_on, end_lies_on}

-- ---- the points of an edge

-- in the order of their x an odd number of edges pass over both or over neither
parity_along : (edge : Edge) (ring : List Position) → IsClearOf edge ring → (p q : RationalPoint) (span : IsSpan edge p q)
    → odd (is_over p span.first.positive) (edges ring) ≡ odd (is_over q span.second.positive) (edges ring)
parity_along edge ring clear p q span =
    same_by_marks (is_over p span.first.positive) (is_over q span.second.positive) (is_marked p q) ring
    (λ number other there. balances edge p q span.first.positive span.second.positive span other (λ point on_edge. clear number other point there on_edge))

-- the parity says whether the point is inside
parity_decides : (p : RationalPoint) (p_on : pos 1 ≤ℤ p.w) (ring : List Position) → IsTrue (odd (is_over p p_on) (edges ring)) ↔ IsPointInside p ring
parity_decides p p_on ring = odd_decides (PassesOverPoint p) (is_over p p_on) (λ edge. test_decides (passes_decide p p_on edge)) (edges ring)

-- all rational points of an edge that has none in common with a ring are inside that, or none is
pub points_together : (edge : Edge) (ring : List Position) → IsClearOf edge ring → (point other : RationalPoint) → LiesOn point edge → LiesOn other edge
    → IsPointInside point ring → IsPointInside other ring
points_together edge ring clear point other on_edge other_on inside = by_order (le_or_lt (point.x *ℤ other.w) (other.x *ℤ point.w))
  where
    follows : odd (is_over point on_edge.positive) (edges ring) ≡ odd (is_over other other_on.positive) (edges ring) → IsPointInside other ring
    follows same = (parity_decides other other_on.positive ring).0 (subst IsTrue same ((parity_decides point on_edge.positive ring).1 inside))

    by_order : ((point.x *ℤ other.w) ≤ℤ (other.x *ℤ point.w)) ⊎ ((other.x *ℤ point.w) <ℤ (point.x *ℤ other.w)) → IsPointInside other ring
    by_order (inl order) = follows (parity_along edge ring clear point other (record { first = on_edge; second = other_on; order = order }))
    by_order (inr back) = follows (sym (parity_along edge ring clear other point (record { first = other_on; second = on_edge; order = omega (arith, zs) })))

-- ---- positions

-- a position is inside a ring where it is so as a rational point
pub whole_inside : (position : Position) (ring : List Position) → IsPointInside (whole position) ring ↔ IsInside position ring
whole_inside position ring = (
  odd_together (PassesOverPoint (whole position)) (PassesOver position) (passes_over_whole position) (edges ring),
  odd_together (PassesOver position) (PassesOverPoint (whole position)) (λ edge. ((passes_over_whole position edge).1, (passes_over_whole position edge).0)) (edges ring),
)

-- both ends of an edge that has no point in common with a ring are inside that, or none is
ends_together : (edge : Edge) (ring : List Position) → IsClearOf edge ring → IsInside edge.a ring ↔ IsInside edge.b ring
ends_together edge ring clear = (
  λ inside. (whole_inside edge.b ring).0 (there ((whole_inside edge.a ring).1 inside)),
  λ inside. (whole_inside edge.a ring).0 (back ((whole_inside edge.b ring).1 inside)),
)
  where
    there : IsPointInside (whole edge.a) ring → IsPointInside (whole edge.b) ring
    there = points_together edge ring clear (whole edge.a) (whole edge.b) (begin_lies_on edge) (end_lies_on edge)

    back : IsPointInside (whole edge.b) ring → IsPointInside (whole edge.a) ring
    back = points_together edge ring clear (whole edge.b) (whole edge.a) (end_lies_on edge) (begin_lies_on edge)

-- ---- the vertices of a ring

-- from a vertex on, all are inside or none
vertices_through : (other : List Position) (first from : Position) (rest : List Position)
    → ((number : ℕ) (edge : Edge) → slice_get (edges_through first from rest) number ≡ Some edge → IsClearOf edge other)
    → (vertex : ℕ) (position : Position) → slice_get (from ∷ rest) vertex ≡ Some position → IsInside from other ↔ IsInside position other
vertices_through other first from rest clear zero position here =
    let same : from ≡ position = same_Some from position here in
    (subst (λ (it : Position). IsInside it other) same, subst (λ (it : Position). IsInside it other) (sym same))
vertices_through other first from [] clear (suc vertex) position here = absurd (cc)
vertices_through other first from (to ∷ rest) clear (suc vertex) position here =
    let edge : Edge = record { a = from; b = to } in
    let step = ends_together edge other (clear 0 edge refl) in
    let further = vertices_through other first to rest (λ number another there. clear (suc number) another there) vertex position here in
    (λ inside. further.0 (step.0 inside), λ inside. step.1 (further.1 inside))

-- all vertices of a ring that has nothing in common with another one are inside that, or none is
pub one_vertex_decides : (ring other : List Position) → HaveNothingInCommon ring other → (vertex another : ℕ) (one two : Position)
    → slice_get ring vertex ≡ Some one → slice_get ring another ≡ Some two → IsInside one other → IsInside two other
one_vertex_decides [] other apart vertex another one two here there inside = absurd (cc)
one_vertex_decides (first ∷ rest) other apart vertex another one two here there inside =
    let clear : (number : ℕ) (edge : Edge) → slice_get (edges (first ∷ rest)) number ≡ Some edge → IsClearOf edge other =
    λ number edge its another two point its_too. apart number another edge two point its its_too in
    (vertices_through other first first rest clear another two there).0 ((vertices_through other first first rest clear vertex one here).1 inside)
