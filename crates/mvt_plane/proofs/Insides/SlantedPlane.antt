-- The plane slanted so that the keys of positions are columns: a position goes to its key and its negated y. Points
-- stay on their edges, and edges that have nothing in common have nothing in common there either.
use Rattle.std.proofs.Common.{◌≡◌, ◌^◌, ℕ, List, [], ◌∷◌, map, slice_get, Option, Some, None, option_map, pos, neg_ℤ, ◌+ℤ◌, ◌*ℤ◌, refl, sym, ◌∙◌, ap, subst, arith}
use Rattle.std.proofs.lemmas.Option.{slice_get-map}
use borrow.Author.Differences.{product_is}
use Rattle.mvt_plane.specs.Geometry.Apart.{IsClearOf}
use Rattle.mvt_plane.specs.Geometry.Measure.{key_of}
use Rattle.mvt_plane.specs.Position.{Position}
use Rattle.mvt_plane.specs.Geometry.RationalPoint.{RationalPoint, LiesOn}
use Rattle.mvt_plane.specs.Geometry.Ring.{edges_through, edges}
use Rattle.mvt_plane.specs.declared.geometry.edge.Edge.{Edge}
use Rattle.mvt_plane.proofs.Orders.Order.{zs}
use Rattle.mvt_plane.proofs.Orders.Polynomials.{constant, negated, once, ◌⊕◌, ◌⊗◌, consequence, given}
use Rattle.mvt_plane.proofs.Points.PointWeights.{Weights, weights_of, lies_by_weights}

-- where a position goes
abbrev pub slant : Position → Position
slant p = record { x = key_of p; y = neg_ℤ p.y }

-- where an edge goes
abbrev pub slant_edge : Edge → Edge
slant_edge edge = record { a = slant edge.a; b = slant edge.b }

-- the rational point that goes to this one
abbrev pub unslant : RationalPoint → RationalPoint
unslant point = record { x = point.x +ℤ point.y; y = neg_ℤ (point.y *ℤ pos (2 ^ 32)); w = point.w *ℤ pos (2 ^ 32) }

-- ---- points on edges

-- so does a point of a slanted edge, on the way back
weights_unslanted : (point : RationalPoint) (edge : Edge) → Weights point (slant_edge edge) → Weights (unslant point) edge
weights_unslanted point edge weights =
    let k = constant (pos (2 ^ 32)) in
    let all = weights.of_a ∷ weights.of_b ∷ edge.a.x ∷ edge.a.y ∷ edge.b.x ∷ edge.b.y ∷ point.x ∷ point.y ∷ point.w ∷ [] in
    record {
      of_a = weights.of_a;
      of_b = weights.of_b;
      a_sign = weights.a_sign;
      b_sign = weights.b_sign;
      some = weights.some;
      x = consequence all (λ M N AX AY BX BY X Y W. (
        (M ⊕ N) ⊗ (X ⊕ Y),
        (M ⊗ AX ⊕ N ⊗ BX) ⊗ (W ⊗ k),
        given once ((M ⊕ N) ⊗ X) ((M ⊗ (AX ⊗ k ⊕ AY) ⊕ N ⊗ (BX ⊗ k ⊕ BY)) ⊗ W) ∷ given once ((M ⊕ N) ⊗ Y) ((M ⊗ negated AY ⊕ N ⊗ negated BY) ⊗ W) ∷ [],
      ))
          (weights.x, (weights.y, tt)) tt;
      y = consequence all (λ M N AX AY BX BY X Y W. (
        (M ⊕ N) ⊗ negated (Y ⊗ k),
        (M ⊗ AY ⊕ N ⊗ BY) ⊗ (W ⊗ k),
        given (negated k) ((M ⊕ N) ⊗ Y) ((M ⊗ negated AY ⊕ N ⊗ negated BY) ⊗ W) ∷ [],
      )) (weights.y, tt) tt;
    }

-- a point of a slanted edge comes from a point of the edge
pub lies_unslanted : (point : RationalPoint) (edge : Edge) → LiesOn point (slant_edge edge) → LiesOn (unslant point) edge
lies_unslanted point edge lies =
    let positive = lies.positive in
    let scaled = product_is point.w (pos (2 ^ 32)) in
    lies_by_weights (unslant point) edge (omega (arith, zs)) (weights_unslanted point edge (weights_of point (slant_edge edge) lies))

-- ---- edges of rings

-- through further vertices
through_slanted : (first from : Position) (rest : List Position)
    → edges_through (slant first) (slant from) (map slant rest) ≡ map slant_edge (edges_through first from rest)
through_slanted first from [] = refl
through_slanted first from (to ∷ rest) = ap (λ (more : List Edge). record { a = slant from; b = slant to } ∷ more) (through_slanted first to rest)

-- the edges of a slanted ring are the ring's slanted edges
pub edges_slanted : (ring : List Position) → edges (map slant ring) ≡ map slant_edge (edges ring)
edges_slanted [] = refl
edges_slanted (first ∷ rest) = through_slanted first first rest

-- what a map gives comes from something
came_from : (found : Option Edge) (other : Edge) → option_map slant_edge found ≡ Some other → (edge : Edge) × (found ≡ Some edge) × (slant_edge edge ≡ other)
came_from None other same = absurd (cc)
came_from (Some edge) other same = (edge, refl, cc)

-- an edge of a slanted ring comes from an edge of the ring
edge_came_from : (ring : List Position) (number : ℕ) (other : Edge) → slice_get (edges (map slant ring)) number ≡ Some other
    → (edge : Edge) × (slice_get (edges ring) number ≡ Some edge) × (slant_edge edge ≡ other)
edge_came_from ring number other there =
    came_from (slice_get (edges ring) number) other
    (sym (slice_get-map slant_edge (edges ring) number) ∙ ap (λ (all : List Edge). slice_get all number) (sym (edges_slanted ring)) ∙ there)

-- an edge that has nothing in common with a ring has nothing in common with it in the slanted plane
pub clear_slanted : (edge : Edge) (ring : List Position) → IsClearOf edge ring → IsClearOf (slant_edge edge) (map slant ring)
clear_slanted edge ring clear number other point there on_edge on_other =
    let from = edge_came_from ring number other there in
    let on_its = subst (λ (it : Edge). LiesOn point it) (sym from.2) on_other in
    clear number from.0 (unslant point) from.1 (lies_unslanted point edge on_edge) (lies_unslanted point from.0 on_its)
