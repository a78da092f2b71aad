-- The edges of a ring by their numbers.
use Rattle.std.proofs.Common.{◌≡◌, ◌≢◌, ℕ, zero, suc, ◌⊎◌, inl, inr, ◌==◌, List, [], ◌∷◌, length, slice_get, Some, refl, sym, ◌∙◌, ap, arith}
use Rattle.std.proofs.lemmas.Bool.{eq-eqb, ne_eqb, cond-true, cond-false}
use Rattle.mvt_plane.specs.Position.{Position}
use Rattle.mvt_plane.specs.Geometry.Ring.{edges_through, edges, next_round}
use Rattle.mvt_plane.specs.declared.geometry.edge.Edge.{Edge}

-- Numbers

-- an edge for each vertex
count_through : (first from : Position) (rest : List Position) → length (edges_through first from rest) ≡ suc (length rest)
count_through first from [] = refl
count_through first from (to ∷ rest) = ap suc (count_through first to rest)

-- the same of a ring, which may have none
pub count_of_edges : (ring : List Position) → length (edges ring) ≡ length ring
count_of_edges [] = refl
count_of_edges (first ∷ rest) = count_through first first rest

-- going round, after the last number
pub round_last : (count number : ℕ) → suc number ≡ count → next_round count number ≡ 0
round_last count number last = cond-true (suc number == count) 0 (suc number) (eq-eqb (suc number) count last)

-- after another
pub round_next : (count number : ℕ) → suc number ≢ count → next_round count number ≡ suc number
round_next count number other = cond-false (suc number == count) 0 (suc number) (ne_eqb (suc number) count other)

-- The ends of an edge

-- the edge of this number ends at the next vertex, or closes the ring
abbrev EndsThrough : Position → List Position → ℕ → Edge → Type 0
EndsThrough first rest number edge = ((number ≡ length rest) × (edge.b ≡ first)) ⊎ ((number ≢ length rest) × (slice_get rest number ≡ Some edge.b))

-- a step further
further : (first to : Position) (rest : List Position) (number : ℕ) (edge : Edge) → EndsThrough first rest number edge → EndsThrough first (to ∷ rest) (suc number) edge
further first to rest number edge (inl last) = inl (ap suc last.0, last.1)
further first to rest number edge (inr other) = inr (λ same. other.0 (omega arith), other.1)

-- each edge goes from the vertex of its number
ends_through : (first from : Position) (rest : List Position) (number : ℕ) (edge : Edge) → slice_get (edges_through first from rest) number ≡ Some edge → (slice_get (from ∷ rest) number ≡ Some edge.a) × EndsThrough first rest number edge
ends_through first from [] zero edge here = (cc, inl (refl, cc))
ends_through first from [] (suc number) edge here = absurd (cc)
ends_through first from (to ∷ rest) zero edge here = (cc, inr (λ none. omega arith, cc))
ends_through first from (to ∷ rest) (suc number) edge here =
    let following = ends_through first to rest number edge here in
    (following.0, further first to rest number edge following.1)

-- so the vertex at its end is the next one, going round
end_in_ring : (first : Position) (rest : List Position) (number : ℕ) (edge : Edge) → EndsThrough first rest number edge → slice_get (first ∷ rest) (next_round (suc (length rest)) number) ≡ Some edge.b
end_in_ring first rest number edge (inl last) =
    ap (slice_get (first ∷ rest)) (round_last (suc (length rest)) number (ap suc last.0)) ∙ ap Some (sym last.1)
end_in_ring first rest number edge (inr other) =
    ap (slice_get (first ∷ rest)) (round_next (suc (length rest)) number (λ same. other.0 (omega arith))) ∙ other.1

-- each edge goes from the vertex of its number to the next one, going round
pub ends_of_edge : (ring : List Position) (number : ℕ) (edge : Edge) → slice_get (edges ring) number ≡ Some edge → (slice_get ring number ≡ Some edge.a) × (slice_get ring (next_round (length ring) number) ≡ Some edge.b)
ends_of_edge [] number edge here = absurd (cc)
ends_of_edge (first ∷ rest) number edge here =
    let ends = ends_through first first rest number edge here in
    (ends.0, end_in_ring first rest number edge ends.1)
