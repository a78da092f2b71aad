-- Edges by their numbers: which edge a number has.
use Rattle.std.proofs.Common.{◌≡◌, ◌≢◌, ◌<◌, ℕ, inl, inr, List, length, get_or, slice_get, Some, refl, sym, ◌∙◌, ap, ap₂, subst, arith}
use Rattle.std.proofs.lemmas.Option.{same_Some, slice_get_within, slice_get-get_or, slice_get_read}
use Rattle.mvt_rules.specs.Meeting.{ComesBefore, IsEdgeOf}
use Rattle.mvt_fault.specs.declared.ring.RingEdge.{RingEdge}
use Rattle.mvt_plane.specs.Position.{Position}
use Rattle.mvt_plane.specs.Geometry.Ring.{edges, next_round}
use Rattle.mvt_plane.specs.declared.geometry.edge.Edge.{Edge}
use Rattle.mvt_plane.proofs.Rings.RingEdges.{count_of_edges, ends_of_edge}

-- an edge doesn't come before itself
pub before_apart : (first second : RingEdge) → ComesBefore first second → first ≢ second
before_apart first second (inl ring) same = let rings = ap (λ (it : RingEdge). it.ring) same in omega arith
before_apart first second (inr edge) same = let edges = ap (λ (it : RingEdge). it.edge) same in omega arith

-- an edge's own number is below that of the ring's vertices
pub within_ring : (rings : List (List Position)) (number : RingEdge) (it : Edge) (ring : List Position) → IsEdgeOf rings number it → slice_get rings number.ring ≡ Some ring → number.edge < length ring
within_ring rings number it ring is there =
    let same : is.ring ≡ ring = cc in
    let moved : slice_get (edges ring) number.edge ≡ Some it = subst (λ (its : List Position). slice_get (edges its) number.edge ≡ Some it) same is.here in
    subst (λ (count : ℕ). number.edge < count) (count_of_edges ring) (slice_get_within (edges ring) number.edge it moved)

-- the edge between the vertices of a number and the next one
pub edge_read : (ring : List Position) (number next : ℕ) (a b : Position) → number < length ring → next ≡ next_round (length ring) number → next < length ring
    → a ≡ get_or ring number a → b ≡ get_or ring next b → slice_get (edges ring) number ≡ Some (record { a = a; b = b })
edge_read ring number next a b within next_is next_within a_is b_is =
    let some : number < length (edges ring) = subst (λ (count : ℕ). number < count) (sym (count_of_edges ring)) within in
    let found : Edge = get_or (edges ring) number (record { a = a; b = b }) in
    let here : slice_get (edges ring) number ≡ Some found = slice_get-get_or (edges ring) number (record { a = a; b = b }) some in
    let ends = ends_of_edge ring number found here in
    let at_a : slice_get ring number ≡ Some a = slice_get_read ring (length ring) number a refl within a_is in
    let at_b : slice_get ring next ≡ Some b = slice_get_read ring (length ring) next b refl next_within b_is in
    let same_a : found.a ≡ a = same_Some found.a a (sym ends.0 ∙ at_a) in
    let same_b : found.b ≡ b = same_Some found.b b (sym ends.1 ∙ ap (slice_get ring) (sym next_is) ∙ at_b) in
    here ∙ ap₂ (λ (from to : Position). Some (record { a = from; b = to })) same_a same_b
