-- The area of a ring, summed edge by edge.
use Rattle.std.proofs.Common.{◌≡◌, ℕ, suc, ◌+◌, ◌<◌, List, ◌∷◌, length, get_or, drop, drop-cons, add-one, ◌+ℤ◌, sym, ap, ◌∙◌}
use Rattle.mvt_plane.specs.Position.{Position}
use Rattle.mvt_plane.specs.Geometry.Ring.{edges_through, edge_area, area_of_edges}

-- the edges from a vertex on are the one to the next vertex, and those from there on
pub area_through : (first from to : Position) (ring : List Position) (i : ℕ) → i < length ring → to ≡ get_or ring i to → area_of_edges (edges_through first from (drop i ring)) ≡ edge_area (record { a = from; b = to }) +ℤ area_of_edges (edges_through first to (drop (i + 1) ring))
area_through first from to ring i h there =
    let next : drop i ring ≡ to ∷ drop (i + 1) ring = rw add-one (drop-cons ring i to h ∙ ap (λ (it : Position). it ∷ drop (suc i) ring) (sym there)) in
    ap (λ (rest : List Position). area_of_edges (edges_through first from rest)) next
