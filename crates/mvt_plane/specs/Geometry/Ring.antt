-- Rings, their edges and their area (Mapbox Vector Tile Specification 2.1, section 4.3.4.4).
use Rattle.std.specs.Prelude.{ℕ, suc, ◌==◌, cond, List, [], ◌∷◌, ℤ, pos, ◌+ℤ◌, ◌-ℤ◌, ◌*ℤ◌}
use Rattle.mvt_plane.specs.Position.{Position}
use Rattle.mvt_plane.specs.declared.geometry.edge.Edge.{Edge}

-- Edges

-- from a vertex through further ones, and back to the first
abbrev pub edges_through : Position → Position → List Position → List Edge
edges_through first from [] = record { a = from; b = first } ∷ []
edges_through first from (to ∷ rest) = record { a = from; b = to } ∷ edges_through first to rest

-- the edges of a ring: each goes from the vertex of its own number to the next one, the last to the first vertex
abbrev pub edges : List Position → List Edge
edges [] = []
edges (first ∷ rest) = edges_through first first rest

-- the number after this one, going round: after the last one comes 0
abbrev pub next_round : ℕ → ℕ → ℕ
next_round count number = cond (suc number == count) 0 (suc number)

-- Area

-- the part of an edge in the doubled area
abbrev pub edge_area : Edge → ℤ
edge_area edge = edge.a.x *ℤ edge.b.y -ℤ edge.b.x *ℤ edge.a.y

-- the sum over edges
abbrev pub area_of_edges : List Edge → ℤ
area_of_edges [] = pos 0
area_of_edges (edge ∷ rest) = edge_area edge +ℤ area_of_edges rest

-- twice the area that the ring goes round, by the surveyor's formula: positive for an exterior, negative for a hole
abbrev pub doubled_area : List Position → ℤ
doubled_area ring = area_of_edges (edges ring)
