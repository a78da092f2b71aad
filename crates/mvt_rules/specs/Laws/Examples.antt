-- Rings with known answers, on which the definitions are tried (`laws::examples`).
use Rattle.std.specs.Prelude.{ℕ, List, [], ◌∷◌}
use Rattle.mvt_fault.specs.declared.ring.RingEdge.{RingEdge}
use Rattle.mvt_rules.specs.Polygon.{PolygonRings}
use Rattle.mvt_plane.specs.Position.{Position}
use Rattle.mvt_plane.specs.Geometry.Examples.{at, square, frame, hole_of_frame}

-- the edge of a ring
abbrev pub ring_edge : ℕ → ℕ → RingEdge
ring_edge ring edge = record { ring = ring; edge = edge }

-- the rings of a polygon
abbrev pub rings_from : ℕ → ℕ → PolygonRings
rings_from exterior after = record { exterior = exterior; after = after }

abbrev pub two_polygons : List (List Position)
two_polygons = square ∷ frame ∷ hole_of_frame ∷ []

-- its edges 0 and 2 cross
abbrev pub crossed : List Position
crossed = at 0 8 ∷ at 10 0 ∷ at 10 10 ∷ at 0 0 ∷ []

-- it goes back on its first edge
abbrev pub spike : List Position
spike = at 0 0 ∷ at 10 0 ∷ at 5 0 ∷ []

-- its last vertex is on its edge 1
abbrev pub touched : List Position
touched = at 0 0 ∷ at 10 0 ∷ at 10 10 ∷ at 10 5 ∷ []

-- its vertices 2 and 5 are at one position
abbrev pub pinched : List Position
pinched = at 0 0 ∷ at 10 0 ∷ at 5 5 ∷ at 10 10 ∷ at 0 10 ∷ at 5 5 ∷ []

-- a hole whose first vertex is on the left edge of the square
abbrev pub touching_hole : List Position
touching_hole = at 0 5 ∷ at 3 7 ∷ at 3 3 ∷ []

-- a hole beside the square
abbrev pub hole_beside : List Position
hole_beside = at 20 0 ∷ at 20 10 ∷ at 30 10 ∷ at 30 0 ∷ []

-- a polygon of which one hole is inside another
abbrev pub hole_in_hole : List (List Position)
hole_in_hole =
    (at 0 0 ∷ at 100 0 ∷ at 100 100 ∷ at 0 100 ∷ [])
    ∷ (at 10 10 ∷ at 10 90 ∷ at 90 90 ∷ at 90 10 ∷ [])
    ∷ (at 20 20 ∷ at 20 30 ∷ at 30 30 ∷ at 30 20 ∷ []) ∷ []

-- a polygon with a hole, and in that another polygon
abbrev pub island_in_hole : List (List Position)
island_in_hole =
    (at 0 0 ∷ at 100 0 ∷ at 100 100 ∷ at 0 100 ∷ [])
    ∷ (at 10 10 ∷ at 10 90 ∷ at 90 90 ∷ at 90 10 ∷ [])
    ∷ (at 20 20 ∷ at 30 20 ∷ at 30 30 ∷ at 20 30 ∷ []) ∷ []

-- a triangle whose last vertex is where its first one is
abbrev pub closed_twice : List Position
closed_twice = at 0 0 ∷ at 10 0 ∷ at 10 10 ∷ at 0 0 ∷ []

-- positions on one line
abbrev pub flat : List Position
flat = at 0 0 ∷ at 5 5 ∷ at 10 10 ∷ []

-- a square that is inside the frame
abbrev pub stone : List Position
stone = at 13 13 ∷ at 17 13 ∷ at 17 17 ∷ at 13 17 ∷ []

-- an island in a hole in the ground
abbrev pub ground : List Position
ground = at 0 0 ∷ at 100 0 ∷ at 100 100 ∷ at 0 100 ∷ []

abbrev pub hole : List Position
hole = at 10 10 ∷ at 10 90 ∷ at 90 90 ∷ at 90 10 ∷ []

abbrev pub island : List Position
island = at 20 20 ∷ at 30 20 ∷ at 30 30 ∷ at 20 30 ∷ []
