-- Rings with known answers, on which the definitions of geometry are tried (`laws::examples`).
use Rattle.std.specs.Prelude.{ℕ, List, [], ◌∷◌, pos}
use Rattle.mvt_plane.specs.Position.{Position}
use Rattle.mvt_plane.specs.Geometry.RationalPoint.{RationalPoint}

-- a position
abbrev pub at : ℕ → ℕ → Position
at x y = record { x = pos x; y = pos y }

-- a rational point
abbrev pub fraction : ℕ → ℕ → ℕ → RationalPoint
fraction x y w = record { x = pos x; y = pos y; w = pos w }

-- the polygon of the standard's example (section 4.3.5.5)
abbrev pub triangle : List Position
triangle = at 3 6 ∷ at 8 12 ∷ at 20 34 ∷ []

-- the two polygons of the standard's next example, the second one with a hole (section 4.3.5.6)
abbrev pub square : List Position
square = at 0 0 ∷ at 10 0 ∷ at 10 10 ∷ at 0 10 ∷ []

abbrev pub frame : List Position
frame = at 11 11 ∷ at 20 11 ∷ at 20 20 ∷ at 11 20 ∷ []

abbrev pub hole_of_frame : List Position
hole_of_frame = at 13 13 ∷ at 13 17 ∷ at 17 17 ∷ at 17 13 ∷ []
