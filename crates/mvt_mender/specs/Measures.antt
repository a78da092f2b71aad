-- What rings measure together (Mapbox Vector Tile Specification 2.1, section 4.3.4.4).
use Rattle.std.specs.Prelude.{◌≡◌, ℕ, ◌+◌, if◌then◌else◌, List, [], ◌∷◌, length, ℤ, pos, ◌+ℤ◌}
use Rattle.std.specs.Int.Signed.{lt_z}
use Rattle.mvt_plane.specs.Geometry.Ring.{doubled_area}
use Rattle.mvt_plane.specs.Position.{Position}
use Rattle.mvt_mender.specs.declared.measures.Measures.{Measures}

-- twice the area of all rings, where that of a hole is negative
abbrev pub doubled_areas : List (List Position) → ℤ
doubled_areas [] = pos 0
doubled_areas (ring ∷ rest) = doubled_area ring +ℤ doubled_areas rest

-- 1 for an exterior, whose area is positive, and 0 for a hole
abbrev pub exterior_in : List Position → ℕ
exterior_in ring = if lt_z (pos 0) (doubled_area ring) then 1 else 0

-- how many of the rings are exteriors
abbrev pub count_exteriors : List (List Position) → ℕ
count_exteriors [] = 0
count_exteriors (ring ∷ rest) = exterior_in ring + count_exteriors rest

-- how many vertices the rings have
abbrev pub count_vertices : List (List Position) → ℕ
count_vertices [] = 0
count_vertices (ring ∷ rest) = length ring + count_vertices rest

-- these are the measures of the rings
pub record AreMeasuresOf (rings : List (List Position)) (measures : Measures) : Type 0 where
  pub area : measures.doubled_area ≡ doubled_areas rings
  pub polygons : measures.polygons ≡ count_exteriors rings
  pub vertices : measures.vertices ≡ count_vertices rings
