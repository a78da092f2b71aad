-- Which fault is returned where holes aren't where they should be (Mapbox Vector Tile Specification 2.1, section
-- 4.3.4.4).
use Rattle.std.specs.Prelude.{ℕ, List, [], ◌∷◌, length, ◌≡◌}
use Rattle.mvt_fault.specs.Place.{ComesFirst}
use Rattle.mvt_rules.specs.Nesting.{IsOutside, IsInHole}
use Rattle.mvt_rules.specs.Polygon.{PolygonRings}
use Rattle.mvt_plane.specs.Position.{Position}
use Rattle.mvt_polygon.specs.declared.nesting.NestFault.{NestFault}
use Rattle.mvt_polygon.specs.declared.nesting.NestFault.TheVariants.{Outside, InHole}

-- all these rings are one polygon: the first is its exterior
abbrev pub one_polygon : List (List Position) → PolygonRings
one_polygon rings = record { exterior = 0; after = length rings }

-- the polygon of these rings has this fault
pub data IsNestFault (rings : List (List Position)) : NestFault → Type 0 where
  outside : (ring vertex : ℕ) → IsOutside rings (one_polygon rings) ring vertex → IsNestFault rings (Outside ring vertex)
  in_hole : (ring vertex other : ℕ) → IsInHole rings (one_polygon rings) ring vertex other → IsNestFault rings (InHole ring vertex other)

-- the numbers by which they are ordered: ring, vertex, code, and the other hole
abbrev pub nest_place : NestFault → List ℕ
nest_place (Outside ring vertex) = ring ∷ vertex ∷ 505 ∷ 0 ∷ []
nest_place (InHole ring vertex other) = ring ∷ vertex ∷ 506 ∷ other ∷ []

-- the first of all faults of the polygon
pub record IsFirstNestFault (rings : List (List Position)) (fault : NestFault) : Type 0 where
  pub holds : IsNestFault rings fault
  pub first : (other : NestFault) → IsNestFault rings other → ComesFirst (nest_place fault) (nest_place other)

-- the fault is one of this vertex of a hole
abbrev pub IsOfVertex : ℕ → ℕ → NestFault → Type 0
IsOfVertex hole number (Outside ring vertex) = (ring ≡ hole) × (vertex ≡ number)
IsOfVertex hole number (InHole ring vertex other) = (ring ≡ hole) × (vertex ≡ number)

-- the first of the polygon's faults of a kind
pub record IsFirstOf (rings : List (List Position)) (Is : NestFault → Type 0) (fault : NestFault) : Type 0 where
  pub is : Is fault
  pub holds : IsNestFault rings fault
  pub first : (other : NestFault) → Is other → IsNestFault rings other → ComesFirst (nest_place fault) (nest_place other)
