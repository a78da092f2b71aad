-- What a profile asks of the rings of polygons.
use Rattle.std.specs.Prelude.{ℕ, ◌<◌, List}
use Rattle.mvt_fault.specs.declared.profile.Profile.{Profile}
use Rattle.mvt_fault.specs.declared.profile.Profile.TheVariants.{Polygon, Feature}
use Rattle.mvt_rules.specs.Nesting.{IsInPolygon}
use Rattle.mvt_rules.specs.Polygon.{PolygonRings, IsRingOf}
use Rattle.mvt_plane.specs.Position.{Position}

-- The ring is kept apart from those of the polygon: it is one of them or, in a feature, of any polygon up to it. A pair of
-- edges belongs to the polygon of its second ring, so that in a feature each pair is reported once.
abbrev pub IsKeptApart : Profile → PolygonRings → ℕ → Type 0
IsKeptApart Polygon polygon_rings ring = IsRingOf polygon_rings ring
IsKeptApart Feature polygon_rings ring = ring < polygon_rings.after

-- the vertex of the polygon's exterior is inside the other polygon, which is wrong in a feature alone
abbrev pub IsInPolygonBy : Profile → List (List Position) → PolygonRings → PolygonRings → ℕ → Type 0
IsInPolygonBy Polygon rings polygon_rings other_rings vertex = ⊥
IsInPolygonBy Feature rings polygon_rings other_rings vertex = IsInPolygon rings polygon_rings other_rings vertex
