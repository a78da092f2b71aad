-- A part of a feature's rings, as it is handed on alone: its rings are numbered from 0 again.
use Rattle.std.specs.Prelude.{ℕ, ◌+◌, ◌-◌, List, slice_range}
use Rattle.mvt_rules.specs.Meeting.{MeetsWrongly}
use Rattle.mvt_fault.specs.declared.ring.RingEdge.{RingEdge}
use Rattle.mvt_rules.specs.Polygon.{PolygonRings}
use Rattle.mvt_plane.specs.Position.{Position}
use Rattle.mvt_plane.specs.Geometry.RationalPoint.{RationalPoint}

-- the rings of a polygon
abbrev pub part_of : List (List Position) → PolygonRings → List (List Position)
part_of rings polygon_rings = slice_range rings polygon_rings.exterior polygon_rings.after

-- in the part they are all the rings
abbrev pub within_part : PolygonRings → PolygonRings
within_part polygon_rings = record { exterior = 0; after = polygon_rings.after - polygon_rings.exterior }

-- the number in the whole list of an edge of the part that begins with this ring
abbrev pub in_whole : ℕ → RingEdge → RingEdge
in_whole from number = record { ring = from + number.ring; edge = number.edge }

-- no two edges of these rings meet wrongly
abbrev pub AreAllApart : List (List Position) → Type 0
AreAllApart rings = (first second : RingEdge) (point : RationalPoint) → ¬ MeetsWrongly rings first second point
