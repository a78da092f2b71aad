-- What is said by the profile that checks each polygon by itself, under names of its own.
use Rattle.std.specs.Prelude.{ℕ, List}
use Rattle.mvt_fault.specs.declared.profile.Profile.TheVariants.{Polygon}
use Rattle.mvt_rules.specs.Polygon.{PolygonRings}
use Rattle.mvt_plane.specs.Position.{Position}
use Rattle.mvt_plane.specs.Geometry.RationalPoint.{RationalPoint}
use Rattle.mvt_fault.specs.declared.ring.RingEdge.{RingEdge}
use Rattle.mvt_rules.specs.Valid.{IsValidPolygonBy, AreValidRingsBy}
use Rattle.mvt_rules.specs.PolygonFault.{IsMeetingBy}

abbrev pub IsValidPolygon : List (List Position) → PolygonRings → Type 0
IsValidPolygon = IsValidPolygonBy Polygon

abbrev pub AreValidRings : List (List Position) → Type 0
AreValidRings = AreValidRingsBy Polygon

-- both are of the polygon
abbrev pub IsMeeting : List (List Position) → ℕ → RingEdge → RingEdge → RationalPoint → Type 0
IsMeeting = IsMeetingBy Polygon
