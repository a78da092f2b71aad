-- Rings of which something wrong is true aren't those of valid polygons.
use Rattle.std.proofs.Common.{ℕ, List}
use Rattle.mvt_fault.specs.declared.profile.Profile.{Profile}
use Rattle.mvt_fault.specs.declared.ring.RingEdge.{RingEdge}
use Rattle.mvt_plane.specs.Position.{Position}
use Rattle.mvt_plane.specs.Geometry.RationalPoint.{RationalPoint}
use Rattle.mvt_rules.specs.Ring.{BreaksRings, ends_at_its_beginning, no_area, begins_with_hole, ArePolygonRings}
use Rattle.mvt_rules.specs.PolygonFault.{IsMeetingBy, IsVertexOutside, IsVertexInHole, IsVertexInPolygonBy}
use Rattle.mvt_rules.specs.Valid.{AreValidRingsBy}

-- a ring has a fault of its own
pub not_sound : (rings : List (List Position)) (code ring : ℕ) → BreaksRings rings code ring → ¬ ArePolygonRings rings
not_sound rings code ring (ends_at_its_beginning is broken) sound = sound.open_ends ring broken
not_sound rings code ring (no_area is broken) sound = sound.areas ring broken
not_sound rings code ring (begins_with_hole is broken) sound = sound.exterior_first ring broken

-- so the rings are invalid
pub ring_is_invalid : (profile : Profile) (rings : List (List Position)) (code ring : ℕ) → BreaksRings rings code ring → ¬ AreValidRingsBy profile rings
ring_is_invalid profile rings code ring broken valid = not_sound rings code ring broken valid.sound

-- two edges of a polygon meet
pub meeting_is_invalid : (profile : Profile) (rings : List (List Position)) (polygon : ℕ) (first second : RingEdge) (point : RationalPoint) → IsMeetingBy profile rings polygon first second point → ¬ AreValidRingsBy profile rings
meeting_is_invalid profile rings polygon first second point meeting valid =
    let its = valid.polygons polygon meeting.polygon_rings meeting.of.there in
    its.apart first second point meeting.first_in meeting.second_in meeting.meets

-- a vertex of a hole is outside the exterior
pub outside_is_invalid : (profile : Profile) (rings : List (List Position)) (polygon ring vertex : ℕ) → IsVertexOutside rings polygon ring vertex → ¬ AreValidRingsBy profile rings
outside_is_invalid profile rings polygon ring vertex outside valid =
    let its = valid.polygons polygon outside.polygon_rings outside.of.there in
    its.enclosed ring vertex outside.outside

-- it is inside another hole
pub in_hole_is_invalid : (profile : Profile) (rings : List (List Position)) (polygon ring vertex other : ℕ) → IsVertexInHole rings polygon ring vertex other → ¬ AreValidRingsBy profile rings
in_hole_is_invalid profile rings polygon ring vertex other inside valid =
    let its = valid.polygons polygon inside.polygon_rings inside.of.there in
    its.side_by_side ring vertex other inside.inside

-- a vertex of an exterior is inside another polygon
pub in_polygon_is_invalid : (profile : Profile) (rings : List (List Position)) (polygon vertex other : ℕ) → IsVertexInPolygonBy profile rings polygon vertex other → ¬ AreValidRingsBy profile rings
in_polygon_is_invalid profile rings polygon vertex other inside valid =
    let its = valid.polygons polygon inside.polygon_rings inside.of.there in
    its.beside vertex other inside.other_rings inside.other_there inside.inside
