-- Rings with faults, and polygons, of known answers.
use Rattle.std.proofs.Common.{rules, inl, inr, [], ◌∷◌, refl, arith}
use Rattle.std.proofs.lemmas.Int.{ints}
use Rattle.mvt_rules.specs.Ring.{EndsAtItsBeginning, HasNoArea, BeginsWithHole}
use Rattle.mvt_rules.specs.Polygon.{IsExterior, IsExteriorOf, first, next, IsPolygon}
use Rattle.mvt_rules.proofs.Rings.PolygonNumbers.{none_in_nothing, none_to_next}
use Rattle.mvt_plane.specs.Geometry.Examples.{at, square, frame}
use Rattle.mvt_rules.specs.Laws.Examples.{rings_from, two_polygons, hole_beside, hole_in_hole, island_in_hole, closed_twice, flat}

-- Faults

-- a ring that ends where it begins
pub ends_at_its_beginning : EndsAtItsBeginning (closed_twice ∷ []) 0
ends_at_its_beginning = record { ring = closed_twice; there = refl; position = at 0 0; first = refl; last = refl }

-- one without area
pub has_no_area : HasNoArea (square ∷ flat ∷ []) 1
has_no_area = record { ring = flat; there = refl; none = refl }

-- a hole that comes first
pub begins_with_hole : BeginsWithHole (hole_beside ∷ []) 0
begins_with_hole = record { first = refl; ring = hole_beside; there = refl; negative = omega (arith, ints) }

-- Polygons

-- a square is an exterior
square_is_exterior : IsExterior two_polygons 0
square_is_exterior = record { ring = square; there = refl; positive = omega (arith, ints) }

-- so is the frame
frame_is_exterior : IsExterior two_polygons 1
frame_is_exterior = record { ring = frame; there = refl; positive = omega (arith, ints) }

-- the hole in it isn't
hole_is_none : ¬ IsExterior two_polygons 2
hole_is_none = search rules

-- the first polygon begins with the square
square_begins : IsExteriorOf two_polygons 0 0
square_begins = first 0 square_is_exterior (none_in_nothing two_polygons 0)

-- it has no hole
pub first_polygon : IsPolygon two_polygons 0 (rings_from 0 1)
first_polygon = record { begins = square_begins; further = omega arith; holes = none_in_nothing two_polygons 1; ends = inr frame_is_exterior }

-- the second one has the hole of the frame
pub second_polygon : IsPolygon two_polygons 1 (rings_from 1 3)
second_polygon = record {
  begins = next 0 0 1 square_begins (omega arith) frame_is_exterior (none_in_nothing two_polygons 1);
  further = omega arith;
  holes = none_to_next two_polygons 2 2 (none_in_nothing two_polygons 2) hole_is_none;
  ends = inl refl;
}

-- A hole in a hole

-- the ring around both
outer_is_exterior : IsExterior hole_in_hole 0
outer_is_exterior = record { ring = _; there = refl; positive = omega (arith, ints) }

-- the outer hole is none
first_hole_is_none : ¬ IsExterior hole_in_hole 1
first_hole_is_none = search rules

-- the inner one neither
second_hole_is_none : ¬ IsExterior hole_in_hole 2
second_hole_is_none = search rules

-- one polygon has both
pub polygon_with_two_holes : IsPolygon hole_in_hole 0 (rings_from 0 3)
polygon_with_two_holes = record {
  begins = first 0 outer_is_exterior (none_in_nothing hole_in_hole 0);
  further = omega arith;
  holes = none_to_next hole_in_hole 1 2 (none_to_next hole_in_hole 1 1 (none_in_nothing hole_in_hole 1) first_hole_is_none) second_hole_is_none;
  ends = inl refl;
}

-- An island in a hole

-- the ring around the hole
shore_is_exterior : IsExterior island_in_hole 0
shore_is_exterior = record { ring = _; there = refl; positive = omega (arith, ints) }

-- the hole
water_is_none : ¬ IsExterior island_in_hole 1
water_is_none = search rules

-- the island
island_is_exterior : IsExterior island_in_hole 2
island_is_exterior = record { ring = _; there = refl; positive = omega (arith, ints) }

-- it is a polygon of its own
pub island_polygon : IsPolygon island_in_hole 1 (rings_from 2 3)
island_polygon = record {
  begins = next 0 0 2 (first 0 shore_is_exterior (none_in_nothing island_in_hole 0)) (omega arith) island_is_exterior (none_to_next island_in_hole 1 1 (none_in_nothing island_in_hole 1) water_is_none);
  further = omega arith;
  holes = none_in_nothing island_in_hole 3;
  ends = inl refl;
}
