-- Faults of known rings.
use Rattle.std.proofs.Common.{rules, ◌≡◌, ℕ, zero, suc, ◌<◌, List, [], ◌∷◌, slice_get, Some, refl, subst, arith}
use Rattle.std.proofs.lemmas.Int.{ints}
use Rattle.std.proofs.lemmas.Option.{slice_get_within}
use Rattle.mvt_fault.specs.declared.ring.RingEdge.{RingEdge}
use Rattle.mvt_rules.proofs.Examples.ExampleMeetings.{edges_cross, rings_touch}
use Rattle.mvt_rules.proofs.Examples.ExampleNesting.{hole_outside, hole_within, hole_in_other}
use Rattle.mvt_rules.proofs.Examples.ExampleRings.{second_polygon}
use Rattle.mvt_rules.proofs.Rings.SamePolygons.{one_polygon}
use Rattle.mvt_plane.specs.Geometry.Examples.{at, fraction, square, frame}
use Rattle.mvt_rules.specs.Laws.Examples.{ring_edge, rings_from, two_polygons, crossed, touching_hole, hole_beside, hole_in_hole, flat}
use Rattle.mvt_rules.specs.Meeting.{ComesBefore, IsShared, MeetsWrongly}
use Rattle.mvt_rules.specs.Nesting.{IsOutside}
use Rattle.mvt_rules.specs.Polygon.{PolygonRings, IsPolygon, IsRingOf}
use Rattle.mvt_plane.specs.Position.{Position}
use Rattle.mvt_plane.specs.Geometry.RationalPoint.{RationalPoint, IsAt, IsBounded}
use Rattle.mvt_rules.specs.Ring.{HasNoArea}
use Rattle.mvt_rules.proofs.Examples.ExamplePolygons.{exterior_after, no_other_polygon, crossed_polygon, crossed_second, touching_polygon, beside_polygon, beside_second, two_holes, two_holes_second}
use Rattle.mvt_rules.specs.PolygonFault.{IsPolygonOf, IsVertexOutside, IsVertexInHole}
use Rattle.mvt_rules.specs.Parts.ByPolygon.{IsMeeting}

-- Meetings

-- two edges of a polygon, by what is asked of them
meeting : {rings : List (List Position)} {polygon : ℕ} {first second : RingEdge} {point : RationalPoint} (it : PolygonRings) → IsPolygonOf rings polygon it
    → MeetsWrongly rings first second point → IsRingOf it first.ring → IsRingOf it second.ring → ComesBefore first second → IsBounded point
    → IsMeeting rings polygon first second point
meeting it of meets first_in second_in in_order bounded =
    record { polygon_rings = it; of = of; first_in = first_in; second_in = second_in; in_order = in_order; bounded = bounded; meets = meets }

-- two that cross
pub crossing_shown : IsMeeting (crossed ∷ []) 0 (record { ring = 0; edge = 0 }) (record { ring = 0; edge = 2 }) (fraction 800 800 180)
crossing_shown = meeting (rings_from 0 1) crossed_polygon edges_cross (search rules) (search rules) (search rules) (search rules)

-- wherever their ring stands, by the numbers of the point in lowest terms
edges_cross_in : (rings : List (List Position)) (ring : ℕ) → slice_get rings ring ≡ Some crossed
    → ((vertex : Position) → IsShared rings (ring_edge ring 0) (ring_edge ring 2) vertex → ¬ IsAt (fraction 40 40 9) vertex) → MeetsWrongly rings (ring_edge ring 0) (ring_edge ring 2) (fraction 40 40 9)
edges_cross_in rings ring there forbidden = record {
  different = search rules;
  one = record { a = at 0 8; b = at 10 0 };
  one_there = record { ring = crossed; there = there; here = refl };
  other = record { a = at 10 10; b = at 0 0 };
  other_there = record { ring = crossed; there = there; here = refl };
  on_one = search rules;
  on_other = search rules;
  forbidden = forbidden;
}

-- they meet there too
pub crossing_reduced : IsMeeting (crossed ∷ []) 0 (record { ring = 0; edge = 0 }) (record { ring = 0; edge = 2 }) (fraction 40 40 9)
crossing_reduced =
    meeting (rings_from 0 1) crossed_polygon (edges_cross_in (crossed ∷ []) 0 refl (search rules)) (search rules) (search rules) (search rules) (search rules)

-- and in a second polygon
pub crossing_second : IsMeeting (square ∷ crossed ∷ []) 1 (record { ring = 1; edge = 0 }) (record { ring = 1; edge = 2 }) (fraction 40 40 9)
crossing_second =
    meeting (rings_from 1 2) crossed_second (edges_cross_in (square ∷ crossed ∷ []) 1 refl (search rules)) (search rules) (search rules) (search rules) (search rules)

-- a hole that touches its exterior
pub touching_shown : IsMeeting (square ∷ touching_hole ∷ []) 0 (record { ring = 0; edge = 3 }) (record { ring = 1; edge = 0 }) (fraction 0 5 1)
touching_shown = meeting (rings_from 0 2) touching_polygon rings_touch (search rules) (search rules) (search rules) (search rules)

-- Holes

-- a hole beside the square
pub vertex_outside : IsVertexOutside (square ∷ hole_beside ∷ []) 0 1 0
vertex_outside = record { polygon_rings = rings_from 0 2; of = beside_polygon; outside = hole_outside }

-- the square has the only polygon
pub none_of_other_polygon : (ring vertex : ℕ) → ¬ IsVertexOutside (square ∷ hole_beside ∷ []) 1 ring vertex
none_of_other_polygon ring vertex outside =
    let same = no_other_polygon (square ∷ hole_beside ∷ []) 1 outside.polygon_rings beside_polygon.there outside.of.there in
    let none = same.0 in
    omega arith

-- the hole beside the second of two squares
hole_outside_second : IsOutside (square ∷ square ∷ hole_beside ∷ []) (rings_from 1 3) 2 0
hole_outside_second = record {
  hole = search rules;
  position = at 20 0;
  here = record { vertices = hole_beside; there = refl; here = refl };
  exterior = square;
  there = refl;
  outside = search rules;
}

-- it is outside the second polygon
pub vertex_outside_second : IsVertexOutside (square ∷ square ∷ hole_beside ∷ []) 1 2 0
vertex_outside_second = record { polygon_rings = rings_from 1 3; of = beside_second; outside = hole_outside_second }

-- the second square is no hole
pub none_of_own_number : (vertex : ℕ) → ¬ IsVertexOutside (square ∷ square ∷ hole_beside ∷ []) 1 1 vertex
none_of_own_number vertex outside =
    let following = outside.outside.hole.following in
    let exterior = exterior_after (square ∷ square ∷ hole_beside ∷ []) 1 outside.polygon_rings.exterior outside.of.there.begins in
    omega arith

-- a hole inside another
pub vertex_in_hole : IsVertexInHole hole_in_hole 0 2 0 1
vertex_in_hole = record { polygon_rings = rings_from 0 3; of = two_holes; inside = hole_in_other }

-- the same in a second polygon
pub vertex_in_hole_second : IsVertexInHole (square ∷ hole_in_hole) 1 3 0 2
vertex_in_hole_second = record {
  polygon_rings = rings_from 1 4;
  of = two_holes_second;
  inside = record {
    hole = search rules;
    position = hole_in_other.position;
    here = record { vertices = hole_in_other.here.vertices; there = hole_in_other.here.there; here = hole_in_other.here.here };
    other_hole = search rules;
    different = search rules;
    around = hole_in_other.around;
    there = hole_in_other.there;
    inside = hole_in_other.inside;
  };
}

-- The standard's polygons

-- the one hole is that of the frame
hole_of_second : (ring polygon : ℕ) (it : PolygonRings) → IsPolygon two_polygons polygon it → it.exterior < ring → ring < it.after → ring < 3 → ring ≡ 2
hole_of_second zero polygon it there following before within = absurd (omega arith)
hole_of_second (suc zero) polygon it there following before within =
    absurd (there.holes 1 following before (record { ring = frame; there = refl; positive = omega (arith, ints) }))
hole_of_second (suc (suc ring)) polygon it there following before within = omega arith

-- it isn't outside
pub none_outside : (polygon ring vertex : ℕ) → ¬ IsVertexOutside two_polygons polygon ring vertex
none_outside polygon ring vertex outside =
    let following = outside.outside.hole.following in
    let before = outside.outside.hole.before in
    let within : ring < 3 = slice_get_within two_polygons ring outside.outside.here.vertices outside.outside.here.there in
    let two : ring ≡ 2 = hole_of_second ring polygon outside.polygon_rings outside.of.there following before within in
    let its = one_polygon two_polygons ring polygon 1 outside.polygon_rings (rings_from 1 3) outside.of.there
    (record { from = omega arith; before = before }) second_polygon (record { from = omega arith; before = omega arith }) in
    hole_within ring vertex (subst (λ (it : PolygonRings). IsOutside two_polygons it ring vertex) its.1 outside.outside)

-- A ring without area

-- positions on one line
pub flat_ring : HasNoArea (flat ∷ []) 0
flat_ring = record { ring = flat; there = refl; none = refl }
