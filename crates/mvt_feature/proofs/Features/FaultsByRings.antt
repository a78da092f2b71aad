-- The faults of polygons by the rings around their rings: where no edges meet wrongly, a polygon's holes have no fault
-- exactly where each has the exterior around it and no other hole of the polygon, and a polygon is apart from all
-- others exactly where its exterior is within none of them.
use Rattle.std.proofs.Common.{◌≡◌, ◌≢◌, ◌↔◌, ℕ, ◌+◌, ◌-◌, ◌≤◌, List, [], length, get_or, slice_get, Some, sym, ap, subst, arith}
use Rattle.std.proofs.lemmas.Option.{slice_get-get_or}
use Rattle.mvt_rules.specs.Nesting.{IsVertexOf, IsOutside, IsInHole, IsInsidePolygon}
use Rattle.mvt_rules.specs.Parts.Rings.{part_of, within_part}
use Rattle.mvt_rules.specs.Polygon.{PolygonRings, IsPolygon, IsRingOf, IsHoleOf}
use Rattle.mvt_plane.specs.Position.{Position}
use Rattle.mvt_rules.proofs.Rings.PartsOfRings.{count_of_part, outside_in_part, in_hole_in_part}
use Rattle.mvt_rules.proofs.Rings.SamePolygons.{one_polygon as same_polygon_of, same_polygon}
use Rattle.mvt_polygon.specs.Apart.{IsApartFault}
use Rattle.mvt_sweep.specs.Meeting.{NoMeeting}
use Rattle.mvt_polygon.specs.Nesting.{one_polygon, IsNestFault, outside, in_hole}
use Rattle.mvt_sweep.specs.Rings.{AreProperRings}
use Rattle.mvt_feature.specs.Calls.PolygonsAround.{IsWithinPolygon}
use Rattle.mvt_sweep.specs.RingsAround.{IsAround}
use Rattle.mvt_polygon.specs.declared.nesting.NestFault.{NestFault}
use Rattle.mvt_polygon.specs.declared.nesting.NestFault.TheVariants.{Outside, InHole}
use Rattle.mvt_polygon.proofs.ApartFaults.{ends_within}
use Rattle.mvt_feature.proofs.Placed.AroundVertices.{first_vertex_there, vertex_shows, around_or_not}

-- ---- holes

-- each hole of the polygon has the exterior around it, and no other hole
pub record AreHolesInPlace (rings : List (List Position)) (it : PolygonRings) : Type 0 where
  pub enclosed : (hole : ℕ) → IsHoleOf it hole → IsAround rings it.exterior hole
  pub side_by_side : (hole other : ℕ) → IsHoleOf it hole → IsHoleOf it other → ¬ IsAround rings other hole

-- a hole isn't the exterior
pub exterior_apart : (it : PolygonRings) (hole : ℕ) → IsHoleOf it hole → it.exterior ≢ hole
exterior_apart it hole is same = let following = is.following in omega arith

-- where the exterior isn't around a hole, the first vertex of that is outside
pub outside_at_first : (rings : List (List Position)) (it : PolygonRings) (hole : ℕ) → NoMeeting rings → AreProperRings rings → it.after ≤ length rings → IsHoleOf it hole
    → ¬ IsAround rings it.exterior hole → IsOutside rings it hole 0
outside_at_first rings it hole none proper ends is not =
    let following = is.following in
    let before = is.before in
    let first = first_vertex_there rings hole proper (omega arith) in
    let exterior = get_or rings it.exterior [] in
    let there : slice_get rings it.exterior ≡ Some (get_or rings it.exterior []) = slice_get-get_or rings it.exterior [] (omega arith) in
    record {
      hole = is;
      position = first.0;
      here = first.1;
      exterior = exterior;
      there = there;
      outside = λ inside. not ((vertex_shows rings none it.exterior hole 0 first.0 exterior (exterior_apart it hole is) first.1 there).1 inside);
    }

-- where another hole is around it, it is inside that
pub in_hole_at_first : (rings : List (List Position)) (it : PolygonRings) (hole other : ℕ) → IsHoleOf it hole → IsHoleOf it other → IsAround rings other hole → IsInHole rings it hole 0 other
in_hole_at_first rings it hole other is is_too around = record {
  hole = is;
  position = around.position;
  here = around.here;
  other_hole = is_too;
  different = around.different;
  around = around.around;
  there = around.there;
  inside = around.inside;
}

-- the part of the polygon by its length
pub whole_part : (rings : List (List Position)) (it : PolygonRings) → it.after ≤ length rings → one_polygon (part_of rings it) ≡ within_part it
whole_part rings it ends = ap (λ (count : ℕ). record { exterior = 0; after = count }) (count_of_part rings it ends)

-- the number of a hole in the part
pub in_part : (it : PolygonRings) (hole : ℕ) → IsHoleOf it hole → hole ≡ it.exterior + (hole - it.exterior)
in_part it hole is = let following = is.following in omega arith

-- a vertex outside is a fault of the part
pub outside_of_part : (rings : List (List Position)) (it : PolygonRings) (hole vertex : ℕ) → it.after ≤ length rings → IsOutside rings it hole vertex
    → IsNestFault (part_of rings it) (Outside (hole - it.exterior) vertex)
outside_of_part rings it hole vertex ends wrong =
    let own = hole - it.exterior in
    let at : IsOutside rings it (it.exterior + own) vertex = subst (λ (number : ℕ). IsOutside rings it number vertex) (in_part it hole wrong.hole) wrong in
    outside own vertex (subst (λ (its : PolygonRings). IsOutside (part_of rings it) its own vertex) (sym (whole_part rings it ends)) ((outside_in_part rings it own vertex).1 at))

-- so is one in another hole
pub in_hole_of_part : (rings : List (List Position)) (it : PolygonRings) (hole vertex other : ℕ) → it.after ≤ length rings → IsInHole rings it hole vertex other
    → IsNestFault (part_of rings it) (InHole (hole - it.exterior) vertex (other - it.exterior))
in_hole_of_part rings it hole vertex other ends wrong =
    let own = hole - it.exterior in
    let its_other = other - it.exterior in
    let moved : IsInHole rings it (it.exterior + own) vertex other = subst (λ (number : ℕ). IsInHole rings it number vertex other) (in_part it hole wrong.hole) wrong in
    let at : IsInHole rings it (it.exterior + own) vertex (it.exterior + its_other) = subst (IsInHole rings it (it.exterior + own) vertex) (in_part it other wrong.other_hole) moved in
    in_hole own vertex its_other
    (subst (λ (its : PolygonRings). IsInHole (part_of rings it) its own vertex its_other) (sym (whole_part rings it ends)) ((in_hole_in_part rings it own vertex its_other).1 at))

-- where the holes are in place none has a fault
none_in_place : (rings : List (List Position)) (it : PolygonRings) → NoMeeting rings → it.after ≤ length rings → AreHolesInPlace rings it
    → (fault : NestFault) → ¬ IsNestFault (part_of rings it) fault
none_in_place rings it none ends place _ (outside ring vertex wrong) =
    let moved : IsOutside (part_of rings it) (within_part it) ring vertex = subst (λ (its : PolygonRings). IsOutside (part_of rings it) its ring vertex) (whole_part rings it ends) wrong in
    let hole : ℕ = it.exterior + ring in
    let at : IsOutside rings it hole vertex = (outside_in_part rings it ring vertex).0 moved in
    at.outside ((vertex_shows rings none it.exterior hole vertex at.position at.exterior (exterior_apart it hole at.hole) at.here at.there).0 (place.enclosed hole at.hole))
none_in_place rings it none ends place _ (in_hole ring vertex other wrong) =
    let moved : IsInHole (part_of rings it) (within_part it) ring vertex other = subst (λ (its : PolygonRings). IsInHole (part_of rings it) its ring vertex other) (whole_part rings it ends) wrong in
    let hole : ℕ = it.exterior + ring in
    let its : ℕ = it.exterior + other in
    let at : IsInHole rings it hole vertex its = (in_hole_in_part rings it ring vertex other).0 moved in
    place.side_by_side hole its at.hole at.other_hole ((vertex_shows rings none its hole vertex at.position at.around at.different at.here at.there).1 at.inside)

-- where none has a fault they are in place
in_place : (rings : List (List Position)) (it : PolygonRings) → NoMeeting rings → AreProperRings rings → it.after ≤ length rings
    → ((fault : NestFault) → ¬ IsNestFault (part_of rings it) fault) → AreHolesInPlace rings it
in_place rings it none proper ends clear = record {
  enclosed = λ hole is. elim (around_or_not rings it.exterior hole) [
    | yes around ↦ around
    | no not ↦ absurd (clear (Outside (hole - it.exterior) 0) (outside_of_part rings it hole 0 ends (outside_at_first rings it hole none proper ends is not)))
  ];
  side_by_side = λ hole other is is_too around.
      clear (InHole (hole - it.exterior) 0 (other - it.exterior)) (in_hole_of_part rings it hole 0 other ends (in_hole_at_first rings it hole other is is_too around));
}

-- the holes of a polygon have no fault exactly where they are in place
pub no_nest_fault : (rings : List (List Position)) (polygon : ℕ) (it : PolygonRings) → NoMeeting rings → AreProperRings rings → IsPolygon rings polygon it
    → ((fault : NestFault) → ¬ IsNestFault (part_of rings it) fault) ↔ AreHolesInPlace rings it
no_nest_fault rings polygon it none proper is_it =
    let ends = ends_within rings polygon it is_it in
    (in_place rings it none proper ends, none_in_place rings it none ends)

-- ---- other polygons

-- a ring that isn't one of a polygon's isn't its exterior
pub apart_from_exterior : (rings : List (List Position)) (other : ℕ) (its : PolygonRings) (ring : ℕ) → IsPolygon rings other its → ¬ IsRingOf its ring → its.exterior ≢ ring
apart_from_exterior rings other its ring is_its not same =
    let further = is_its.further in
    not (record { from = omega arith; before = omega arith })

-- nor a hole of it
pub apart_from_hole : (its : PolygonRings) (hole ring : ℕ) → IsHoleOf its hole → ¬ IsRingOf its ring → hole ≢ ring
apart_from_hole its hole ring is not same =
    let following = is.following in
    let before = is.before in
    not (record { from = omega arith; before = omega arith })

-- each vertex of a ring that isn't one of a polygon's is inside that exactly where its ring is within it
pub polygon_shows : (rings : List (List Position)) → NoMeeting rings → (other : ℕ) (its : PolygonRings) (ring vertex : ℕ) (position : Position) → IsPolygon rings other its → ¬ IsRingOf its ring
    → IsVertexOf rings ring vertex position → IsWithinPolygon rings its ring ↔ IsInsidePolygon rings its position
polygon_shows rings none other its ring vertex position is_its not here = (
  λ within. let exterior = within.exterior in
      record {
        around = exterior.around;
        there = exterior.there;
        inside = (vertex_shows rings none its.exterior ring vertex position exterior.around exterior.different here exterior.there).0 exterior;
        in_no_hole = λ round. within.in_no_hole round.hole round.is
            ((vertex_shows rings none round.hole ring vertex position round.vertices (apart_from_hole its round.hole ring round.is not) here round.there).1 round.inside);
      },
  λ inside. record {
    exterior = (vertex_shows rings none its.exterior ring vertex position inside.around (apart_from_exterior rings other its ring is_its not) here inside.there).1 inside.inside;
    in_no_hole = λ hole is around. inside.in_no_hole (record {
      hole = hole;
      is = is;
      vertices = around.around;
      there = around.there;
      inside = (vertex_shows rings none hole ring vertex position around.around around.different here around.there).0 around;
    });
  },
)

-- the exterior of a polygon isn't one of the rings of another polygon
pub not_of_other : (rings : List (List Position)) (polygon other : ℕ) (it its : PolygonRings) → IsPolygon rings polygon it → IsPolygon rings other its → its.exterior ≢ it.exterior
    → ¬ IsRingOf its it.exterior
not_of_other rings polygon other it its is_it is_its differ of_its =
    let same = same_polygon_of rings it.exterior other polygon its it is_its of_its is_it (record { from = omega arith; before = is_it.further }) in
    differ (ap (λ (rings : PolygonRings). rings.exterior) same.1)

-- an exterior with a vertex in another polygon is within that
pub fault_within : (rings : List (List Position)) (polygon other vertex : ℕ) (it its : PolygonRings) → NoMeeting rings → IsPolygon rings polygon it → IsPolygon rings other its
    → IsApartFault rings polygon vertex other → IsWithinPolygon rings its it.exterior
fault_within rings polygon other vertex it its none is_it is_its fault =
    let mine : fault.polygon_rings ≡ it = same_polygon rings polygon fault.polygon_rings it fault.there is_it in
    let others : fault.other_rings ≡ its = same_polygon rings other fault.other_rings its fault.other_there is_its in
    let inside = fault.inside in
    let not = not_of_other rings polygon other fault.polygon_rings fault.other_rings fault.there fault.other_there inside.different in
    let within : IsWithinPolygon rings fault.other_rings fault.polygon_rings.exterior =
    (polygon_shows rings none other fault.other_rings fault.polygon_rings.exterior vertex inside.position fault.other_there not inside.here).1 inside.inside in
    subst (λ (rings_of : PolygonRings). IsWithinPolygon rings its rings_of.exterior) mine
    (subst (λ (rings_of : PolygonRings). IsWithinPolygon rings rings_of fault.polygon_rings.exterior) others within)

-- one that is within another has its first vertex in that
pub within_fault : (rings : List (List Position)) (polygon other : ℕ) (it its : PolygonRings) → NoMeeting rings → IsPolygon rings polygon it → IsPolygon rings other its
    → IsWithinPolygon rings its it.exterior → IsApartFault rings polygon 0 other
within_fault rings polygon other it its none is_it is_its within =
    let exterior = within.exterior in
    let not = not_of_other rings polygon other it its is_it is_its exterior.different in
    record {
      polygon_rings = it;
      there = is_it;
      other_rings = its;
      other_there = is_its;
      inside = record {
        position = exterior.position;
        here = exterior.here;
        different = exterior.different;
        inside = (polygon_shows rings none other its it.exterior 0 exterior.position is_its not exterior.here).0 within;
      };
    }

-- a polygon is apart from all others exactly where its exterior is within none
pub no_apart_fault : (rings : List (List Position)) (polygon : ℕ) (it : PolygonRings) → NoMeeting rings → IsPolygon rings polygon it
    → ((vertex other : ℕ) → ¬ IsApartFault rings polygon vertex other)
    ↔ ((other : ℕ) (its : PolygonRings) → IsPolygon rings other its → ¬ IsWithinPolygon rings its it.exterior)
no_apart_fault rings polygon it none is_it = (
  λ clear other its is_its within. clear 0 other (within_fault rings polygon other it its none is_it is_its within),
  λ clear vertex other fault.
      clear other fault.other_rings fault.other_there (fault_within rings polygon other vertex it fault.other_rings none is_it fault.other_there fault),
)
