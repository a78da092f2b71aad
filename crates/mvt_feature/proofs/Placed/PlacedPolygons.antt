-- Polygons with a ring that isn't where it should be: by what each ring is to the number of polygons around, and by these
-- numbers.
use Rattle.std.proofs.Common.{◌≡◌, ◌≢◌, ℕ, zero, suc, ◌+◌, ◌-◌, ◌<◌, ◌≤◌, List, length, get_or, slice_get, Some, Vec, refl, sym, ◌∙◌, ap, subst, arith}
use Rattle.std.proofs.lemmas.Option.{slice_get-get_or, slice_get_read}
use Rattle.std.specs.declared.alloc.Global.{Global}
use Rattle.std.specs.List.{slice_range}
use Rattle.mvt_plane.specs.Counted.{Counted}
use Rattle.mvt_rules.specs.Nesting.{IsVertexOf}
use Rattle.mvt_rules.specs.Parts.Rings.{part_of}
use Rattle.mvt_rules.specs.Polygon.{PolygonRings, IsPolygon, IsHoleOf}
use Rattle.mvt_plane.specs.Position.{Position}
use Rattle.mvt_polygon.specs.Apart.{IsPolygonAround}
use Rattle.mvt_sweep.specs.Work.{AddsWork, vertex_count}
use Rattle.mvt_feature.specs.Feature.{IsPlaced}
use Rattle.mvt_sweep.specs.Meeting.{NoMeeting}
use Rattle.mvt_polygon.specs.Nesting.{one_polygon, IsNestFault, outside, in_hole, IsFirstNestFault, IsFirstOf, IsOfVertex}
use Rattle.mvt_polygon.specs.Calls.Nesting.{IsOfHole}
use Rattle.mvt_feature.specs.Calls.Passings.{AreAroundExteriors, ArePassings, IsFirstWrongHole, IsPassing}
use Rattle.mvt_feature.specs.Calls.PolygonsAround.{LeavesPolygon}
use Rattle.mvt_rules.proofs.Rings.PartsOfRings.{count_of_part}
use Rattle.mvt_polygon.specs.Polygons.{ArePolygons}
use Rattle.mvt_sweep.specs.Rings.{rings_of, AreProperRings}
use Rattle.mvt_sweep.specs.RingsAround.{IsAround}
use Rattle.mvt_feature.specs.declared.feature.passing.Passing.{Passing}
use Rattle.mvt_feature.specs.declared.feature.passing.Passing.TheVariants.{Enters, Leaves, Neither}
use Rattle.mvt_polygon.specs.declared.nesting.NestFault.{NestFault}
use Rattle.mvt_polygon.specs.declared.nesting.NestFault.TheVariants.{Outside, InHole}
use Rattle.mvt_feature.proofs.Placed.AddedPassings.{vertices_of_part}
use Rattle.mvt_polygon.proofs.PolygonSlices.{part_read, proper_part}
use Rattle.mvt_polygon.proofs.ApartFaults.{rings_at, ends_within, exterior_read, around_position}
use Rattle.mvt_feature.proofs.Placed.AroundVertices.{vertex_shows, around_or_not}
use Rattle.mvt_sweep.proofs.Vertices.VertexNumbers.{count_all}
use Rattle.mvt_feature.proofs.Features.FaultsByRings.{exterior_apart, outside_at_first, in_hole_at_first, whole_part, no_nest_fault}
use Rattle.mvt_polygon.proofs.NestFaults.{first_hole}
use Rattle.mvt_polygon.proofs.NestOnce.{first_of_first_vertex, probes_within}
use Rattle.mvt_feature.proofs.Placed.OwnPassings.{leaves_in_part, vertex_in_part, clear_part}
use Rattle.mvt_sweep.proofs.Vertices.RingReads.{ring_there, count_of_rings}

-- ---- one hole of a polygon alone

-- where the exterior and no other hole is around it, it has no fault
clear_where_left : (rings : List (List Position)) (hole : ℕ) → NoMeeting rings → LeavesPolygon rings (one_polygon rings) hole → (fault : NestFault) → IsOfHole hole fault → ¬ IsNestFault rings fault
clear_where_left rings hole none leaves _ is (outside ring vertex wrong) =
    let it = one_polygon rings in
    wrong.outside ((vertex_shows rings none 0 ring vertex wrong.position wrong.exterior (exterior_apart it ring wrong.hole) wrong.here wrong.there).0
    (subst (λ (number : ℕ). IsAround rings 0 number) (sym is) leaves.enclosed))
clear_where_left rings hole none leaves _ is (in_hole ring vertex other wrong) =
    leaves.alone other wrong.other_hole (subst (λ (number : ℕ). IsAround rings other number) is
    ((vertex_shows rings none other ring vertex wrong.position wrong.around wrong.different wrong.here wrong.there).1 wrong.inside))

-- where its first vertex has no fault, that is so
left_where_clear : (rings : List (List Position)) (hole : ℕ) → NoMeeting rings → AreProperRings rings → IsHoleOf (one_polygon rings) hole
    → ((fault : NestFault) → IsOfVertex hole 0 fault → ¬ IsNestFault rings fault) → LeavesPolygon rings (one_polygon rings) hole
left_where_clear rings hole none proper is clear =
    let it = one_polygon rings in
    record {
      hole = is;
      enclosed = elim (around_or_not rings 0 hole) [
        | yes around ↦ around
        | no not ↦ absurd (clear (Outside hole 0) (refl, refl) (outside hole 0 (outside_at_first rings it hole none proper (omega arith) is not)))
      ];
      alone = λ other is_too around. clear (InHole hole 0 other) (refl, refl) (in_hole hole 0 other (in_hole_at_first rings it hole other is is_too around));
    }

-- the exterior has no fault
exterior_clear : (rings : List (List Position)) (fault : NestFault) → IsOfHole 0 fault → ¬ IsNestFault rings fault
exterior_clear rings _ is (outside ring vertex wrong) = let following : 0 < ring = wrong.hole.following in omega arith
exterior_clear rings _ is (in_hole ring vertex other wrong) = let following : 0 < ring = wrong.hole.following in omega arith

-- ---- the holes of a polygon among all rings

-- a hole with the exterior and no other hole around it is one in the part
left_in_part : (rings : List (List Position)) (it : PolygonRings) (own : ℕ) → it.after ≤ length rings → own < it.after - it.exterior → LeavesPolygon rings it (it.exterior + own)
    → LeavesPolygon (part_of rings it) (one_polygon (part_of rings it)) own
left_in_part rings it own ends below leaves =
    subst (λ (its : PolygonRings). LeavesPolygon (part_of rings it) its own) (sym (whole_part rings it ends)) ((leaves_in_part rings it own below).1 leaves)

-- and the other way round
left_in_whole : (rings : List (List Position)) (it : PolygonRings) (own : ℕ) → it.after ≤ length rings → own < it.after - it.exterior
    → LeavesPolygon (part_of rings it) (one_polygon (part_of rings it)) own → LeavesPolygon rings it (it.exterior + own)
left_in_whole rings it own ends below leaves =
    (leaves_in_part rings it own below).0 (subst (λ (its : PolygonRings). LeavesPolygon (part_of rings it) its own) (whole_part rings it ends) leaves)

-- the exterior and no other hole is around each of the holes before this ring
abbrev pub AreLeftTo : List (List Position) → PolygonRings → ℕ → Type 0
AreLeftTo rings it to = (hole : ℕ) → it.exterior < hole → hole < to → LeavesPolygon rings it hole

-- no ring of the part before it has a fault
clear_before : (rings : List (List Position)) (it : PolygonRings) (own : ℕ) → NoMeeting rings → it.after ≤ length rings → own < it.after - it.exterior → AreLeftTo rings it (it.exterior + own)
    → (before : ℕ) → before < own → (fault : NestFault) → IsOfHole before fault → ¬ IsNestFault (part_of rings it) fault
clear_before rings it own none ends below left zero less fault is = exterior_clear (part_of rings it) fault is
clear_before rings it own none ends below left (suc before) less fault is =
    clear_where_left (part_of rings it) (suc before) (clear_part rings it ends none)
    (left_in_part rings it (suc before) ends (omega arith) (left (it.exterior + suc before) (omega arith) (omega arith))) fault is

-- so the first fault of its first vertex is the first of the polygon
pub first_of_part : (rings : List (List Position)) (it : PolygonRings) (own : ℕ) (fault : NestFault) → NoMeeting rings → it.after ≤ length rings → own < it.after - it.exterior
    → AreLeftTo rings it (it.exterior + own) → IsFirstOf (part_of rings it) (IsOfVertex own 0) fault → IsFirstNestFault (part_of rings it) fault
first_of_part rings it own fault none ends below left found =
    first_hole (part_of rings it) own fault (clear_before rings it own none ends below left) (first_of_first_vertex (part_of rings it) own fault found)

-- and where all holes are so, there is none
pub nested_where_left : (rings : List (List Position)) (polygon : ℕ) (it : PolygonRings) → NoMeeting rings → AreProperRings rings → IsPolygon rings polygon it → AreLeftTo rings it it.after
    → (fault : NestFault) → ¬ IsNestFault (part_of rings it) fault
nested_where_left rings polygon it none proper is_it left =
    (no_nest_fault rings polygon it none proper is_it).1 (record {
      enclosed = λ hole is. (left hole is.following is.before).enclosed;
      side_by_side = λ hole other is is_too. (left hole is.following is.before).alone other is_too;
    })

-- ---- by the list of what rings are

-- a hole that is listed so
pub left_listed : (rings : List (List Position)) (passings : List Passing) (polygon : ℕ) (it : PolygonRings) (to : ℕ) → IsPolygon rings polygon it → ArePassings rings passings → to ≤ it.after
    → ((hole : ℕ) → it.exterior < hole → hole < to → slice_get passings hole ≡ Some Leaves) → AreLeftTo rings it to
left_listed rings passings polygon it to is_it passed within listed hole following before =
    passed.each polygon hole it Leaves is_it (record { from = omega arith; before = omega arith }) (listed hole following before)

-- a hole that is left is listed so
only_left : (rings : List (List Position)) (it : PolygonRings) (hole : ℕ) (passing : Passing) → it.exterior < hole → IsPassing rings it hole passing → LeavesPolygon rings it hole → passing ≡ Leaves
only_left rings it hole Enters following is leaves = let same = is.exterior in absurd (omega arith)
only_left rings it hole Leaves following is leaves = refl
only_left rings it hole Neither following is leaves = absurd (is.1 leaves)

-- so the first vertex of a hole that isn't has a fault
pub wrong_has_fault : (rings : List (List Position)) (passings : List Passing) (polygon : ℕ) (it : PolygonRings) (hole : ℕ) → NoMeeting rings → AreProperRings rings → IsPolygon rings polygon it
    → length passings ≡ length rings → ArePassings rings passings → IsFirstWrongHole passings it.exterior it.after hole
    → ¬ ((fault : NestFault) → IsOfVertex (hole - it.exterior) 0 fault → ¬ IsNestFault (part_of rings it) fault)
wrong_has_fault rings passings polygon it hole none proper is_it size passed wrong clear =
    let ends = ends_within rings polygon it is_it in
    let following = wrong.following in
    let before = wrong.before in
    let own = hole - it.exterior in
    let number : it.exterior + own ≡ hole = omega arith in
    let count = count_of_part rings it ends in
    let is : IsHoleOf (one_polygon (part_of rings it)) own = record { following = omega arith; before = omega arith } in
    let left = left_where_clear (part_of rings it) own (clear_part rings it ends none) (proper_part rings it ends proper) is clear in
    let leaves = subst (LeavesPolygon rings it) number (left_in_whole rings it own ends (omega arith) left) in
    let passing = get_or passings hole Leaves in
    let there = slice_get-get_or passings hole Leaves (omega arith) in
    let listed = passed.each polygon hole it passing is_it (record { from = omega arith; before = before }) there in
    wrong.wrong (there ∙ ap Some (only_left rings it hole passing following listed leaves))

-- ---- by the number of polygons around

-- where no polygon is around it, and the holes are so, the polygon is placed
pub placed_where_none : (rings : List (List Position)) (around : List ℕ) (polygon : ℕ) (it : PolygonRings) → NoMeeting rings → AreProperRings rings → IsPolygon rings polygon it
    → AreLeftTo rings it it.after → AreAroundExteriors rings around → it.exterior < length around → get_or around it.exterior 0 ≡ 0 → IsPlaced rings polygon it
placed_where_none rings around polygon it none proper is_it left counted within zero_there = record {
  nested = nested_where_left rings polygon it none proper is_it left;
  alone = counted.none polygon it is_it (slice_get-get_or around it.exterior 0 within ∙ ap Some zero_there);
}

-- a number that isn't none is some
some_more : (count : ℕ) → count ≢ 0 → (less : ℕ) × (count ≡ suc less)
some_more count some = (count - 1, omega arith)

-- else its first vertex is inside another polygon
pub around_where_some : (rings : List (List Position)) (around : List ℕ) (polygon : ℕ) (it : PolygonRings) (position : Position) → IsPolygon rings polygon it → AreAroundExteriors rings around
    → it.exterior < length around → get_or around it.exterior 0 ≢ 0 → IsVertexOf rings it.exterior 0 position → (other : ℕ) × IsPolygonAround rings polygon position other
around_where_some rings around polygon it position is_it counted within some here =
    let (less, is) = some_more (get_or around it.exterior 0) some in
    let (other, fault) = counted.some polygon less it is_it (slice_get-get_or around it.exterior 0 within ∙ ap Some is) in
    (other, around_position rings polygon 0 other it position is_it here fault)

-- ---- as the code reads rings

-- the first vertex of a ring of a polygon, in the slice of its rings
pub first_in_slice : (rings : List (Vec Position Global)) (it : PolygonRings) (hole : ℕ) (ring : Vec Position Global) (position : Position) → AreProperRings (rings_of rings) → it.after ≤ length rings
    → it.exterior < hole → hole < it.after → ring ≡ get_or rings hole ring → position ≡ get_or ring.items 0 position
    → IsVertexOf (rings_of (slice_range rings it.exterior it.after)) (hole - it.exterior) 0 position
first_in_slice rings it hole ring position proper ends following before is here =
    let there = ring_there rings hole ring (omega arith) is in
    let several : 3 ≤ length ring.items = proper.several hole ring.items there in
    let number : it.exterior + (hole - it.exterior) ≡ hole = omega arith in
    let vertex : IsVertexOf (rings_of rings) hole 0 position = record { vertices = ring.items; there = there; here = slice_get_read ring.items (length ring.items) 0 position refl (omega arith) here } in
    subst (λ (part : List (List Position)). IsVertexOf part (hole - it.exterior) 0 position) (sym (part_read rings it))
    ((vertex_in_part (rings_of rings) it (hole - it.exterior) 0 position (omega arith)).1 (subst (λ (ring : ℕ). IsVertexOf (rings_of rings) ring 0 position) (sym number) vertex))

-- a ring has vertices
pub some_vertex : (rings : List (Vec Position Global)) (number : ℕ) (ring : Vec Position Global) → AreProperRings (rings_of rings) → number < length rings → ring ≡ get_or rings number ring → 3 ≤ length ring.items
some_vertex rings number ring proper within is = proper.several number ring.items (ring_there rings number ring within is)

-- the exterior of a polygon has a number of polygons around it
pub exterior_around : (rings : List (Vec Position Global)) (polygons : List (ℕ × ℕ)) (polygon : ℕ) (around : List ℕ) → ArePolygons (rings_of rings) polygons → polygon < length polygons
    → AreAroundExteriors (rings_of rings) around → (rings_at polygons polygon).exterior < length around
exterior_around rings polygons polygon around listed there counted =
    let within = exterior_read rings polygons polygon listed there in
    omega (arith, counted.count, count_of_rings rings)

-- probes of a polygon's vertices are probes of all
pub part_probes : (rings : List (Vec Position Global)) (it : PolygonRings) {before after : Counted} → it.exterior < it.after
    → AddsWork 0 (vertex_count (rings_of (slice_range rings it.exterior it.after))) 0 before after → AddsWork 0 (vertex_count (rings_of rings)) 0 before after
part_probes rings it {before} {after} further work =
    let own = subst (λ (part : List (List Position)). AddsWork 0 (vertex_count part) 0 before after) (part_read rings it) work in
    probes_within (omega (arith, vertices_of_part (rings_of rings) it (omega arith), count_all (rings_of rings) it.after)) own
