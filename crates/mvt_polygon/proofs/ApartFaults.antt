-- Vertices of an exterior that are inside another polygon: polygon by polygon, and vertex by vertex.
use Rattle.std.proofs.Common.{◌≡◌, ◌≢◌, ℕ, ◌<◌, ◌≤◌, inl, inr, List, length, get_or, slice_get, slice_index_or, Some, Vec, refl, sym, ◌∙◌, ap, subst, arith}
use Rattle.std.proofs.lemmas.Bool.{cases_order, cases_lt}
use Rattle.std.proofs.lemmas.Option.{slice_get-get_or, slice_get_read, slice_get_within, same_Some}
use Rattle.std.specs.declared.alloc.Global.{Global}
use Rattle.mvt_plane.specs.Geometry.Inside.{IsInside}
use Rattle.mvt_rules.specs.Nesting.{IsVertexOf, IsInsidePolygon}
use Rattle.mvt_rules.specs.Polygon.{PolygonRings, IsPolygon}
use Rattle.mvt_plane.specs.Position.{Position}
use Rattle.mvt_polygon.specs.Apart.{IsApartFault, IsFirstApartFault, IsPolygonAround, IsFirstPolygonAround}
use Rattle.mvt_rules.proofs.Rings.PolygonNumbers.{exterior_within}
use Rattle.mvt_rules.proofs.Rings.EdgePairs.{one_position}
use Rattle.mvt_rules.proofs.Rings.SamePolygons.{one_polygon, polygon_begins_within, same_polygon}
use Rattle.mvt_polygon.specs.Polygons.{ArePolygons}
use Rattle.mvt_sweep.specs.Rings.{rings_of}
use Rattle.mvt_sweep.proofs.Vertices.RingReads.{ring_there, count_of_rings}

-- Polygons of a list

-- the rings that the list has for a polygon, as the code reads them
abbrev pub rings_at : List (ℕ × ℕ) → ℕ → PolygonRings
rings_at polygons polygon = record { exterior = (slice_index_or polygons polygon (0, 0)).0; after = (slice_index_or polygons polygon (0, 0)).1 }

-- are the polygon's
pub rings_listed : (rings : List (List Position)) (polygons : List (ℕ × ℕ)) (polygon : ℕ) → ArePolygons rings polygons → polygon < length polygons → IsPolygon rings polygon (rings_at polygons polygon)
rings_listed rings polygons polygon listed within = listed.only polygon (rings_at polygons polygon).exterior (rings_at polygons polygon).after (slice_get-get_or polygons polygon (0, 0) within)

-- its holes are among the rings
pub ends_within : (rings : List (List Position)) (polygon : ℕ) (it : PolygonRings) → IsPolygon rings polygon it → it.after ≤ length rings
ends_within rings polygon it is_it = elim is_it.ends [
  | inl last ↦ omega arith
  | inr is_exterior ↦ let within = exterior_within rings it.after is_exterior in omega arith
]

-- and so is its exterior, as the code reads it
pub exterior_read : (rings : List (Vec Position Global)) (polygons : List (ℕ × ℕ)) (polygon : ℕ) → ArePolygons (rings_of rings) polygons → polygon < length polygons → (rings_at polygons polygon).exterior < length rings
exterior_read rings polygons polygon listed within =
    let it = rings_at polygons polygon in
    omega (arith, polygon_begins_within (rings_of rings) polygon it.exterior (rings_listed (rings_of rings) polygons polygon listed within).begins, count_of_rings rings)

-- it has these vertices
pub exterior_there : (rings : List (Vec Position Global)) (polygons : List (ℕ × ℕ)) (polygon : ℕ) (exterior : Vec Position Global) → ArePolygons (rings_of rings) polygons → polygon < length polygons → exterior ≡ get_or rings (rings_at polygons polygon).exterior exterior → slice_get (rings_of rings) (rings_at polygons polygon).exterior ≡ Some exterior.items
exterior_there rings polygons polygon exterior listed within is = ring_there rings (rings_at polygons polygon).exterior exterior (exterior_read rings polygons polygon listed within) is

-- and this one at its number
pub vertex_there : (rings : List (Vec Position Global)) (polygons : List (ℕ × ℕ)) (polygon vertex : ℕ) (exterior : Vec Position Global) (position : Position) → ArePolygons (rings_of rings) polygons → polygon < length polygons → exterior ≡ get_or rings (rings_at polygons polygon).exterior exterior → vertex < length exterior.items → position ≡ get_or exterior.items vertex position → IsVertexOf (rings_of rings) (rings_at polygons polygon).exterior vertex position
vertex_there rings polygons polygon vertex exterior position listed within is before here = record {
  vertices = exterior.items;
  there = exterior_there rings polygons polygon exterior listed within is;
  here = slice_get_read exterior.items (length exterior.items) vertex position refl before here;
}

-- Different polygons

-- polygons of different numbers have different exteriors
pub other_exterior : (rings : List (List Position)) (polygon other : ℕ) (it its : PolygonRings) → IsPolygon rings polygon it → IsPolygon rings other its → other ≢ polygon → its.exterior ≢ it.exterior
other_exterior rings polygon other it its is_it is_its different same =
    let further : it.exterior < it.after = is_it.further in
    different (one_polygon rings its.exterior other polygon its it is_its (record { from = omega arith; before = is_its.further }) is_it (record { from = omega arith; before = omega arith })).0

-- and a polygon has one exterior, so those with different exteriors have different numbers
pub other_number : (rings : List (List Position)) (polygon other : ℕ) (it its : PolygonRings) → IsPolygon rings polygon it → IsPolygon rings other its → its.exterior ≢ it.exterior → other ≢ polygon
other_number rings polygon other it its is_it is_its different same =
    different (ap (λ (it : PolygonRings). it.exterior) (same_polygon rings polygon its it (subst (λ (number : ℕ). IsPolygon rings number its) same is_its) is_it))

-- Inside one polygon

-- the position is inside none of its holes before this ring
abbrev pub IsInNoHole : List (List Position) → ℕ → Position → ℕ → Type 0
IsInNoHole rings exterior position to = (hole : ℕ) → hole < to → (vertices : List Position) → exterior < hole → slice_get rings hole ≡ Some vertices → ¬ IsInside position vertices

-- a ring that it isn't inside
pub not_in_ring : (rings : List (List Position)) (exterior ring : ℕ) (position : Position) (vertices : List Position) → slice_get rings ring ≡ Some vertices → ¬ IsInside position vertices → (its : List Position) → exterior < ring → slice_get rings ring ≡ Some its → ¬ IsInside position its
not_in_ring rings exterior ring position vertices there not its following its_there inside =
    not (subst (IsInside position) (same_Some its vertices (sym its_there ∙ there)) inside)

-- a position that isn't inside the exterior isn't in the polygon
pub not_in_exterior : (rings : List (List Position)) (it : PolygonRings) (position : Position) (vertices : List Position) → slice_get rings it.exterior ≡ Some vertices → ¬ IsInside position vertices → ¬ IsInsidePolygon rings it position
not_in_exterior rings it position vertices there not in_it =
    not (subst (IsInside position) (same_Some in_it.around vertices (sym in_it.there ∙ there)) in_it.inside)

-- nor is one inside a hole
pub not_in_hole : (rings : List (List Position)) (it : PolygonRings) (position : Position) (hole : ℕ) (vertices : List Position) → it.exterior < hole → hole < it.after → slice_get rings hole ≡ Some vertices → IsInside position vertices → ¬ IsInsidePolygon rings it position
not_in_hole rings it position hole vertices following before there inside in_it = in_it.in_no_hole (record { hole = hole; is = record { following = following; before = before }; vertices = vertices; there = there; inside = inside })

-- one inside the exterior and in no hole is
pub in_polygon : (rings : List (List Position)) (it : PolygonRings) (position : Position) (to : ℕ) (vertices : List Position) → slice_get rings it.exterior ≡ Some vertices → IsInside position vertices → it.after ≤ to → IsInNoHole rings it.exterior position to → IsInsidePolygon rings it position
in_polygon rings it position to vertices there inside past none = record {
  around = vertices;
  there = there;
  inside = inside;
  in_no_hole = λ round. let before = round.is.before in none round.hole (omega arith) round.vertices round.is.following round.there round.inside;
}

-- Polygon by polygon

-- another one that it is inside is around it, and the first one if none before is
pub first_around : (rings : List (List Position)) (polygon other : ℕ) (its : PolygonRings) (position : Position) → ((before : ℕ) → before < other → ¬ IsPolygonAround rings polygon position before) → other ≢ polygon → IsPolygon rings other its → IsInsidePolygon rings its position → IsFirstPolygonAround rings polygon position other
first_around rings polygon other its position none different is_its inside = record {
  around = record { different = different; other_rings = its; there = is_its; inside = inside };
  first = λ another around. elim (cases_lt another other) [ inl less ↦ absurd (none another less around) | inr above ↦ omega arith ];
}

-- one that it isn't inside is none around it
pub not_around : (rings : List (List Position)) (polygon other : ℕ) (its : PolygonRings) (position : Position) → IsPolygon rings other its → ¬ IsInsidePolygon rings its position → ¬ IsPolygonAround rings polygon position other
not_around rings polygon other its position is_its not around =
    not (subst (λ (it : PolygonRings). IsInsidePolygon rings it position) (same_polygon rings other around.other_rings its around.there is_its) around.inside)

-- one around it is in the list
pub none_around : (rings : List (List Position)) (polygons : List (ℕ × ℕ)) (polygon : ℕ) (position : Position) → ArePolygons rings polygons → ((other : ℕ) → other < length polygons → ¬ IsPolygonAround rings polygon position other) → (other : ℕ) → ¬ IsPolygonAround rings polygon position other
none_around rings polygons polygon position listed none other around =
    let its = around.other_rings in
    none other (slice_get_within polygons other (its.exterior, its.after) (listed.all other its around.there)) around

-- A vertex

-- one with another polygon around its position is inside it
pub around_vertex : (rings : List (List Position)) (polygon vertex other : ℕ) (it : PolygonRings) (position : Position) → IsPolygon rings polygon it → IsVertexOf rings it.exterior vertex position → IsPolygonAround rings polygon position other → IsApartFault rings polygon vertex other
around_vertex rings polygon vertex other it position is_it here around = record {
  polygon_rings = it;
  there = is_it;
  other_rings = around.other_rings;
  other_there = around.there;
  inside = record {
    position = position;
    here = here;
    different = other_exterior rings polygon other it around.other_rings is_it around.there around.different;
    inside = around.inside;
  };
}

-- and the other way round
pub around_position : (rings : List (List Position)) (polygon vertex other : ℕ) (it : PolygonRings) (position : Position) → IsPolygon rings polygon it → IsVertexOf rings it.exterior vertex position → IsApartFault rings polygon vertex other → IsPolygonAround rings polygon position other
around_position rings polygon vertex other it position is_it here fault =
    let inside = fault.inside in
    let same : fault.polygon_rings ≡ it = same_polygon rings polygon fault.polygon_rings it fault.there is_it in
    let there : IsVertexOf rings it.exterior vertex inside.position = subst (λ (it : PolygonRings). IsVertexOf rings it.exterior vertex inside.position) same inside.here in
    record {
      different = other_number rings polygon other fault.polygon_rings fault.other_rings fault.there fault.other_there inside.different;
      other_rings = fault.other_rings;
      there = fault.other_there;
      inside = subst (IsInsidePolygon rings fault.other_rings) (one_position rings it.exterior vertex inside.position position there here) inside.inside;
    }

-- Vertex by vertex

-- no vertex before this one is inside another polygon
abbrev pub AreApartBefore : List (List Position) → ℕ → ℕ → Type 0
AreApartBefore rings polygon to = (vertex : ℕ) → vertex < to → (other : ℕ) → ¬ IsApartFault rings polygon vertex other

-- the first one with polygons around it is inside the first of them
pub first_vertex : (rings : List (List Position)) (polygon vertex other : ℕ) (it : PolygonRings) (position : Position) → IsPolygon rings polygon it → IsVertexOf rings it.exterior vertex position → AreApartBefore rings polygon vertex → IsFirstPolygonAround rings polygon position other → IsFirstApartFault rings polygon (record { vertex = vertex; other = other })
first_vertex rings polygon vertex other it position is_it here none found = record {
  holds = around_vertex rings polygon vertex other it position is_it here found.around;
  first = λ number another fault. elim (cases_order vertex number) [
    | inl same ↦ inr (same, found.first another (around_position rings polygon vertex another it position is_it here (subst (λ (number : ℕ). IsApartFault rings polygon number another) (sym same) fault)))
    | inr (inl less) ↦ inl less
    | inr (inr more) ↦ absurd (none number more another fault)
  ];
}

-- where none of the exterior's vertices is inside another polygon there is none
pub no_vertex : (rings : List (List Position)) (polygon : ℕ) (it : PolygonRings) (vertices : List Position) → IsPolygon rings polygon it → slice_get rings it.exterior ≡ Some vertices → AreApartBefore rings polygon (length vertices) → (vertex other : ℕ) → ¬ IsApartFault rings polygon vertex other
no_vertex rings polygon it vertices is_it there none vertex other fault =
    let here = fault.inside.here in
    let same : fault.polygon_rings ≡ it = same_polygon rings polygon fault.polygon_rings it fault.there is_it in
    let exterior : slice_get rings fault.polygon_rings.exterior ≡ Some vertices = ap (λ (it : PolygonRings). slice_get rings it.exterior) same ∙ there in
    let its : here.vertices ≡ vertices = same_Some here.vertices vertices (sym here.there ∙ exterior) in
    none vertex (subst (λ (vertices : List Position). vertex < length vertices) its (slice_get_within here.vertices vertex fault.inside.position here.here)) other fault
