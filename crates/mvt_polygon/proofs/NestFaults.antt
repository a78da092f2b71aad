-- Faults of a polygon's holes: vertex by vertex, and hole by hole.
use Rattle.std.proofs.Common.{◌≡◌, ℕ, ◌<◌, ◌≤◌, inl, inr, List, length, slice_get, Some, refl, sym, ◌∙◌, ap, subst, arith}
use Rattle.std.proofs.lemmas.Bool.{cases_order, cases_lt}
use Rattle.std.proofs.lemmas.Option.{slice_get_within}
use Rattle.mvt_fault.specs.Place.{ComesFirst}
use Rattle.mvt_plane.specs.Geometry.Inside.{IsInside}
use Rattle.mvt_rules.specs.Nesting.{IsVertexOf, IsOutside, IsInHole}
use Rattle.mvt_plane.specs.Position.{Position}
use Rattle.mvt_polygon.specs.Nesting.{one_polygon, IsNestFault, outside, in_hole, nest_place, IsFirstNestFault, IsFirstOf, IsOfVertex}
use Rattle.mvt_polygon.specs.Calls.Nesting.{IsOfHole, IsHoleAround, IsFirstHoleAround}
use Rattle.mvt_rules.proofs.Rings.EdgePairs.{one_position}
use Rattle.mvt_polygon.specs.declared.nesting.NestFault.{NestFault}
use Rattle.mvt_polygon.specs.declared.nesting.NestFault.TheVariants.{Outside, InHole}

-- Numbers

-- of a fault: that of the hole
abbrev hole_of : NestFault → ℕ
hole_of (Outside ring vertex) = ring
hole_of (InHole ring vertex other) = ring

-- and that of the vertex
abbrev vertex_of : NestFault → ℕ
vertex_of (Outside ring vertex) = vertex
vertex_of (InHole ring vertex other) = vertex

-- every fault is one of its hole
own_hole : (fault : NestFault) → IsOfHole (hole_of fault) fault
own_hole (Outside ring vertex) = refl
own_hole (InHole ring vertex other) = refl

-- of that only
its_hole : (fault : NestFault) (hole : ℕ) → IsOfHole hole fault → hole_of fault ≡ hole
its_hole (Outside ring vertex) hole is = is
its_hole (InHole ring vertex other) hole is = is

-- every fault is one of its vertex
own_vertex : (fault : NestFault) (hole : ℕ) → IsOfHole hole fault → IsOfVertex hole (vertex_of fault) fault
own_vertex (Outside ring vertex) hole is = (is, refl)
own_vertex (InHole ring vertex other) hole is = (is, refl)

-- of that only
its_vertex : (fault : NestFault) (hole vertex : ℕ) → IsOfVertex hole vertex fault → IsOfHole hole fault × (vertex_of fault ≡ vertex)
its_vertex (Outside ring vertex) hole number is = is
its_vertex (InHole ring vertex other) hole number is = is

-- Places

-- a fault of an earlier hole comes first
earlier_hole : (fault other : NestFault) → hole_of fault < hole_of other → ComesFirst (nest_place fault) (nest_place other)
earlier_hole (Outside ring vertex) (Outside other_ring other_vertex) less = inl less
earlier_hole (Outside ring vertex) (InHole other_ring other_vertex around) less = inl less
earlier_hole (InHole ring vertex around) (Outside other_ring other_vertex) less = inl less
earlier_hole (InHole ring vertex around) (InHole other_ring other_vertex other_around) less = inl less

-- one of an earlier vertex of the hole
earlier_vertex : (fault other : NestFault) → hole_of fault ≡ hole_of other → vertex_of fault < vertex_of other → ComesFirst (nest_place fault) (nest_place other)
earlier_vertex (Outside ring vertex) (Outside other_ring other_vertex) same less = inr (same, inl less)
earlier_vertex (Outside ring vertex) (InHole other_ring other_vertex around) same less = inr (same, inl less)
earlier_vertex (InHole ring vertex around) (Outside other_ring other_vertex) same less = inr (same, inl less)
earlier_vertex (InHole ring vertex around) (InHole other_ring other_vertex other_around) same less = inr (same, inl less)

-- Where a fault is

-- at a hole
at_hole : (rings : List (List Position)) (fault : NestFault) → IsNestFault rings fault → hole_of fault < length rings
at_hole rings _ (outside ring vertex holds) = holds.hole.before
at_hole rings _ (in_hole ring vertex other holds) = holds.hole.before

-- the vertex is one of the hole's
vertex_within : (rings : List (List Position)) (ring vertex : ℕ) (position : Position) (vertices : List Position) → IsVertexOf rings ring vertex position → slice_get rings ring ≡ Some vertices → vertex < length vertices
vertex_within rings ring vertex position vertices here there =
    let both : Some here.vertices ≡ Some vertices = sym here.there ∙ there in
    let same : here.vertices ≡ vertices = cc both in
    subst (λ (vertices : List Position). vertex < length vertices) same (slice_get_within here.vertices vertex position here.here)

-- at one of the hole's vertices
at_vertex : (rings : List (List Position)) (fault : NestFault) (vertices : List Position) → IsNestFault rings fault → slice_get rings (hole_of fault) ≡ Some vertices → vertex_of fault < length vertices
at_vertex rings _ vertices (outside ring vertex holds) there = vertex_within rings ring vertex holds.position vertices holds.here there
at_vertex rings _ vertices (in_hole ring vertex other holds) there = vertex_within rings ring vertex holds.position vertices holds.here there

-- Hole by hole

-- where no hole has a fault there is none
pub no_hole : (rings : List (List Position)) → ((ring : ℕ) → ring < length rings → (fault : NestFault) → IsOfHole ring fault → ¬ IsNestFault rings fault) → (fault : NestFault) → ¬ IsNestFault rings fault
no_hole rings none fault holds = none (hole_of fault) (at_hole rings fault holds) fault (own_hole fault) holds

-- the first fault of the first hole with one is the first of all
pub first_hole : (rings : List (List Position)) (hole : ℕ) (fault : NestFault) → ((before : ℕ) → before < hole → (fault : NestFault) → IsOfHole before fault → ¬ IsNestFault rings fault) → IsFirstOf rings (IsOfHole hole) fault → IsFirstNestFault rings fault
first_hole rings hole fault none found = record {
  holds = found.holds;
  first = λ other holds. elim (cases_order hole (hole_of other)) [
    | inl same ↦ found.first other (subst (λ (number : ℕ). IsOfHole number other) (sym same) (own_hole other)) holds
    | inr (inl less) ↦ let own = its_hole fault hole found.is in earlier_hole fault other (omega arith)
    | inr (inr more) ↦ absurd (none (hole_of other) more other (own_hole other) holds)
  ];
}

-- Vertex by vertex

-- where no vertex of a hole has a fault the hole has none
pub no_vertex : (rings : List (List Position)) (hole : ℕ) (vertices : List Position) → slice_get rings hole ≡ Some vertices → ((vertex : ℕ) → vertex < length vertices → (fault : NestFault) → IsOfVertex hole vertex fault → ¬ IsNestFault rings fault) → (fault : NestFault) → IsOfHole hole fault → ¬ IsNestFault rings fault
no_vertex rings hole vertices there none fault is holds =
    let here : slice_get rings (hole_of fault) ≡ Some vertices = ap (slice_get rings) (its_hole fault hole is) ∙ there in
    none (vertex_of fault) (at_vertex rings fault vertices holds here) fault (own_vertex fault hole is) holds

-- the first fault of the first vertex with one is the first of the hole
pub first_vertex : (rings : List (List Position)) (hole vertex : ℕ) (fault : NestFault) → ((before : ℕ) → before < vertex → (fault : NestFault) → IsOfVertex hole before fault → ¬ IsNestFault rings fault) → IsFirstOf rings (IsOfVertex hole vertex) fault → IsFirstOf rings (IsOfHole hole) fault
first_vertex rings hole vertex fault none found =
    let own = its_vertex fault hole vertex found.is in
    let number : vertex_of fault ≡ vertex = own.1 in
    let ring : hole_of fault ≡ hole = its_hole fault hole own.0 in
    record {
      is = own.0;
      holds = found.holds;
      first = λ other is holds. elim (cases_order vertex (vertex_of other)) [
        | inl same ↦ found.first other (subst (λ (number : ℕ). IsOfVertex hole number other) (sym same) (own_vertex other hole is)) holds
        | inr (inl less) ↦ earlier_vertex fault other (ring ∙ sym (its_hole other hole is)) (omega arith)
        | inr (inr more) ↦ absurd (none (vertex_of other) more other (own_vertex other hole is) holds)
      ];
    }

-- Of one vertex

-- it has one position, also by numbers that are the same
position_again : (rings : List (List Position)) (hole vertex ring number : ℕ) (position other : Position) → IsVertexOf rings hole vertex position → (ring ≡ hole) × (number ≡ vertex) → IsVertexOf rings ring number other → position ≡ other
position_again rings hole vertex ring number position other here same there =
    one_position rings hole vertex position other here (subst (λ (number : ℕ). IsVertexOf rings hole number other) same.1 (subst (λ (ring : ℕ). IsVertexOf rings ring number other) same.0 there))

-- inside the exterior it isn't outside
not_outside : (rings : List (List Position)) (hole vertex ring number : ℕ) (position : Position) (exterior : List Position) → IsVertexOf rings hole vertex position → slice_get rings 0 ≡ Some exterior → IsInside position exterior → (ring ≡ hole) × (number ≡ vertex) → ¬ IsOutside rings (one_polygon rings) ring number
not_outside rings hole vertex ring number position exterior here there inside same it =
    let positions : position ≡ it.position = position_again rings hole vertex ring number position it.position here same it.here in
    let both : Some exterior ≡ Some it.exterior = sym there ∙ it.there in
    let exteriors : exterior ≡ it.exterior = cc both in
    it.outside (subst (λ (position : Position). IsInside position it.exterior) positions (subst (λ (ring : List Position). IsInside position ring) exteriors inside))

-- a hole that it is in is around it
is_around : (rings : List (List Position)) (hole vertex ring number other : ℕ) (position : Position) → IsVertexOf rings hole vertex position → (ring ≡ hole) × (number ≡ vertex) → IsInHole rings (one_polygon rings) ring number other → IsHoleAround rings hole position other
is_around rings hole vertex ring number other position here same it = record {
  hole = it.other_hole.following;
  different = λ own. it.different (own ∙ sym same.0);
  around = it.around;
  there = it.there;
  inside = subst (λ (position : Position). IsInside position it.around) (sym (position_again rings hole vertex ring number position it.position here same it.here)) it.inside;
}

-- a ring that it isn't inside is none around it
pub not_around : (rings : List (List Position)) (hole other : ℕ) (position : Position) (vertices : List Position) → slice_get rings other ≡ Some vertices → ¬ IsInside position vertices → ¬ IsHoleAround rings hole position other
not_around rings hole other position vertices there not it =
    let both : Some it.around ≡ Some vertices = sym it.there ∙ there in
    let same : it.around ≡ vertices = cc both in
    not (subst (IsInside position) same it.inside)

-- a hole around it is one of the rings
pub no_ring_around : (rings : List (List Position)) (hole : ℕ) (position : Position) → ((other : ℕ) → other < length rings → ¬ IsHoleAround rings hole position other) → (other : ℕ) → ¬ IsHoleAround rings hole position other
no_ring_around rings hole position none other it = none other (slice_get_within rings other it.around it.there) it

-- inside the exterior, and in no other hole, it has no fault
pub no_hole_around : (rings : List (List Position)) (hole vertex : ℕ) (position : Position) (exterior : List Position) → IsVertexOf rings hole vertex position → slice_get rings 0 ≡ Some exterior → IsInside position exterior → ((other : ℕ) → ¬ IsHoleAround rings hole position other) → (fault : NestFault) → IsOfVertex hole vertex fault → ¬ IsNestFault rings fault
no_hole_around rings hole vertex position exterior here there inside none _ is (outside ring number it) = not_outside rings hole vertex ring number position exterior here there inside is it
no_hole_around rings hole vertex position exterior here there inside none _ is (in_hole ring number other it) = none other (is_around rings hole vertex ring number other position here is it)

-- that it is outside comes before all its other faults
outside_first : (hole vertex : ℕ) (other : NestFault) → IsOfVertex hole vertex other → ComesFirst (nest_place (Outside hole vertex)) (nest_place other)
outside_first hole vertex (Outside ring number) is = inr (sym is.0, inr (sym is.1, inr (refl, inr (refl, tt))))
outside_first hole vertex (InHole ring number other) is = inr (sym is.0, inr (sym is.1, inl (omega arith)))

-- where it isn't inside the exterior that is its first fault
pub not_inside : (rings : List (List Position)) (hole vertex : ℕ) (position : Position) (exterior : List Position) → 0 < hole → hole < length rings → IsVertexOf rings hole vertex position → slice_get rings 0 ≡ Some exterior → ¬ IsInside position exterior → IsFirstOf rings (IsOfVertex hole vertex) (Outside hole vertex)
not_inside rings hole vertex position exterior following before here there not = record {
  is = (refl, refl);
  holds = outside hole vertex (record { hole = record { following = following; before = before }; position = position; here = here; exterior = exterior; there = there; outside = not });
  first = λ other is holds. outside_first hole vertex other is;
}

-- that it is in a hole comes before it is in a later one
up_to : (hole vertex other ring number another : ℕ) → (ring ≡ hole) × (number ≡ vertex) → other ≤ another → ComesFirst (nest_place (InHole hole vertex other)) (nest_place (InHole ring number another))
up_to hole vertex other ring number another is first = elim (cases_lt other another) [
  | inl less ↦ inr (sym is.0, inr (sym is.1, inr (refl, inl less)))
  | inr same ↦ inr (sym is.0, inr (sym is.1, inr (refl, inr (omega arith, tt))))
]

-- the first hole around it is answered, where it is inside the exterior
around_first : (rings : List (List Position)) (hole vertex other : ℕ) (position : Position) (exterior : List Position) → IsVertexOf rings hole vertex position → slice_get rings 0 ≡ Some exterior → IsInside position exterior → IsFirstHoleAround rings hole position other → (fault : NestFault) → IsOfVertex hole vertex fault → IsNestFault rings fault → ComesFirst (nest_place (InHole hole vertex other)) (nest_place fault)
around_first rings hole vertex other position exterior here there inside found _ is (outside ring number it) = absurd (not_outside rings hole vertex ring number position exterior here there inside is it)
around_first rings hole vertex other position exterior here there inside found _ is (in_hole ring number another it) = up_to hole vertex other ring number another is (found.first another (is_around rings hole vertex ring number another position here is it))

-- and is its first fault
pub in_hole_around : (rings : List (List Position)) (hole vertex other : ℕ) (position : Position) (exterior : List Position) → 0 < hole → hole < length rings → IsVertexOf rings hole vertex position → slice_get rings 0 ≡ Some exterior → IsInside position exterior → IsFirstHoleAround rings hole position other → IsFirstOf rings (IsOfVertex hole vertex) (InHole hole vertex other)
in_hole_around rings hole vertex other position exterior following before here there inside found =
    let around = found.around in
    record {
      is = (refl, refl);
      holds = in_hole hole vertex other (record {
        hole = record { following = following; before = before };
        position = position;
        here = here;
        other_hole = record { following = around.hole; before = slice_get_within rings other around.around around.there };
        different = around.different;
        around = around.around;
        there = around.there;
        inside = around.inside;
      });
      first = around_first rings hole vertex other position exterior here there inside found;
    }
