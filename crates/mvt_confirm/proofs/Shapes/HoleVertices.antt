-- Vertices of holes that aren't where they should be, by tests whether they are inside other rings.
use Rattle.std.proofs.Common.{◌≡◌, ◌≢◌, ◌↔◌, ℕ, Bool, not, IsTrue, List, slice_get, Some, sym, ◌∙◌, ap, subst}
use Rattle.std.proofs.lemmas.Bool.Decides.{Decides-not}
use Rattle.std.proofs.lemmas.Option.{same_Some}
use Rattle.mvt_plane.specs.Geometry.Inside.{IsInside}
use Rattle.mvt_rules.specs.Nesting.{IsVertexOf}
use Rattle.mvt_rules.specs.Polygon.{PolygonRings, IsPolygon, IsHoleOf}
use Rattle.mvt_plane.specs.Position.{Position}
use Rattle.mvt_rules.specs.Ring.{ArePolygonRings}
use Rattle.mvt_rules.proofs.Rings.EdgePairs.{one_position}
use Rattle.mvt_rules.proofs.Rings.SamePolygons.{same_polygon}
use Rattle.mvt_rules.specs.PolygonFault.{IsVertexOutside, IsVertexInHole}
use Rattle.mvt_confirm.proofs.Shapes.PolygonMembers.{IsHole, exterior_in, hole_in, vertices_there}

-- what tests decide of the position of a vertex
abbrev DecidesInside : List (List Position) → ℕ → Position → Bool → Type 0
DecidesInside rings ring position inside = (vertices : List Position) → slice_get rings ring ≡ Some vertices → IsTrue inside ↔ IsInside position vertices

-- a hole of a polygon with this exterior
abbrev IsHoleRound : List (List Position) → ℕ → ℕ → ℕ → Type 0
IsHoleRound rings polygon ring exterior = (it : PolygonRings) × IsPolygon rings polygon it × IsHoleOf it ring × (it.exterior ≡ exterior)

-- a ring of one number is one
pub inside_of_number : {Found : Type 0} (rings : List (List Position)) (ring : ℕ) (position : Position) (vertices its : List Position) → slice_get rings ring ≡ Some vertices
    → slice_get rings ring ≡ Some its → Found ↔ IsInside position its → Found ↔ IsInside position vertices
inside_of_number {Found} rings ring position vertices its there is decided =
    subst (λ (vertices : List Position). Found ↔ IsInside position vertices) (same_Some its vertices (sym is ∙ there)) decided

-- Outside the exterior

-- where the test says that the vertex isn't inside
outside_by_test : (rings : List (List Position)) (polygon ring vertex exterior : ℕ) (position : Position) (inside : Bool) → ArePolygonRings rings → IsHoleRound rings polygon ring exterior
    → IsVertexOf rings ring vertex position → DecidesInside rings exterior position inside → ¬ IsTrue inside → IsVertexOutside rings polygon ring vertex
outside_by_test rings polygon ring vertex exterior position inside sound hole here decides outside =
    let around = vertices_there rings polygon hole.0.exterior hole.0 hole.1 (exterior_in rings polygon hole.0 hole.1) in
    let there : slice_get rings exterior ≡ Some around.0 = subst (λ (number : ℕ). slice_get rings number ≡ Some around.0) hole.3 around.1 in
    record {
      polygon_rings = hole.0;
      of = record { sound = sound; there = hole.1 };
      outside = record {
        hole = hole.2;
        position = position;
        here = here;
        exterior = around.0;
        there = around.1;
        outside = λ within. outside ((decides around.0 there).1 within);
      };
    }

-- and only there
test_by_outside : (rings : List (List Position)) (polygon ring vertex exterior : ℕ) (position : Position) (inside : Bool) → IsHoleRound rings polygon ring exterior
    → IsVertexOf rings ring vertex position → DecidesInside rings exterior position inside → IsVertexOutside rings polygon ring vertex → ¬ IsTrue inside
test_by_outside rings polygon ring vertex exterior position inside hole here decides is within =
    let one : is.polygon_rings ≡ hole.0 = same_polygon rings polygon is.polygon_rings hole.0 is.of.there hole.1 in
    let number : is.polygon_rings.exterior ≡ exterior = ap (λ (it : PolygonRings). it.exterior) one ∙ hole.3 in
    let there : slice_get rings exterior ≡ Some is.outside.exterior = subst (λ (number : ℕ). slice_get rings number ≡ Some is.outside.exterior) number is.outside.there in
    let same : position ≡ is.outside.position = one_position rings ring vertex position is.outside.position here is.outside.here in
    is.outside.outside (subst (λ (at : Position). IsInside at is.outside.exterior) same ((decides is.outside.exterior there).0 within))

-- so the test decides whether a vertex of a hole is outside the exterior
pub outside_decided : (rings : List (List Position)) (polygon ring vertex exterior : ℕ) (position : Position) (inside : Bool) → ArePolygonRings rings → IsHoleRound rings polygon ring exterior
    → IsVertexOf rings ring vertex position → DecidesInside rings exterior position inside → IsTrue (not inside) ↔ IsVertexOutside rings polygon ring vertex
outside_decided rings polygon ring vertex exterior position inside sound hole here decides =
    let negated = Decides-not {P = IsTrue inside} inside (λ it. it, λ it. it) in (
      λ test. outside_by_test rings polygon ring vertex exterior position inside sound hole here decides (negated.0 test),
      λ is. negated.1 (test_by_outside rings polygon ring vertex exterior position inside hole here decides is),
    )

-- Inside another hole

-- where the test says so
in_hole_by_test : (rings : List (List Position)) (polygon ring vertex other : ℕ) (position : Position) (inside : Bool) → ArePolygonRings rings → ring ≢ other → IsHole rings polygon ring
    → IsHole rings polygon other → IsVertexOf rings ring vertex position → DecidesInside rings other position inside → IsTrue inside → IsVertexInHole rings polygon ring vertex other
in_hole_by_test rings polygon ring vertex other position inside sound different hole other_hole here decides within =
    let around = vertices_there rings polygon other other_hole.0 other_hole.1 (hole_in other_hole.0 other other_hole.2) in
    let one : other_hole.0 ≡ hole.0 = same_polygon rings polygon other_hole.0 hole.0 other_hole.1 hole.1 in
    record {
      polygon_rings = hole.0;
      of = record { sound = sound; there = hole.1 };
      inside = record {
        hole = hole.2;
        position = position;
        here = here;
        other_hole = subst (λ (it : PolygonRings). IsHoleOf it other) one other_hole.2;
        different = λ same. different (sym same);
        around = around.0;
        there = around.1;
        inside = (decides around.0 around.1).0 within;
      };
    }

-- and only there
test_by_in_hole : (rings : List (List Position)) (polygon ring vertex other : ℕ) (position : Position) (inside : Bool) → IsVertexOf rings ring vertex position → DecidesInside rings other position inside
    → IsVertexInHole rings polygon ring vertex other → IsTrue inside
test_by_in_hole rings polygon ring vertex other position inside here decides is =
    let same : is.inside.position ≡ position = one_position rings ring vertex is.inside.position position is.inside.here here in
    (decides is.inside.around is.inside.there).1 (subst (λ (at : Position). IsInside at is.inside.around) same is.inside.inside)

-- so the test decides whether a vertex of a hole is inside another hole
pub in_hole_decided : (rings : List (List Position)) (polygon ring vertex other : ℕ) (position : Position) (inside : Bool) → ArePolygonRings rings → ring ≢ other → IsHole rings polygon ring
    → IsHole rings polygon other → IsVertexOf rings ring vertex position → DecidesInside rings other position inside → IsTrue inside ↔ IsVertexInHole rings polygon ring vertex other
in_hole_decided rings polygon ring vertex other position inside sound different hole other_hole here decides = (
  in_hole_by_test rings polygon ring vertex other position inside sound different hole other_hole here decides,
  test_by_in_hole rings polygon ring vertex other position inside here decides,
)
