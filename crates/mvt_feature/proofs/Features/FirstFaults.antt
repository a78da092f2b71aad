-- Faults of the first polygons of a feature, by the first rings and by all.
use Rattle.std.proofs.Common.{◌≡◌, ℕ, zero, suc, ◌+◌, ◌-◌, ◌<◌, ◌≤◌, inl, inr, List, [], ◌∷◌, take, drop, refl, sym, ◌∙◌, ap, subst, arith}
use Rattle.std.proofs.lemmas.Bool.{cases_lt}
use Rattle.std.proofs.lemmas.List.{drop-take}
use Rattle.mvt_rules.specs.Nesting.{IsVertexOf, IsInsidePolygon}
use Rattle.mvt_rules.specs.Parts.Rings.{part_of}
use Rattle.mvt_rules.specs.Polygon.{PolygonRings, IsPolygon}
use Rattle.mvt_plane.specs.Position.{Position}
use Rattle.mvt_polygon.specs.Apart.{IsApartFault, IsFirstApartFault}
use Rattle.mvt_feature.specs.Feature.{IsClear, IsPlaced}
use Rattle.mvt_feature.specs.Calls.FeatureParts.{IsInNoLater}
use Rattle.mvt_sweep.specs.Meeting.{NoMeeting}
use Rattle.mvt_polygon.specs.Nesting.{IsNestFault}
use Rattle.mvt_polygon.specs.declared.apart.ApartFault.{ApartFault}
use Rattle.mvt_polygon.specs.declared.nesting.NestFault.{NestFault}
use Rattle.mvt_feature.proofs.Features.FirstMeetings.{none_of_its_front}
use Rattle.mvt_feature.proofs.Features.FirstPolygons.{AreFirst}
use Rattle.mvt_feature.proofs.Features.FirstRings.{begins_among_first, ends_in_first, in_first, of_first, polygon_in_first, polygon_of_first}

-- The rings of a polygon

-- fewer of the first are the first
first_of_more : {X : Type 0} (fewer more : ℕ) (xs : List X) → fewer ≤ more → take fewer (take more xs) ≡ take fewer xs
first_of_more zero more xs within = refl
first_of_more (suc fewer) zero xs within = absurd (omega arith)
first_of_more (suc fewer) (suc more) [] within = refl
first_of_more (suc fewer) (suc more) (x ∷ rest) within = ap (λ (xs : List _). x ∷ xs) (first_of_more fewer more rest (omega arith))

-- a polygon that ends among the first rings has the same rings there
pub part_in_first : (rings : List (List Position)) (count : ℕ) (it : PolygonRings) → it.exterior < it.after → it.after ≤ count → part_of (take count rings) it ≡ part_of rings it
part_in_first rings count it further within =
    let size : it.exterior + (count - it.exterior) ≡ count = omega arith in
    let rest : drop it.exterior (take count rings) ≡ take (count - it.exterior) (drop it.exterior rings) =
    ap (λ (n : ℕ). drop it.exterior (take n rings)) (sym size) ∙ drop-take it.exterior (count - it.exterior) rings in
    ap (take (it.after - it.exterior)) rest ∙ first_of_more (it.after - it.exterior) (count - it.exterior) (drop it.exterior rings) (omega arith)

-- Vertices inside other polygons

-- a vertex
vertex_of_first : (rings : List (List Position)) (count ring vertex : ℕ) (position : Position) → IsVertexOf (take count rings) ring vertex position → IsVertexOf rings ring vertex position
vertex_of_first rings count ring vertex position here = record { vertices = here.vertices; there = (of_first count rings ring here.vertices here.there).1; here = here.here }

-- and back
vertex_in_first : (rings : List (List Position)) (count ring vertex : ℕ) (position : Position) → ring < count → IsVertexOf rings ring vertex position → IsVertexOf (take count rings) ring vertex position
vertex_in_first rings count ring vertex position within here = record { vertices = here.vertices; there = in_first count rings ring within ∙ here.there; here = here.here }

-- a position inside a polygon
inside_of_first : (rings : List (List Position)) (count : ℕ) (its : PolygonRings) (position : Position) → its.after ≤ count → IsInsidePolygon (take count rings) its position → IsInsidePolygon rings its position
inside_of_first rings count its position within inside = record {
  around = inside.around;
  there = (of_first count rings its.exterior inside.around inside.there).1;
  inside = inside.inside;
  in_no_hole = λ holes.
      let before = holes.is.before in
      inside.in_no_hole (record { hole = holes.hole; is = holes.is; vertices = holes.vertices; there = in_first count rings holes.hole (omega arith) ∙ holes.there; inside = holes.inside });
}

-- and back
inside_in_first : (rings : List (List Position)) (count : ℕ) (its : PolygonRings) (position : Position) → its.exterior < count → IsInsidePolygon rings its position → IsInsidePolygon (take count rings) its position
inside_in_first rings count its position within inside = record {
  around = inside.around;
  there = in_first count rings its.exterior within ∙ inside.there;
  inside = inside.inside;
  in_no_hole = λ holes.
      inside.in_no_hole (record { hole = holes.hole; is = holes.is; vertices = holes.vertices; there = (of_first count rings holes.hole holes.vertices holes.there).1; inside = holes.inside });
}

-- a vertex of one polygon inside another
pub apart_of_first : (rings : List (List Position)) (count ring_count polygon vertex other : ℕ) → AreFirst rings count ring_count → IsApartFault (take ring_count rings) polygon vertex other → IsApartFault rings polygon vertex other
apart_of_first rings count ring_count polygon vertex other are fault =
    let its = fault.other_rings in
    let is_it = polygon_of_first rings ring_count polygon fault.polygon_rings are.whole fault.there in
    let is_its = polygon_of_first rings ring_count other its are.whole fault.other_there in
    let begins = begins_among_first rings ring_count other its are.whole.within fault.other_there in
    record {
      polygon_rings = fault.polygon_rings;
      there = is_it;
      other_rings = its;
      other_there = is_its;
      inside = record {
        position = fault.inside.position;
        here = vertex_of_first rings ring_count fault.polygon_rings.exterior vertex fault.inside.position fault.inside.here;
        different = fault.inside.different;
        inside = inside_of_first rings ring_count its fault.inside.position (ends_in_first rings ring_count other its are.whole begins is_its) fault.inside.inside;
      };
    }

-- and back, where both are among the first
pub apart_in_first : (rings : List (List Position)) (count ring_count polygon vertex other : ℕ) → AreFirst rings count ring_count → polygon < count → other < count → IsApartFault rings polygon vertex other → IsApartFault (take ring_count rings) polygon vertex other
apart_in_first rings count ring_count polygon vertex other are within other_within fault =
    let its = fault.other_rings in
    let begins = are.begins polygon fault.polygon_rings fault.there within in
    let its_begins = are.begins other its fault.other_there other_within in
    record {
      polygon_rings = fault.polygon_rings;
      there = polygon_in_first rings ring_count polygon fault.polygon_rings are.whole begins fault.there;
      other_rings = its;
      other_there = polygon_in_first rings ring_count other its are.whole its_begins fault.other_there;
      inside = record {
        position = fault.inside.position;
        here = vertex_in_first rings ring_count fault.polygon_rings.exterior vertex fault.inside.position begins fault.inside.here;
        different = fault.inside.different;
        inside = inside_in_first rings ring_count its fault.inside.position its_begins fault.inside.inside;
      };
    }

-- Polygons that are where they should be

-- where no vertex is inside another one of the first polygons, nor inside a later one, none is inside any
pub alone_in_all : (rings : List (List Position)) (count ring_count polygon : ℕ) → AreFirst rings count ring_count → polygon < count → ((vertex other : ℕ) → ¬ IsApartFault (take ring_count rings) polygon vertex other) → IsInNoLater rings count polygon
    → (vertex other : ℕ) → ¬ IsApartFault rings polygon vertex other
alone_in_all rings count ring_count polygon are within alone later vertex other fault = elim (cases_lt other count) [
  | inl before ↦ alone vertex other (apart_in_first rings count ring_count polygon vertex other are within before fault)
  | inr following ↦ later vertex other following fault
]

-- where the first rings have no fault of a hole, the feature has none there
pub nested_in_all : (rings : List (List Position)) (ring_count : ℕ) (it : PolygonRings) → it.exterior < it.after → it.after ≤ ring_count → ((fault : NestFault) → ¬ IsNestFault (part_of (take ring_count rings) it) fault)
    → (fault : NestFault) → ¬ IsNestFault (part_of rings it) fault
nested_in_all rings ring_count it further within none = subst (λ (parts : List (List Position)). (fault : NestFault) → ¬ IsNestFault parts fault) (part_in_first rings ring_count it further within) none

-- one of the first polygons is clear where no edges of the first rings meet, and it is where it should be
pub clear_in_all : (rings : List (List Position)) (count ring_count polygon : ℕ) (it : PolygonRings) → AreFirst rings count ring_count → NoMeeting (take ring_count rings) → polygon < count → IsPolygon rings polygon it
    → IsPlaced (take ring_count rings) polygon it → IsInNoLater rings count polygon → IsClear rings polygon it
clear_in_all rings count ring_count polygon it are none before is_it placed later =
    let within = ends_in_first rings ring_count polygon it are.whole (are.begins polygon it is_it before) is_it in
    record {
      apart = none_of_its_front rings ring_count it within none;
      placed = record {
        nested = nested_in_all rings ring_count it is_it.further within placed.nested;
        alone = alone_in_all rings count ring_count polygon are before placed.alone later;
      };
    }

-- the first fault among the first polygons, at the first vertex, comes before those with later polygons
pub first_of_all : (rings : List (List Position)) (count ring_count polygon : ℕ) (fault : ApartFault) → AreFirst rings count ring_count → polygon < count → fault.vertex ≡ 0 → fault.other < count → IsFirstApartFault (take ring_count rings) polygon fault
    → IsFirstApartFault rings polygon fault
first_of_all rings count ring_count polygon fault are before beginning other_before least = record {
  holds = apart_of_first rings count ring_count polygon fault.vertex fault.other are least.holds;
  first = λ vertex other its. elim (cases_lt other count) [
    | inl within ↦ least.first vertex other (apart_in_first rings count ring_count polygon vertex other are before within its)
    | inr following ↦ elim (cases_lt 0 vertex) [
      | inl later ↦ inl (omega arith)
      | inr same ↦ inr (omega arith, omega arith)
    ]
  ];
}
