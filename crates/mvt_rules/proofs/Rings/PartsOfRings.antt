-- What is said of a part of a feature's rings is said of all of them, with the number of its first ring added.
use Rattle.std.proofs.Common.{◌≡◌, ◌↔◌, ℕ, zero, suc, ◌+◌, ◌-◌, ◌<◌, ◌≤◌, List, [], ◌∷◌, length, slice_get, take, drop, refl, sym, ◌∙◌, ap, arith}
use Rattle.std.proofs.lemmas.List.{length-drop, length-take}
use Rattle.mvt_plane.specs.Position.{Position}
use Rattle.mvt_plane.specs.Geometry.RationalPoint.{RationalPoint}
use Rattle.mvt_rules.specs.Polygon.{PolygonRings, IsRingOf, IsHoleOf}
use Rattle.mvt_rules.specs.Meeting.{IsEdgeOf, Follows, IsShared, forward, backward, MeetsWrongly}
use Rattle.mvt_fault.specs.declared.ring.RingEdge.{RingEdge}
use Rattle.mvt_rules.specs.Nesting.{IsVertexOf, IsOutside, IsInHole}
use Rattle.mvt_rules.specs.Parts.Rings.{part_of, within_part, in_whole}
use Rattle.mvt_plane.specs.declared.geometry.edge.Edge.{Edge}

-- Rings

-- in a list's beginning
ring_of_beginning : (count : ℕ) (rings : List (List Position)) (ring : ℕ) → ring < count → slice_get (take count rings) ring ≡ slice_get rings ring
ring_of_beginning zero rings ring within = absurd (omega arith)
ring_of_beginning (suc count) [] ring within = refl
ring_of_beginning (suc count) (first ∷ rest) zero within = refl
ring_of_beginning (suc count) (first ∷ rest) (suc ring) within = ring_of_beginning count rest ring (omega arith)

-- after it
ring_of_rest : (from : ℕ) (rings : List (List Position)) (ring : ℕ) → slice_get (drop from rings) ring ≡ slice_get rings (from + ring)
ring_of_rest zero rings ring = ap (slice_get rings) (omega arith)
ring_of_rest (suc from) [] ring = refl
ring_of_rest (suc from) (first ∷ rest) ring =
    let number : suc (from + ring) ≡ suc from + ring = omega arith in
    ring_of_rest from rest ring ∙ ap (slice_get (first ∷ rest)) number

-- in a part
pub ring_of_part : (rings : List (List Position)) (it : PolygonRings) (ring : ℕ) → ring < it.after - it.exterior → slice_get (part_of rings it) ring ≡ slice_get rings (it.exterior + ring)
ring_of_part rings it ring within = ring_of_beginning (it.after - it.exterior) (drop it.exterior rings) ring within ∙ ring_of_rest it.exterior rings ring

-- their count
pub count_of_part : (rings : List (List Position)) (it : PolygonRings) → it.after ≤ length rings → length (part_of rings it) ≡ it.after - it.exterior
count_of_part rings it within = search (arith, length-drop, length-take)

-- each ring of a polygon is in its part
pub number_in_part : (it : PolygonRings) (ring : ℕ) → IsRingOf it ring → (own : ℕ) × (own < it.after - it.exterior) × (ring ≡ it.exterior + own)
number_in_part it ring of_it =
    let from = of_it.from in
    let before = of_it.before in
    (ring - it.exterior, omega arith, omega arith)

-- Edges

-- an edge
pub edge_of_part : (rings : List (List Position)) (it : PolygonRings) (number : RingEdge) (edge : Edge) → number.ring < it.after - it.exterior → IsEdgeOf (part_of rings it) number edge ↔ IsEdgeOf rings (in_whole it.exterior number) edge
edge_of_part rings it number edge within =
    let same = ring_of_part rings it number.ring within in (
      λ there. record { ring = there.ring; there = sym same ∙ there.there; here = there.here },
      λ there. record { ring = there.ring; there = same ∙ there.there; here = there.here },
    )

-- one that follows another
follows_in_part : (rings : List (List Position)) (it : PolygonRings) (first second : RingEdge) (vertex : Position) → first.ring < it.after - it.exterior → Follows (part_of rings it) first second vertex ↔ Follows rings (in_whole it.exterior first) (in_whole it.exterior second) vertex
follows_in_part rings it first second vertex within =
    let same = ring_of_part rings it first.ring within in (
      λ follows. record { ring = follows.ring; there = sym same ∙ follows.there; same = ap (λ ring. it.exterior + ring) follows.same; next = follows.next; between = follows.between },
      λ follows. let rings_same : it.exterior + second.ring ≡ it.exterior + first.ring = follows.same in
          record { ring = follows.ring; there = same ∙ follows.there; same = omega arith; next = follows.next; between = follows.between },
    )

-- so for neighbours
into_whole : (rings : List (List Position)) (it : PolygonRings) (first second : RingEdge) (vertex : Position) → first.ring < it.after - it.exterior → second.ring < it.after - it.exterior → IsShared (part_of rings it) first second vertex → IsShared rings (in_whole it.exterior first) (in_whole it.exterior second) vertex
into_whole rings it first second vertex first_within second_within (forward follows) = forward ((follows_in_part rings it first second vertex first_within).0 follows)
into_whole rings it first second vertex first_within second_within (backward follows) = backward ((follows_in_part rings it second first vertex second_within).0 follows)

-- and back
into_part : (rings : List (List Position)) (it : PolygonRings) (first second : RingEdge) (vertex : Position) → first.ring < it.after - it.exterior → second.ring < it.after - it.exterior → IsShared rings (in_whole it.exterior first) (in_whole it.exterior second) vertex → IsShared (part_of rings it) first second vertex
into_part rings it first second vertex first_within second_within (forward follows) = forward ((follows_in_part rings it first second vertex first_within).1 follows)
into_part rings it first second vertex first_within second_within (backward follows) = backward ((follows_in_part rings it second first vertex second_within).1 follows)

-- the vertex that neighbours share
pub shared_in_part : (rings : List (List Position)) (it : PolygonRings) (first second : RingEdge) (vertex : Position) → first.ring < it.after - it.exterior → second.ring < it.after - it.exterior → IsShared (part_of rings it) first second vertex ↔ IsShared rings (in_whole it.exterior first) (in_whole it.exterior second) vertex
shared_in_part rings it first second vertex first_within second_within =
    (into_whole rings it first second vertex first_within second_within, into_part rings it first second vertex first_within second_within)

-- numbers that are one in the whole are one in the part
same_number : (from : ℕ) (first second : RingEdge) → in_whole from first ≡ in_whole from second → first ≡ second
same_number from first second same =
    let rings : from + first.ring ≡ from + second.ring = ap (λ (number : RingEdge). number.ring) same in
    let ring : first.ring ≡ second.ring = omega arith in
    let edge : first.edge ≡ second.edge = ap (λ (number : RingEdge). number.edge) same in
    λ i. record { ring = ring i; edge = edge i }

-- a wrong meeting
pub meeting_in_part : (rings : List (List Position)) (it : PolygonRings) (first second : RingEdge) (point : RationalPoint) → first.ring < it.after - it.exterior → second.ring < it.after - it.exterior → MeetsWrongly (part_of rings it) first second point ↔ MeetsWrongly rings (in_whole it.exterior first) (in_whole it.exterior second) point
meeting_in_part rings it first second point first_within second_within = (
  λ meets. record {
    different = λ same. meets.different (same_number it.exterior first second same);
    one = meets.one;
    one_there = (edge_of_part rings it first meets.one first_within).0 meets.one_there;
    other = meets.other;
    other_there = (edge_of_part rings it second meets.other second_within).0 meets.other_there;
    on_one = meets.on_one;
    on_other = meets.on_other;
    forbidden = λ vertex shared. meets.forbidden vertex (into_part rings it first second vertex first_within second_within shared);
  },
  λ meets. record {
    different = λ same. meets.different (ap (in_whole it.exterior) same);
    one = meets.one;
    one_there = (edge_of_part rings it first meets.one first_within).1 meets.one_there;
    other = meets.other;
    other_there = (edge_of_part rings it second meets.other second_within).1 meets.other_there;
    on_one = meets.on_one;
    on_other = meets.on_other;
    forbidden = λ vertex shared. meets.forbidden vertex (into_whole rings it first second vertex first_within second_within shared);
  },
)

-- Holes

-- a hole
hole_in_part : (it : PolygonRings) (ring : ℕ) → IsHoleOf (within_part it) ring ↔ IsHoleOf it (it.exterior + ring)
hole_in_part it ring = (
  λ hole. let following = hole.following in let before = hole.before in record { following = omega arith; before = omega arith },
  λ hole. let following = hole.following in let before = hole.before in record { following = omega arith; before = omega arith },
)

-- a vertex
vertex_in_part : (rings : List (List Position)) (it : PolygonRings) (ring vertex : ℕ) (position : Position) → ring < it.after - it.exterior → IsVertexOf (part_of rings it) ring vertex position ↔ IsVertexOf rings (it.exterior + ring) vertex position
vertex_in_part rings it ring vertex position within =
    let same = ring_of_part rings it ring within in (
      λ there. record { vertices = there.vertices; there = sym same ∙ there.there; here = there.here },
      λ there. record { vertices = there.vertices; there = same ∙ there.there; here = there.here },
    )

-- the first ring of the part is the exterior, where it has a hole
exterior_in_part : (rings : List (List Position)) (it : PolygonRings) (ring : ℕ) → ring < it.after - it.exterior → slice_get (part_of rings it) 0 ≡ slice_get rings it.exterior
exterior_in_part rings it ring within = ring_of_part rings it 0 (omega arith) ∙ ap (slice_get rings) (omega arith)

-- a vertex that isn't inside the exterior
pub outside_in_part : (rings : List (List Position)) (it : PolygonRings) (ring vertex : ℕ) → IsOutside (part_of rings it) (within_part it) ring vertex ↔ IsOutside rings it (it.exterior + ring) vertex
outside_in_part rings it ring vertex = (
  λ outside. let within : ring < it.after - it.exterior = outside.hole.before in
      record {
        hole = (hole_in_part it ring).0 outside.hole;
        position = outside.position;
        here = (vertex_in_part rings it ring vertex outside.position within).0 outside.here;
        exterior = outside.exterior;
        there = sym (exterior_in_part rings it ring within) ∙ outside.there;
        outside = outside.outside;
      },
  λ outside. let hole = (hole_in_part it ring).1 outside.hole in
      let within : ring < it.after - it.exterior = hole.before in
      record {
        hole = hole;
        position = outside.position;
        here = (vertex_in_part rings it ring vertex outside.position within).1 outside.here;
        exterior = outside.exterior;
        there = exterior_in_part rings it ring within ∙ outside.there;
        outside = outside.outside;
      },
)

-- one that is inside another hole
pub in_hole_in_part : (rings : List (List Position)) (it : PolygonRings) (ring vertex other : ℕ) → IsInHole (part_of rings it) (within_part it) ring vertex other ↔ IsInHole rings it (it.exterior + ring) vertex (it.exterior + other)
in_hole_in_part rings it ring vertex other = (
  λ inside. let within : ring < it.after - it.exterior = inside.hole.before in
      let other_within : other < it.after - it.exterior = inside.other_hole.before in
      record {
        hole = (hole_in_part it ring).0 inside.hole;
        position = inside.position;
        here = (vertex_in_part rings it ring vertex inside.position within).0 inside.here;
        other_hole = (hole_in_part it other).0 inside.other_hole;
        different = λ same. inside.different (omega arith);
        around = inside.around;
        there = sym (ring_of_part rings it other other_within) ∙ inside.there;
        inside = inside.inside;
      },
  λ inside. let hole = (hole_in_part it ring).1 inside.hole in
      let other_hole = (hole_in_part it other).1 inside.other_hole in
      let within : ring < it.after - it.exterior = hole.before in
      let other_within : other < it.after - it.exterior = other_hole.before in
      record {
        hole = hole;
        position = inside.position;
        here = (vertex_in_part rings it ring vertex inside.position within).1 inside.here;
        other_hole = other_hole;
        different = λ same. inside.different (ap (λ number. it.exterior + number) same);
        around = inside.around;
        there = ring_of_part rings it other other_within ∙ inside.there;
        inside = inside.inside;
      },
)
