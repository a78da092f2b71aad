-- Where no edges meet wrongly each vertex of a ring shows which other rings are around that.
use Rattle.std.proofs.Common.{◌≡◌, ◌≢◌, ◌⊎◌, ◌↔◌, inl, inr, ℕ, ◌<◌, Bool, true, false, IsTrue, List, [], length, get_or, slice_get, Some, refl, sym, ◌∙◌, ap, subst, arith}
use Rattle.std.proofs.Math.Decide.{map_dec}
use Rattle.std.proofs.lemmas.Bool.{cases_eq}
use Rattle.std.proofs.lemmas.Option.{none-some, same_Some, slice_get_within, slice_get-get_or}
use Rattle.mvt_plane.specs.Geometry.Inside.{PassesOver, IsInside}
use Rattle.mvt_rules.specs.Nesting.{IsVertexOf}
use Rattle.mvt_plane.specs.Position.{Position, origin}
use Rattle.mvt_plane.specs.Geometry.Ring.{edges}
use Rattle.mvt_plane.specs.declared.geometry.edge.Edge.{Edge}
use Rattle.mvt_plane.proofs.Insides.EdgeParity.{test, test_decides, odd, odd_decides}
use Rattle.mvt_plane.proofs.Insides.EdgeRows.{passes_over_decide}
use Rattle.mvt_plane.proofs.Insides.InsideAsAWhole.{one_vertex_decides}
use Rattle.mvt_plane.proofs.Insides.InsideParity.{no_truth}
use Rattle.mvt_sweep.specs.Meeting.{NoMeeting}
use Rattle.mvt_sweep.specs.Rings.{AreProperRings}
use Rattle.mvt_sweep.specs.RingsAround.{IsAround}
use Rattle.mvt_feature.proofs.Placed.AroundEachOther.{found_or_not}
use Rattle.mvt_sweep.proofs.Vertices.SharedVertices.{nothing_in_common}
use Rattle.mvt_rules.proofs.Rings.EdgePairs.{one_position}

-- ---- vertices

-- a ring with a vertex has a first one
pub first_vertex_of : (rings : List (List Position)) (ring vertex : ℕ) (position : Position) → IsVertexOf rings ring vertex position → (first : Position) × IsVertexOf rings ring 0 first
first_vertex_of rings ring vertex position here =
    let within = slice_get_within here.vertices vertex position here.here in
    (get_or here.vertices 0 position, record { vertices = here.vertices; there = here.there; here = slice_get-get_or here.vertices 0 position (omega arith) })

-- so has each proper one
pub first_vertex_there : (rings : List (List Position)) (ring : ℕ) → AreProperRings rings → ring < length rings → (first : Position) × IsVertexOf rings ring 0 first
first_vertex_there rings ring proper within =
    let vertices = get_or rings ring [] in
    let there : slice_get rings ring ≡ Some (get_or rings ring []) = slice_get-get_or rings ring [] within in
    let many = proper.several ring vertices there in
    (get_or vertices 0 origin, record { vertices = vertices; there = there; here = slice_get-get_or vertices 0 origin (omega arith) })

-- one that is inside shows that the ring is around
around_where_inside : (rings : List (List Position)) → NoMeeting rings → (outer inner vertex : ℕ) (position : Position) (ring : List Position) → outer ≢ inner
    → IsVertexOf rings inner vertex position → slice_get rings outer ≡ Some ring → IsInside position ring → IsAround rings outer inner
around_where_inside rings none outer inner vertex position ring differ here there inside =
    let first = first_vertex_of rings inner vertex position here in
    let its : here.vertices ≡ first.1.vertices = same_Some here.vertices first.1.vertices (sym here.there ∙ first.1.there) in
    let at : slice_get here.vertices 0 ≡ Some first.0 = ap (λ (vertices : List Position). slice_get vertices 0) its ∙ first.1.here in
    record {
      different = differ;
      around = ring;
      there = there;
      position = first.0;
      here = first.1;
      inside = one_vertex_decides here.vertices ring (nothing_in_common rings none inner outer here.vertices ring (λ same. differ (sym same)) here.there there) vertex 0 position first.0
          here.here at inside;
    }

-- where it is around, every vertex is inside
inside_where_around : (rings : List (List Position)) → NoMeeting rings → (outer inner vertex : ℕ) (position : Position) (ring : List Position) → IsVertexOf rings inner vertex position
    → slice_get rings outer ≡ Some ring → IsAround rings outer inner → IsInside position ring
inside_where_around rings none outer inner vertex position ring here there around =
    let its : around.here.vertices ≡ here.vertices = same_Some around.here.vertices here.vertices (sym around.here.there ∙ here.there) in
    let first : slice_get here.vertices 0 ≡ Some around.position = ap (λ (vertices : List Position). slice_get vertices 0) (sym its) ∙ around.here.here in
    let inside : IsInside around.position ring = subst (IsInside around.position) (same_Some around.around ring (sym around.there ∙ there)) around.inside in
    one_vertex_decides here.vertices ring (nothing_in_common rings none inner outer here.vertices ring (λ same. around.different (sym same)) here.there there) 0 vertex around.position position
    first here.here inside

-- so each vertex shows whether it is around
pub vertex_shows : (rings : List (List Position)) → NoMeeting rings → (outer inner vertex : ℕ) (position : Position) (ring : List Position) → outer ≢ inner → IsVertexOf rings inner vertex position
    → slice_get rings outer ≡ Some ring → IsAround rings outer inner ↔ IsInside position ring
vertex_shows rings none outer inner vertex position ring differ here there = (
  inside_where_around rings none outer inner vertex position ring here there,
  around_where_inside rings none outer inner vertex position ring differ here there,
)

-- ---- a ring is around another or isn't

-- what a test says is so or isn't
told : {Fact : Type 0} (result : Bool) → IsTrue result ↔ Fact → Dec Fact
told true decides = yes (decides.0 refl)
told false decides = no (λ it. no_truth (decides.1 it))

-- a position is inside a ring or isn't
pub inside_or_not : (position : Position) (ring : List Position) → Dec (IsInside position ring)
inside_or_not position ring =
    let passes : Edge → Bool = λ (edge : Edge). test (passes_over_decide position edge) in
    told (odd passes (edges ring)) (odd_decides (PassesOver position) passes (λ edge. test_decides (passes_over_decide position edge)) (edges ring))

-- the first vertex of a ring is there or isn't
vertex_or_not : (rings : List (List Position)) (ring : ℕ) → ((first : Position) × IsVertexOf rings ring 0 first) ⊎ ((first : Position) → ¬ IsVertexOf rings ring 0 first)
vertex_or_not rings ring = elim (found_or_not (slice_get rings ring)) [
  | inl none ↦ inr (λ first here. none-some here.vertices (sym none ∙ here.there))
  | inr found ↦ elim (found_or_not (slice_get found.0 0)) [
    | inl none ↦ inr (λ first here. let its : here.vertices ≡ found.0 = same_Some here.vertices found.0 (sym here.there ∙ found.1) in
        none-some first (sym none ∙ ap (λ (vertices : List Position). slice_get vertices 0) (sym its) ∙ here.here))
    | inr first ↦ inl (first.0, record { vertices = found.0; there = found.1; here = first.1 })
  ]
]

-- where that ring is there, and so is the first vertex of the other
around_by_vertex : (rings : List (List Position)) (outer inner : ℕ) (ring : List Position) (first : Position) → outer ≢ inner → slice_get rings outer ≡ Some ring → IsVertexOf rings inner 0 first
    → Dec (IsAround rings outer inner)
around_by_vertex rings outer inner ring first differ there here = map_dec
    (λ inside. record { different = differ; around = ring; there = there; position = first; here = here; inside = inside })
    (λ around.
    let at : around.position ≡ first = one_position rings inner 0 around.position first around.here here in
    let its : around.around ≡ ring = same_Some around.around ring (sym around.there ∙ there) in
    subst (λ (position : Position). IsInside position ring) at (subst (IsInside around.position) its around.inside))
    (inside_or_not first ring)

-- any two rings
pub around_or_not : (rings : List (List Position)) (outer inner : ℕ) → Dec (IsAround rings outer inner)
around_or_not rings outer inner = elim (cases_eq outer inner) [
  | inl same ↦ no (λ around. around.different same)
  | inr differ ↦ elim (found_or_not (slice_get rings outer)) [
    | inl none ↦ no (λ around. none-some around.around (sym none ∙ around.there))
    | inr found ↦ elim (vertex_or_not rings inner) [
      | inl first ↦ around_by_vertex rings outer inner found.0 first.0 differ found.1 first.1
      | inr none ↦ no (λ around. none around.position around.here)
    ]
  ]
]
