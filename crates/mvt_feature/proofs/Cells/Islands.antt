-- A polygon that lies in a hole of another one, its land: where no edges of the land meet, no edges of the two polygons meet,
-- and no vertex of the one is inside the other.
use Rattle.std.proofs.Common.{◌≡◌, ◌-◌, inl, inr, ℕ, List, slice_get, Some, sym, ◌∙◌, ap, subst, arith}
use Rattle.std.proofs.lemmas.Bool.{cases_lt, cases_order}
use Rattle.std.proofs.lemmas.Option.{same_Some}
use Rattle.mvt_plane.specs.Geometry.Apart.{HaveNothingInCommon}
use Rattle.mvt_plane.specs.Geometry.Inside.{IsInside, IsPointInside}
use Rattle.mvt_rules.specs.Meeting.{MeetsWrongly}
use Rattle.mvt_fault.specs.declared.ring.RingEdge.{RingEdge}
use Rattle.mvt_rules.specs.Nesting.{IsInPolygon}
use Rattle.mvt_rules.specs.Parts.Rings.{part_of}
use Rattle.mvt_rules.specs.Polygon.{PolygonRings, IsRingOf}
use Rattle.mvt_plane.specs.Position.{Position}
use Rattle.mvt_plane.specs.Geometry.RationalPoint.{RationalPoint, LiesOn, whole}
use Rattle.mvt_plane.specs.Geometry.Ring.{edges}
use Rattle.mvt_plane.specs.declared.geometry.edge.Edge.{Edge}
use Rattle.mvt_plane.proofs.Insides.InsideAsAWhole.{points_together, whole_inside, one_vertex_decides}
use Rattle.mvt_rules.proofs.Rings.PartsOfRings.{ring_of_part}
use Rattle.mvt_plane.proofs.Points.RationalPoints.{begin_lies_on}
use Rattle.mvt_plane.proofs.Rings.RingEdges.{ends_of_edge}
use Rattle.mvt_feature.specs.Calls.Islands.{LiesInRing, IsIslandOf, AreApartByHole}
use Rattle.mvt_sweep.specs.Meeting.{NoMeeting}
use Rattle.mvt_feature.proofs.Cells.FarApart.{far_rings}
use Rattle.mvt_sweep.proofs.Vertices.SharedVertices.{nothing_in_common}
use Rattle.mvt_rules.proofs.Rings.EdgePairs.{meets_either_way}

-- Two rings

-- what has nothing in common, the other way round
nothing_back : (ring other : List Position) → HaveNothingInCommon ring other → HaveNothingInCommon other ring
nothing_back ring other nothing = λ number another one two point here its_here on_one on_two. nothing another number two one point its_here here on_two on_one

-- each point of a ring's edges is inside the ring that it lies in
points_inside : (ring around : List Position) → LiesInRing ring around → (number : ℕ) (edge : Edge) (point : RationalPoint) → slice_get (edges ring) number ≡ Some edge → LiesOn point edge → IsPointInside point around
points_inside ring around lies number edge point here on_edge =
    let ends = ends_of_edge ring number edge here in
    points_together edge around (λ another other its there its_on. lies.clear number another edge other its here there its_on) (whole edge.a) point (begin_lies_on edge) on_edge
    ((whole_inside edge.a around).1 (lies.inside number edge.a ends.0))

-- none is inside a ring that it has nothing in common with, where one vertex isn't
points_outside : (ring around : List Position) → HaveNothingInCommon ring around → (vertex : ℕ) (position : Position) → slice_get ring vertex ≡ Some position → ¬ IsInside position around
    → (number : ℕ) (edge : Edge) (point : RationalPoint) → slice_get (edges ring) number ≡ Some edge → LiesOn point edge → ¬ IsPointInside point around
points_outside ring around nothing vertex position there outside number edge point here on_edge inside =
    let ends = ends_of_edge ring number edge here in
    let begins = points_together edge around (λ another other its its_there its_on. nothing number another edge other its here its_there its_on) point (whole edge.a) on_edge (begin_lies_on edge) inside in
    outside (one_vertex_decides ring around nothing number vertex edge.a position ends.0 there ((whole_inside edge.a around).0 begins))

-- An island and its land

module _ (rings : List (List Position)) (it its : PolygonRings) (island : IsIslandOf rings it its) where
  -- no vertex of the island is inside the land: all are in its hole
  pub island_not_in_land : (vertex : ℕ) → ¬ IsInPolygon rings it its vertex
  island_not_in_land vertex wrong =
      let same : wrong.here.vertices ≡ island.ring = same_Some wrong.here.vertices island.ring (sym wrong.here.there ∙ island.there) in
      let here : slice_get island.ring vertex ≡ Some wrong.position = ap (λ (vertices : List Position). slice_get vertices vertex) (sym same) ∙ wrong.here.here in
      wrong.inside.in_no_hole (record { hole = island.hole; is = island.is; vertices = island.around; there = island.hole_there; inside = island.within.inside vertex wrong.position here })

  module _ (none : NoMeeting (part_of rings its)) where
    -- the land's exterior has nothing in common with the hole
    hole_clear : HaveNothingInCommon island.beyond.vertices island.around
    hole_clear =
        let following = island.is.following in
        let before = island.is.before in
        let at : ℕ = island.hole - its.exterior in
        nothing_in_common (part_of rings its) none 0 at island.beyond.vertices island.around (omega arith)
        (ring_of_part rings its 0 (omega arith) ∙ ap (slice_get rings) (omega arith) ∙ island.beyond.there)
        (ring_of_part rings its at (omega arith) ∙ ap (slice_get rings) (omega arith) ∙ island.hole_there)

    -- so it has nothing in common with the island: the one is outside the hole, the other inside
    exterior_clear : HaveNothingInCommon island.ring island.beyond.vertices
    exterior_clear = λ number another one two point here its_here on_one on_two.
        points_outside island.beyond.vertices island.around hole_clear island.vertex island.position island.beyond.here island.not_in_hole another two point its_here on_two
        (points_inside island.ring island.around island.within number one point here on_one)

    -- nor has any other ring of the land
    ring_clear : (number : ℕ) (vertices : List Position) → IsRingOf its number → slice_get rings number ≡ Some vertices → HaveNothingInCommon island.ring vertices
    ring_clear number vertices of_its there =
        let from = of_its.from in
        elim (cases_lt its.exterior number) [
          | inl following ↦ elim (cases_order number island.hole) [
            | inl same ↦
                let ring : island.around ≡ vertices = same_Some island.around vertices (sym island.hole_there ∙ ap (slice_get rings) (sym same) ∙ there) in
                subst (HaveNothingInCommon island.ring) ring island.within.clear
            | inr differ ↦
                far_rings island.ring vertices (island.far number vertices (record { following = following; before = of_its.before }) (λ same. elim differ [ inl less ↦ omega arith | inr more ↦ omega arith ]) there)
          ]
          | inr not_after ↦
              let same : its.exterior ≡ number = omega arith in
              let ring : island.beyond.vertices ≡ vertices = same_Some island.beyond.vertices vertices (sym island.beyond.there ∙ ap (slice_get rings) same ∙ there) in
              subst (HaveNothingInCommon island.ring) ring exterior_clear
        ]

    -- no edges of the two meet
    pub island_edges : (first second : RingEdge) (point : RationalPoint) → IsRingOf it first.ring → IsRingOf its second.ring → ¬ MeetsWrongly rings first second point
    island_edges first second point of_it of_its meets =
        let from = of_it.from in
        let before = of_it.before in
        let single = island.single in
        let number : it.exterior ≡ first.ring = omega arith in
        let ring : meets.one_there.ring ≡ island.ring = same_Some meets.one_there.ring island.ring (sym meets.one_there.there ∙ ap (slice_get rings) (sym number) ∙ island.there) in
        let here : slice_get (edges island.ring) first.edge ≡ Some meets.one = ap (λ (vertices : List Position). slice_get (edges vertices) first.edge) (sym ring) ∙ meets.one_there.here in
        ring_clear second.ring meets.other_there.ring of_its meets.other_there.there first.edge second.edge meets.one meets.other point here meets.other_there.here meets.on_one meets.on_other

    -- no vertex of the land is inside the island: one isn't, so none is
    pub land_not_in_island : (vertex : ℕ) → ¬ IsInPolygon rings its it vertex
    land_not_in_island vertex wrong =
        let exterior : wrong.here.vertices ≡ island.beyond.vertices = same_Some wrong.here.vertices island.beyond.vertices (sym wrong.here.there ∙ island.beyond.there) in
        let here : slice_get island.beyond.vertices vertex ≡ Some wrong.position = ap (λ (vertices : List Position). slice_get vertices vertex) (sym exterior) ∙ wrong.here.here in
        let ring : wrong.inside.around ≡ island.ring = same_Some wrong.inside.around island.ring (sym wrong.inside.there ∙ island.there) in
        let inside : IsInside wrong.position island.ring = subst (IsInside wrong.position) ring wrong.inside.inside in
        island.not_in_ring
        (one_vertex_decides island.beyond.vertices island.ring (nothing_back island.ring island.beyond.vertices exterior_clear) vertex island.vertex wrong.position island.position here island.beyond.here inside)

-- Two polygons, of which the one is the island

module _ (rings : List (List Position)) (it its : PolygonRings) where
  -- no edges of theirs meet, where no edges of either one do
  pub edges_by_hole : AreApartByHole rings it its → NoMeeting (part_of rings it) → NoMeeting (part_of rings its) → (first second : RingEdge) (point : RationalPoint) → IsRingOf it first.ring → IsRingOf its second.ring
      → ¬ MeetsWrongly rings first second point
  edges_by_hole (inl island) none its_none first second point of_it of_its = island_edges rings it its island its_none first second point of_it of_its
  edges_by_hole (inr island) none its_none first second point of_it of_its = λ meets. island_edges rings its it island none second first point of_its of_it (meets_either_way rings first second point meets)

  -- no vertex of the first is inside the second, where no edges of the first meet
  pub vertices_by_hole : AreApartByHole rings it its → NoMeeting (part_of rings it) → (vertex : ℕ) → ¬ IsInPolygon rings it its vertex
  vertices_by_hole (inl island) none vertex = island_not_in_land rings it its island vertex
  vertices_by_hole (inr island) none vertex = land_not_in_island rings its it island none vertex
