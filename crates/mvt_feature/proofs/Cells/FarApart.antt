-- Polygons and rings whose bounds are apart: no edges of theirs have a point in common, and no vertex of the one polygon is
-- inside a ring of the other.
use Rattle.std.proofs.Common.{◌≡◌, ℕ, List, slice_get, Some}
use Rattle.mvt_plane.proofs.Rings.RingEdges.{ends_of_edge}
use Rattle.mvt_plane.specs.Geometry.Apart.{HaveNothingInCommon}
use Rattle.mvt_plane.specs.Geometry.Inside.{IsInside}
use Rattle.mvt_rules.specs.Meeting.{IsEdgeOf, MeetsWrongly}
use Rattle.mvt_fault.specs.declared.ring.RingEdge.{RingEdge}
use Rattle.mvt_rules.specs.Nesting.{IsVertexOf}
use Rattle.mvt_rules.specs.Polygon.{PolygonRings, IsRingOf}
use Rattle.mvt_plane.specs.Position.{Position}
use Rattle.mvt_plane.specs.Geometry.RationalPoint.{RationalPoint}
use Rattle.mvt_plane.specs.declared.geometry.edge.Edge.{Edge}
use Rattle.mvt_sweep.specs.Calls.Pairs.{AreEndsWithin}
use Rattle.mvt_sweep.specs.Bounds.{AreBoundsOfPolygon}
use Rattle.mvt_feature.specs.Calls.Bounds.{AreFarApart}
use Rattle.mvt_feature.specs.Calls.Islands.{AreRingsFarApart}
use Rattle.mvt_sweep.specs.declared.bounds.Bounds.{Bounds}
use Rattle.mvt_feature.proofs.Cells.OutsideBounds.{outside_bounds}
use Rattle.mvt_sweep.proofs.Vertices.FarEdges.{no_common_point}

-- Rings

-- they have nothing in common
pub far_rings : (ring other : List Position) → AreRingsFarApart ring other → HaveNothingInCommon ring other
far_rings ring other far = λ number another one two point here its_here on_one.
    let ends = ends_of_edge ring number one here in
    let its_ends = ends_of_edge other another two its_here in
    no_common_point far.its far.others one two point far.apart (far.of_it _ one.a ends.0) (far.of_it _ one.b ends.1) (far.of_other _ two.a its_ends.0) (far.of_other _ two.b its_ends.1) on_one

-- Polygons

-- the ends of the edge of this number are within a polygon's bounds
ends_within : (rings : List (List Position)) (it : PolygonRings) (bounds : Bounds) (number : RingEdge) (edge : Edge) → AreBoundsOfPolygon rings it bounds → IsRingOf it number.ring → IsEdgeOf rings number edge → AreEndsWithin bounds edge
ends_within rings it bounds number edge are of_it there =
    let ends = ends_of_edge there.ring number.edge edge there.here in
    record { begin = are number.ring there.ring of_it there.there _ edge.a ends.0; end = are number.ring there.ring of_it there.there _ edge.b ends.1 }

-- the other way round
pub far_back : (rings : List (List Position)) (it its : PolygonRings) → AreFarApart rings it its → AreFarApart rings its it
far_back rings it its far = record {
  one = far.other;
  other = far.one;
  of_one = far.of_other;
  of_other = far.of_one;
  apart = λ position within other_within. far.apart position other_within within;
}

-- no edges of theirs meet
pub far_edges : (rings : List (List Position)) (it its : PolygonRings) (first second : RingEdge) (point : RationalPoint) → AreFarApart rings it its → IsRingOf it first.ring → IsRingOf its second.ring → ¬ MeetsWrongly rings first second point
far_edges rings it its first second point far of_it of_its meets =
    let one = ends_within rings it far.one first meets.one far.of_one of_it meets.one_there in
    let other = ends_within rings its far.other second meets.other far.of_other of_its meets.other_there in
    no_common_point far.one far.other meets.one meets.other point far.apart one.begin one.end other.begin other.end meets.on_one meets.on_other

-- no vertex of the one is inside a ring of the other
pub far_inside : (rings : List (List Position)) (it its : PolygonRings) (ring vertex other : ℕ) (position : Position) (around : List Position) → AreFarApart rings it its → IsRingOf it ring → IsVertexOf rings ring vertex position
    → IsRingOf its other → slice_get rings other ≡ Some around → ¬ IsInside position around
far_inside rings it its ring vertex other position around far of_it here of_its there =
    outside_bounds position far.other around (far.of_other other around of_its there) (far.apart position (far.of_one ring here.vertices of_it here.there vertex position here.here))
