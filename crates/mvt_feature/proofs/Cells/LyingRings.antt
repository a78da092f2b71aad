-- Rings that lie in others, and edges that come near a ring.
use Rattle.std.proofs.Common.{◌≡◌, List, length, slice_get, Some, Ordering, true, refl, sym, ◌∙◌, ap, arith}
use Rattle.std.specs.Ordering.{is_ne}
use Rattle.std.specs.declared.cmp.Ordering.TheVariants.{Equal}
use Rattle.std.proofs.lemmas.Option.{slice_get_within}
use Rattle.mvt_plane.specs.Geometry.Apart.{HaveNothingInCommon}
use Rattle.mvt_plane.specs.Geometry.Inside.{IsInside}
use Rattle.mvt_plane.specs.Position.{Position}
use Rattle.mvt_plane.specs.Geometry.Ring.{edges}
use Rattle.mvt_plane.specs.declared.geometry.edge.Edge.{Edge}
use Rattle.mvt_plane.proofs.Points.CommonPointChoice.{apart_by_sides}
use Rattle.mvt_plane.proofs.Insides.InsideAsAWhole.{one_vertex_decides}
use Rattle.mvt_plane.proofs.Rings.RingEdges.{count_of_edges, ends_of_edge}
use Rattle.mvt_sweep.specs.Bounds.{AreBoundsApart, AreBoundsOf, IsInBounds}
use Rattle.mvt_feature.specs.Calls.Islands.{AreBesideEdge, AreClearBefore, IsClearOfEdge, LiesInRing}
use Rattle.mvt_sweep.specs.declared.bounds.Bounds.{Bounds}
use Rattle.mvt_sweep.proofs.Vertices.FarEdges.{no_common_point}

-- a side that is none of the line's
pub no_side_equal : (side : Ordering) → is_ne side ≡ true → ¬ (side ≡ Equal)
no_side_equal side apart same = let both : true ≡ is_ne Equal = sym apart ∙ ap is_ne same in absurd (cc both)

-- an edge that all of the ring is beside has nothing in common with it
pub beside_clear : (ring : List Position) (edge : Edge) → AreBesideEdge ring edge → IsClearOfEdge ring edge
beside_clear ring edge beside number one point here on_one on_edge =
    let ends = ends_of_edge ring number one here in
    apart_by_sides one edge beside.side beside.side (beside.each _ one.a ends.0) (beside.each _ one.b ends.1) refl beside.strictly point on_one on_edge

-- nor has one with bounds that are apart from the ring's
pub far_clear : (ring : List Position) (edge : Edge) (its bounds : Bounds) → IsInBounds its edge.a → IsInBounds its edge.b → AreBoundsApart its bounds → AreBoundsOf ring bounds → IsClearOfEdge ring edge
far_clear ring edge its bounds begin end apart of_ring number one point here on_one on_edge =
    let ends = ends_of_edge ring number one here in
    no_common_point its bounds edge one point apart begin end (of_ring _ one.a ends.0) (of_ring _ one.b ends.1) on_edge on_one

-- where none of its edges has, neither has the other ring
pub clear_of_all : (ring around : List Position) → AreClearBefore ring around (length around) → HaveNothingInCommon ring around
clear_of_all ring around clear number another one two point here its_here on_one on_two =
    let within = slice_get_within (edges around) another two its_here in
    let count = count_of_edges around in
    clear another (omega arith) two its_here number one point here on_one on_two

-- one vertex inside decides
pub lies_by_first : (ring around : List Position) (first : Position) → slice_get ring 0 ≡ Some first → IsInside first around → HaveNothingInCommon ring around → LiesInRing ring around
lies_by_first ring around first there inside clear = record { clear = clear; inside = λ number vertex here. one_vertex_decides ring around clear 0 number first vertex there here inside }
