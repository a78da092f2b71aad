-- Squares, and a square with a hole, that are the rings of valid polygons.
use Rattle.std.proofs.Common.{rules, ◌≡◌, ℕ, suc, ◌<◌, ◌≤◌, ◌⊎◌, inl, inr, List, [], ◌∷◌, slice_get, Some, refl, sym, ap, subst, arith}
use Rattle.std.proofs.lemmas.Bool.{cases_lt}
use Rattle.std.proofs.lemmas.Int.{ints}
use Rattle.mvt_rules.proofs.Examples.ExampleNesting.{hole_within}
use Rattle.mvt_rules.proofs.Examples.ExampleRings.{first_polygon, second_polygon}
use Rattle.mvt_rules.proofs.Rings.EdgePairs.{meets_either_way}
use Rattle.mvt_rules.specs.Laws.Examples.{rings_from, two_polygons}
use Rattle.mvt_plane.specs.Geometry.Examples.{square, frame, hole_of_frame}
use Rattle.mvt_rules.specs.Meeting.{MeetsWrongly}
use Rattle.mvt_fault.specs.declared.ring.RingEdge.{RingEdge}
use Rattle.mvt_rules.specs.Polygon.{PolygonRings}
use Rattle.mvt_plane.specs.Position.{Position}
use Rattle.mvt_plane.specs.Geometry.RationalPoint.{RationalPoint}
use Rattle.mvt_plane.specs.Geometry.Ring.{edges}
use Rattle.mvt_rules.proofs.Examples.ExamplePolygons.{one_of_two, first_square, second_square}
use Rattle.mvt_rules.proofs.Rings.RingsApart.{AllCommon, IsVertexBetween, ring_apart, rings_miss}
use Rattle.mvt_rules.specs.Parts.ByPolygon.{IsValidPolygon, AreValidRings}

-- One square

-- its edges
pub square_apart : AllCommon (IsVertexBetween 4) (edges square) (edges square)
square_apart point = search (rules, ints)

-- wherever it stands, the square is a valid polygon without holes
lone_square : (rings : List (List Position)) (ring : ℕ) → slice_get rings ring ≡ Some square → IsValidPolygon rings (rings_from ring (suc ring))
lone_square rings ring there = record {
  apart = λ first second point first_in second_in.
      ring_apart rings ring square first second point there square_apart
      (only first.ring first_in.from first_in.before) (only second.ring second_in.from second_in.before);
  enclosed = λ hole vertex outside. none hole outside.hole.following outside.hole.before;
  side_by_side = λ hole vertex other inside. none hole inside.hole.following inside.hole.before;
  beside = λ vertex other its there inside. inside;
}
  where
    only : (number : ℕ) → ring ≤ number → number < suc ring → number ≡ ring
    only number from before = omega arith

    none : (hole : ℕ) → ring < hole → hole < suc ring → ⊥
    none hole following before = omega arith

-- what is true of the two polygons is true of each
of_two : (rings : List (List Position)) (first second it : PolygonRings) → IsValidPolygon rings first → IsValidPolygon rings second → (it ≡ first) ⊎ (it ≡ second) → IsValidPolygon rings it
of_two rings first second it one another (inl same) = subst (IsValidPolygon rings) (sym same) one
of_two rings first second it one another (inr same) = subst (IsValidPolygon rings) (sym same) another

-- so are two of them, in one place
pub squares_valid : AreValidRings (square ∷ square ∷ [])
squares_valid = record {
  sound = second_square.sound;
  polygons = λ polygon it there.
      of_two (square ∷ square ∷ []) (rings_from 0 1) (rings_from 1 2) it (lone_square (square ∷ square ∷ []) 0 refl) (lone_square (square ∷ square ∷ []) 1 refl)
      (one_of_two (square ∷ square ∷ []) 1 polygon it first_square second_square.there there);
}

-- The frame with its hole

-- the frame's edges
frame_apart : AllCommon (IsVertexBetween 4) (edges frame) (edges frame)
frame_apart point = search (rules, ints)

-- those of its hole
hole_apart : AllCommon (IsVertexBetween 4) (edges hole_of_frame) (edges hole_of_frame)
hole_apart point = search (rules, ints)

-- none of these has a point in common with one of those
frame_round_hole : AllCommon (λ i j one other point. ⊥) (edges frame) (edges hole_of_frame)
frame_round_hole point = search (rules, ints)

-- so these don't meet
frame_misses_hole : (first second : RingEdge) (point : RationalPoint) → first.ring ≡ 1 → second.ring ≡ 2 → ¬ MeetsWrongly two_polygons first second point
frame_misses_hole first second point exterior hole =
    rings_miss two_polygons first second frame hole_of_frame point (ap (slice_get two_polygons) exterior) (ap (slice_get two_polygons) hole) frame_round_hole

-- nor do two of either
frame_and_hole_apart : (first second : RingEdge) (point : RationalPoint) → (first.ring ≡ 1) ⊎ (first.ring ≡ 2) → (second.ring ≡ 1) ⊎ (second.ring ≡ 2) → ¬ MeetsWrongly two_polygons first second point
frame_and_hole_apart first second point (inl one) (inl other) = ring_apart two_polygons 1 frame first second point refl frame_apart one other
frame_and_hole_apart first second point (inl one) (inr other) = frame_misses_hole first second point one other
frame_and_hole_apart first second point (inr one) (inl other) = λ meets. frame_misses_hole second first point other one (meets_either_way two_polygons first second point meets)
frame_and_hole_apart first second point (inr one) (inr other) = ring_apart two_polygons 2 hole_of_frame first second point refl hole_apart one other

-- the second polygon has these two rings
frame_or_hole : (ring : ℕ) → 1 ≤ ring → ring < 3 → (ring ≡ 1) ⊎ (ring ≡ 2)
frame_or_hole ring from before = elim (cases_lt ring 2) [ inl exterior ↦ inl (omega arith) | inr hole ↦ inr (omega arith) ]

-- its one hole has no other beside it
one_hole : (hole other : ℕ) → 1 < hole → hole < 3 → 1 < other → other < 3 → other ≡ hole
one_hole hole other following before other_after other_before = omega arith

-- it is valid
frame_valid : IsValidPolygon two_polygons (rings_from 1 3)
frame_valid = record {
  apart = λ first second point first_in second_in.
      frame_and_hole_apart first second point (frame_or_hole first.ring first_in.from first_in.before) (frame_or_hole second.ring second_in.from second_in.before);
  enclosed = hole_within;
  side_by_side = λ hole vertex other inside.
      inside.different (one_hole hole other inside.hole.following inside.hole.before inside.other_hole.following inside.other_hole.before);
  beside = λ vertex other its there inside. inside;
}

-- and so are both of the standard's polygons
pub two_polygons_valid : AreValidRings two_polygons
two_polygons_valid = record {
  sound = search rules;
  polygons = λ polygon it there.
      of_two two_polygons (rings_from 0 1) (rings_from 1 3) it (lone_square two_polygons 0 refl) frame_valid (one_of_two two_polygons 1 polygon it first_polygon second_polygon there);
}
