-- Polygons of one feature that aren't kept apart.
use Rattle.std.proofs.Common.{rules, ◌≡◌, ℕ, ◌<◌, List, [], ◌∷◌, slice_get, Some, inl, inr, refl, sym, ap, subst, arith}
use Rattle.std.proofs.lemmas.Int.{ints}
use Rattle.mvt_fault.specs.declared.profile.Profile.TheVariants.{Feature}
use Rattle.mvt_rules.proofs.Examples.ExampleMeetings.{one_ring_twice}
use Rattle.mvt_plane.proofs.Examples.ExamplePositions.{hole_inside, inner_inside}
use Rattle.mvt_rules.proofs.Rings.PolygonNumbers.{none_in_nothing}
use Rattle.mvt_rules.proofs.Rings.SamePolygons.{same_polygon}
use Rattle.mvt_plane.specs.Geometry.Examples.{at, fraction, square, frame}
use Rattle.mvt_rules.specs.Laws.Examples.{rings_from, stone, hole, island, ground}
use Rattle.mvt_plane.specs.Geometry.Inside.{IsInside}
use Rattle.mvt_rules.specs.Nesting.{IsInPolygon}
use Rattle.mvt_rules.specs.Polygon.{first, next, PolygonRings, IsPolygon}
use Rattle.mvt_plane.specs.Position.{Position}
use Rattle.mvt_rules.proofs.Examples.ExamplePolygons.{none_of_one, first_to_last, no_other_polygon, one_of_two, second_square, second_to_last}
use Rattle.mvt_rules.proofs.Examples.ExampleSquares.{square_apart}
use Rattle.mvt_rules.proofs.Validity.InvalidRings.{meeting_is_invalid}
use Rattle.mvt_rules.proofs.Rings.RingsApart.{ring_apart}
use Rattle.mvt_rules.specs.PolygonFault.{IsPolygonOf, IsMeetingBy, IsVertexInPolygonBy}
use Rattle.mvt_rules.specs.Valid.{IsValidPolygonBy, AreValidRingsBy}

-- two squares in one place meet in the second one
pub squares_meet : IsMeetingBy Feature (square ∷ square ∷ []) 1 (record { ring = 0; edge = 0 }) (record { ring = 1; edge = 0 }) (fraction 5 0 1)
squares_meet = record {
  polygon_rings = rings_from 1 2;
  of = second_square;
  first_in = search rules;
  second_in = search rules;
  in_order = search rules;
  bounded = search rules;
  meets = one_ring_twice;
}

-- so they are invalid
pub squares_invalid : ¬ AreValidRingsBy Feature (square ∷ square ∷ [])
squares_invalid = meeting_is_invalid Feature (square ∷ square ∷ []) 1 (record { ring = 0; edge = 0 }) (record { ring = 1; edge = 0 }) (fraction 5 0 1) squares_meet

-- A stone on a frame without a hole

-- the frame is the first polygon
first_frame : IsPolygon (frame ∷ stone ∷ []) 0 (rings_from 0 1)
first_frame = record {
  begins = first 0 (record { ring = frame; there = refl; positive = omega (arith, ints) }) (none_in_nothing (frame ∷ stone ∷ []) 0);
  further = omega arith;
  holes = none_in_nothing (frame ∷ stone ∷ []) 1;
  ends = inr (record { ring = stone; there = refl; positive = omega (arith, ints) });
}

-- the stone is the second one
second_stone : IsPolygonOf (frame ∷ stone ∷ []) 1 (rings_from 1 2)
second_stone = second_to_last frame stone [] (search rules) (omega (arith, ints)) (omega (arith, ints)) (none_in_nothing (frame ∷ stone ∷ []) 2)

-- its vertex is inside the frame
pub stone_on_frame : IsVertexInPolygonBy Feature (frame ∷ stone ∷ []) 1 0 0
stone_on_frame = record {
  polygon_rings = rings_from 1 2;
  of = second_stone;
  other_rings = rings_from 0 1;
  other_there = first_frame;
  inside = record {
    position = at 13 13;
    here = record { vertices = stone; there = refl; here = refl };
    different = search rules;
    inside = record {
      around = frame;
      there = refl;
      inside = hole_inside 0 (at 13 13) refl;
      in_no_hole = λ round. let following = round.is.following in let before = round.is.before in omega arith;
    };
  };
}

-- In a hole

-- a ring in a hole is inside no polygon
pub island_in_hole : ¬ IsInPolygon (ground ∷ hole ∷ island ∷ []) (rings_from 2 3) (rings_from 0 2) 0
island_in_hole wrong =
    let vertices : island ≡ wrong.here.vertices = cc (wrong.here.there) in
    let here : slice_get island 0 ≡ Some wrong.position = subst (λ (it : List Position). slice_get it 0 ≡ Some wrong.position) (sym vertices) wrong.here.here in
    let position : at 20 20 ≡ wrong.position = cc here in
    let inside = subst (λ (it : Position). IsInside it hole) position inner_inside in
    wrong.inside.in_no_hole (record { hole = 1; is = search rules; vertices = hole; there = refl; inside = inside })

-- the ground with its hole is the first polygon
ground_polygon : IsPolygon (ground ∷ hole ∷ island ∷ []) 0 (rings_from 0 2)
ground_polygon = record {
  begins = first 0 (record { ring = ground; there = refl; positive = omega (arith, ints) }) (none_in_nothing (ground ∷ hole ∷ island ∷ []) 0);
  further = omega arith;
  holes = none_of_one (ground ∷ hole ∷ island ∷ []) 1 (search rules);
  ends = inr (record { ring = island; there = refl; positive = omega (arith, ints) });
}

-- the island is the second one
island_polygon : IsPolygon (ground ∷ hole ∷ island ∷ []) 1 (rings_from 2 3)
island_polygon = record {
  begins = next 0 0 2 ground_polygon.begins (omega arith) (record { ring = island; there = refl; positive = omega (arith, ints) }) ground_polygon.holes;
  further = omega arith;
  holes = none_in_nothing (ground ∷ hole ∷ island ∷ []) 3;
  ends = inl refl;
}

-- so in their feature it is inside no other
pub island_in_no_polygon : (other : ℕ) → ¬ IsVertexInPolygonBy Feature (ground ∷ hole ∷ island ∷ []) 1 0 other
island_in_no_polygon other wrong = elim (one_of_two (ground ∷ hole ∷ island ∷ []) 2 other wrong.other_rings ground_polygon island_polygon wrong.other_there) [
  | inl round ↦ island_in_hole (subst (λ (it : PolygonRings). IsInPolygon (ground ∷ hole ∷ island ∷ []) (rings_from 2 3) it 0) round inside)
  | inr same ↦ inside.different (ap (λ (it : PolygonRings). it.exterior) same)
]
  where
    own : wrong.polygon_rings ≡ rings_from 2 3
    own = same_polygon (ground ∷ hole ∷ island ∷ []) 1 wrong.polygon_rings (rings_from 2 3) wrong.of.there island_polygon

    inside : IsInPolygon (ground ∷ hole ∷ island ∷ []) (rings_from 2 3) wrong.other_rings 0
    inside = subst (λ (it : PolygonRings). IsInPolygon (ground ∷ hole ∷ island ∷ []) it wrong.other_rings 0) own wrong.inside

-- One square

-- is the only polygon
square_polygon : IsPolygonOf (square ∷ []) 0 (rings_from 0 1)
square_polygon = first_to_last square [] (search rules) (omega (arith, ints)) (none_in_nothing (square ∷ []) 1)

-- it is valid in its feature
square_in_feature : IsValidPolygonBy Feature (square ∷ []) (rings_from 0 1)
square_in_feature = record {
  apart = λ first second point first_in second_in.
      ring_apart (square ∷ []) 0 square first second point refl square_apart (only first.ring first_in) (only second.ring second_in.before);
  enclosed = λ ring vertex outside. let following = outside.hole.following in let before = outside.hole.before in omega arith;
  side_by_side = λ ring vertex other inside. let following = inside.hole.following in let before = inside.hole.before in omega arith;
  beside = λ vertex other its there inside. inside.different (ap (λ (it : PolygonRings). it.exterior) (no_other_polygon (square ∷ []) other its square_polygon.there there).1);
}
  where
    only : (ring : ℕ) → ring < 1 → ring ≡ 0
    only ring before = omega arith

-- so the feature is
pub square_alone : AreValidRingsBy Feature (square ∷ [])
square_alone = record {
  sound = square_polygon.sound;
  polygons = λ polygon it there.
      subst (IsValidPolygonBy Feature (square ∷ [])) (sym (no_other_polygon (square ∷ []) polygon it square_polygon.there there).1) square_in_feature;
}
