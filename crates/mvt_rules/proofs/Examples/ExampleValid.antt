-- Known rings that are those of valid polygons, and others that aren't.
use Rattle.std.proofs.Common.{◌≡◌, ℕ, ◌<◌, inl, inr, [], ◌∷◌, refl, sym, subst, arith}
use Rattle.std.proofs.lemmas.Int.{ints}
use Rattle.mvt_fault.specs.declared.profile.Profile.TheVariants.{Polygon}
use Rattle.mvt_rules.proofs.Examples.ExampleRings.{has_no_area}
use Rattle.mvt_plane.specs.Geometry.Examples.{at, fraction, square, triangle}
use Rattle.mvt_rules.specs.Laws.Examples.{rings_from, crossed, hole_beside, hole_in_hole, flat}
use Rattle.mvt_plane.specs.Geometry.RationalPoint.{IsAt, LiesOn}
use Rattle.mvt_plane.specs.Geometry.Ring.{edges}
use Rattle.mvt_rules.specs.Ring.{no_area}
use Rattle.mvt_rules.proofs.Examples.ExampleFaults.{crossing_shown, vertex_outside, vertex_in_hole}
use Rattle.mvt_rules.proofs.Examples.ExamplePolygons.{no_other_polygon, triangle_polygon}
use Rattle.mvt_rules.proofs.Validity.InvalidRings.{ring_is_invalid, meeting_is_invalid, outside_is_invalid, in_hole_is_invalid}
use Rattle.mvt_rules.proofs.Rings.RingsApart.{AllCommon, IsVertexBetween, ring_apart}
use Rattle.mvt_rules.specs.Parts.ByPolygon.{IsValidPolygon, AreValidRings}

-- The triangle

-- its edges
edges_apart : AllCommon (IsVertexBetween 3) (edges triangle) (edges triangle)
edges_apart point = (
  (λ one same. inl refl, (λ one next. inr (inl (refl, second one next)), (λ one last. inr (inr (refl, first one last)), tt))),
  (
    (λ next one. inr (inr (refl, second one next)), (λ one same. inl refl, (λ one next. inr (inl (refl, third one next)), tt))),
    ((λ last one. inr (inl (refl, first one last)), (λ next one. inr (inr (refl, third one next)), (λ one same. inl refl, tt))), tt),
  ),
)
  where
    first : LiesOn point (record { a = at 3 6; b = at 8 12 }) → LiesOn point (record { a = at 20 34; b = at 3 6 }) → IsAt point (at 3 6)
    first one other = record { x = omega (arith, ints, one.on_line, other.on_line); y = omega (arith, ints, one.on_line, other.on_line) }

    second : LiesOn point (record { a = at 3 6; b = at 8 12 }) → LiesOn point (record { a = at 8 12; b = at 20 34 }) → IsAt point (at 8 12)
    second one other = record { x = omega (arith, ints, one.on_line, other.on_line); y = omega (arith, ints, one.on_line, other.on_line) }

    third : LiesOn point (record { a = at 8 12; b = at 20 34 }) → LiesOn point (record { a = at 20 34; b = at 3 6 }) → IsAt point (at 20 34)
    third one other = record { x = omega (arith, ints, one.on_line, other.on_line); y = omega (arith, ints, one.on_line, other.on_line) }

-- it is a valid polygon
triangle_is_valid : IsValidPolygon (triangle ∷ []) (rings_from 0 1)
triangle_is_valid = record {
  apart = λ first second point first_in second_in.
      ring_apart (triangle ∷ []) 0 triangle first second point refl edges_apart (only first.ring first_in.before) (only second.ring second_in.before);
  enclosed = λ ring vertex outside. let following = outside.hole.following in let before = outside.hole.before in omega arith;
  side_by_side = λ ring vertex other inside. let following = inside.hole.following in let before = inside.hole.before in omega arith;
  beside = λ vertex other its there inside. inside;
}
  where
    only : (ring : ℕ) → ring < 1 → ring ≡ 0
    only ring before = omega arith

-- and the only one
pub triangle_valid : AreValidRings (triangle ∷ [])
triangle_valid = record {
  sound = triangle_polygon.sound;
  polygons = λ polygon it there.
      subst (IsValidPolygon (triangle ∷ [])) (sym (no_other_polygon (triangle ∷ []) polygon it triangle_polygon.there there).1) triangle_is_valid;
}

-- Others

-- a ring that crosses itself
pub crossed_invalid : ¬ AreValidRings (crossed ∷ [])
crossed_invalid = meeting_is_invalid Polygon (crossed ∷ []) 0 (record { ring = 0; edge = 0 }) (record { ring = 0; edge = 2 }) (fraction 800 800 180) crossing_shown

-- a hole beside its exterior
pub beside_invalid : ¬ AreValidRings (square ∷ hole_beside ∷ [])
beside_invalid = outside_is_invalid Polygon (square ∷ hole_beside ∷ []) 0 1 0 vertex_outside

-- a hole in another
pub in_hole_invalid : ¬ AreValidRings hole_in_hole
in_hole_invalid = in_hole_is_invalid Polygon hole_in_hole 0 2 0 1 vertex_in_hole

-- a ring without area
pub flat_invalid : ¬ AreValidRings (square ∷ flat ∷ [])
flat_invalid = ring_is_invalid Polygon (square ∷ flat ∷ []) 502 1 (no_area refl has_no_area)
