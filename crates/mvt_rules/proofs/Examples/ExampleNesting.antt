-- Holes of known answers: beside their exterior, inside it, and inside another hole.
use Rattle.std.proofs.Common.{rules, ◌≡◌, ℕ, ◌<◌, List, [], ◌∷◌, slice_get, Some, refl, sym, subst, arith}
use Rattle.mvt_plane.specs.Position.{Position}
use Rattle.mvt_plane.specs.Geometry.Inside.{IsInside}
use Rattle.mvt_rules.specs.Nesting.{IsOutside, IsInHole}
use Rattle.mvt_plane.specs.Geometry.Examples.{at, square, frame, hole_of_frame}
use Rattle.mvt_rules.specs.Laws.Examples.{rings_from, two_polygons, hole_beside, hole_in_hole}
use Rattle.mvt_plane.proofs.Examples.ExamplePositions.{hole_inside, outer_hole, inner_inside}

-- a hole beside its exterior
pub hole_outside : IsOutside (square ∷ hole_beside ∷ []) (rings_from 0 2) 1 0
hole_outside = record {
  hole = search rules;
  position = at 20 0;
  here = record { vertices = hole_beside; there = refl; here = refl };
  exterior = square;
  there = refl;
  outside = search rules;
}

-- the hole of the frame is its second ring
hole_of_second : (ring : ℕ) → 1 < ring → ring < 3 → ring ≡ 2
hole_of_second ring following before = omega arith

-- each of its vertices is inside the frame
pub hole_within : (ring vertex : ℕ) → ¬ IsOutside two_polygons (rings_from 1 3) ring vertex
hole_within ring vertex outside =
    let two : ring ≡ 2 = hole_of_second ring outside.hole.following outside.hole.before in
    let there : slice_get two_polygons 2 ≡ Some outside.here.vertices = subst (λ (n : ℕ). slice_get two_polygons n ≡ Some outside.here.vertices) two outside.here.there in
    let vertices : hole_of_frame ≡ outside.here.vertices = cc in
    let here : slice_get hole_of_frame vertex ≡ Some outside.position = subst (λ (it : List Position). slice_get it vertex ≡ Some outside.position) (sym vertices) outside.here.here in
    let exterior : frame ≡ outside.exterior = cc in
    outside.outside (subst (IsInside outside.position) exterior (hole_inside vertex outside.position here))

-- a hole inside another hole
pub hole_in_other : IsInHole hole_in_hole (rings_from 0 3) 2 0 1
hole_in_other = record {
  hole = search rules;
  position = at 20 20;
  here = record { vertices = _; there = refl; here = refl };
  other_hole = search rules;
  different = search rules;
  around = outer_hole;
  there = refl;
  inside = inner_inside;
}
