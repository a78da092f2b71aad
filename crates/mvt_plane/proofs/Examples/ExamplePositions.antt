-- Positions inside rings of known answers.
use Rattle.std.proofs.Common.{rules, ◌≡◌, ℕ, zero, suc, List, [], ◌∷◌, slice_get, Some, pos, negsuc, refl, subst, arith}
use Rattle.std.proofs.lemmas.Int.{ints}
use Rattle.mvt_plane.specs.Position.{Position}
use Rattle.mvt_plane.specs.Geometry.Inside.{Differ, PassesOver, IsInside}
use Rattle.mvt_plane.specs.declared.geometry.edge.Edge.{Edge}
use Rattle.mvt_plane.specs.Geometry.Examples.{at, fraction, square, frame, hole_of_frame}

-- an edge
abbrev pub side : ℕ → ℕ → ℕ → ℕ → Edge
side ax ay bx by = record { a = at ax ay; b = at bx by }

-- Of four edges an odd number

-- the third alone
pub third_alone : {First Second Third Fourth : Type 0} → ¬ First → ¬ Second → Third → ¬ Fourth → Differ First (Differ Second (Differ Third (Differ Fourth ⊥)))
third_alone first second third fourth = search rules

-- the second alone
pub second_alone : {First Second Third Fourth : Type 0} → ¬ First → Second → ¬ Third → ¬ Fourth → Differ First (Differ Second (Differ Third (Differ Fourth ⊥)))
second_alone first second third fourth = search rules

-- the first and the third are even
pub first_and_third : {First Second Third Fourth : Type 0} → First → ¬ Second → Third → ¬ Fourth → ¬ (Differ First (Differ Second (Differ Third (Differ Fourth ⊥))))
first_and_third first second third fourth = search rules

-- The square

-- its upper side passes over a position inside, so that is inside
pub inside_square : IsInside (at 5 5) square
inside_square = third_alone (search rules) (search rules) (record { parted = search rules; point = fraction 5 10 1; on_edge = search rules; same_x = refl; greater_y = omega (arith, ints) }) (search rules)

-- over one on the left side too, so that counts as inside
pub left_of_square : IsInside (at 0 5) square
left_of_square = third_alone (search rules) (search rules) (record { parted = search rules; point = fraction 0 10 1; on_edge = search rules; same_x = refl; greater_y = omega (arith, ints) }) (search rules)

-- and over one on the lower side
pub low_on_square : IsInside (at 5 0) square
low_on_square = third_alone (search rules) (search rules) (record { parted = search rules; point = fraction 5 10 1; on_edge = search rules; same_x = refl; greater_y = omega (arith, ints) }) (search rules)

-- a position below the square
abbrev lower : Position
lower = record { x = pos 5; y = negsuc 4 }

-- the lower side passes over it
lower_side : PassesOver (lower) (side 0 0 10 0)
lower_side = record { parted = search rules; point = fraction 5 0 1; on_edge = search rules; same_x = refl; greater_y = omega (arith, ints) }

-- and the upper one
upper_side : PassesOver (lower) (side 10 10 0 10)
upper_side = record { parted = search rules; point = fraction 5 10 1; on_edge = search rules; same_x = refl; greater_y = omega (arith, ints) }

-- so it isn't inside
pub below_square : ¬ IsInside lower square
below_square = first_and_third lower_side (search rules) upper_side (search rules)

-- The frame around its hole

-- the upper side passes over the first vertex of the hole, so that is inside
first_inside : IsInside (at 13 13) frame
first_inside = third_alone (search rules) (search rules) (record { parted = search rules; point = fraction 13 20 1; on_edge = search rules; same_x = refl; greater_y = omega (arith, ints) }) (search rules)

-- the upper side passes over the second vertex of the hole, so that is inside
second_inside : IsInside (at 13 17) frame
second_inside = third_alone (search rules) (search rules) (record { parted = search rules; point = fraction 13 20 1; on_edge = search rules; same_x = refl; greater_y = omega (arith, ints) }) (search rules)

-- the upper side passes over the third vertex of the hole, so that is inside
third_inside : IsInside (at 17 17) frame
third_inside = third_alone (search rules) (search rules) (record { parted = search rules; point = fraction 17 20 1; on_edge = search rules; same_x = refl; greater_y = omega (arith, ints) }) (search rules)

-- the upper side passes over the fourth vertex of the hole, so that is inside
fourth_inside : IsInside (at 17 13) frame
fourth_inside = third_alone (search rules) (search rules) (record { parted = search rules; point = fraction 17 20 1; on_edge = search rules; same_x = refl; greater_y = omega (arith, ints) }) (search rules)

-- each vertex of the hole is
pub hole_inside : (vertex : ℕ) (position : Position) → slice_get hole_of_frame vertex ≡ Some position → IsInside position frame
hole_inside zero position here = subst (λ (it : Position). IsInside it frame) (cc) first_inside
hole_inside (suc zero) position here = subst (λ (it : Position). IsInside it frame) (cc) second_inside
hole_inside (suc (suc zero)) position here = subst (λ (it : Position). IsInside it frame) (cc) third_inside
hole_inside (suc (suc (suc zero))) position here = subst (λ (it : Position). IsInside it frame) (cc) fourth_inside
hole_inside (suc (suc (suc (suc vertex)))) position here = absurd (cc)

-- A hole in a hole

-- the outer hole
abbrev pub outer_hole : List Position
outer_hole = at 10 10 ∷ at 10 90 ∷ at 90 90 ∷ at 90 10 ∷ []

-- its upper side passes over the first vertex of the inner one, so that is inside
pub inner_inside : IsInside (at 20 20) outer_hole
inner_inside = second_alone (search rules) (record { parted = search rules; point = fraction 20 90 1; on_edge = search rules; same_x = refl; greater_y = omega (arith, ints) }) (search rules) (search rules)
