-- Positions inside the standard's triangle and beside it.
use Rattle.std.proofs.Common.{rules, refl, arith}
use Rattle.std.proofs.lemmas.Int.{ints}
use Rattle.mvt_plane.specs.Geometry.Inside.{Differ, PassesOver, IsInside}
use Rattle.mvt_plane.specs.Geometry.Examples.{at, fraction, triangle}
use Rattle.mvt_plane.proofs.Examples.ExamplePositions.{side}

-- of three edges the last alone
last_alone : {First Second Third : Type 0} → ¬ First → ¬ Second → Third → Differ First (Differ Second (Differ Third ⊥))
last_alone first second third = search rules

-- the last two are even
last_two : {First Second Third : Type 0} → ¬ First → Second → Third → ¬ (Differ First (Differ Second (Differ Third ⊥)))
last_two first second third = search rules

-- the long edge passes over the position between the edges
long_over_between : PassesOver (at 9 14) (side 20 34 3 6)
long_over_between = record { parted = search rules; point = fraction 153 270 17; on_edge = search rules; same_x = refl; greater_y = omega (arith, ints) }

-- the edge before it doesn't
short_not_over : ¬ PassesOver (at 9 14) (side 8 12 20 34)
short_not_over over = let line = over.on_edge.on_line in let same = over.same_x in let greater = over.greater_y in let positive = over.on_edge.positive in omega (arith, ints)

-- so the position is inside
pub between_edges : IsInside (at 9 14) triangle
between_edges = last_alone (search rules) short_not_over long_over_between

-- both pass over a position of lesser y
long_over_beside : PassesOver (at 9 13) (side 20 34 3 6)
long_over_beside = record { parted = search rules; point = fraction 153 270 17; on_edge = search rules; same_x = refl; greater_y = omega (arith, ints) }

short_over_beside : PassesOver (at 9 13) (side 8 12 20 34)
short_over_beside = record { parted = search rules; point = fraction 108 166 12; on_edge = search rules; same_x = refl; greater_y = omega (arith, ints) }

-- so that isn't inside
pub beside_edges : ¬ IsInside (at 9 13) triangle
beside_edges = last_two (search rules) short_over_beside long_over_beside
