-- Which common point of two edges is named.
use Rattle.std.proofs.Common.{rules, ◌≡◌, refl, Some, None, arith}
use Rattle.std.proofs.lemmas.Int.{ints}
use Rattle.mvt_plane.specs.Geometry.CommonPoint.{IsCommon, IsNamed, none, first_b, second_b, crossing}
use Rattle.mvt_plane.specs.Geometry.Examples.{at, fraction}
use Rattle.mvt_plane.specs.Position.{Position}
use Rattle.mvt_plane.specs.Geometry.RationalPoint.{RationalPoint, IsAt, whole}
use Rattle.mvt_plane.specs.declared.geometry.edge.Edge.{Edge}
use Rattle.mvt_plane.proofs.Examples.ExamplePositions.{side}

-- the shared vertex isn't a common point
not_shared : (vertex : Position) (first second : Edge) → ¬ IsCommon (Some vertex) first second (whole vertex)
not_shared vertex first second common = common.apart vertex refl record { x = omega (arith, ints); y = omega (arith, ints) }

-- another position is apart from it
apart_from : (vertex other : Position) → ¬ IsAt (whole other) vertex → (shared : Position) → Some vertex ≡ Some shared → ¬ IsAt (whole other) shared
apart_from vertex other apart shared same = search rules

-- the same edge twice, whose first end is shared
pub second_end : IsNamed (Some (at 0 0)) (side 0 0 10 0) (side 0 0 10 0) (Some (fraction 10 0 1))
second_end = first_b refl
    (record { on_first = search rules; on_second = search rules; apart = apart_from (at 0 0) (at 10 0) (λ same. absurd (omega (arith, ints, same.x))) })
    (not_shared (at 0 0) (side 0 0 10 0) (side 0 0 10 0))

-- an edge within another, whose first end is shared
pub fourth_end : IsNamed (Some (at 8 0)) (side 0 0 10 0) (side 8 0 2 0) (Some (fraction 2 0 1))
fourth_end = second_b refl
    (record { on_first = search rules; on_second = search rules; apart = apart_from (at 8 0) (at 2 0) (λ same. absurd (omega (arith, ints, same.x))) })
    (λ it. absurd (search rules)) (λ it. absurd (search rules)) (not_shared (at 8 0) (side 0 0 10 0) (side 8 0 2 0))

-- two edges that cross
pub crossing_edges : IsNamed None (side 0 8 10 0) (side 10 10 0 0) (Some (fraction 800 800 180))
crossing_edges = crossing (fraction 800 800 180) refl
    (record { first_a = λ it. absurd (search rules); first_b = λ it. absurd (search rules); second_a = λ it. absurd (search rules); second_b = λ it. absurd (search rules) })
    (record { on_first = search rules; on_second = search rules; apart = λ vertex is. absurd (cc) })
    refl

-- neighbours with just their shared vertex
neighbours_apart : (point : RationalPoint) → ¬ IsCommon (Some (at 10 0)) (side 0 0 10 0) (side 10 0 10 10) point
neighbours_apart point common =
    let line = common.on_first.on_line in
    let other_line = common.on_second.on_line in
    common.apart (at 10 0) refl record { x = omega (arith, ints); y = omega (arith, ints) }

pub neighbours_none : IsNamed (Some (at 10 0)) (side 0 0 10 0) (side 10 0 10 10) None
neighbours_none = none refl neighbours_apart
