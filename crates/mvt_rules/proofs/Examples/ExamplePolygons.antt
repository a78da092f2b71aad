-- The polygons of known rings.
use Rattle.std.proofs.Common.{rules, ◌≡◌, ℕ, suc, ◌<◌, ◌≤◌, ◌⊎◌, inl, inr, List, [], ◌∷◌, length, pos, ◌<ℤ◌, refl, subst, arith}
use Rattle.std.proofs.lemmas.Bool.{cases_lt}
use Rattle.std.proofs.lemmas.Int.{ints}
use Rattle.mvt_rules.proofs.Examples.ExampleRings.{polygon_with_two_holes}
use Rattle.mvt_rules.proofs.Rings.SamePolygons.{one_polygon, polygon_begins_within}
use Rattle.mvt_rules.specs.Laws.Examples.{rings_from, crossed, touching_hole, hole_beside, hole_in_hole}
use Rattle.mvt_plane.specs.Geometry.Examples.{square, triangle}
use Rattle.mvt_rules.specs.Polygon.{IsExterior, NoExterior, IsExteriorOf, first, next, PolygonRings, IsPolygon, IsRingOf}
use Rattle.mvt_plane.specs.Position.{Position}
use Rattle.mvt_plane.specs.Geometry.Ring.{doubled_area}
use Rattle.mvt_rules.specs.Ring.{ArePolygonRings}
use Rattle.mvt_rules.specs.PolygonFault.{IsPolygonOf}
use Rattle.mvt_rules.proofs.Rings.PolygonNumbers.{none_from_next, none_in_nothing}

-- Spans of rings

-- nor of a ring that isn't one
pub none_of_one : (rings : List (List Position)) (hole : ℕ) → ¬ IsExterior rings hole → NoExterior rings hole (suc hole)
none_of_one rings hole none number following before exterior = none (subst (IsExterior rings) (omega arith) exterior)

-- Polygons up to the last ring

-- the first one, where the first ring alone is an exterior
pub first_to_last : (exterior : List Position) (holes : List (List Position)) → ArePolygonRings (exterior ∷ holes) → pos 0 <ℤ doubled_area exterior
    → NoExterior (exterior ∷ holes) 1 (length (exterior ∷ holes)) → IsPolygonOf (exterior ∷ holes) 0 (rings_from 0 (length (exterior ∷ holes)))
first_to_last exterior holes sound positive none =
    let begins = first 0 (record { ring = exterior; there = refl; positive = positive }) (none_in_nothing (exterior ∷ holes) 0) in
    record { sound = sound; there = record { begins = begins; further = omega arith; holes = none; ends = inl refl } }

-- the second one, where the first two rings alone are exteriors
pub second_to_last : (before exterior : List Position) (holes : List (List Position)) → ArePolygonRings (before ∷ exterior ∷ holes) → pos 0 <ℤ doubled_area before → pos 0 <ℤ doubled_area exterior
    → NoExterior (before ∷ exterior ∷ holes) 2 (length (before ∷ exterior ∷ holes)) → IsPolygonOf (before ∷ exterior ∷ holes) 1 (rings_from 1 (length (before ∷ exterior ∷ holes)))
second_to_last before exterior holes sound one other none =
    let begun = first 0 (record { ring = before; there = refl; positive = one }) (none_in_nothing (before ∷ exterior ∷ holes) 0) in
    let begins = next 0 0 1 begun (omega arith) (record { ring = exterior; there = refl; positive = other }) (none_in_nothing (before ∷ exterior ∷ holes) 1) in
    record { sound = sound; there = record { begins = begins; further = omega arith; holes = none; ends = inl refl } }

-- Other polygons

-- at least as many rings come before the exterior of a polygon as polygons
pub exterior_after : (rings : List (List Position)) (polygon exterior : ℕ) → IsExteriorOf rings polygon exterior → polygon ≤ exterior
exterior_after rings _ _ (first exterior it none) = omega arith
exterior_after rings _ _ (next polygon before exterior begins further it none) = omega (arith, exterior_after rings polygon before begins)

-- after a first polygon of all rings there is no other
pub no_other_polygon : (rings : List (List Position)) (polygon : ℕ) (it : PolygonRings) → IsPolygon rings 0 (rings_from 0 (length rings)) → IsPolygon rings polygon it → (polygon ≡ 0) × (it ≡ rings_from 0 (length rings))
no_other_polygon rings polygon it whole other =
    let within : it.exterior < length rings = polygon_begins_within rings polygon it.exterior other.begins in
    one_polygon rings it.exterior polygon 0 it (rings_from 0 (length rings)) other
    (record { from = omega arith; before = other.further }) whole (record { from = omega arith; before = within })

-- after two polygons of all rings neither
pub one_of_two : (rings : List (List Position)) (middle polygon : ℕ) (it : PolygonRings) → IsPolygon rings 0 (rings_from 0 middle) → IsPolygon rings 1 (rings_from middle (length rings))
    → IsPolygon rings polygon it → (it ≡ rings_from 0 middle) ⊎ (it ≡ rings_from middle (length rings))
one_of_two rings middle polygon it before following other = elim (cases_lt it.exterior middle) [
  | inl here ↦ inl (same 0 (rings_from 0 middle) before (record { from = omega arith; before = here }))
  | inr there ↦ inr (same 1 (rings_from middle (length rings)) following (record { from = there; before = within }))
]
  where
    within : it.exterior < length rings
    within = polygon_begins_within rings polygon it.exterior other.begins

    same : (number : ℕ) (its : PolygonRings) → IsPolygon rings number its → IsRingOf its it.exterior → it ≡ its
    same number its there has =
        let both = one_polygon rings it.exterior polygon number it its other (record { from = omega arith; before = other.further }) there has in
        both.1

-- Known rings

-- the standard's ring is an exterior
pub triangle_polygon : IsPolygonOf (triangle ∷ []) 0 (rings_from 0 1)
triangle_polygon = first_to_last triangle [] (search rules) (omega (arith, ints)) (none_in_nothing (triangle ∷ []) 1)

-- so is the first of two squares
pub first_square : IsPolygon (square ∷ square ∷ []) 0 (rings_from 0 1)
first_square = record {
  begins = first 0 (record { ring = square; there = refl; positive = omega (arith, ints) }) (none_in_nothing (square ∷ square ∷ []) 0);
  further = omega arith;
  holes = none_in_nothing (square ∷ square ∷ []) 1;
  ends = inr (record { ring = square; there = refl; positive = omega (arith, ints) });
}

-- the other of the two
pub second_square : IsPolygonOf (square ∷ square ∷ []) 1 (rings_from 1 2)
second_square = second_to_last square square [] (search rules) (omega (arith, ints)) (omega (arith, ints)) (none_in_nothing (square ∷ square ∷ []) 2)

-- so is the one that crosses itself
pub crossed_polygon : IsPolygonOf (crossed ∷ []) 0 (rings_from 0 1)
crossed_polygon = first_to_last crossed [] (search rules) (omega (arith, ints)) (none_in_nothing (crossed ∷ []) 1)

-- the same after another
pub crossed_second : IsPolygonOf (square ∷ crossed ∷ []) 1 (rings_from 1 2)
crossed_second = second_to_last square crossed [] (search rules) (omega (arith, ints)) (omega (arith, ints)) (none_in_nothing (square ∷ crossed ∷ []) 2)

-- a hole at the square's edge
pub touching_polygon : IsPolygonOf (square ∷ touching_hole ∷ []) 0 (rings_from 0 2)
touching_polygon = first_to_last square (touching_hole ∷ []) (search rules) (omega (arith, ints)) (none_of_one (square ∷ touching_hole ∷ []) 1 (search rules))

-- one beside it
pub beside_polygon : IsPolygonOf (square ∷ hole_beside ∷ []) 0 (rings_from 0 2)
beside_polygon = first_to_last square (hole_beside ∷ []) (search rules) (omega (arith, ints)) (none_of_one (square ∷ hole_beside ∷ []) 1 (search rules))

-- one beside the second of two
pub beside_second : IsPolygonOf (square ∷ square ∷ hole_beside ∷ []) 1 (rings_from 1 3)
beside_second = second_to_last square square (hole_beside ∷ []) (search rules) (omega (arith, ints)) (omega (arith, ints)) (none_of_one (square ∷ square ∷ hole_beside ∷ []) 2 (search rules))

-- a hole in another
pub two_holes : IsPolygonOf hole_in_hole 0 (rings_from 0 3)
two_holes = record { sound = search rules; there = polygon_with_two_holes }

-- the same in a second polygon
pub two_holes_second : IsPolygonOf (square ∷ hole_in_hole) 1 (rings_from 1 4)
two_holes_second =
    second_to_last square _ _ (search rules) (omega (arith, ints)) (omega (arith, ints))
    (none_from_next (square ∷ hole_in_hole) 2 4 (search rules) (none_of_one (square ∷ hole_in_hole) 3 (search rules)))
