-- Where rings belong, as a walk over them counts exteriors.
use Rattle.std.proofs.Common.{◌≡◌, ◌↔◌, ℕ, suc, ◌+◌, ◌<◌, ◌≤◌, List, length, pos, ◌<ℤ◌, FitsSigned, to_z, of_z, IsTrue, inl, inr, refl, sym, ap, ◌∙◌, subst, arith}
use Rattle.std.proofs.lemmas.Bool.{cases_lt}
use Rattle.std.proofs.lemmas.Option.{slice_get_within}
use Rattle.std.specs.Int.{w128}
use lib.Signed.{lt_z}
use Rattle.mvt_confirm.specs.Calls.Vertices.{VertexWalk}
use Rattle.mvt_confirm.specs.Calls.Polygons.{IsPlaceOf}
use Rattle.mvt_confirm.specs.Calls.Rings.{GivesRing}
use Rattle.mvt_confirm.specs.declared.rings.Measure.{Measure}
use Rattle.mvt_confirm.proofs.Shapes.RingCounts.{HavePassed, IsMeasureOf, next_passed, same_ring, positive_by_bits}
use Rattle.mvt_confirm.proofs.Wire.FieldWalks.{one_with}
use Rattle.mvt_rules.specs.Polygon.{IsExterior, NoExterior, IsExteriorOf, first, next}
use Rattle.mvt_plane.specs.Position.{Position}
use Rattle.mvt_plane.specs.Geometry.Ring.{doubled_area}
use Rattle.mvt_rules.specs.Ring.{ArePolygonRings}
use Rattle.mvt_rules.proofs.Rings.PolygonNumbers.{none_to_next, none_in_nothing, one_more_hole, polygon_of_ring}
use Rattle.mvt_rules.proofs.Rings.SamePolygons.{exterior_of_polygon}

-- Exteriors that were passed

-- of the rings before this number so many are exteriors, and this is the last one of them
pub data IsCounted (rings : List (List Position)) (number exteriors last : ℕ) : Type 0 where
  none_yet : exteriors ≡ 0 → NoExterior rings 0 number → IsCounted rings number exteriors last
  some_passed : (polygon : ℕ) → exteriors ≡ polygon + 1 → IsExteriorOf rings polygon last → last < number → NoExterior rings (suc last) number
      → IsCounted rings number exteriors last

-- in front of the first
pub none_counted : (rings : List (List Position)) (last : ℕ) → IsCounted rings 0 0 last
none_counted rings last = none_yet refl (none_in_nothing rings 0)

-- the measure of a ring decides whether the ring is an exterior
exterior_decided : (rings : List (List Position)) (number : ℕ) (measure : Measure) → IsMeasureOf rings number measure → (pos 0 <ℤ measure.doubled_area) ↔ IsExterior rings number
exterior_decided rings number measure is = (
  λ positive. record { ring = is.ring; there = is.there; positive = subst (λ area. pos 0 <ℤ area) is.decided.area positive },
  λ exterior.
      let same = same_ring rings number exterior.ring is.ring exterior.there is.there in
      subst (λ area. pos 0 <ℤ area) (ap doubled_area same ∙ sym is.decided.area) exterior.positive,
)

-- as the code compares its area, where a step gives it
pub exterior_by_bits : (rings : List (List Position)) (old new : VertexWalk) (number : ℕ) (measure : Measure) → HavePassed rings old number → GivesRing old new measure
    → FitsSigned w128 measure.doubled_area → IsTrue (lt_z (pos 0) (to_z w128 (of_z w128 measure.doubled_area))) ↔ IsExterior rings number
exterior_by_bits rings old new number measure so_far given fits =
    one_with (positive_by_bits measure.doubled_area fits) (exterior_decided rings number measure (next_passed rings old new number measure so_far given).0)

-- then it is one of the rings
pub given_within : (rings : List (List Position)) (old new : VertexWalk) (number : ℕ) (measure : Measure) → HavePassed rings old number → GivesRing old new measure → number < length rings
given_within rings old new number measure so_far given = let next = (next_passed rings old new number measure so_far given).0 in slice_get_within rings number next.ring next.there

-- the next exterior is that of the polygon that has their count as its number
pub begins_next : (rings : List (List Position)) (number exteriors last : ℕ) → IsCounted rings number exteriors last → IsExterior rings number → IsExteriorOf rings exteriors number
begins_next rings number exteriors last (none_yet is none) exterior = subst (λ polygon. IsExteriorOf rings polygon number) (sym is) (first number exterior none)
begins_next rings number exteriors last (some_passed polygon is begins less none) exterior =
    let one_more : suc polygon ≡ exteriors = omega arith in
    subst (λ it. IsExteriorOf rings it number) one_more (next polygon last number begins less exterior none)

-- it is counted
pub exterior_counted : (rings : List (List Position)) (number exteriors last : ℕ) → IsCounted rings number exteriors last → IsExterior rings number → IsCounted rings (number + 1) (exteriors + 1) number
exterior_counted rings number exteriors last counted exterior =
    some_passed exteriors refl (begins_next rings number exteriors last counted exterior) (omega arith) (λ other following before. absurd (omega arith))

-- a hole isn't counted
pub hole_counted : (rings : List (List Position)) (number exteriors last : ℕ) → IsCounted rings number exteriors last → ¬ IsExterior rings number → IsCounted rings (number + 1) exteriors last
hole_counted rings number exteriors last (none_yet is none) hole = none_yet is (one_more_hole rings 0 number none hole)
hole_counted rings number exteriors last (some_passed polygon is begins less none) hole =
    some_passed polygon is begins (omega arith) (one_more_hole rings (suc last) number none hole)

-- by whichever names the code has for them
pub counted_as : (rings : List (List Position)) (number exteriors last its_exteriors its_last : ℕ) → its_exteriors ≡ exteriors → its_last ≡ last → IsCounted rings number exteriors last
    → IsCounted rings number its_exteriors its_last
counted_as rings number exteriors last its_exteriors its_last count place counted =
    subst (λ it. IsCounted rings number its_exteriors it) (sym place) (subst (λ it. IsCounted rings number it last) (sym count) counted)

-- Places

-- the ring is of the polygon of the last exterior that isn't after it
place_there : (rings : List (List Position)) (ring polygon exterior : ℕ) → ArePolygonRings rings → ring < length rings → IsExteriorOf rings polygon exterior → exterior ≤ ring
    → NoExterior rings (suc exterior) (suc ring) → IsPlaceOf rings ring (record { polygon = polygon; exterior = exterior })
place_there rings ring polygon exterior able within begins from none =
    let home = polygon_of_ring rings ring able within in
    let after = home.1.after in
    let its_from : home.1.exterior ≤ ring = home.3.from in
    let before : ring < after = home.3.before in
    let holes : NoExterior rings (suc exterior) after = λ number following. elim (cases_lt ring number) [
      | inl later ↦ home.2.holes number (omega arith)
      | inr earlier ↦ λ more. none number following (omega arith)
    ] in
    record {
      polygon_rings = record { exterior = exterior; after = after };
      there = record { begins = begins; further = omega arith; holes = holes; ends = home.2.ends };
      begins = refl;
      of = record { from = from; before = before };
    }

-- an exterior begins the next polygon
pub exterior_place : (rings : List (List Position)) (ring exteriors last : ℕ) → ArePolygonRings rings → IsCounted rings ring exteriors last → IsExterior rings ring
    → IsPlaceOf rings ring (record { polygon = exteriors; exterior = ring })
exterior_place rings ring exteriors last able counted exterior =
    place_there rings ring exteriors ring able (slice_get_within rings ring exterior.ring exterior.there) (begins_next rings ring exteriors last counted exterior) (omega arith)
    (none_in_nothing rings (suc ring))

-- a hole is of the last one
pub hole_place : (rings : List (List Position)) (ring exteriors polygon last : ℕ) → ArePolygonRings rings → ring < length rings → IsCounted rings ring exteriors last → ¬ IsExterior rings ring
    → exteriors ≡ polygon + 1 → IsPlaceOf rings ring (record { polygon = polygon; exterior = last })
hole_place rings ring exteriors polygon last able within (none_yet is none) hole count = absurd (omega arith)
hole_place rings ring exteriors polygon last able within (some_passed number is begins less none) hole count =
    let same : number ≡ polygon = omega arith in
    place_there rings ring polygon last able within (subst (λ it. IsExteriorOf rings it last) same begins) (omega arith) (none_to_next rings (suc last) ring none hole)

-- and there is a last one
pub hole_after_none : (rings : List (List Position)) (ring exteriors last : ℕ) → ArePolygonRings rings → ring < length rings → IsCounted rings ring exteriors last → ¬ IsExterior rings ring
    → ¬ (exteriors ≡ 0)
hole_after_none rings ring exteriors last able within (none_yet is none) hole no_exterior =
    let home = polygon_of_ring rings ring able within in
    let from = home.3.from in
    none_to_next rings 0 ring none hole home.1.exterior (omega arith) (omega arith) (exterior_of_polygon rings home.0 home.1.exterior home.2.begins)
hole_after_none rings ring exteriors last able within (some_passed polygon is begins less none) hole no_exterior = omega arith
