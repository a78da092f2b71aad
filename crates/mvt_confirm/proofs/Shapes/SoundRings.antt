-- A walk over rings of which none has a fault of its own, so far.
use Rattle.std.proofs.Common.{◌≡◌, ◌↔◌, ℕ, ◌+◌, ◌<◌, ◌⊎◌, inl, inr, Bool, true, false, true≢false, IsTrue, List, length, pos, ◌<ℤ◌, FitsSigned, to_z, of_z, eq-eqb, refl, sym, ap, ◌∙◌, below_more, arith}
use Rattle.std.proofs.lemmas.Option.{slice_get_within}
use Rattle.std.specs.Int.{w128}
use lib.Signed.{lt_z}
use Rattle.mvt_confirm.specs.Calls.Vertices.{VertexWalk, RingsLeft, EndsVertices}
use Rattle.mvt_confirm.specs.Calls.Rings.{GivesRing}
use Rattle.mvt_confirm.specs.declared.rings.Measure.{Measure}
use Rattle.mvt_confirm.proofs.Shapes.RingCounts.{HavePassed, IsMeasureOf, none_passed, next_passed, all_passed, ends_decided, area_decided, hole_decided, flat_by_bits, negative_by_bits}
use Rattle.mvt_plane.specs.Position.{Position}
use Rattle.mvt_rules.specs.Ring.{BreaksRings, ends_at_its_beginning, no_area, begins_with_hole, ArePolygonRings}

-- so many were passed, perhaps none, and none of them has a fault
pub record AreSound (rings : List (List Position)) (walk : VertexWalk) (is_first : Bool) (passed : ℕ) : Type 0 where
  pub so_far : HavePassed rings walk passed
  pub first : IsTrue is_first ↔ (passed ≡ 0)
  pub sound : (number : ℕ) → number < passed → (code : ℕ) → ¬ BreaksRings rings code number

-- in front of the first
pub none_sound : (rings : List (List Position)) (walk : VertexWalk) → RingsLeft walk rings → AreSound rings walk true 0
none_sound rings walk left = record {
  so_far = none_passed rings walk left;
  first = (λ holds. refl, λ none. refl);
  sound = λ number before code broken. omega arith;
}

-- the next one has none, by its measure
next_sound : (rings : List (List Position)) (number : ℕ) (measure : Measure) (is_first : Bool) → IsMeasureOf rings number measure → (IsTrue is_first ↔ (number ≡ 0)) → measure.is_closed ≡ false
    → ¬ (measure.doubled_area ≡ pos 0) → ¬ (IsTrue is_first × (measure.doubled_area <ℤ pos 0)) → (code : ℕ) → ¬ BreaksRings rings code number
next_sound rings number measure is_first decided first apart some no_hole code (ends_at_its_beginning is ends) = true≢false (sym ((ends_decided rings number measure decided).1 ends) ∙ apart)
next_sound rings number measure is_first decided first apart some no_hole code (no_area is flat) = some ((area_decided rings number measure decided).1 flat)
next_sound rings number measure is_first decided first apart some no_hole code (begins_with_hole is hole) =
    no_hole (first.1 hole.first, (hole_decided rings number measure decided hole.first).1 hole)

-- Of a ring that a step gives, where none before it has a fault
module _ (rings : List (List Position)) (old new : VertexWalk) (is_first : Bool) (passed : ℕ) (measure : Measure) (sound : AreSound rings old is_first passed) (given : GivesRing old new measure)
    (fits : FitsSigned w128 measure.doubled_area) where
  decided : IsMeasureOf rings passed measure
  decided = (next_passed rings old new passed measure sound.so_far given).0

  -- it has none either
  pub one_more_sound : measure.is_closed ≡ false → ¬ (of_z w128 measure.doubled_area ≡ 0) → ¬ (IsTrue is_first × IsTrue (lt_z (to_z w128 (of_z w128 measure.doubled_area)) (pos 0)))
      → AreSound rings new false (passed + 1)
  one_more_sound apart some no_hole = record {
    so_far = (next_passed rings old new passed measure sound.so_far given).1;
    first = (λ holds. absurd (true≢false (sym holds)), λ none. absurd (omega arith));
    sound = below_more _ _ sound.sound (next_sound rings passed measure is_first decided sound.first apart (λ none. some (ap (of_z w128) none))
        (λ both. no_hole (both.0, (negative_by_bits measure.doubled_area fits).1 both.1)));
  }

  -- it ends at its beginning, or has no area
  pub ends_or_flat : (measure.is_closed ≡ true) ⊎ ((measure.is_closed ≡ false) × (of_z w128 measure.doubled_area ≡ 0)) → ¬ ArePolygonRings rings
  ends_or_flat (inl closed) able = able.open_ends passed ((ends_decided rings passed measure decided).0 closed)
  ends_or_flat (inr flat) able = able.areas passed ((area_decided rings passed measure decided).0 ((flat_by_bits measure.doubled_area fits).0 (eq-eqb _ _ flat.1)))

  -- it is the first, and a hole
  pub first_hole : IsTrue is_first → IsTrue (lt_z (to_z w128 (of_z w128 measure.doubled_area)) (pos 0)) → ¬ ArePolygonRings rings
  first_hole first negative able =
      able.exterior_first passed ((hole_decided rings passed measure decided (sound.first.0 first)).0 ((negative_by_bits measure.doubled_area fits).0 negative))

-- after the last one, they are the rings of polygons
pub all_sound : (rings : List (List Position)) (walk : VertexWalk) (is_first : Bool) (passed : ℕ) → AreSound rings walk is_first passed → EndsVertices walk → ArePolygonRings rings
all_sound rings walk is_first passed so_far ends =
    let size : length rings ≡ passed = all_passed rings walk passed so_far.so_far ends in
    let none : (ring : ℕ) → ring < length rings → (code : ℕ) → ¬ BreaksRings rings code ring = λ ring within. so_far.sound ring (omega arith) in
    record {
      open_ends = λ ring it. none ring (slice_get_within rings ring it.ring it.there) 501 (ends_at_its_beginning refl it);
      areas = λ ring it. none ring (slice_get_within rings ring it.ring it.there) 502 (no_area refl it);
      exterior_first = λ ring it. none ring (slice_get_within rings ring it.ring it.there) 503 (begins_with_hole refl it);
    }
