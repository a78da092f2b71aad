-- The polygons of a feature, one after another.
use Rattle.std.proofs.Common.{◌≡◌, ℕ, suc, ◌<◌, ◌≤◌, ◌⊎◌, inl, inr, List, length, sym, subst, arith}
use Rattle.std.proofs.lemmas.Bool.{cases_lt}
use Rattle.std.proofs.lemmas.Option.{slice_get_within}
use Rattle.mvt_rules.specs.PolygonFault.{IsPolygonOf}
use Rattle.mvt_rules.specs.Parts.ByPolygon.{IsValidPolygon, AreValidRings}
use Rattle.mvt_fault.specs.declared.profile.Profile.TheVariants.{Polygon}
use Rattle.mvt_rules.proofs.Rings.SamePolygons.{exterior_of_polygon, first_begins, same_polygon, one_polygon}
use Rattle.mvt_rules.specs.Polygon.{IsExterior, NoExterior, IsExteriorOf, first, next, PolygonRings, IsPolygon}
use Rattle.mvt_plane.specs.Position.{Position}
use Rattle.mvt_feature.proofs.Features.FirstPolygons.{numbers_up_to}
use Rattle.mvt_rules.specs.Ring.{ArePolygonRings}
use Rattle.mvt_gate.specs.Calls.Polygons.{AreValidBefore}

-- The order of polygons is that of their exteriors

-- before an exterior
pub begins_in_turn : (rings : List (List Position)) (polygon other one another : ℕ) → IsExteriorOf rings polygon one → IsExteriorOf rings other another → one < another → polygon < other
begins_in_turn rings polygon _ one _ its (first another is_another none) less = absurd (none one (omega arith) less (exterior_of_polygon rings polygon one its))
begins_in_turn rings polygon _ one _ its (next other before another begins below is_another none) less = elim (cases_lt before one) [
  | inl following ↦ absurd (none one following less (exterior_of_polygon rings polygon one its))
  | inr up_to ↦ let most = numbers_up_to rings polygon other one before its begins up_to in omega arith
]

-- The walk

-- The polygons before that of this number were passed, and all of them are valid. They are those that begin before this
-- ring, which is the exterior of the polygon of this number, or is after the last ring.
pub record HasPassed (rings : List (List Position)) (polygon exterior : ℕ) : Type 0 where
  pub count : polygon ≤ exterior
  pub within : exterior ≤ length rings
  pub valid : AreValidBefore Polygon rings polygon
  pub here : exterior < length rings → IsExteriorOf rings polygon exterior
  pub all : (earlier : ℕ) (it : PolygonRings) → IsPolygon rings earlier it → it.exterior < exterior → earlier < polygon

-- no polygon was passed at the first ring
pub none_passed : (parts : List (List Position)) → ArePolygonRings parts → HasPassed parts 0 0
none_passed parts sound = record {
  count = omega arith;
  within = omega arith;
  valid = λ earlier it less there. absurd (omega arith);
  here = first_begins parts sound;
  all = λ earlier it there less. absurd (omega arith);
}

-- the rings from here up to the next exterior are the polygon of this number
pub polygon_here : (parts : List (List Position)) (polygon exterior after : ℕ) → ArePolygonRings parts → HasPassed parts polygon exterior → exterior < length parts → exterior < after
    → NoExterior parts (suc exterior) after → (after ≡ length parts) ⊎ IsExterior parts after → IsPolygonOf parts polygon (record { exterior = exterior; after = after })
polygon_here parts polygon exterior after sound passed within further holes ends = record {
  sound = sound;
  there = record { begins = passed.here within; further = further; holes = holes; ends = ends };
}

-- where the next polygon begins
next_exterior : (parts : List (List Position)) (polygon exterior after : ℕ) → IsPolygon parts polygon (record { exterior = exterior; after = after }) → after < length parts → IsExteriorOf parts (suc polygon) after
next_exterior parts polygon exterior after there less = elim there.ends [
  | inl last ↦ absurd (omega arith)
  | inr is_exterior ↦ next polygon exterior after there.begins there.further is_exterior there.holes
]

-- the polygons before the next one are valid
valid_to_next : (parts : List (List Position)) (polygon : ℕ) (its : PolygonRings) → AreValidBefore Polygon parts polygon → IsPolygon parts polygon its → IsValidPolygon parts its → AreValidBefore Polygon parts (suc polygon)
valid_to_next parts polygon its valid there is_valid earlier it less at = elim (cases_lt earlier polygon) [
  | inl below ↦ valid earlier it below at
  | inr above ↦
      let same : earlier ≡ polygon = omega arith in
      let its_own : it ≡ its = same_polygon parts polygon it its (subst (λ (n : ℕ). IsPolygon parts n it) same at) there in
      subst (IsValidPolygon parts) (sym its_own) is_valid
]

-- a polygon that begins before the next one is this one or was passed
passed_or_here : (parts : List (List Position)) (polygon exterior after : ℕ) → HasPassed parts polygon exterior → IsPolygon parts polygon (record { exterior = exterior; after = after })
    → (earlier : ℕ) (it : PolygonRings) → IsPolygon parts earlier it → it.exterior < after → earlier < suc polygon
passed_or_here parts polygon exterior after passed there earlier it at less = elim (cases_lt it.exterior exterior) [
  | inl before ↦ let below = passed.all earlier it at before in omega arith
  | inr following ↦
      let further = at.further in
      let same = one_polygon parts it.exterior earlier polygon it (record { exterior = exterior; after = after }) at
      (record { from = omega arith; before = further }) there (record { from = following; before = less }) in
      let number = same.0 in
      omega arith
]

-- a valid polygon is passed
pub one_passed : (parts : List (List Position)) (polygon exterior after : ℕ) → HasPassed parts polygon exterior → IsPolygonOf parts polygon (record { exterior = exterior; after = after }) → after ≤ length parts
    → IsValidPolygon parts (record { exterior = exterior; after = after }) → HasPassed parts (suc polygon) after
one_passed parts polygon exterior after passed of_it within valid =
    let count = passed.count in
    let further = of_it.there.further in
    record {
      count = omega arith;
      within = within;
      valid = valid_to_next parts polygon (record { exterior = exterior; after = after }) passed.valid of_it.there valid;
      here = next_exterior parts polygon exterior after of_it.there;
      all = passed_or_here parts polygon exterior after passed of_it.there;
    }

-- after the last ring all polygons were passed
pub all_passed : (parts : List (List Position)) (polygon exterior : ℕ) → ArePolygonRings parts → HasPassed parts polygon exterior → length parts ≤ exterior → AreValidRings parts
all_passed parts polygon exterior sound passed following = record {
  sound = sound;
  polygons = λ number it there.
      let is_exterior = exterior_of_polygon parts number it.exterior there.begins in
      let within : it.exterior < length parts = slice_get_within parts it.exterior is_exterior.ring is_exterior.there in
      passed.valid number it (passed.all number it there (omega arith)) there;
}
