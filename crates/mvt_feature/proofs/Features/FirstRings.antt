-- The first rings of a feature, up to the end of a polygon: their polygons are polygons of the feature.
use Rattle.std.proofs.Common.{◌≡◌, ℕ, zero, suc, ◌<◌, ◌≤◌, ◌⊎◌, inl, inr, List, [], ◌∷◌, length, slice_get, take, Some, refl, sym, ◌∙◌, subst, arith}
use Rattle.std.proofs.lemmas.Bool.{cases_lt}
use Rattle.std.proofs.lemmas.List.{length-take}
use Rattle.std.proofs.lemmas.Option.{slice_get_within}
use Rattle.mvt_rules.specs.Polygon.{IsExterior, NoExterior, IsExteriorOf, first, next, PolygonRings, IsPolygon}
use Rattle.mvt_plane.specs.Position.{Position}
use Rattle.mvt_sweep.specs.Rings.{AreProperRings}
use Rattle.mvt_polygon.proofs.ApartFaults.{ends_within}
use Rattle.mvt_rules.specs.Ring.{ArePolygonRings}
use Rattle.mvt_rules.proofs.Rings.SamePolygons.{polygon_begins_within}

-- Lists

-- what is among the first of a list
pub in_first : {X : Type 0} (count : ℕ) (xs : List X) (at : ℕ) → at < count → slice_get (take count xs) at ≡ slice_get xs at
in_first zero xs at within = absurd (omega arith)
in_first (suc count) [] at within = refl
in_first (suc count) (x ∷ rest) zero within = refl
in_first (suc count) (x ∷ rest) (suc at) within = in_first count rest at (omega arith)

-- is in the list
pub of_first : {X : Type 0} (count : ℕ) (xs : List X) (at : ℕ) (x : X) → slice_get (take count xs) at ≡ Some x → (at < count) × (slice_get xs at ≡ Some x)
of_first count xs at x there =
    let before : at < length (take count xs) = slice_get_within (take count xs) at x there in
    let within : at < count = omega (arith, before, length-take count xs) in
    (within, sym (in_first count xs at within) ∙ there)

-- Faults that rings have of their own

-- the first rings are drawn where all are
pub first_drawn : (rings : List (List Position)) (count : ℕ) → AreProperRings rings → AreProperRings (take count rings)
first_drawn rings count drawn = record {
  several = λ number ring there. drawn.several number ring (of_first count rings number ring there).1;
  apart = λ number vertex ring position next there. drawn.apart number vertex ring position next (of_first count rings number ring there).1;
}

-- and have no fault where none has
pub first_sound : (rings : List (List Position)) (count : ℕ) → ArePolygonRings rings → ArePolygonRings (take count rings)
first_sound rings count sound = record {
  open_ends = λ number fault. sound.open_ends number (record {
    ring = fault.ring;
    there = (of_first count rings number fault.ring fault.there).1;
    position = fault.position;
    first = fault.first;
    last = fault.last;
  });
  areas = λ number fault. sound.areas number (record { ring = fault.ring; there = (of_first count rings number fault.ring fault.there).1; none = fault.none });
  exterior_first = λ number fault. sound.exterior_first number (record {
    first = fault.first;
    ring = fault.ring;
    there = (of_first count rings number fault.ring fault.there).1;
    negative = fault.negative;
  });
}

-- Exteriors

-- an exterior among the first rings
exterior_of_first : (rings : List (List Position)) (count number : ℕ) → IsExterior (take count rings) number → (number < count) × IsExterior rings number
exterior_of_first rings count number exterior =
    let there = of_first count rings number exterior.ring exterior.there in
    (there.0, record { ring = exterior.ring; there = there.1; positive = exterior.positive })

-- and the other way round
exterior_in_first : (rings : List (List Position)) (count number : ℕ) → number < count → IsExterior rings number → IsExterior (take count rings) number
exterior_in_first rings count number within exterior = record {
  ring = exterior.ring;
  there = in_first count rings number within ∙ exterior.there;
  positive = exterior.positive;
}

-- where the first rings have none, all have none there
none_of_first : (rings : List (List Position)) (count from to : ℕ) → to ≤ count → NoExterior (take count rings) from to → NoExterior rings from to
none_of_first rings count from to within none number following before exterior =
    none number following before (exterior_in_first rings count number (omega arith) exterior)

-- and the other way round
none_in_first : (rings : List (List Position)) (count from to : ℕ) → NoExterior rings from to → NoExterior (take count rings) from to
none_in_first rings count from to none number following before exterior =
    none number following before (exterior_of_first rings count number exterior).1

-- that of a polygon
begins_of_first : (rings : List (List Position)) (count polygon exterior : ℕ) → IsExteriorOf (take count rings) polygon exterior → IsExteriorOf rings polygon exterior
begins_of_first rings count _ _ (first exterior is_exterior none) =
    let it = exterior_of_first rings count exterior is_exterior in
    let within : exterior < count = it.0 in
    first exterior it.1 (none_of_first rings count 0 exterior (omega arith) none)
begins_of_first rings count _ _ (next polygon before exterior begins less is_exterior none) =
    let it = exterior_of_first rings count exterior is_exterior in
    let within : exterior < count = it.0 in
    next polygon before exterior (begins_of_first rings count polygon before begins) less it.1 (none_of_first rings count (suc before) exterior (omega arith) none)

-- and the other way round
begins_in_first : (rings : List (List Position)) (count polygon exterior : ℕ) → exterior < count → IsExteriorOf rings polygon exterior → IsExteriorOf (take count rings) polygon exterior
begins_in_first rings count _ _ within (first exterior is_exterior none) =
    first exterior (exterior_in_first rings count exterior within is_exterior) (none_in_first rings count 0 exterior none)
begins_in_first rings count _ _ within (next polygon before exterior begins less is_exterior none) =
    next polygon before exterior (begins_in_first rings count polygon before (omega arith) begins) less (exterior_in_first rings count exterior within is_exterior)
    (none_in_first rings count (suc before) exterior none)

-- Polygons

-- after the first so many rings a polygon ends: there is no ring, or an exterior
pub record AreWhole (rings : List (List Position)) (count : ℕ) : Type 0 where
  pub within : count ≤ length rings
  pub ends : (count ≡ length rings) ⊎ IsExterior rings count

-- so many they are
pub count_of_first : (rings : List (List Position)) (count : ℕ) → count ≤ length rings → length (take count rings) ≡ count
count_of_first rings count within = omega (arith, length-take count rings)

-- a polygon that begins among them ends there
pub ends_in_first : (rings : List (List Position)) (count polygon : ℕ) (it : PolygonRings) → AreWhole rings count → it.exterior < count → IsPolygon rings polygon it → it.after ≤ count
ends_in_first rings count polygon it whole begins is_it = elim (cases_lt count it.after) [
  | inl less ↦ elim whole.ends [
    | inl all ↦ omega (arith, ends_within rings polygon it is_it)
    | inr exterior ↦ absurd (is_it.holes count begins less exterior)
  ]
  | inr within ↦ within
]

-- a polygon of them is one of the feature
pub polygon_of_first : (rings : List (List Position)) (count polygon : ℕ) (it : PolygonRings) → AreWhole rings count → IsPolygon (take count rings) polygon it → IsPolygon rings polygon it
polygon_of_first rings count polygon it whole is_it =
    let size = count_of_first rings count whole.within in
    let within : it.after ≤ count = omega (arith, size, ends_within (take count rings) polygon it is_it) in
    record {
      begins = begins_of_first rings count polygon it.exterior is_it.begins;
      further = is_it.further;
      holes = none_of_first rings count (suc it.exterior) it.after within is_it.holes;
      ends = elim is_it.ends [
        | inl last ↦
            let same : count ≡ it.after = omega (arith, size) in
            subst (λ (n : ℕ). (n ≡ length rings) ⊎ IsExterior rings n) same whole.ends
        | inr exterior ↦ inr (exterior_of_first rings count it.after exterior).1
      ];
    }

-- it begins among them
pub begins_among_first : (rings : List (List Position)) (count polygon : ℕ) (it : PolygonRings) → count ≤ length rings → IsPolygon (take count rings) polygon it → it.exterior < count
begins_among_first rings count polygon it within is_it =
    omega (arith, count_of_first rings count within, polygon_begins_within (take count rings) polygon it.exterior is_it.begins)

-- a polygon of the feature that begins among them is one of them
pub polygon_in_first : (rings : List (List Position)) (count polygon : ℕ) (it : PolygonRings) → AreWhole rings count → it.exterior < count → IsPolygon rings polygon it → IsPolygon (take count rings) polygon it
polygon_in_first rings count polygon it whole begins is_it =
    let size = count_of_first rings count whole.within in
    let within : it.after ≤ count = ends_in_first rings count polygon it whole begins is_it in
    record {
      begins = begins_in_first rings count polygon it.exterior begins is_it.begins;
      further = is_it.further;
      holes = none_in_first rings count (suc it.exterior) it.after is_it.holes;
      ends = elim (cases_lt it.after count) [
        | inl less ↦ elim is_it.ends [
          | inl last ↦ absurd (omega (arith, whole.within))
          | inr exterior ↦ inr (exterior_in_first rings count it.after less exterior)
        ]
        | inr past ↦ inl (omega (arith, size))
      ];
    }
