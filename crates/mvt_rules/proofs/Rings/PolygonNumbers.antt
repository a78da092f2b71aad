-- Each ring belongs to just one polygon, and polygons of one number are one.
use Rattle.std.proofs.Common.{◌≡◌, ℕ, zero, suc, ◌+◌, ◌-◌, ◌<◌, ◌≤◌, ◌⊎◌, inl, inr, List, [], length, get_or, slice_get, Some, pos, ◌<ℤ◌, refl, ap, subst, arith}
use Rattle.std.proofs.lemmas.Bool.{cases_lt}
use Rattle.std.proofs.lemmas.Int.{ints, by_lt_z}
use Rattle.std.proofs.lemmas.Option.{slice_get_within, slice_get-get_or}
use Rattle.mvt_plane.specs.Position.{Position}
use Rattle.mvt_plane.specs.Geometry.Ring.{doubled_area}
use Rattle.mvt_rules.specs.Ring.{ArePolygonRings}
use Rattle.mvt_rules.specs.Polygon.{IsExterior, NoExterior, IsExteriorOf, first, next, PolygonRings, IsPolygon, IsRingOf}

-- Exteriors

-- an exterior is one of the rings
pub exterior_within : (rings : List (List Position)) (number : ℕ) → IsExterior rings number → number < length rings
exterior_within rings number exterior = slice_get_within rings number exterior.ring exterior.there

-- a ring that is there is an exterior or not
is_exterior : (rings : List (List Position)) (number : ℕ) → number < length rings → IsExterior rings number ⊎ (¬ IsExterior rings number)
is_exterior rings number within =
    let ring : List Position = get_or rings number [] in
    let there : slice_get rings number ≡ Some ring = slice_get-get_or rings number [] within in
    by_lt_z (pos 0) (doubled_area ring)
    (λ positive. inl (record { ring = ring; there = there; positive = positive }))
    (λ none. inr (λ exterior.
    let same : ring ≡ exterior.ring = cc in
    let area : doubled_area ring ≡ doubled_area exterior.ring = ap doubled_area same in
    let positive : pos 0 <ℤ doubled_area exterior.ring = exterior.positive in
    omega (arith, ints)))

-- the first ring is one, where no ring has a fault
first_is_exterior : (rings : List (List Position)) → ArePolygonRings rings → 0 < length rings → IsExterior rings 0
first_is_exterior rings able some =
    let ring : List Position = get_or rings 0 [] in
    let there : slice_get rings 0 ≡ Some ring = slice_get-get_or rings 0 [] some in
    by_lt_z (pos 0) (doubled_area ring)
    (λ positive. record { ring = ring; there = there; positive = positive })
    (λ none. by_lt_z (doubled_area ring) (pos 0)
    (λ negative. absurd (able.exterior_first 0 (record { first = refl; ring = ring; there = there; negative = negative })))
    (λ flat. absurd (able.areas 0 (record { ring = ring; there = there; none = omega (arith, ints) }))))

-- no exterior from one number to another, and none at it
pub none_to_next : (rings : List (List Position)) (from to : ℕ) → NoExterior rings from to → ¬ IsExterior rings to → NoExterior rings from (suc to)
none_to_next rings from to none here number following before = elim (cases_lt number to) [
  | inl earlier ↦ none number following earlier
  | inr later ↦ λ exterior. here (subst (IsExterior rings) (omega arith) exterior)
]

-- the same, with one added to the number
pub one_more_hole : (rings : List (List Position)) (from ring : ℕ) → NoExterior rings from ring → ¬ IsExterior rings ring → NoExterior rings from (ring + 1)
one_more_hole rings from ring none hole =
    let next : suc ring ≡ ring + 1 = omega arith in
    subst (NoExterior rings from) next (none_to_next rings from ring none hole)

-- none at a number, and none after it
pub none_from_next : (rings : List (List Position)) (from to : ℕ) → ¬ IsExterior rings from → NoExterior rings (suc from) to → NoExterior rings from to
none_from_next rings from to here none number following before = elim (cases_lt from number) [
  | inl later ↦ none number later before
  | inr earlier ↦ λ exterior. here (subst (IsExterior rings) (omega arith) exterior)
]

-- two spans, one after the other
none_joined : (rings : List (List Position)) (from between to : ℕ) → NoExterior rings from between → NoExterior rings between to → NoExterior rings from to
none_joined rings from between to earlier later number following before = elim (cases_lt number between) [
  | inl below ↦ earlier number following below
  | inr above ↦ later number (omega arith) before
]

-- none from a number to itself
pub none_in_nothing : (rings : List (List Position)) (number : ℕ) → NoExterior rings number number
none_in_nothing rings number other following before = absurd (omega arith)

-- A ring is in a polygon

-- the exterior of the ring's polygon
record Home (rings : List (List Position)) (ring : ℕ) : Type 0 where
  polygon : ℕ
  exterior : ℕ
  begins : IsExteriorOf rings polygon exterior
  from : exterior ≤ ring
  holes : NoExterior rings (suc exterior) (suc ring)

-- after a ring with one comes a ring with one
next_home : (rings : List (List Position)) (ring : ℕ) → Home rings ring → IsExterior rings (suc ring) ⊎ (¬ IsExterior rings (suc ring)) → Home rings (suc ring)
next_home rings ring home (inl exterior) =
    let further = home.from in
    record {
      polygon = suc home.polygon;
      exterior = suc ring;
      begins = next home.polygon home.exterior (suc ring) home.begins (omega arith) exterior home.holes;
      from = omega arith;
      holes = none_in_nothing rings (suc (suc ring));
    }
next_home rings ring home (inr hole) =
    let further = home.from in
    record {
      polygon = home.polygon;
      exterior = home.exterior;
      begins = home.begins;
      from = omega arith;
      holes = none_to_next rings (suc home.exterior) (suc ring) home.holes hole;
    }

-- each ring has one
home_of : (rings : List (List Position)) (ring : ℕ) → ArePolygonRings rings → ring < length rings → Home rings ring
home_of rings zero able within =
    record {
      polygon = 0;
      exterior = 0;
      begins = first 0 (first_is_exterior rings able within) (none_in_nothing rings 0);
      from = omega arith;
      holes = none_in_nothing rings 1;
    }
home_of rings (suc ring) able within = next_home rings ring (home_of rings ring able (omega arith)) (is_exterior rings (suc ring) within)

-- the end of a polygon: the next exterior, or the last ring
record End (rings : List (List Position)) (from : ℕ) : Type 0 where
  after : ℕ
  following : from ≤ after
  holes : NoExterior rings from after
  ends : (after ≡ length rings) ⊎ IsExterior rings after

-- it is here, or further on
end_from : (rings : List (List Position)) (left from : ℕ) → left + from ≡ length rings → End rings from
end_from rings zero from whole = record { after = from; following = omega arith; holes = none_in_nothing rings from; ends = inl (omega arith) }
end_from rings (suc left) from whole = end_here (is_exterior rings from (omega arith)) (end_from rings left (suc from) (omega arith))
  where
    end_here : IsExterior rings from ⊎ (¬ IsExterior rings from) → End rings (suc from) → End rings from
    end_here (inl exterior) further = record { after = from; following = omega arith; holes = none_in_nothing rings from; ends = inr exterior }
    end_here (inr hole) further =
        let following = further.following in
        record {
          after = further.after;
          following = omega arith;
          holes = none_from_next rings from further.after hole further.holes;
          ends = further.ends;
        }

-- the polygon of a ring
pub polygon_of_ring : (rings : List (List Position)) (ring : ℕ) → ArePolygonRings rings → ring < length rings → (polygon : ℕ) × (it : PolygonRings) × IsPolygon rings polygon it × IsRingOf it ring
polygon_of_ring rings ring able within =
    let home = home_of rings ring able within in
    let end = end_from rings (length rings - suc ring) (suc ring) (omega arith) in
    let from = home.from in
    let following = end.following in
    let it : PolygonRings = record { exterior = home.exterior; after = end.after } in (
      home.polygon,
      it,
      record { begins = home.begins; further = omega arith; holes = none_joined rings (suc home.exterior) (suc ring) end.after home.holes end.holes; ends = end.ends },
      record { from = from; before = following },
    )
