-- The polygons of a feature's list, one after the other.
use Rattle.std.proofs.Common.{◌≡◌, ℕ, zero, suc, ◌<◌, ◌≤◌, inl, inr, List, length, sym, ap, subst, arith}
use Rattle.std.proofs.lemmas.Bool.{cases_lt}
use Rattle.std.proofs.lemmas.Option.{slice_get_within}
use Rattle.mvt_rules.proofs.Rings.PolygonNumbers.{polygon_of_ring}
use Rattle.mvt_rules.proofs.Rings.SamePolygons.{exterior_of_polygon, polygon_begins_within, first_begins, same_polygon}
use Rattle.mvt_rules.specs.Polygon.{NoExterior, IsExteriorOf, first, next, PolygonRings, IsPolygon, IsRingOf}
use Rattle.mvt_plane.specs.Position.{Position}
use Rattle.mvt_feature.specs.Calls.FeatureParts.{listed_at}
use Rattle.mvt_rules.specs.Ring.{ArePolygonRings}
use Rattle.mvt_polygon.specs.Polygons.{ArePolygons}
use Rattle.mvt_polygon.proofs.ApartFaults.{rings_listed}

-- how an exterior comes after that of the polygon before
abbrev Comes : List (List Position) → ℕ → ℕ → Type 0
Comes rings zero exterior = Unit {0}
Comes rings (suc polygon) exterior = (before : ℕ) × IsExteriorOf rings polygon before × (before < exterior)

-- so does each
comes : (rings : List (List Position)) (polygon exterior : ℕ) → IsExteriorOf rings polygon exterior → Comes rings polygon exterior
comes rings _ _ (first exterior is_exterior none) = tt
comes rings _ _ (next polygon before exterior earlier less is_exterior none) = (before, earlier, less)

-- the ring after the polygons before this number
abbrev pub begin_of : List (ℕ × ℕ) → ℕ → ℕ
begin_of polygons zero = 0
begin_of polygons (suc polygon) = (listed_at polygons polygon).after

module _ (rings : List (List Position)) (polygons : List (ℕ × ℕ)) (able : ArePolygonRings rings) (listed : ArePolygons rings polygons) where
  -- a polygon is that of its number in the list
  pub of_list : (polygon : ℕ) (it : PolygonRings) → IsPolygon rings polygon it → (polygon < length polygons) × (it ≡ listed_at polygons polygon)
  of_list polygon it is_it =
      let within : polygon < length polygons = slice_get_within polygons polygon (it.exterior, it.after) (listed.all polygon it is_it) in
      (within, same_polygon rings polygon it (listed_at polygons polygon) is_it (rings_listed rings polygons polygon listed within))

  -- the polygon that begins with an exterior
  whole_from : (polygon exterior : ℕ) → IsExteriorOf rings polygon exterior → (after : ℕ) × IsPolygon rings polygon (record { exterior = exterior; after = after })
  whole_from polygon exterior begins =
      let home = polygon_of_ring rings exterior able (polygon_begins_within rings polygon exterior begins) in
      let from : home.1.exterior ≤ exterior = home.3.from in
      let same : home.1.exterior ≡ exterior = elim (cases_lt home.1.exterior exterior) [
        | inl less ↦ absurd (home.2.holes exterior less home.3.before (exterior_of_polygon rings polygon exterior begins))
        | inr above ↦ omega arith
      ] in (
        home.1.after,
        record {
          begins = begins;
          further = home.3.before;
          holes = subst (λ (number : ℕ). NoExterior rings (suc number) home.1.after) same home.2.holes;
          ends = home.2.ends;
        },
      )

  -- it is the one of the list
  begins_listed : (polygon exterior : ℕ) → IsExteriorOf rings polygon exterior → (polygon < length polygons) × ((listed_at polygons polygon).exterior ≡ exterior)
  begins_listed polygon exterior begins =
      let whole = whole_from polygon exterior begins in
      let there = of_list polygon (record { exterior = exterior; after = whole.0 }) whole.1 in
      (there.0, sym (ap (λ (it : PolygonRings). it.exterior) there.1))

  -- the first polygon begins with the first ring
  first_listed : 0 < length polygons → (listed_at polygons 0).exterior ≡ 0
  first_listed some =
      let is_it = rings_listed rings polygons 0 listed some in
      let within : (listed_at polygons 0).exterior < length rings = polygon_begins_within rings 0 (listed_at polygons 0).exterior is_it.begins in
      (begins_listed 0 0 (first_begins rings able (omega arith))).1

  -- no polygon comes after the last ring
  none_after : (polygon : ℕ) → suc polygon < length polygons → ¬ ((listed_at polygons polygon).after ≡ length rings)
  none_after polygon within last =
      let is_it = rings_listed rings polygons polygon listed (omega arith) in
      let its = listed_at polygons (suc polygon) in
      let is_its = rings_listed rings polygons (suc polygon) listed within in
      let before = comes rings (suc polygon) its.exterior is_its.begins in
      let same : (listed_at polygons polygon).exterior ≡ before.0 = (begins_listed polygon before.0 before.1).1 in
      let less : before.0 < its.exterior = before.2 in
      let among : its.exterior < length rings = polygon_begins_within rings (suc polygon) its.exterior is_its.begins in
      is_it.holes its.exterior (omega arith) (omega arith) (exterior_of_polygon rings (suc polygon) its.exterior is_its.begins)

  -- the next polygon begins where one ends
  next_listed : (polygon : ℕ) → suc polygon < length polygons → (listed_at polygons (suc polygon)).exterior ≡ (listed_at polygons polygon).after
  next_listed polygon within =
      let it = listed_at polygons polygon in
      let is_it = rings_listed rings polygons polygon listed (omega arith) in
      elim is_it.ends [
        | inl last ↦ absurd (none_after polygon within last)
        | inr is_exterior ↦ (begins_listed (suc polygon) it.after (next polygon it.exterior it.after is_it.begins is_it.further is_exterior is_it.holes)).1
      ]

  -- each begins after those before it
  pub begins_at : (polygon : ℕ) → polygon < length polygons → (listed_at polygons polygon).exterior ≡ begin_of polygons polygon
  begins_at zero within = first_listed within
  begins_at (suc polygon) within = next_listed polygon within

  -- and all end with the last ring
  pub ends_at : (count : ℕ) → count ≡ length polygons → begin_of polygons count ≡ length rings
  ends_at zero all = elim (cases_lt 0 (length rings)) [
    | inl some ↦ let there : 0 < length polygons = (begins_listed 0 0 (first_begins rings able some)).0 in absurd (omega arith)
    | inr none ↦ omega arith
  ]
  ends_at (suc polygon) all =
      let it = listed_at polygons polygon in
      let is_it = rings_listed rings polygons polygon listed (omega arith) in
      elim is_it.ends [
        | inl last ↦ last
        | inr is_exterior ↦
            let there : suc polygon < length polygons = (begins_listed (suc polygon) it.after (next polygon it.exterior it.after is_it.begins is_it.further is_exterior is_it.holes)).0 in
            absurd (omega arith)
      ]

  -- a polygon ends before each later one begins
  pub in_turn : (polygon other : ℕ) → polygon < other → other < length polygons → (listed_at polygons polygon).after ≤ (listed_at polygons other).exterior
  in_turn polygon zero less within = absurd (omega arith)
  in_turn polygon (suc other) less within =
      let next = next_listed other within in
      elim (cases_lt polygon other) [
        | inl earlier ↦
            let further : (listed_at polygons other).exterior < (listed_at polygons other).after = (rings_listed rings polygons other listed (omega arith)).further in
            let before : (listed_at polygons polygon).after ≤ (listed_at polygons other).exterior = in_turn polygon other earlier (omega arith) in
            omega arith
        | inr last ↦
            let same : polygon ≡ other = omega arith in
            let ends : (listed_at polygons polygon).after ≡ (listed_at polygons other).after = ap (λ (number : ℕ). (listed_at polygons number).after) same in
            omega arith
      ]

  -- each ring is of one of them
  pub home_of : (ring : ℕ) → ring < length rings → (polygon : ℕ) × (polygon < length polygons) × IsRingOf (listed_at polygons polygon) ring
  home_of ring within =
      let home = polygon_of_ring rings ring able within in
      let there = of_list home.0 home.1 home.2 in
      (home.0, there.0, subst (λ (it : PolygonRings). IsRingOf it ring) there.1 home.3)
