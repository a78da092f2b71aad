-- Polygons of one number, or of one ring, are one polygon.
use Rattle.std.proofs.Common.{◌≡◌, ℕ, zero, suc, ◌<◌, ◌≤◌, inl, inr, List, length, refl, sym, ap, ap₂, subst, arith}
use Rattle.std.proofs.lemmas.Bool.{cases_order}
use Rattle.mvt_plane.specs.Position.{Position}
use Rattle.mvt_rules.specs.Polygon.{IsExterior, NoExterior, IsExteriorOf, first, next, PolygonRings, IsPolygon, IsRingOf}
use Rattle.mvt_rules.specs.Ring.{ArePolygonRings}
use Rattle.mvt_rules.proofs.Rings.PolygonNumbers.{exterior_within, polygon_of_ring}

-- numbers of which neither is less are the same
neither_less : (one other : ℕ) → ¬ (one < other) → ¬ (other < one) → one ≡ other
neither_less one other none none_back = elim (cases_order one other) [ inl same ↦ same | inr apart ↦ absurd (elim apart [ inl less ↦ none less | inr more ↦ none_back more ]) ]

-- Exteriors

-- two exteriors, and none before either from one number on
same_next : (rings : List (List Position)) (from one other : ℕ) → from ≤ one → from ≤ other → IsExterior rings one → IsExterior rings other → NoExterior rings from one → NoExterior rings from other → one ≡ other
same_next rings from one other after_one after_other is_one is_other none_to_one none_to_other = neither_less one other (λ less. none_to_other one after_one less is_one) (λ more. none_to_one other after_other more is_other)

-- two exteriors, and none after either up to one number
same_last : (rings : List (List Position)) (to one other : ℕ) → one < to → other < to → IsExterior rings one → IsExterior rings other → NoExterior rings (suc one) to → NoExterior rings (suc other) to → one ≡ other
same_last rings to one other before_one before_other is_one is_other none_from_one none_from_other = neither_less one other (λ less. none_from_one other less before_other is_other) (λ more. none_from_other one more before_one is_one)

-- the exterior of a polygon is one
pub exterior_of_polygon : (rings : List (List Position)) (polygon exterior : ℕ) → IsExteriorOf rings polygon exterior → IsExterior rings exterior
exterior_of_polygon rings _ _ (first exterior is_exterior none) = is_exterior
exterior_of_polygon rings _ _ (next polygon before exterior begins less is_exterior none) = is_exterior

-- so it is one of the rings
pub polygon_begins_within : (rings : List (List Position)) (polygon exterior : ℕ) → IsExteriorOf rings polygon exterior → exterior < length rings
polygon_begins_within rings polygon exterior begins = exterior_within rings exterior (exterior_of_polygon rings polygon exterior begins)

-- the first ring, where there is one, is the exterior of the first polygon
pub first_begins : (rings : List (List Position)) → ArePolygonRings rings → 0 < length rings → IsExteriorOf rings 0 0
first_begins rings able some =
    let its = polygon_of_ring rings 0 able some in
    let from : its.1.exterior ≤ 0 = its.3.from in
    let same : its.1.exterior ≡ 0 = omega arith in
    first 0 (subst (IsExterior rings) same (exterior_of_polygon rings its.0 its.1.exterior its.2.begins)) (λ number following before exterior. omega arith)

-- how an exterior comes to its number
abbrev Begins : List (List Position) → ℕ → ℕ → Type 0
Begins rings zero exterior = NoExterior rings 0 exterior
Begins rings (suc polygon) exterior = (before : ℕ) × IsExteriorOf rings polygon before × (before < exterior) × NoExterior rings (suc before) exterior

-- so does each
begins : (rings : List (List Position)) (polygon exterior : ℕ) → IsExteriorOf rings polygon exterior → Begins rings polygon exterior
begins rings _ _ (first exterior is_exterior none) = none
begins rings _ _ (next polygon before exterior earlier less is_exterior none) = (before, earlier, less, none)

-- polygons of one number have one exterior
same_exterior : (rings : List (List Position)) (polygon one other : ℕ) → IsExteriorOf rings polygon one → IsExteriorOf rings polygon other → one ≡ other
same_exterior rings zero one other its others =
    same_next rings 0 one other (omega arith) (omega arith) (exterior_of_polygon rings zero one its) (exterior_of_polygon rings zero other others) (begins rings zero one its) (begins rings zero other others)
same_exterior rings (suc polygon) one other its others =
    let of_one = begins rings (suc polygon) one its in
    let of_other = begins rings (suc polygon) other others in
    let same : of_one.0 ≡ of_other.0 = same_exterior rings polygon of_one.0 of_other.0 of_one.1 of_other.1 in
    let none : NoExterior rings (suc of_one.0) other = subst (λ before. NoExterior rings (suc before) other) (sym same) of_other.3 in
    let less : of_one.0 < one = of_one.2 in
    let less_other : of_other.0 < other = of_other.2 in
    same_next rings (suc of_one.0) one other less (omega arith) (exterior_of_polygon rings (suc polygon) one its) (exterior_of_polygon rings (suc polygon) other others) of_one.3 none

-- an exterior is of one polygon only
same_number : (rings : List (List Position)) (polygon other exterior : ℕ) → IsExteriorOf rings polygon exterior → IsExteriorOf rings other exterior → polygon ≡ other
same_number rings zero zero exterior its others = refl
same_number rings zero (suc other) exterior its others =
    let before = begins rings (suc other) exterior others in
    absurd (begins rings zero exterior its before.0 (omega arith) before.2 (exterior_of_polygon rings other before.0 before.1))
same_number rings (suc polygon) zero exterior its others =
    let before = begins rings (suc polygon) exterior its in
    absurd (begins rings zero exterior others before.0 (omega arith) before.2 (exterior_of_polygon rings polygon before.0 before.1))
same_number rings (suc polygon) (suc other) exterior its others =
    let of_its = begins rings (suc polygon) exterior its in
    let of_others = begins rings (suc other) exterior others in
    let same : of_its.0 ≡ of_others.0 = same_last rings exterior of_its.0 of_others.0 of_its.2 of_others.2 (exterior_of_polygon rings polygon of_its.0 of_its.1) (exterior_of_polygon rings other of_others.0 of_others.1) of_its.3 of_others.3 in
    ap suc (same_number rings polygon other of_its.0 of_its.1 (subst (IsExteriorOf rings other) (sym same) of_others.1))

-- Ends

-- of two polygons from one exterior, neither ends before the other
not_before : (rings : List (List Position)) (polygon other exterior one after : ℕ) → IsPolygon rings polygon (record { exterior = exterior; after = one }) → IsPolygon rings other (record { exterior = exterior; after = after }) → ¬ (one < after)
not_before rings polygon other exterior one after its others less = elim its.ends [
  | inl last ↦ elim others.ends [ inl same ↦ omega arith | inr is_exterior ↦ let within = exterior_within rings after is_exterior in omega arith ]
  | inr is_exterior ↦ others.holes one its.further less is_exterior
]

-- so they end at one number
same_end : (rings : List (List Position)) (polygon other exterior one after : ℕ) → IsPolygon rings polygon (record { exterior = exterior; after = one }) → IsPolygon rings other (record { exterior = exterior; after = after }) → one ≡ after
same_end rings polygon other exterior one after its others = neither_less one after (λ less. not_before rings polygon other exterior one after its others less) (λ more. not_before rings other polygon exterior after one others its more)

-- the rings from one number up to another
abbrev rings_at : ℕ → ℕ → PolygonRings
rings_at exterior after = record { exterior = exterior; after = after }

-- two from one exterior are one
same_rings : (rings : List (List Position)) (polygon other : ℕ) (it its : PolygonRings) → IsPolygon rings polygon it → IsPolygon rings other its → it.exterior ≡ its.exterior → it ≡ its
same_rings rings polygon other it its is_it is_its same =
    let moved : IsPolygon rings other (record { exterior = it.exterior; after = its.after }) =
    subst (λ exterior. IsPolygon rings other (record { exterior = exterior; after = its.after })) (sym same) is_its in
    let ends : it.after ≡ its.after = same_end rings polygon other it.exterior it.after its.after is_it moved in
    ap₂ rings_at same ends

-- Polygons

-- of one number
pub same_polygon : (rings : List (List Position)) (polygon : ℕ) (it its : PolygonRings) → IsPolygon rings polygon it → IsPolygon rings polygon its → it ≡ its
same_polygon rings polygon it its is_it is_its =
    same_rings rings polygon polygon it its is_it is_its (same_exterior rings polygon it.exterior its.exterior is_it.begins is_its.begins)

-- of one ring: neither begins after the other
not_after : (rings : List (List Position)) (ring polygon other : ℕ) (it its : PolygonRings) → IsPolygon rings polygon it → IsRingOf it ring → IsPolygon rings other its → IsRingOf its ring → ¬ (it.exterior < its.exterior)
not_after rings ring polygon other it its is_it in_it is_its in_its less =
    let from = in_its.from in
    let before = in_it.before in
    is_it.holes its.exterior less (omega arith) (exterior_of_polygon rings other its.exterior is_its.begins)

-- so they have one exterior
one_exterior : (rings : List (List Position)) (ring polygon other : ℕ) (it its : PolygonRings) → IsPolygon rings polygon it → IsRingOf it ring → IsPolygon rings other its → IsRingOf its ring → it.exterior ≡ its.exterior
one_exterior rings ring polygon other it its is_it in_it is_its in_its = neither_less it.exterior its.exterior (λ less. not_after rings ring polygon other it its is_it in_it is_its in_its less) (λ more. not_after rings ring other polygon its it is_its in_its is_it in_it more)

-- and one number
pub one_polygon : (rings : List (List Position)) (ring polygon other : ℕ) (it its : PolygonRings) → IsPolygon rings polygon it → IsRingOf it ring → IsPolygon rings other its → IsRingOf its ring → (polygon ≡ other) × (it ≡ its)
one_polygon rings ring polygon other it its is_it in_it is_its in_its =
    let same = one_exterior rings ring polygon other it its is_it in_it is_its in_its in (
      same_number rings polygon other it.exterior is_it.begins (subst (IsExteriorOf rings other) (sym same) is_its.begins),
      same_rings rings polygon other it its is_it is_its same,
    )
