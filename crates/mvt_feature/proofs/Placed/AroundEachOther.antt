-- Rings around others, by what is noted of each: no ring is around itself, what is around a ring is around those inside
-- that, and of two rings around one the one is around the other.
use Rattle.std.proofs.Common.{◌≡◌, ◌⊎◌, inl, inr, ℕ, zero, suc, ◌<◌, Bool, List, length, slice_get, Option, Some, None, refl, sym, ◌∙◌, subst, arith}
use Rattle.std.proofs.lemmas.Option.{slice_get_within}
use Rattle.mvt_plane.specs.Position.{Position}
use Rattle.mvt_feature.specs.Calls.PolygonsAround.{AreNotedBy}
use Rattle.mvt_sweep.specs.RingsAround.{IsAround}

-- ---- the two rings

-- the one around the other is there
pub outer_within : (rings : List (List Position)) (outer inner : ℕ) → IsAround rings outer inner → outer < length rings
outer_within rings outer inner around = slice_get_within rings outer around.around around.there

-- and so is the other
pub inner_within : (rings : List (List Position)) (outer inner : ℕ) → IsAround rings outer inner → inner < length rings
inner_within rings outer inner around = slice_get_within rings inner around.here.vertices around.here.there

-- no ring is around itself
pub not_around_itself : (rings : List (List Position)) (ring : ℕ) → ¬ IsAround rings ring ring
not_around_itself rings ring around = around.different refl

-- ---- the ring directly around one

-- something is found or nothing is
pub found_or_not : {Thing : Type 0} (found : Option Thing) → (found ≡ None) ⊎ ((it : Thing) × (found ≡ Some it))
found_or_not None = inl refl
found_or_not (Some it) = inr (it, refl)

-- a ring that another is around has one
pub has_nearest : (rings : List (List Position)) {nearest : ℕ → Option ℕ} {odd : ℕ → Bool} {come_to : List ℕ} → AreNotedBy rings nearest odd come_to → (outer ring : ℕ) → IsAround rings outer ring
    → (near : ℕ) × (nearest ring ≡ Some near)
has_nearest rings {nearest} noted outer ring around = elim (found_or_not (nearest ring)) [
  | inl none ↦ absurd (noted.alone ring (inner_within rings outer ring around) none outer around)
  | inr some ↦ some
]

-- it is around it
pub nearest_around : (rings : List (List Position)) {nearest : ℕ → Option ℕ} {odd : ℕ → Bool} {come_to : List ℕ} → AreNotedBy rings nearest odd come_to → (ring near : ℕ) → ring < length rings
    → nearest ring ≡ Some near → IsAround rings near ring
nearest_around rings noted ring near within is = (noted.around ring near within is near).1 (inl refl)

-- what is around it is around the ring
pub around_nearest : (rings : List (List Position)) {nearest : ℕ → Option ℕ} {odd : ℕ → Bool} {come_to : List ℕ} → AreNotedBy rings nearest odd come_to → (ring near outer : ℕ) → ring < length rings
    → nearest ring ≡ Some near → IsAround rings outer near → IsAround rings outer ring
around_nearest rings noted ring near outer within is around = (noted.around ring near within is outer).1 (inr around)

-- any other ring around the ring is around it
pub nearest_or_around : (rings : List (List Position)) {nearest : ℕ → Option ℕ} {odd : ℕ → Bool} {come_to : List ℕ} → AreNotedBy rings nearest odd come_to → (ring near outer : ℕ) → nearest ring ≡ Some near
    → IsAround rings outer ring → (outer ≡ near) ⊎ IsAround rings outer near
nearest_or_around rings noted ring near outer is around = (noted.around ring near (inner_within rings outer ring around) is outer).0 around

-- ---- from the outermost rings on

-- what holds of a ring where it holds of the one directly around it
abbrev pub CarriesInward : List (List Position) → (ℕ → Option ℕ) → (ℕ → Type 0) → Type 0
CarriesInward rings nearest Holds = (ring : ℕ) → ring < length rings → ((near : ℕ) → nearest ring ≡ Some near → Holds near) → Holds ring

-- holds of each of the first rings that were come to
up_to : (rings : List (List Position)) {nearest : ℕ → Option ℕ} {odd : ℕ → Bool} {come_to : List ℕ} → AreNotedBy rings nearest odd come_to → (Holds : ℕ → Type 0)
    → CarriesInward rings nearest Holds → (to at ring : ℕ) → at < to → slice_get come_to at ≡ Some ring → Holds ring
up_to rings noted Holds carries zero at ring less here = absurd (omega arith)
up_to rings noted Holds carries (suc to) at ring less here =
    carries ring (noted.only at ring here) (λ near is.
    let before = noted.following at ring near here is in
    let earlier : before.0 < at = before.1 in
    up_to rings noted Holds carries to before.0 near (omega arith) before.2)

-- so it holds of all
pub of_all_rings : (rings : List (List Position)) {nearest : ℕ → Option ℕ} {odd : ℕ → Bool} {come_to : List ℕ} → AreNotedBy rings nearest odd come_to → (Holds : ℕ → Type 0)
    → CarriesInward rings nearest Holds → (ring : ℕ) → ring < length rings → Holds ring
of_all_rings rings noted Holds carries ring within =
    let there = noted.listed ring within in
    up_to rings noted Holds carries (suc there.0) there.0 ring (omega arith) there.1

-- ---- rings around rings

-- all that is around a ring is around those inside it, as far as this one
abbrev GoesThrough : List (List Position) → ℕ → ℕ → Type 0
GoesThrough rings outer ring = (middle : ℕ) → IsAround rings outer middle → IsAround rings middle ring → IsAround rings outer ring

-- as it is for the ring directly around it
goes_inward : (rings : List (List Position)) {nearest : ℕ → Option ℕ} {odd : ℕ → Bool} {come_to : List ℕ} → AreNotedBy rings nearest odd come_to → (outer : ℕ)
    → CarriesInward rings nearest (GoesThrough rings outer)
goes_inward rings noted outer ring within earlier middle first second =
    let (near, is) = has_nearest rings noted middle ring second in
    elim (nearest_or_around rings noted ring near middle is second) [
      | inl same ↦ around_nearest rings noted ring near outer within is (subst (IsAround rings outer) same first)
      | inr further ↦ around_nearest rings noted ring near outer within is (earlier near is middle first further)
    ]

-- what is around a ring is around all inside that
pub around_inner : (rings : List (List Position)) {nearest : ℕ → Option ℕ} {odd : ℕ → Bool} {come_to : List ℕ} → AreNotedBy rings nearest odd come_to → (outer middle inner : ℕ)
    → IsAround rings outer middle → IsAround rings middle inner → IsAround rings outer inner
around_inner rings noted outer middle inner first second =
    of_all_rings rings noted (GoesThrough rings outer) (goes_inward rings noted outer) inner (inner_within rings middle inner second) middle first second

-- of two rings neither is around the other and around in turn
pub not_both_around : (rings : List (List Position)) {nearest : ℕ → Option ℕ} {odd : ℕ → Bool} {come_to : List ℕ} → AreNotedBy rings nearest odd come_to → (one other : ℕ)
    → IsAround rings one other → ¬ IsAround rings other one
not_both_around rings noted one other there back = not_around_itself rings one (around_inner rings noted one other one there back)

-- the rings are one, or one is around the other
abbrev pub AreNested : List (List Position) → ℕ → ℕ → Type 0
AreNested rings one other = (one ≡ other) ⊎ (IsAround rings one other ⊎ IsAround rings other one)

-- so are any two around this one
abbrev HasNested : List (List Position) → ℕ → Type 0
HasNested rings ring = (one other : ℕ) → IsAround rings one ring → IsAround rings other ring → AreNested rings one other

-- as it is for the ring directly around it
nested_inward : (rings : List (List Position)) {nearest : ℕ → Option ℕ} {odd : ℕ → Bool} {come_to : List ℕ} → AreNotedBy rings nearest odd come_to
    → CarriesInward rings nearest (HasNested rings)
nested_inward rings noted ring within earlier one other its others =
    let (near, is) = has_nearest rings noted one ring its in
    elim (nearest_or_around rings noted ring near one is its) [
      | inl same ↦ elim (nearest_or_around rings noted ring near other is others) [
        | inl same_too ↦ inl (same ∙ sym same_too)
        | inr around ↦ inr (inr (subst (IsAround rings other) (sym same) around))
      ]
      | inr around ↦ elim (nearest_or_around rings noted ring near other is others) [
        | inl same_too ↦ inr (inl (subst (IsAround rings one) (sym same_too) around))
        | inr around_too ↦ earlier near is one other around around_too
      ]
    ]

-- of two rings around one the one is around the other
pub nested_around : (rings : List (List Position)) {nearest : ℕ → Option ℕ} {odd : ℕ → Bool} {come_to : List ℕ} → AreNotedBy rings nearest odd come_to → (ring one other : ℕ)
    → IsAround rings one ring → IsAround rings other ring → AreNested rings one other
nested_around rings noted ring one other its others =
    of_all_rings rings noted (HasNested rings) (nested_inward rings noted) ring (inner_within rings one ring its) one other its others
