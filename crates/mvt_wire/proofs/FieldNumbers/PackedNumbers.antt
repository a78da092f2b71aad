-- Packed lists of small numbers: how a walk over the bytes finds them, and that the first fault that it meets is the
-- least.
use Rattle.std.proofs.Common.{◌≡◌, ℕ, ◌+◌, ◌^◌, ◌<◌, ◌≤◌, ◌⊎◌, inl, inr, List, [], ◌∷◌, ◌++◌, length, drop, refl, sym, ◌∙◌, ap, subst, arith}
use Rattle.std.proofs.lemmas.Bool.{cases_lt}
use Rattle.std.proofs.lemmas.List.Elements.{All-push}
use Rattle.mvt_wire.specs.Varint.{EncodesVarint}
use Rattle.mvt_wire.specs.Field.{cause_at}
use Rattle.mvt_wire.specs.Number.{VarintList, AreSmall, PackedFault, no_varint, too_large}
use Rattle.mvt_wire.specs.declared.cause.WireCause.{WireCause}
use Rattle.mvt_wire.specs.declared.cause.WireCode.{WireCode}
use Rattle.mvt_wire.specs.declared.cause.WireCode.TheVariants.{OutOfRange}
use Rattle.mvt_wire.proofs.FieldNumbers.NumberPlaces.{list-push}
use Rattle.mvt_wire.proofs.Encoding.PackedLists.{one_goes_on, packed_or_fault, small_after, varints_forward}
use Rattle.mvt_wire.proofs.Encoding.Varints.{one_value, varint_or_defect, one_defect_of_varint}
use Rattle.mvt_wire.specs.Calls.Packed.{IsSmallNumber, IsBadNumber, AreSmallBefore, IsFirstBad}

pub AreSmallBefore-more : (part : List ℕ) (at next : ℕ) → AreSmallBefore part at → IsSmallNumber part at next → AreSmallBefore part next
AreSmallBefore-more part at next so_far it =
    (so_far.0 ++ it.number ∷ [], list-push part 0 so_far.0 at next it.number so_far.1 it.encoded, All-push (λ (m : ℕ). m < 2 ^ 32) so_far.0 it.number so_far.2 it.small)

-- a small number has no fault
small_or_bad : (part : List ℕ) (at next n : ℕ) (code : WireCode) → EncodesVarint part at next n → n < 2 ^ 32 → IsBadNumber part at code → ⊥
small_or_bad part at next n code encoded small (inl defect) = varint_or_defect part at next n code encoded defect
small_or_bad part at next n code encoded small (inr large) =
    let same = one_value part at next large.1.0 n large.1.1 encoded large.1.2 in
    let high = large.1.3 in
    omega arith

-- a place has one fault of a number
one_bad : (part : List ℕ) (at : ℕ) (code other : WireCode) → IsBadNumber part at code → IsBadNumber part at other → code ≡ other
one_bad part at code other (inl a) (inl b) = one_defect_of_varint (drop at part) code other a b
one_bad part at code other (inl a) (inr b) = absurd (varint_or_defect part at b.1.0 b.1.1 code b.1.2 a)
one_bad part at code other (inr a) (inl b) = absurd (varint_or_defect part at a.1.0 a.1.1 other a.1.2 b)
one_bad part at code other (inr a) (inr b) = a.0 ∙ sym b.0

-- a fault of a packed list as that of a number after others
pub record IsBadAt (from : ℕ) (part : List ℕ) (field_number : ℕ) (cause : WireCause) : Type 0 where
  pub numbers : List ℕ
  pub at : ℕ
  pub code : WireCode
  pub list : VarintList part 0 numbers at
  pub left : at < length part
  pub bad : IsBadNumber part at code
  pub is : cause ≡ cause_at code (from + at) field_number

IsBadAt-from : (from : ℕ) (part : List ℕ) (field_number : ℕ) (cause : WireCause) → PackedFault from part field_number cause → IsBadAt from part field_number cause
IsBadAt-from from part field_number cause (no_varint numbers at code list left defect is) =
    record { numbers = numbers; at = at; code = code; list = list; left = left; bad = inl defect; is = is }
IsBadAt-from from part field_number cause (too_large numbers at next n list encoded large is) =
    let forward = encoded.forward in
    let within = encoded.within in
    record { numbers = numbers; at = at; code = OutOfRange; list = list; left = omega arith; bad = inr (refl, (next, n, encoded, large)); is = is }

PackedFault-from : (from : ℕ) (part : List ℕ) (field_number : ℕ) (numbers : List ℕ) (at : ℕ) (code : WireCode) → VarintList part 0 numbers at → at < length part → IsBadNumber part at code
    → PackedFault from part field_number (cause_at code (from + at) field_number)
PackedFault-from from part field_number numbers at code list left (inl defect) = no_varint numbers at code list left defect refl
PackedFault-from from part field_number numbers at code list left (inr large) =
    too_large numbers at large.1.0 large.1.1 list large.1.2 large.1.3 (ap (λ (c : WireCode). cause_at c (from + at) field_number) large.0)

-- a fault of a packed list lies within its bytes
pub fault_in_part : (from : ℕ) (part : List ℕ) (field_number : ℕ) (cause : WireCause) → PackedFault from part field_number cause → (from ≤ cause.at) × (cause.at < from + length part)
fault_in_part from part field_number cause fault =
    let bad = IsBadAt-from from part field_number cause fault in
    let here : cause.at ≡ from + bad.at = ap (λ (c : WireCause). c.at) bad.is in
    let left = bad.left in
    (omega arith, omega arith)

-- after the end of a list that goes on by small numbers is no bad one, unless it has come to the end
none_after : (part : List ℕ) (at end : ℕ) (whole front rest : List ℕ) (code : WireCode) → AreSmall whole → whole ≡ front ++ rest → VarintList part at rest end → IsBadNumber part at code → end ≤ at
none_after part at end whole front [] code small is list bad = omega arith
none_after part at end whole front (n ∷ rest) code small is list bad =
    absurd (small_or_bad part at list.0 n code list.1 (small_after whole front rest n is small) bad)

-- no bad number is before the first
pub none_before : (part : List ℕ) (at place : ℕ) (code other : WireCode) (numbers : List ℕ) → IsFirstBad part at code → VarintList part 0 numbers place → IsBadNumber part place other → at ≤ place
none_before part at place code other numbers first list bad = elim (one_goes_on part 0 at place first.before.0 numbers first.before.1 list) [
  | inl longer ↦ none_after part place at first.before.0 numbers longer.0 other first.before.2 longer.1 longer.2 bad
  | inr shorter ↦ varints_forward part at place shorter.0 shorter.2
]

-- the first bad number is a fault of the list
pub first_is_fault : (from : ℕ) (part : List ℕ) (field_number at : ℕ) (code : WireCode) → IsFirstBad part at code → PackedFault from part field_number (cause_at code (from + at) field_number)
first_is_fault from part field_number at code first = PackedFault-from from part field_number first.before.0 at code first.before.1 first.left first.fault

-- each other one is later
pub first_comes_first : (from : ℕ) (part : List ℕ) (field_number at : ℕ) (code : WireCode) → IsFirstBad part at code → (other : WireCause) → PackedFault from part field_number other
    → (from + at < other.at) ⊎ (cause_at code (from + at) field_number ≡ other)
first_comes_first from part field_number at code first other fault =
    let bad = IsBadAt-from from part field_number other fault in
    let there : other.at ≡ from + bad.at = ap (λ (c : WireCause). c.at) bad.is in
    let following : at ≤ bad.at = none_before part at bad.at code bad.code bad.numbers first bad.list bad.bad in
    elim (cases_lt at bad.at) [
      | inl less ↦ inl (omega arith)
      | inr here ↦
          let same : bad.at ≡ at = omega arith in
          let codes : code ≡ bad.code = one_bad part at code bad.code first.fault (subst (λ (place : ℕ). IsBadNumber part place bad.code) same bad.bad) in
          inr (ap (λ (c : WireCode). cause_at c (from + at) field_number) codes ∙ ap (λ (place : ℕ). cause_at bad.code (from + place) field_number) (sym same) ∙ sym bad.is)
    ]

-- a list of small numbers has no fault
pub small_faultless : (from : ℕ) (part : List ℕ) (field_number : ℕ) → AreSmallBefore part (length part) → (cause : WireCause) → PackedFault from part field_number cause → ⊥
small_faultless from part field_number small cause fault = packed_or_fault from part field_number cause small.0 small.1 small.2 fault
