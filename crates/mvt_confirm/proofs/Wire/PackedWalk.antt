-- A walk over the numbers of a packed list, up to the place of a fault.
use Rattle.std.proofs.Common.{◌≡◌, ◌≢◌, ℕ, ◌+◌, ◌-◌, ◌<◌, ◌≤◌, ◌↔◌, IsTrue, Bool, true, false, inl, inr, List, [], ◌∷◌, ◌++◌, length, drop, refl, sym, ◌∙◌, ap, subst, arith}
use Rattle.std.proofs.lemmas.Bool.{cases_lt}
use Rattle.mvt_wire.specs.Field.{cause_at}
use Rattle.mvt_wire.specs.Number.{VarintList, PackedFault, no_varint, too_large}
use Rattle.mvt_wire.specs.Varint.{EncodesVarint, VarintDefect}
use Rattle.mvt_wire.specs.declared.cause.WireCause.{WireCause}
use Rattle.mvt_wire.specs.declared.cause.WireCode.{WireCode}
use Rattle.mvt_wire.specs.declared.cause.WireCode.TheVariants.{OutOfRange}
use Rattle.mvt_wire.proofs.Encoding.Varints.{one_end, varint_or_defect}
use Rattle.mvt_confirm.specs.Calls.Packed.{IsBadAt}
use Rattle.mvt_wire.proofs.Encoding.PackedLists.{varints_forward}
use Rattle.mvt_wire.proofs.FieldNumbers.NumberPlaces.{list-push}

-- from a place on, varints lead to another where something is wrong
pub record IsAhead (part : List ℕ) (at place : ℕ) (code : WireCode) : Type 0 where
  pub numbers : List ℕ
  pub before : VarintList part at numbers place
  pub bad : IsBadAt part place code

-- the walk has passed varints, and what is wrong lies ahead of it
pub record IsPassing (part : List ℕ) (place : ℕ) (code : WireCode) (at : ℕ) : Type 0 where
  pub numbers : List ℕ
  pub passed : VarintList part 0 numbers at
  pub within : at ≤ length part
  pub ahead : IsAhead part 0 place code → IsAhead part at place code

-- after the first varint, if it isn't at the place
ahead_more : (part : List ℕ) (at next n place : ℕ) (code : WireCode) → EncodesVarint part at next n → at < place → IsAhead part at place code → IsAhead part next place code
ahead_more part at next n place code encoded less ahead = by ahead.numbers ahead.before
  where
    by : (numbers : List ℕ) → VarintList part at numbers place → IsAhead part next place code
    by [] list = absurd (omega arith)
    by (m ∷ numbers) list = record {
      numbers = numbers;
      before = subst (λ (to : ℕ). VarintList part to numbers place) (one_end part at list.0 next m n list.1 encoded) list.2;
      bad = ahead.bad;
    }

pub IsPassing-more : (part : List ℕ) (place : ℕ) (code : WireCode) (at next n : ℕ) → IsPassing part place code at → at < place → EncodesVarint part at next n → IsPassing part place code next
IsPassing-more part place code at next n so_far less encoded = record {
  numbers = so_far.numbers ++ n ∷ [];
  passed = list-push part 0 so_far.numbers at next n so_far.passed encoded;
  within = encoded.within;
  ahead = λ ahead. ahead_more part at next n place code encoded less (so_far.ahead ahead);
}

-- nothing is ahead of the place where no varint stands, but at that place
no_further : (part : List ℕ) (at place : ℕ) (code : WireCode) → at < place → ((next n : ℕ) → ¬ EncodesVarint part at next n) → ¬ IsAhead part at place code
no_further part at place code less none ahead = by ahead.numbers ahead.before
  where
    by : (numbers : List ℕ) → VarintList part at numbers place → ⊥
    by [] list = omega arith
    by (m ∷ numbers) list = none list.0 m list.1

pub IsPassing-defect : (part : List ℕ) (place : ℕ) (code other : WireCode) (at : ℕ) → IsPassing part place code at → at < place → VarintDefect other (drop at part) → ¬ IsAhead part 0 place code
IsPassing-defect part place code other at so_far less defect ahead =
    no_further part at place code less (λ next n encoded. varint_or_defect part at next n other encoded defect) (so_far.ahead ahead)

-- the walk went to the end, or past the place
pub IsPassing-past : (part : List ℕ) (place : ℕ) (code : WireCode) (at : ℕ) → IsPassing part place code at → at ≢ place → (at < place → length part ≤ at) → ¬ IsAhead part 0 place code
IsPassing-past part place code at so_far other past ahead = elim (cases_lt at place) [
  | inl less ↦
      let end = past less in
      no_further part at place code less (λ next n encoded. let forward = encoded.forward in let within = encoded.within in omega arith) (so_far.ahead ahead)
  | inr not_less ↦ let there = so_far.ahead ahead in let onward = varints_forward part at place there.numbers there.before in other (omega arith)
]

-- the walk came to the place: what is wrong is what is wrong there
pub IsPassing-there : (part : List ℕ) (place : ℕ) (code : WireCode) (at : ℕ) → IsPassing part place code at → at ≡ place → IsBadAt part at code → IsAhead part 0 place code
IsPassing-there part place code at so_far here bad = record {
  numbers = so_far.numbers;
  before = subst (λ (to : ℕ). VarintList part 0 so_far.numbers to) here so_far.passed;
  bad = subst (λ (to : ℕ). IsBadAt part to code) here bad;
}

pub IsPassing-bad : (part : List ℕ) (place : ℕ) (code : WireCode) (at : ℕ) → at ≡ place → IsAhead part 0 place code → IsBadAt part at code
IsPassing-bad part place code at here ahead = subst (λ (to : ℕ). IsBadAt part to code) (sym here) ahead.bad

-- the faults of a list by their places in it
cause_of : (cause : WireCause) (code : WireCode) (at field_number : ℕ) → cause.code ≡ code → cause.at ≡ at → cause.field ≡ field_number → cause ≡ cause_at code at field_number
cause_of cause code at field_number codes places fields = λ i. record { code = codes i; at = places i; field = fields i }

pub fault_ahead : (from : ℕ) (part : List ℕ) (field_number : ℕ) (cause : WireCause) → PackedFault from part field_number cause
    → (cause.field ≡ field_number) × (from ≤ cause.at) × IsAhead part 0 (cause.at - from) cause.code
fault_ahead from part field_number cause (no_varint numbers at code list left defect is) =
    let place : cause.at ≡ from + at = ap (λ (c : WireCause). c.at) is in
    let here : at ≡ cause.at - from = omega arith in (
      ap (λ (c : WireCause). c.field) is,
      omega arith,
      record {
        numbers = numbers;
        before = subst (λ (to : ℕ). VarintList part 0 numbers to) here list;
        bad = inl (omega arith, subst (λ (to : ℕ). VarintDefect cause.code (drop to part)) here (subst (λ (c : WireCode). VarintDefect c (drop at part)) (sym (ap (λ (c : WireCause). c.code) is)) defect));
      },
    )
fault_ahead from part field_number cause (too_large numbers at next n list encoded large is) =
    let place : cause.at ≡ from + at = ap (λ (c : WireCause). c.at) is in
    let here : at ≡ cause.at - from = omega arith in (
      ap (λ (c : WireCause). c.field) is,
      omega arith,
      record {
        numbers = numbers;
        before = subst (λ (to : ℕ). VarintList part 0 numbers to) here list;
        bad = inr (next, n, subst (λ (to : ℕ). EncodesVarint part to next n) here encoded, large, ap (λ (c : WireCause). c.code) is);
      },
    )

pub fault_of_place : (from : ℕ) (part : List ℕ) (field_number : ℕ) (cause : WireCause) → cause.field ≡ field_number → from ≤ cause.at → IsAhead part 0 (cause.at - from) cause.code
    → PackedFault from part field_number cause
fault_of_place from part field_number cause number following ahead =
    let place : cause.at ≡ from + (cause.at - from) = omega arith in
    elim ahead.bad [
      | inl bad ↦ no_varint ahead.numbers (cause.at - from) cause.code ahead.before bad.0 bad.1 (cause_of cause cause.code (from + (cause.at - from)) field_number refl place number)
      | inr bad ↦ too_large ahead.numbers (cause.at - from) bad.0 bad.1 ahead.before bad.2 bad.3 (cause_of cause OutOfRange (from + (cause.at - from)) field_number bad.4 place number)
    ]

-- where nothing is wrong at the fault's place, the list has not this fault
pub nothing_ahead : (from : ℕ) (part : List ℕ) (field_number : ℕ) (cause : WireCause) → ¬ IsAhead part 0 (cause.at - from) cause.code → (test : Bool) → test ≡ false
    → IsTrue test ↔ PackedFault from part field_number cause
nothing_ahead from part field_number cause none test is =
    (λ so. let both : false ≡ true = sym is ∙ so in absurd (cc), λ fault. absurd (none (fault_ahead from part field_number cause fault).2))

-- what is wrong at the place decides
pub decided_there : (from : ℕ) (part : List ℕ) (field_number : ℕ) (cause : WireCause) (at : ℕ) (test : Bool) → IsPassing part (cause.at - from) cause.code at → at ≡ cause.at - from
    → cause.field ≡ field_number → from ≤ cause.at → (IsTrue test ↔ IsBadAt part at cause.code) → IsTrue test ↔ PackedFault from part field_number cause
decided_there from part field_number cause at test so_far here number following decides = (
  λ so. fault_of_place from part field_number cause number following (IsPassing-there part (cause.at - from) cause.code at so_far here (decides.0 so)),
  λ fault. decides.1 (IsPassing-bad part (cause.at - from) cause.code at here (fault_ahead from part field_number cause fault).2),
)
