-- The faults of a message at its end.
use Rattle.std.proofs.Common.{◌≡◌, ℕ, ◌<◌, ◌≤◌, nat_lt, Bool, true, false, ◌&&◌, not, ◌⊎◌, inl, inr, List, refl, sym, ◌∙◌, ap, subst, arith}
use Rattle.std.proofs.lemmas.Bool.{cases_lt, cases_Bool, both_ways, and_parts, not-true, ltb-true, ltb-false}
use Rattle.mvt_wire.specs.Field.{Entry, cause_at}
use Rattle.mvt_rules.specs.WireFault.{count_known, EndFault, missing, not_one}
use Rattle.mvt_wire.specs.declared.cause.WireCause.{WireCause}
use Rattle.mvt_wire.specs.declared.cause.WireCode.TheVariants.{Missing, OneField}
use Rattle.mvt_wire.specs.declared.schema.Message.{Message}
use Rattle.mvt_wire.specs.declared.schema.Message.TheVariants.{Value}
use Rattle.mvt_fault.specs.Place.{ComesFirst}
use Rattle.mvt_tile.specs.Calls.Least.{cause_place, IsLeastCause}
use Rattle.mvt_tile.specs.Calls.FieldScan.{HasScanned, IsMissing}
use Rattle.mvt_tile.specs.declared.wire.scan.FieldScan.{FieldScan}
use Rattle.mvt_tile.proofs.WireFaults.Causes.{same_cause}

-- a fault at the end of a message has its place there
pub end_place : (message : Message) (entries : List Entry) (end : ℕ) (cause : WireCause) → EndFault message entries end cause → cause.at ≡ end
end_place message entries end cause (missing field_number rule known required absent is) = ap (λ (c : WireCause). c.at) is
end_place message entries end cause (not_one value count is) = ap (λ (c : WireCause). c.at) is

-- just one known field occurred
one_known : (count : ℕ) (known several : Bool) → known ≡ nat_lt 0 count → several ≡ nat_lt 1 count → (known && not several) ≡ true → count ≡ 1
one_known count known several some more one =
    let parts = and_parts known (not several) one in
    let low : 0 < count = ltb-true 0 count (sym some ∙ parts.0) in
    let high : count ≤ 1 = ltb-false 1 count (sym more ∙ not-true several parts.1) in
    omega arith

-- a fault at the end, as the scan finds it
abbrev pub UnseenOrNotOne : Message → FieldScan → ℕ → WireCause → Type 0
UnseenOrNotOne message scan end cause =
    ((field_number : ℕ) × IsMissing message scan field_number × (cause ≡ cause_at Missing end field_number))
    ⊎ ((message ≡ Value) × ((scan.known && not scan.several) ≡ false) × (cause ≡ cause_at OneField end 0))

not_true : (b : Bool) → ¬ (b ≡ true) → b ≡ false
not_true b never = elim (cases_Bool b) [ inl is ↦ absurd (never is) | inr is ↦ is ]

unseen_or_not_one : (message : Message) (scan : FieldScan) (entries : List Entry) (end : ℕ) (cause : WireCause) → HasScanned message scan entries → EndFault message entries end cause → UnseenOrNotOne message scan end cause
unseen_or_not_one message scan entries end cause passes (missing field_number rule known required absent is) =
    inl (field_number, record { rule = rule; known = known; required = required; absent = passes.occurred field_number rule known ∙ absent }, is)
unseen_or_not_one message scan entries end cause passes (not_one value count is) =
    inr (value, not_true (scan.known && not scan.several) (λ one. count (one_known (count_known message entries) scan.known scan.several (passes.known value) (passes.several value) one)), is)

-- the least missing number is the first fault at the end
pub Missing-first : (message : Message) (scan : FieldScan) (entries : List Entry) (end field_number : ℕ) → IsMissing message scan field_number → ((other : ℕ) → IsMissing message scan other → field_number ≤ other) → HasScanned message scan entries
    → IsLeastCause (EndFault message entries end) (cause_at Missing end field_number)
Missing-first message scan entries end field_number here least passes = record {
  holds = missing field_number here.rule here.known here.required (sym (passes.occurred field_number here.rule here.known) ∙ here.absent) refl;
  least = λ other fault. elim (unseen_or_not_one message scan entries end other passes fault) [
    | inl unseen ↦ subst (λ (c : WireCause). ComesFirst (cause_place (cause_at Missing end field_number)) (cause_place c)) (sym unseen.2) (elim (cases_lt field_number unseen.0) [
      | inl less ↦ inr (refl, inr (refl, inl less))
      | inr not_less ↦
          let below = least unseen.0 unseen.1 in
          let same : field_number ≡ unseen.0 = omega arith in
          same_cause (cause_at Missing end field_number) (cause_at Missing end unseen.0) (ap (λ (n : ℕ). cause_at Missing end n) same)
    ])
    | inr one ↦ subst (λ (c : WireCause). ComesFirst (cause_place (cause_at Missing end field_number)) (cause_place c)) (sym one.2)
        (inr (refl, inl (omega arith)))
  ];
}

-- where no number is missing, and a value has just one of its fields, there is none
pub EndFault-none : (message : Message) (scan : FieldScan) (entries : List Entry) (end : ℕ) → ((field_number : ℕ) → ¬ IsMissing message scan field_number) → (message ≡ Value → (scan.known && not scan.several) ≡ true) → HasScanned message scan entries
    → (cause : WireCause) → ¬ EndFault message entries end cause
EndFault-none message scan entries end none one passes cause fault = elim (unseen_or_not_one message scan entries end cause passes fault) [
  | inl unseen ↦ none unseen.0 unseen.1
  | inr several ↦ both_ways _ several.1 (one several.0)
]
