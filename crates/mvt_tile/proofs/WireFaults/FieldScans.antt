-- What a scan keeps of the fields of a message.
use Rattle.std.proofs.Common.{◌≡◌, ℕ, ◌+◌, ◌<◌, nat_lt, Bool, true, false, List, [], ◌∷◌, ◌++◌, length, get_or, slice_set, Some, None, inl, inr, refl, sym, ◌∙◌, ap, subst, arith, get_or-set_same, get_or-set_other}
use Rattle.std.proofs.lemmas.Bool.{cases_eq, cases_lt, lt-ltb, le-ltb}
use Rattle.mvt_wire.specs.Field.{Entry}
use Rattle.mvt_wire.specs.Schema.{rule_of}
use Rattle.mvt_rules.specs.WireFault.{stands_in, count_known, EntryFault}
use Rattle.mvt_wire.specs.declared.cause.WireCause.{WireCause}
use Rattle.mvt_wire.specs.declared.schema.FieldRule.{FieldRule}
use Rattle.mvt_wire.specs.declared.schema.Message.{Message}
use Rattle.mvt_wire.specs.declared.schema.Message.TheVariants.{Value}
use Rattle.mvt_tile.specs.Calls.Least.{IsLeastCause}
use Rattle.mvt_tile.proofs.WireFaults.FieldPlaces.{IsPlaced}
use Rattle.mvt_tile.specs.Calls.FieldScan.{was_seen, HasScanned, IsFirstFieldFault}
use Rattle.mvt_tile.specs.declared.wire.scan.FieldScan.{FieldScan}
use Rattle.mvt_rules.proofs.Tiles.Schemas.{stands_in-own, stands_in-other}
use Rattle.mvt_tile.proofs.WireFaults.OneMoreField.{count_known-more, count_known-same, faultless-unknown, faultless-known, IsFirstFieldFault-new}

-- no field was passed
pub none_split : (before : List Entry) (entry : Entry) (after : List Entry) → [] ≡ before ++ entry ∷ after → ⊥
none_split [] entry after is = cc
none_split (b ∷ before) entry after is = cc

-- a field of an unknown number is passed
pub HasScanned-unknown : (message : Message) (scan : FieldScan) (entries : List Entry) (entry : Entry) → rule_of message entry.number ≡ None → HasScanned message scan entries → HasScanned message scan (entries ++ entry ∷ [])
HasScanned-unknown message scan entries entry unknown so_far =
    let same : count_known message entries ≡ count_known message (entries ++ entry ∷ []) = sym (count_known-same message entries entry unknown) in
    record {
      occurred = λ field_number rule known.
          let other : ¬ (entry.number ≡ field_number) = λ same. let both : None ≡ Some rule = sym unknown ∙ ap (rule_of message) same ∙ known in absurd (cc) in
          so_far.occurred field_number rule known ∙ sym (stands_in-other field_number entries entry other);
      known = λ value. so_far.known value ∙ ap (nat_lt 0) same;
      several = λ value. so_far.several value ∙ ap (nat_lt 1) same;
      faultless = faultless-unknown message entries entry unknown so_far.faultless;
    }

-- that a number has occurred is kept
occurred_more : (occurred : List Bool) (entries : List Entry) (entry : Entry) (field_number : ℕ) → entry.number < length occurred
    → get_or occurred field_number false ≡ stands_in field_number entries
    → get_or (slice_set occurred entry.number true) field_number false ≡ stands_in field_number (entries ++ entry ∷ [])
occurred_more occurred entries entry field_number within so_far = elim (cases_eq field_number entry.number) [
  | inl same ↦
      let here : get_or (slice_set occurred entry.number true) field_number false ≡ true = ap (λ (n : ℕ). get_or (slice_set occurred entry.number true) n false) same ∙ get_or-set_same occurred entry.number true false within in
      here ∙ sym (stands_in-own entry.number entries entry refl) ∙ ap (λ (n : ℕ). stands_in n (entries ++ entry ∷ [])) (sym same)
  | inr other ↦
      get_or-set_other occurred entry.number field_number true false other ∙ so_far ∙ sym (stands_in-other field_number entries entry (λ same. other (sym same)))
]

-- more than one of one more are some
lt_more : (count : ℕ) → nat_lt 1 (count + 1) ≡ nat_lt 0 count
lt_more count = elim (cases_lt 0 count) [
  | inl some ↦ lt-ltb 1 (count + 1) (omega arith) ∙ sym (lt-ltb 0 count some)
  | inr none ↦ le-ltb 1 (count + 1) (omega arith) ∙ sym (le-ltb 0 count none)
]

-- a field of a known number is passed, which has no fault
pub HasScanned-known : (message : Message) (scan : FieldScan) (entries : List Entry) (entry : Entry) (rule : FieldRule) → rule_of message entry.number ≡ Some rule → entry.number < length scan.occurred
    → ((cause : WireCause) → ¬ EntryFault rule (was_seen scan entry.number) entry cause) → HasScanned message scan entries
    → (after : FieldScan) → after.occurred ≡ slice_set scan.occurred entry.number true → (message ≡ Value → (after.known ≡ true) × (after.several ≡ scan.known)) → HasScanned message after (entries ++ entry ∷ [])
HasScanned-known message scan entries entry rule is within clean so_far after kept counted =
    let more = count_known-more message entries entry rule is in
    record {
      occurred = λ field_number other asked. ap (λ (occurred : List Bool). get_or occurred field_number false) kept ∙ occurred_more scan.occurred entries entry field_number within (so_far.occurred field_number other asked);
      known = λ value. (counted value).0 ∙ sym (lt-ltb 0 (count_known message (entries ++ entry ∷ [])) (omega arith));
      several = λ value. (counted value).1 ∙ so_far.known value ∙ sym (lt_more (count_known message entries)) ∙ ap (nat_lt 1) (sym more);
      faultless = faultless-known message entries entry rule is so_far.faultless
          (λ cause. subst (λ (occurred : Bool). ¬ EntryFault rule occurred entry cause) (so_far.occurred entry.number rule is) (clean cause));
    }

-- its first fault is the first of all
pub HasScanned-fault : (message : Message) (scan : FieldScan) (entries : List Entry) (entry : Entry) (next : ℕ) (rule : FieldRule) (cause : WireCause) → IsPlaced entry next → rule_of message entry.number ≡ Some rule
    → IsLeastCause (EntryFault rule (was_seen scan entry.number) entry) cause → HasScanned message scan entries → IsFirstFieldFault message (entries ++ entry ∷ []) next cause
HasScanned-fault message scan entries entry next rule cause placed is least so_far =
    IsFirstFieldFault-new message entries entry next rule cause placed is so_far.faultless
    (subst (λ (occurred : Bool). IsLeastCause (EntryFault rule occurred entry) cause) (so_far.occurred entry.number rule is) least)
