-- One more field after others: how many are known, and the faults of fields.
use Rattle.std.proofs.Common.{◌≡◌, ℕ, ◌+◌, inl, inr, List, [], ◌∷◌, ◌++◌, length, filter, is_some, Some, None, refl, sym, ◌∙◌, ap, subst, arith, length-append}
use Rattle.std.proofs.lemmas.Bool.{cond-true, cond-false}
use Rattle.std.proofs.lemmas.List.Elements.{filter-append}
use Rattle.mvt_wire.specs.Field.{Entry}
use Rattle.mvt_wire.specs.Schema.{rule_of}
use Rattle.mvt_rules.specs.WireFault.{stands_in, count_known, EntryFault, FieldFault}
use Rattle.mvt_wire.specs.declared.cause.WireCause.{WireCause}
use Rattle.mvt_wire.specs.declared.schema.FieldRule.{FieldRule}
use Rattle.mvt_wire.specs.declared.schema.Message.{Message}
use Rattle.mvt_tile.specs.Calls.Least.{IsLeastCause}
use Rattle.mvt_tile.proofs.WireFaults.FieldPlaces.{IsPlaced}
use Rattle.mvt_tile.specs.Calls.FieldScan.{IsFirstFieldFault}
use Rattle.mvt_tile.proofs.WireFaults.Causes.{by_offset}
use Rattle.mvt_tile.proofs.WireFaults.FieldFaults.{fault_within}
use Rattle.mvt_rules.proofs.Tiles.LastFields.{LastFault, FieldFault-last, FieldFault-earlier}

count_known-append : (message : Message) (entries : List Entry) (entry : Entry) → count_known message (entries ++ entry ∷ []) ≡ count_known message entries + length (filter (λ (e : Entry). is_some (rule_of message e.number)) (entry ∷ []))
count_known-append message entries entry =
    ap length (filter-append (λ (e : Entry). is_some (rule_of message e.number)) entries (entry ∷ [])) ∙ length-append (filter (λ (e : Entry). is_some (rule_of message e.number)) entries) _

pub count_known-more : (message : Message) (entries : List Entry) (entry : Entry) (rule : FieldRule) → rule_of message entry.number ≡ Some rule → count_known message (entries ++ entry ∷ []) ≡ count_known message entries + 1
count_known-more message entries entry rule known =
    let one : length (filter (λ (e : Entry). is_some (rule_of message e.number)) (entry ∷ [])) ≡ 1 = ap length (cond-true (is_some (rule_of message entry.number)) (entry ∷ []) [] (ap is_some known)) in
    count_known-append message entries entry ∙ ap (λ (k : ℕ). count_known message entries + k) one

pub count_known-same : (message : Message) (entries : List Entry) (entry : Entry) → rule_of message entry.number ≡ None → count_known message (entries ++ entry ∷ []) ≡ count_known message entries
count_known-same message entries entry unknown =
    let none : length (filter (λ (e : Entry). is_some (rule_of message e.number)) (entry ∷ [])) ≡ 0 = ap length (cond-false (is_some (rule_of message entry.number)) (entry ∷ []) [] (ap is_some unknown)) in
    let more = count_known-append message entries entry in
    omega arith

pub faultless-unknown : (message : Message) (entries : List Entry) (last : Entry) → rule_of message last.number ≡ None
    → ((cause : WireCause) → ¬ FieldFault message entries cause) → (cause : WireCause) → ¬ FieldFault message (entries ++ last ∷ []) cause
faultless-unknown message entries last unknown none cause fault = elim (FieldFault-last message entries last cause fault) [
  | inl earlier ↦ none cause earlier
  | inr own ↦ let both : None ≡ Some own.0 = sym unknown ∙ own.1 in absurd (cc)
]

-- a rule is found once
own_fault : (message : Message) (entries : List Entry) (last : Entry) (rule : FieldRule) (cause : WireCause) → rule_of message last.number ≡ Some rule → LastFault message entries last cause
    → EntryFault rule (stands_in last.number entries) last cause
own_fault message entries last rule cause known fault =
    let both : Some rule ≡ Some fault.0 = sym known ∙ fault.1 in
    let same : fault.0 ≡ rule = cc in
    subst (λ (r : FieldRule). EntryFault r (stands_in last.number entries) last cause) same fault.2

-- a field that has no fault leaves the fields faultless
pub faultless-known : (message : Message) (entries : List Entry) (last : Entry) (rule : FieldRule) → rule_of message last.number ≡ Some rule
    → ((cause : WireCause) → ¬ FieldFault message entries cause) → ((cause : WireCause) → ¬ EntryFault rule (stands_in last.number entries) last cause)
    → (cause : WireCause) → ¬ FieldFault message (entries ++ last ∷ []) cause
faultless-known message entries last rule known none clean cause fault = elim (FieldFault-last message entries last cause fault) [
  | inl earlier ↦ none cause earlier
  | inr own ↦ clean cause (own_fault message entries last rule cause known own)
]

-- the first fault of a field after faultless ones is the first of all
pub IsFirstFieldFault-new : (message : Message) (entries : List Entry) (last : Entry) (next : ℕ) (rule : FieldRule) (first : WireCause) → IsPlaced last next → rule_of message last.number ≡ Some rule
    → ((cause : WireCause) → ¬ FieldFault message entries cause) → IsLeastCause (EntryFault rule (stands_in last.number entries) last) first
    → IsFirstFieldFault message (entries ++ last ∷ []) next first
IsFirstFieldFault-new message entries last next rule first placed known none least = record {
  before = (fault_within rule (stands_in last.number entries) last next first placed least.holds).1;
  least = record {
    holds = record { before = entries; entry = last; after = []; split = refl; rule = rule; known = known; fault = least.holds };
    least = λ cause fault. elim (FieldFault-last message entries last cause fault) [
      | inl earlier ↦ absurd (none cause earlier)
      | inr own ↦ least.least cause (own_fault message entries last rule cause known own)
    ];
  };
}

-- and stays it, whatever is later
pub IsFirstFieldFault-kept : (message : Message) (entries : List Entry) (last : Entry) (next : ℕ) (first : WireCause) → IsPlaced last next
    → IsFirstFieldFault message entries last.at first → IsFirstFieldFault message (entries ++ last ∷ []) next first
IsFirstFieldFault-kept message entries last next first placed so_far = record {
  before = let forward = placed.forward in let before = so_far.before in omega arith;
  least = record {
    holds = FieldFault-earlier message entries last first so_far.least.holds;
    least = λ cause fault. elim (FieldFault-last message entries last cause fault) [
      | inl earlier ↦ so_far.least.least cause earlier
      | inr own ↦
          let within = fault_within own.0 (stands_in last.number entries) last next cause placed own.2 in
          let before = so_far.before in
          by_offset first cause (omega (arith, within.0))
    ];
  };
}
