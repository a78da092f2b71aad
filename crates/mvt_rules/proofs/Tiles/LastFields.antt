-- The faults of a message's fields, one field after others.
use Rattle.std.proofs.Common.{◌≡◌, ◌⊎◌, inl, inr, List, [], ◌∷◌, ◌++◌, Some, refl, ◌∙◌, ap, subst, append_assoc}
use Rattle.mvt_wire.specs.Field.{Entry}
use Rattle.mvt_wire.specs.Schema.{rule_of}
use Rattle.mvt_rules.specs.WireFault.{stands_in, EntryFault, FieldFault}
use Rattle.mvt_wire.specs.declared.cause.WireCause.{WireCause}
use Rattle.mvt_wire.specs.declared.schema.FieldRule.{FieldRule}
use Rattle.mvt_wire.specs.declared.schema.Message.{Message}

-- a list with one more at its end, parted: the last one, or one before it
abbrev pub PartsLast : List Entry → List Entry → Entry → Entry → List Entry → Type 0
PartsLast entries before last entry after = ((before ≡ entries) × (entry ≡ last)) ⊎ ((rest : List Entry) × (entries ≡ before ++ entry ∷ rest))

part_last : (entries before : List Entry) (last entry : Entry) (after : List Entry) → entries ++ last ∷ [] ≡ before ++ entry ∷ after → PartsLast entries before last entry after
part_last [] [] last entry after is = inl (refl, (cc))
part_last [] (b ∷ []) last entry after is = absurd (cc)
part_last [] (b ∷ c ∷ before) last entry after is = absurd (cc)
part_last (e ∷ entries) [] last entry after is = inr (entries, (cc))
part_last (e ∷ entries) (b ∷ before) last entry after is =
    let head : e ≡ b = cc in
    let tail : entries ++ last ∷ [] ≡ before ++ entry ∷ after = cc in
    elim (part_last entries before last entry after tail) [
      | inl both ↦ let front : before ≡ entries = both.0 in inl ((cc), both.1)
      | inr inner ↦ let middle : entries ≡ before ++ entry ∷ inner.0 = inner.1 in inr (inner.0, (cc))
    ]

-- a fault of the last field, by the rule for its number
abbrev pub LastFault : Message → List Entry → Entry → WireCause → Type 0
LastFault message entries last cause = (rule : FieldRule) × (rule_of message last.number ≡ Some rule) × EntryFault rule (stands_in last.number entries) last cause

-- a fault of the fields is one of those before the last, or of the last
pub FieldFault-last : (message : Message) (entries : List Entry) (last : Entry) (cause : WireCause) → FieldFault message (entries ++ last ∷ []) cause → FieldFault message entries cause ⊎ LastFault message entries last cause
FieldFault-last message entries last cause fault = elim (part_last entries fault.before last fault.entry fault.after fault.split) [
  | inr inner ↦ inl (record { before = fault.before; entry = fault.entry; after = inner.0; split = inner.1; rule = fault.rule; known = fault.known; fault = fault.fault })
  | inl both ↦ inr (
    fault.rule,
    subst (λ (e : Entry). rule_of message e.number ≡ Some fault.rule) both.1 fault.known,
    subst (λ (e : Entry). EntryFault fault.rule (stands_in e.number entries) e cause) both.1
        (subst (λ (before : List Entry). EntryFault fault.rule (stands_in fault.entry.number before) fault.entry cause) both.0 fault.fault),
  )
]

pub FieldFault-earlier : (message : Message) (entries : List Entry) (last : Entry) (cause : WireCause) → FieldFault message entries cause → FieldFault message (entries ++ last ∷ []) cause
FieldFault-earlier message entries last cause fault = record {
  before = fault.before;
  entry = fault.entry;
  after = fault.after ++ last ∷ [];
  split = ap (λ (list : List Entry). list ++ last ∷ []) fault.split ∙ append_assoc fault.before (fault.entry ∷ fault.after) (last ∷ []);
  rule = fault.rule;
  known = fault.known;
  fault = fault.fault;
}
