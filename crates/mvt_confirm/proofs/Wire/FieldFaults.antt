-- The faults of a message's fields, one field after others.
use Rattle.std.proofs.Common.{◌≡◌, ◌≢◌, ℕ, ◌↔◌, IsTrue, Bool, true, false, ◌⊎◌, inl, inr, List, [], ◌∷◌, ◌++◌, Some, refl, sym, ◌∙◌, ap, subst}
use Rattle.mvt_wire.specs.Field.{Entry}
use Rattle.mvt_wire.specs.Message.{IsMessage}
use Rattle.mvt_wire.specs.Schema.{rule_of}
use Rattle.mvt_wire.specs.Walk.{Walk, IsOver, GivesField, FindsDefect}
use Rattle.mvt_rules.specs.WireFault.{stands_in, EntryFault, other_type, again, no_text, out_of_range, packed, FieldFault}
use Rattle.mvt_wire.specs.declared.cause.WireCause.{WireCause}
use Rattle.mvt_wire.specs.declared.schema.FieldRule.{FieldRule}
use Rattle.mvt_wire.specs.declared.schema.Message.{Message}
use Rattle.mvt_wire.proofs.Encoding.Messages.{one_list, whole_or_defect}
use Rattle.mvt_confirm.proofs.Wire.PackedWalk.{fault_ahead}
use Rattle.mvt_wire.proofs.Walking.{IsWalking, IsWalking-more, IsWalking-defect, IsWalking-whole}
use Rattle.mvt_rules.proofs.Tiles.Schemas.{stands_in-own, stands_in-other}
use Rattle.mvt_rules.proofs.Tiles.LastFields.{LastFault, FieldFault-last, FieldFault-earlier}

-- a fault of a field names its number
pub names_field : (rule : FieldRule) (occurred : Bool) (entry : Entry) (cause : WireCause) → EntryFault rule occurred entry cause → cause.field ≡ entry.number
names_field rule occurred entry cause (other_type other is) = ap (λ (c : WireCause). c.field) is
names_field rule occurred entry cause (again singular stands is) = ap (λ (c : WireCause). c.field) is
names_field rule occurred entry cause (no_text from part shape content not is) = ap (λ (c : WireCause). c.field) is
names_field rule occurred entry cause (out_of_range value at content over is) = ap (λ (c : WireCause). c.field) is
names_field rule occurred entry cause (packed from part shape content fault) = (fault_ahead from part entry.number cause fault).0

module _ (bytes : List ℕ) (from : ℕ) (message : Message) (cause : WireCause) where
  -- whether the fault is one of the fields that were passed
  pub record IsLooking (walk : Walk) (occurred found : Bool) : Type 0 where
    pub entries : List Entry
    pub walked : IsWalking bytes from walk entries
    pub stands : occurred ≡ stands_in cause.field entries
    pub same : IsTrue found ↔ FieldFault message entries cause

  -- a field of another number has not this fault
  pub IsLooking-other : (old new : Walk) (occurred found : Bool) (entry : Entry) → IsLooking old occurred found → GivesField old new entry → entry.number ≢ cause.field → IsLooking new occurred found
  IsLooking-other old new occurred found entry so_far given other = record {
    entries = so_far.entries ++ entry ∷ [];
    walked = IsWalking-more bytes from old new so_far.entries entry so_far.walked given;
    stands = so_far.stands ∙ sym (stands_in-other cause.field so_far.entries entry other);
    same = (
      λ here. FieldFault-earlier message so_far.entries entry cause (so_far.same.0 here),
      λ fault. elim (FieldFault-last message so_far.entries entry cause fault) [
        | inl earlier ↦ so_far.same.1 earlier
        | inr own ↦ absurd (other (sym (names_field own.0 (stands_in entry.number so_far.entries) entry cause own.2)))
      ],
    );
  }

  module _ (old new : Walk) (occurred found : Bool) (entry : Entry) (so_far : IsLooking old occurred found) (given : GivesField old new entry) (own : entry.number ≡ cause.field)
      (rule : FieldRule) (known : rule_of message cause.field ≡ Some rule) where
    -- whether the field occurred before it
    before : occurred ≡ stands_in entry.number so_far.entries
    before = so_far.stands ∙ ap (λ (n : ℕ). stands_in n so_far.entries) (sym own)

    its_rule : rule_of message entry.number ≡ Some rule
    its_rule = ap (rule_of message) own ∙ known

    last_fault : LastFault message so_far.entries entry cause → EntryFault rule occurred entry cause
    last_fault last =
        let both : Some last.0 ≡ Some rule = sym last.1 ∙ its_rule in
        let same : last.0 ≡ rule = cc in
        subst (λ (b : Bool). EntryFault rule b entry cause) (sym before) (subst (λ (r : FieldRule). EntryFault r (stands_in entry.number so_far.entries) entry cause) same last.2)

    new_fault : EntryFault rule occurred entry cause → FieldFault message (so_far.entries ++ entry ∷ []) cause
    new_fault fault =
        record { before = so_far.entries; entry = entry; after = []; split = refl; rule = rule; known = its_rule; fault = subst (λ (b : Bool). EntryFault rule b entry cause) before fault }

    -- the fault was found before, or is one of the field of its number
    pub IsLooking-own : (now : Bool) → (IsTrue now ↔ (IsTrue found ⊎ EntryFault rule occurred entry cause)) → IsLooking new true now
    IsLooking-own now decides = record {
      entries = so_far.entries ++ entry ∷ [];
      walked = IsWalking-more bytes from old new so_far.entries entry so_far.walked given;
      stands = sym (stands_in-own cause.field so_far.entries entry own);
      same = (
        λ here. elim (decides.0 here) [
          | inl earlier ↦ FieldFault-earlier message so_far.entries entry cause (so_far.same.0 earlier)
          | inr fault ↦ new_fault fault
        ],
        λ fault. decides.1 (elim (FieldFault-last message so_far.entries entry cause fault) [
          | inl earlier ↦ inl (so_far.same.1 earlier)
          | inr last ↦ inr (last_fault last)
        ]),
      );
    }

    -- it was found before, or it is asked of this field
    pub IsLooking-still : found ≡ true → IsLooking new true found
    IsLooking-still here = IsLooking-own found (λ so. inl so, λ either. here)

    pub IsLooking-asked : (now : Bool) → found ≡ false → (IsTrue now ↔ EntryFault rule occurred entry cause) → IsLooking new true now
    IsLooking-asked now not decides = IsLooking-own now (
      λ so. inr (decides.0 so),
      λ either. elim either [ inl earlier ↦ let both : false ≡ true = sym not ∙ earlier in absurd (cc) | inr fault ↦ decides.1 fault ],
    )

  -- a message with a defect isn't whole
  pub IsLooking-defect : (old new : Walk) (occurred found test : Bool) (defect : WireCause) → IsLooking old occurred found → FindsDefect old new defect → test ≡ false
      → IsTrue test ↔ ((entries : List Entry) × IsMessage bytes from entries × FieldFault message entries cause)
  IsLooking-defect old new occurred found test defect so_far finds is = (
    λ so. let both : false ≡ true = sym is ∙ so in absurd (cc),
    λ there. absurd (whole_or_defect bytes from there.0 defect there.1 (IsWalking-defect bytes from old new so_far.entries defect so_far.walked finds)),
  )

  -- the whole message was passed
  pub IsLooking-over : (old new : Walk) (occurred found : Bool) → IsLooking old occurred found → IsOver old new
      → IsTrue found ↔ ((entries : List Entry) × IsMessage bytes from entries × FieldFault message entries cause)
  IsLooking-over old new occurred found so_far over =
      let whole = IsWalking-whole bytes from old new so_far.entries so_far.walked over in (
        λ here. (so_far.entries, whole, so_far.same.0 here),
        λ there. so_far.same.1 (subst (λ (entries : List Entry). FieldFault message entries cause) (one_list bytes from there.0 so_far.entries there.1 whole) there.2),
      )
