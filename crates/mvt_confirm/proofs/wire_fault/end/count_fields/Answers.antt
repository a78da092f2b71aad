use Rattle.std.proofs.Common.{◌≡◌, ◌==◌, ℕ, Bool, is_some, inl, inr, refl, ◌∙◌, ap, subst}
use Rattle.std.proofs.lemmas.Bool.{eq-eqb, ne_eqb}
use Rattle.std.proofs.lemmas.Result.{IfErr-at_err, IfOk-at_ok}
use Rattle.mvt_wire.specs.Field.{entry_of}
use Rattle.mvt_wire.specs.Schema.{rule_of}
use Rattle.mvt_confirm.specs.declared.wire_fault.end.FieldCounts.{FieldCounts}
use Rattle.mvt_confirm.proofs.Wire.FieldCounts.{Counts, IsCounting, IsCounting-defect, IsCounting-more}
use Rattle.mvt_confirm.proofs.wire_fault.end.count_fields.Goals as goal
use Rattle.mvt_confirm.specs.Calls.MessageBytes.{front}
use Rattle.mvt_confirm.proofs.wire_fault.end.count_fields.Goals.{After-is_some, then-field-field_number, else-field-field_number}

pub returns-in_default-item-clause-none : goal.returns-in_default-item-clause-none
returns-in_default-item-clause-none c = λ entries.
    IsCounting-defect (front c.args.place.now) c.args.place.now.span.from c.args.message c.args.field_number c.walk.fields c.next_field.new.self _ _ c.in_default-item.field-0 entries
    c.walk.invariant (IfErr-at_err _ c.in_default-item.is c.in-Some.ensures.defect)

-- one more field is counted, and known or not
more : (c : After-is_some) → (known : ℕ) → Counts c.is_some.result c.if-field-field_number.counts.known known
    → IsCounting (front c.args.place.now) c.args.place.now.span.from c.args.message c.args.field_number c.next_field.new.self c.if-field-field_number.counts.of_number known
more c known decided =
    let entry = entry_of c.in-Ok.field in
    let both : Counts (entry.number == c.args.field_number) c.walk.counts.of_number c.if-field-field_number.counts.of_number × (c.if-field-field_number.counts.known ≡ c.walk.counts.known) = elim c.if-field-field_number.branch [
      | then-field-field_number w ↦
          (inl (eq-eqb entry.number c.args.field_number w.if-field-field_number.true, ap (λ (x : FieldCounts). x.of_number) w.counts-is), ap (λ (x : FieldCounts). x.known) w.counts-is)
      | else-field-field_number w ↦
          (inr (ne_eqb entry.number c.args.field_number w.if-field-field_number.false, ap (λ (x : FieldCounts). x.of_number) w.counts-is), ap (λ (x : FieldCounts). x.known) w.counts-is)
    ] in
    let test : c.is_some.result ≡ is_some (rule_of c.args.message entry.number) = c.is_some.ensures ∙ ap is_some c.rule.ensures in
    IsCounting-more (front c.args.place.now) c.args.place.now.span.from c.args.message c.args.field_number c.walk.fields c.next_field.new.self
    c.walk.counts.of_number c.walk.counts.known _ known entry c.walk.invariant (IfOk-at_ok _ c.in-Ok.is c.in-Some.ensures.field) both.0
    (subst (λ (it : Bool). Counts it c.walk.counts.known known) test (subst (λ (n : ℕ). Counts c.is_some.result n known) both.1 decided))

pub walk-preserved-then-is_some : goal.walk-preserved-then-is_some
walk-preserved-then-is_some c = more (goal.at.walk-preserved-then-is_some c).After-is_some _ (inl (c.if-is_some.true, refl))

pub walk-preserved : goal.walk-preserved
walk-preserved c = more (goal.at.walk-preserved c).After-is_some _ (inr (c.if-is_some.false, refl))
