use Rattle.std.proofs.Common.{◌≡◌, ◌↔◌, ◌+◌, true, false, Bool, IsTrue, arith}
use Rattle.std.proofs.lemmas.Result.{IfOk-at_ok, IfErr-at_err}
use Rattle.mvt_wire.specs.Field.{entry_of}
use Rattle.mvt_confirm.specs.Calls.Walking.{HasOneKnownAfter, count_before}
use Rattle.mvt_confirm.proofs.Wire.FieldWalks.{passed, refused, defective, none_left, answered_no, one_with, other_way}
use Rattle.mvt_confirm.proofs.tile.schema.has_one_known.Goals as goal

pub returns-in_default-item : goal.returns-in_default-item
returns-in_default-item c =
    answered_no c.walk.invariant
    (defective c.walk.fields c.next_field.new.self c.in_default-item.field-0 (HasOneKnownAfter c.walk.known) (IfErr-at_err _ c.in_default-item.is c.in-Some.ensures.defect))

pub returns-in_default-pass : goal.returns-in_default-pass
returns-in_default-pass c =
    answered_no c.walk.invariant
    (refused c.walk.fields c.next_field.new.self (entry_of c.in-Ok.field) (IfOk-at_ok _ c.in-Ok.is c.in-Some.ensures.field) (HasOneKnownAfter c.walk.known) c.in_default-pass.ensures.broken)

pub walk-preserved : goal.walk-preserved
walk-preserved c =
    one_with
    (passed c.walk.fields c.next_field.new.self (entry_of c.in-Ok.field) (IfOk-at_ok _ c.in-Ok.is c.in-Some.ensures.field) (HasOneKnownAfter c.walk.known)
    (HasOneKnownAfter c.in-Some-pass.occurred) c.in-Some-pass.ensures.kept)
    c.walk.invariant

-- at the end just one field occurred if one did
one_occurred : (known : Bool) → IsTrue known ↔ (count_before known + 0 ≡ 1)
one_occurred true = (λ is. omega arith, λ one. search)
one_occurred false = (λ is. absurd (cc), λ one. absurd (omega arith))

pub returns : goal.returns
returns c =
    one_with (one_occurred c.walk.known) (one_with (other_way (none_left c.walk.fields c.next_field.new.self (HasOneKnownAfter c.walk.known) c.in_default.ensures.over)) c.walk.invariant)
