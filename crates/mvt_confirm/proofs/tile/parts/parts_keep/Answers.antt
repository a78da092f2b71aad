use Rattle.std.proofs.Common.{◌≤◌, ℕ, List, length, All, subst, sym}
use Rattle.std.proofs.lemmas.Bool.{both_ways}
use Rattle.std.proofs.lemmas.Result.{IfOk-at_ok, IfErr-at_err}
use Rattle.mvt_wire.specs.Field.{Entry, entry_of}
use Rattle.mvt_wire.specs.Payload.{spans_of}
use Rattle.mvt_confirm.specs.Calls.Walking.{HoldsMessage}
use Rattle.mvt_confirm.proofs.Wire.FieldWalks.{passed, refused, defective, answered_no, one_with}
use Rattle.mvt_confirm.proofs.Wire.EmbeddedMessages.{part_passed, part_refused, lies_within}
use Rattle.mvt_confirm.proofs.tile.parts.parts_keep.Goals as goal

pub returns-in_default-item : goal.returns-in_default-item
returns-in_default-item c =
    answered_no c.walk.invariant.same
    (defective c.walk.fields c.next_field.new.self c.in_default-item.field-0 (λ (entries : List Entry). All (HoldsMessage c.args.message c.args.place.now.bytes.now) (spans_of c.args.number entries))
    (IfErr-at_err _ c.in_default-item.is c.in-Some.ensures.defect))

pub keeps_if_any-requires : goal.keeps_if_any-requires
keeps_if_any-requires c =
    lies_within (length c.args.place.now.bytes.now) c.walk.fields c.next_field.new.self (entry_of c.in-Ok.field) (IfOk-at_ok _ c.in-Ok.is c.in-Some.ensures.field) c.walk.invariant.front

pub returns-then-not-keeps_if_any : goal.returns-then-not-keeps_if_any
returns-then-not-keeps_if_any c =
    answered_no c.walk.invariant.same
    (refused c.walk.fields c.next_field.new.self (entry_of c.in-Ok.field) (IfOk-at_ok _ c.in-Ok.is c.in-Some.ensures.field) (λ (entries : List Entry). All (HoldsMessage c.args.message c.args.place.now.bytes.now) (spans_of c.args.number entries))
    (part_refused (HoldsMessage c.args.message c.args.place.now.bytes.now) c.args.number (entry_of c.in-Ok.field) (λ embeds. both_ways c.keeps_if_any.result c.if-not-keeps_if_any.true (c.keeps_if_any.ensures.1 embeds))))

pub walk-preserved : goal.walk-preserved
walk-preserved c =
    let Have = λ (entries : List Entry). All (HoldsMessage c.args.message c.args.place.now.bytes.now) (spans_of c.args.number entries) in
    let given = IfOk-at_ok _ c.in-Ok.is c.in-Some.ensures.field in
    record {
      front = subst (λ (bytes : List ℕ). length bytes ≤ length c.args.place.now.bytes.now) (sym given.same_bytes) c.walk.invariant.front;
      same = one_with
          (passed c.walk.fields c.next_field.new.self (entry_of c.in-Ok.field) given Have Have
          (part_passed (HoldsMessage c.args.message c.args.place.now.bytes.now) c.args.number (entry_of c.in-Ok.field) (c.keeps_if_any.ensures.0 c.if-not-keeps_if_any.false)))
          c.walk.invariant.same;
    }
