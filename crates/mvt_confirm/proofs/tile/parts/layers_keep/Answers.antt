use Rattle.std.proofs.Common.{◌≤◌, ℕ, List, length, All, subst, sym}
use Rattle.std.proofs.lemmas.Bool.{both_ways}
use Rattle.std.proofs.lemmas.Result.{IfOk-at_ok, IfErr-at_err}
use Rattle.mvt_wire.specs.Field.{Entry, entry_of}
use Rattle.mvt_wire.specs.Payload.{spans_of}
use Rattle.mvt_confirm.specs.Calls.Walking.{HoldsLayer}
use Rattle.mvt_confirm.proofs.Wire.FieldWalks.{passed, refused, defective, answered_no, one_with}
use Rattle.mvt_confirm.proofs.Wire.EmbeddedMessages.{part_passed, part_refused, lies_within}
use Rattle.mvt_confirm.proofs.tile.parts.layers_keep.Goals as goal

pub returns-in_default-item : goal.returns-in_default-item
returns-in_default-item c =
    answered_no c.walk.invariant.same
    (defective c.walk.fields c.next_field.new.self c.in_default-item.field-0 (λ (entries : List Entry). All (HoldsLayer c.args.bytes.now) (spans_of 3 entries))
    (IfErr-at_err _ c.in_default-item.is c.in-Some.ensures.defect))

pub is_layer_if_any-requires : goal.is_layer_if_any-requires
is_layer_if_any-requires c =
    lies_within (length c.args.bytes.now) c.walk.fields c.next_field.new.self (entry_of c.in-Ok.field) (IfOk-at_ok _ c.in-Ok.is c.in-Some.ensures.field) c.walk.invariant.front

pub returns-then-not-is_layer_if_any : goal.returns-then-not-is_layer_if_any
returns-then-not-is_layer_if_any c =
    answered_no c.walk.invariant.same
    (refused c.walk.fields c.next_field.new.self (entry_of c.in-Ok.field) (IfOk-at_ok _ c.in-Ok.is c.in-Some.ensures.field) (λ (entries : List Entry). All (HoldsLayer c.args.bytes.now) (spans_of 3 entries))
    (part_refused (HoldsLayer c.args.bytes.now) 3 (entry_of c.in-Ok.field) (λ embeds. both_ways c.is_layer_if_any.result c.if-not-is_layer_if_any.true (c.is_layer_if_any.ensures.1 embeds))))

pub walk-preserved : goal.walk-preserved
walk-preserved c =
    let Have = λ (entries : List Entry). All (HoldsLayer c.args.bytes.now) (spans_of 3 entries) in
    let given = IfOk-at_ok _ c.in-Ok.is c.in-Some.ensures.field in
    record {
      front = subst (λ (bytes : List ℕ). length bytes ≤ length c.args.bytes.now) (sym given.same_bytes) c.walk.invariant.front;
      same = one_with
          (passed c.walk.fields c.next_field.new.self (entry_of c.in-Ok.field) given Have Have
          (part_passed (HoldsLayer c.args.bytes.now) 3 (entry_of c.in-Ok.field) (c.is_layer_if_any.ensures.0 c.if-not-is_layer_if_any.false)))
          c.walk.invariant.same;
    }
