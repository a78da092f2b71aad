use Rattle.std.proofs.Common.{◌≡◌, ◌<◌, ℕ, List, [], length, Option, Some, None, ◌∙◌, ap, subst, arith}
use Rattle.mvt_wire.specs.Field.{FieldDefect, entry_of}
use Rattle.mvt_wire.specs.Numbers.{NumbersEnd}
use Rattle.mvt_wire.specs.declared.cause.WireCause.{WireCause}
use Rattle.mvt_wire.proofs.FieldNumbers.NumberEnds.{ends_at_defect, ends_whole, ends-skip}
use Rattle.mvt_wire.proofs.FieldNumbers.NumberWalks.{left_from_field, same_after, LeavesVarints-at}
use Rattle.mvt_wire.specs.Calls.Numbers.{HasNoNumberFault}
use Rattle.mvt_wire.proofs.FieldNumbers.FaultlessNumbers.{begins_within, given_in, left_in_field, own_at}
use Rattle.mvt_wire.proofs.numbers.whole.next_varints.Goals as goal

-- no fault ends the numbers from a place on from which what is left was left from the start
still_faultless : (bytes : List ℕ) (from at k : ℕ) → HasNoNumberFault bytes from k → ((numbers : List ℕ) (ending : Option WireCause) → NumbersEnd bytes at k numbers ending → NumbersEnd bytes from k numbers ending) → HasNoNumberFault bytes at k
still_faultless bytes from at k faultless same given cause end = faultless given cause (same given (Some cause) end)

pub next_whole-requires : goal.next_whole-requires
next_whole-requires c = λ cause left defect.
    let so_far = c.walk.invariant in
    still_faultless _ _ _ _ c.requires.faultless so_far.same [] cause (ends_at_defect c.args.bytes.now c.walk.fields.at c.args.number cause
    (subst (λ (message : List ℕ). c.walk.fields.at < length message) so_far.same_bytes left) (subst (λ (message : List ℕ). FieldDefect message c.walk.fields.at cause) so_far.same_bytes defect))

pub varints_in-at-requires : goal.varints_in-at-requires
varints_in-at-requires c =
    let so_far = c.walk.invariant in
    let given = c.in-Some.ensures.field in
    own_at c.args.bytes.now c.walk.fields.at _ c.args.number (entry_of c.in-Some.field) (still_faultless _ _ _ _ c.requires.faultless so_far.same) given.here (given_in so_far.same_bytes given) c.if-field-number.true

pub returns-then-at-end-clause-found : goal.returns-then-at-end-clause-found
returns-then-at-end-clause-found c = λ _.
    let so_far = c.walk.invariant in
    let given = c.in-Some.ensures.field in
    let entry = entry_of c.in-Some.field in
    let field = given_in so_far.same_bytes given in
    let begins = begins_within c.args.bytes.now _ c.varints_in-at.result entry field c.varints_in-at.ensures in
    let size : length c.walk.fields.bytes ≡ length c.args.bytes.now = ap length so_far.same_bytes in
    rw c.at-end.ensures (LeavesVarints-at c.args.bytes.now c.args.number c.args.from c.walk.fields.at c.varints_in-at.result _ so_far.further (omega (arith, begins.0, given.here)) (omega (arith, c.if-at-end.true, c.at-end.ensures)) (omega (arith, given.within, size)) so_far.same
    (left_in_field c.args.bytes.now c.walk.fields.at _ c.args.number c.varints_in-at.result entry given.here field c.if-field-number.true c.varints_in-at.ensures))

pub walk-preserved-else-at-end : goal.walk-preserved-else-at-end
walk-preserved-else-at-end c =
    let so_far = c.walk.invariant in
    let given = c.in-Some.ensures.field in
    let entry = entry_of c.in-Some.field in
    let field = given_in so_far.same_bytes given in
    let begins = begins_within c.args.bytes.now _ c.varints_in-at.result entry field c.varints_in-at.ensures in
    record {
      same_bytes = given.same_bytes ∙ so_far.same_bytes;
      further = omega (arith, so_far.further, given.further);
      same = same_after c.args.bytes.now c.args.number c.args.from c.walk.fields.at c.varints_in-at.result _ (omega (arith, c.if-at-end.false, c.at-end.ensures)) begins.1 so_far.same
          (left_in_field c.args.bytes.now c.walk.fields.at _ c.args.number c.varints_in-at.result entry given.here field c.if-field-number.true c.varints_in-at.ensures);
    }

pub walk-preserved : goal.walk-preserved
walk-preserved c =
    let so_far = c.walk.invariant in
    let given = c.in-Some.ensures.field in
    record {
      same_bytes = given.same_bytes ∙ so_far.same_bytes;
      further = omega (arith, so_far.further, given.further);
      same = λ numbers ending end. so_far.same numbers ending (ends-skip c.args.bytes.now c.walk.fields.at _ c.args.number (entry_of c.in-Some.field) numbers ending given.here (given_in so_far.same_bytes given) c.if-field-number.false end);
    }

pub returns-clause-none : goal.returns-clause-none
returns-clause-none c = λ _.
    let so_far = c.walk.invariant in
    left_from_field c.args.bytes.now c.args.from c.args.number [] None (so_far.same [] None (ends_whole c.args.bytes.now c.walk.fields.at c.args.number (c.in_default.ensures.over.at_end ∙ ap length so_far.same_bytes)))
