use Rattle.std.proofs.Common.{[], refl, sym, ◌∙◌, subst, arith}
use Rattle.std.proofs.lemmas.List.{length-take-le}
use Rattle.mvt_fault.specs.declared.fault.Fault.{Fault}
use Rattle.mvt_wire.specs.Calls.Scope.{span_between}
use Rattle.mvt_wire.specs.declared.schema.Message.TheVariants.{Layer}
use Rattle.mvt_wire.proofs.Encoding.Payloads.{LiesIn-field}
use Rattle.mvt_tile.specs.Calls.Passed.{IsFirstAfter}
use Rattle.mvt_tile.proofs.WireFaults.LayerWalk.{LayerWalk-unchanged, LayerWalk-more, LayerWalk-fault, LayerWalk-own, LayerWalk-inner}
use Rattle.mvt_tile.proofs.wire.layer.layer_fault.Goals as goal

pub walk-init : goal.walk-init
walk-init c = record {
  within = omega arith;
  entries = [];
  scanning = record { passed = refl; passes = c.new-own.ensures Layer };
  values = c.new-values.ensures.nothing c.args.part.bytes.now;
  features = c.new-features.ensures.nothing c.args.part.bytes.now;
  value_check = c.new-values.ensures.check;
  value_number = c.new-values.ensures.number;
  feature_check = c.new-features.ensures.check;
  feature_number = c.new-features.ensures.number;
  few_values = omega arith;
  few_features = omega arith;
}

pub pass-requires-clause-inside : goal.pass-requires-clause-inside
pass-requires-clause-inside c = LiesIn-field c.args.part.bytes.now c.args.part.to c.in-Ok-Some.read.1 _ (rw c.in-Ok-Some.field-0-is at c.in-Ok-Some.ensures.passed).given.encoded

pub pass-requires-in-walk-clause-inside : goal.pass-requires-in-walk-clause-inside
pass-requires-in-walk-clause-inside c = LiesIn-field c.args.part.bytes.now c.args.part.to c.in-Ok-Some.read.1 _ (rw c.in-Ok-Some.field-0-is at c.in-Ok-Some.ensures.passed).given.encoded

pub walk-preserved : goal.walk-preserved
walk-preserved c =
    LayerWalk-more c.args.part.bytes.now c.args.passed c.args.part.from c.args.part.to c.walk.at c.walk.own c.walk.values c.walk.features c.args.part.within c.walk.invariant
    c.in-Ok-Some.read c.pass_next.new.self c.pass.new.self c.pass-in-walk.new.self (rw c.in-Ok-Some.field-0-is at c.in-Ok-Some.ensures.passed)
    (record { check = c.pass.ensures.check; number = c.pass.ensures.number; count = c.pass.ensures.count; noted = c.pass.ensures.noted })
    (record { check = c.pass-in-walk.ensures.check; number = c.pass-in-walk.ensures.number; count = c.pass-in-walk.ensures.count; noted = c.pass-in-walk.ensures.noted })

pub returns-in-Err : goal.returns-in-Err
returns-in-Err c =
    subst (λ (fault : Fault). IsFirstAfter c.args.passed c.args.part.bytes.now fault c.args.layer (span_between c.args.part.from c.args.part.to)) (sym c.wire_fault_in.ensures)
    (LayerWalk-fault c.args.part.bytes.now c.args.passed c.args.part.from c.args.part.to c.walk.at c.walk.own c.walk.values c.walk.features c.args.part.within
    c.walk.invariant c.args.layer c.in-Err.cause c.in-Err.ensures.fault)

pub returns-in-Some : goal.returns-in-Some
returns-in-Some c =
    subst (λ (fault : Fault). IsFirstAfter c.args.passed c.args.part.bytes.now fault c.args.layer (span_between c.args.part.from c.args.part.to)) (sym c.wire_fault_in-in-Some.ensures)
    (LayerWalk-own c.args.part.bytes.now c.args.passed c.args.part.from c.args.part.to c.walk.at c.pass_next.new.self c.walk.values c.walk.features c.args.part.within
    (LayerWalk-unchanged c.walk.invariant (rw c.in-Ok-None.field-0-is at c.in-Ok-None.ensures.end).1) ((rw c.in-Ok-None.field-0-is at c.in-Ok-None.ensures.end).0 ∙ length-take-le c.args.part.to c.args.part.bytes.now c.args.part.within) c.args.layer c.in-Some.cause c.in-Some.ensures)

pub returns-in-None : goal.returns-in-None
returns-in-None c =
    LayerWalk-inner c.args.part.bytes.now c.args.passed c.args.part.from c.args.part.to c.walk.at c.pass_next.new.self c.walk.values c.walk.features c.args.part.within
    (LayerWalk-unchanged c.walk.invariant (rw c.in-Ok-None.field-0-is at c.in-Ok-None.ensures.end).1) ((rw c.in-Ok-None.field-0-is at c.in-Ok-None.ensures.end).0 ∙ length-take-le c.args.part.to c.args.part.bytes.now c.args.part.within) c.in-None.ensures
    c.args.layer c.inner_fault.result c.inner_fault.ensures.none c.inner_fault.ensures.first
