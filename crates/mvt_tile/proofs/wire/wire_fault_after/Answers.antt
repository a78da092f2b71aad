use Rattle.std.proofs.Common.{[], refl, sym, ap, subst, arith}
use Rattle.mvt_fault.specs.Place.{IsLeast}
use Rattle.mvt_rules.specs.Parts.TrueFaults.{IsWireFault}
use Rattle.mvt_wire.specs.declared.schema.Message.TheVariants.{Tile}
use Rattle.mvt_wire.proofs.Encoding.Payloads.{payload_within}
use Rattle.mvt_tile.specs.Passed.{IsPassed}
use Rattle.mvt_tile.specs.declared.wire.Layers.{Layers}
use Rattle.mvt_tile.proofs.WireFaults.TileWalk.{TileWalk-unchanged, TileWalk-more, TileWalk-fault, TileWalk-own, TileWalk-layers}
use Rattle.mvt_tile.proofs.wire.wire_fault_after.Goals as goal

pub walk-init : goal.walk-init
walk-init c = record {
  within = omega arith;
  entries = [];
  scanning = record { passed = refl; passes = c.new-own.ensures Tile };
  layers = c.new-layers.ensures.nothing c.args.bytes.now;
  number = c.new-layers.ensures.number;
  few = omega arith;
  known = subst (IsPassed c.args.bytes.now) (sym (ap (λ (layers : Layers). layers.passed) c.new-layers.ensures.check)) c.requires;
}

pub pass-requires-clause-inside : goal.pass-requires-clause-inside
pass-requires-clause-inside c = λ span there.
    let field = (rw c.in-Ok-Some.field-0-is at c.in-Ok-Some.ensures.passed).given.encoded in
    payload_within c.args.bytes.now field.key_end c.in-Ok-Some.read.1 _ span field.payload there

pub walk-preserved : goal.walk-preserved
walk-preserved c =
    TileWalk-more c.args.bytes.now c.walk.at c.walk.own c.walk.layers c.walk.invariant c.in-Ok-Some.read c.pass_next.new.self c.pass.new.self (rw c.in-Ok-Some.field-0-is at c.in-Ok-Some.ensures.passed)
    c.pass.ensures.check c.pass.ensures.number c.pass.ensures.count c.pass.ensures.noted

pub returns-in-Err-clause-least : goal.returns-in-Err-clause-least
returns-in-Err-clause-least c =
    subst (IsLeast (IsWireFault c.args.bytes.now)) (sym c.wire_fault_in.ensures)
    (TileWalk-fault c.args.bytes.now c.walk.at c.walk.own c.walk.layers c.walk.invariant c.in-Err.cause c.in-Err.ensures.fault)

pub returns-in-Some-clause-least : goal.returns-in-Some-clause-least
returns-in-Some-clause-least c =
    subst (IsLeast (IsWireFault c.args.bytes.now)) (sym c.wire_fault_in-in-Some.ensures)
    (TileWalk-own c.args.bytes.now c.walk.at c.pass_next.new.self c.walk.layers (TileWalk-unchanged c.walk.invariant (rw c.in-Ok-None.field-0-is at c.in-Ok-None.ensures.end).1) (rw c.in-Ok-None.field-0-is at c.in-Ok-None.ensures.end).0 c.in-Some.cause c.in-Some.ensures)

pub returns-clause-none : goal.returns-clause-none
returns-clause-none c =
    (TileWalk-layers c.args.bytes.now c.walk.at c.pass_next.new.self c.walk.layers (TileWalk-unchanged c.walk.invariant (rw c.in-Ok-None.field-0-is at c.in-Ok-None.ensures.end).1) (rw c.in-Ok-None.field-0-is at c.in-Ok-None.ensures.end).0 c.in_default.ensures).0

pub returns-clause-least : goal.returns-clause-least
returns-clause-least c =
    (TileWalk-layers c.args.bytes.now c.walk.at c.pass_next.new.self c.walk.layers (TileWalk-unchanged c.walk.invariant (rw c.in-Ok-None.field-0-is at c.in-Ok-None.ensures.end).1) (rw c.in-Ok-None.field-0-is at c.in-Ok-None.ensures.end).0 c.in_default.ensures).1
