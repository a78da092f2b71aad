use Rattle.std.proofs.Common.{◌<◌, length, Option, Some, None, IfNone, IfSome, MatchOption, sym, arith}
use Rattle.mvt_wire.specs.Field.{entry_of}
use Rattle.mvt_wire.specs.declared.cause.WireCause.{WireCause}
use Rattle.mvt_tile.proofs.WireFaults.FieldPlaces.{IsPlaced-field}
use Rattle.mvt_tile.proofs.WireFaults.SchemaRules.{known_number}
use Rattle.mvt_tile.proofs.WireFaults.FieldScans.{HasScanned-unknown, HasScanned-known, HasScanned-fault}
use Rattle.mvt_tile.proofs.wire.scan.FieldScan.pass.Goals as goal

where_none : (found : Option WireCause) {R : Type 0} (P : Type 0) (Q : WireCause → Type 0) → MatchOption found P Q → (P → R) → IfNone found R
where_none None P Q told then = then told
where_none (Some cause) P Q told then = tt

where_some : (found : Option WireCause) {R : WireCause → Type 0} (P : Type 0) (Q : WireCause → Type 0) → MatchOption found P Q → ((cause : WireCause) → Q cause → R cause) → IfSome found R
where_some None P Q told then = tt
where_some (Some cause) P Q told then = then cause told

pub returns-in-None-clause-passed : goal.returns-in-None-clause-passed
returns-in-None-clause-passed c = λ entries so_far. HasScanned-unknown c.args.message c.args.self.now entries (entry_of c.args.field.now) (sym c.in-None.ensures) so_far

pub pass_known-requires-clause-known : goal.pass_known-requires-clause-known
pass_known-requires-clause-known c = sym c.in-Some.ensures

pub returns-in-Some-clause-passed : goal.returns-in-Some-clause-passed
returns-in-Some-clause-passed c = where_none c.pass_known.result _ _ c.pass_known.ensures (λ kept entries so_far.
    let below = known_number c.args.message c.args.field.now.number c.in-Some.rule (sym c.in-Some.ensures) in
    let within : c.args.field.now.number < length c.args.self.now.occurred = omega arith in
    HasScanned-known c.args.message c.args.self.now entries (entry_of c.args.field.now) c.in-Some.rule (sym c.in-Some.ensures) within kept.1 so_far c.pass_known.new.self kept.0.occurred kept.0.value)

pub returns-in-Some-clause-fault : goal.returns-in-Some-clause-fault
returns-in-Some-clause-fault c = where_some c.pass_known.result _ _ c.pass_known.ensures (λ cause told bytes entries next field so_far.
    HasScanned-fault c.args.message c.args.self.now entries (entry_of c.args.field.now) next c.in-Some.rule cause (IsPlaced-field bytes next _ field) (sym c.in-Some.ensures) told.1 so_far)

pub returns-in-Some-clause-unchanged : goal.returns-in-Some-clause-unchanged
returns-in-Some-clause-unchanged c = where_some c.pass_known.result _ _ c.pass_known.ensures (λ cause told. told.0)
