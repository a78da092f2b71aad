use Rattle.std.proofs.Common.{Bool, Result, Ok, Err, IfOk, refl, arith}
use Rattle.std.specs.declared.alloc.AllocError.{AllocError}
use Rattle.mvt_wire.specs.declared.schema.Message.TheVariants.{Layer}
use Rattle.mvt_tile.proofs.Reading.ReadingRules.{own_type}
use Rattle.mvt_tile.proofs.walk.layer.passes_field.Goals as goal

pub payload_span-from-requires-clause-own : goal.payload_span-from-requires-clause-own
payload_span-from-requires-clause-own over c = own_type Layer c.args.field 2 2 c.requires.fits c.if-field-eq-FEATURES.true refl (λ t. refl)

pub payload_span-from-requires-then-field-eq-VALUES-clause-own : goal.payload_span-from-requires-then-field-eq-VALUES-clause-own
payload_span-from-requires-then-field-eq-VALUES-clause-own over c = own_type Layer c.args.field 4 2 c.requires.fits c.if-field-eq-VALUES.true refl (λ t. refl)

pub invariant_of-passes_feature : goal.invariant_of-passes_feature
invariant_of-passes_feature over c =
    let inside = c.requires.lies _ c.payload_span-from.ensures in
    record { forward = inside.0; within = inside.1 }

pub invariant_of-is_one_field : goal.invariant_of-is_one_field
invariant_of-is_one_field over c =
    let inside = c.requires.lies _ c.payload_span-from-then-field-eq-VALUES.ensures in
    record { forward = inside.0; within = inside.1 }

then_right : (result : Result Bool AllocError) {P Q : Bool → Type 0} → IfOk result P → ((passes : Bool) → P passes → Q passes) → IfOk result Q
then_right (Err refused) holds then = tt
then_right (Ok passes) holds then = then passes holds

pub returns-then-field-eq-FEATURES-clause-passes : goal.returns-then-field-eq-FEATURES-clause-passes
returns-then-field-eq-FEATURES-clause-passes over c = then_right c.passes_feature.result c.passes_feature.ensures.right (λ passes right true. record {
  value = λ other. absurd (omega (arith, other, c.if-field-eq-FEATURES.true));
  feature = λ own. (_, c.payload_span-from.ensures, right true);
})

pub returns-then-field-eq-VALUES-clause-passes : goal.returns-then-field-eq-VALUES-clause-passes
returns-then-field-eq-VALUES-clause-passes over c = λ passes. record {
  value = λ own. (_, c.payload_span-from-then-field-eq-VALUES.ensures, c.is_one_field.ensures passes);
  feature = λ other. absurd (c.if-field-eq-FEATURES.false other);
}
