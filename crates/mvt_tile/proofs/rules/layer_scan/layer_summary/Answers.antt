use Rattle.std.proofs.Common.{List, [], subst, arith}
use Rattle.mvt_wire.specs.Field.{Entry}
use Rattle.mvt_wire.specs.declared.schema.Message.TheVariants as messages
use Rattle.mvt_wire.proofs.Walking.{IsWalking-none, IsWalking-defectless, IsWalking-over, All-given, IsWalking-more}
use Rattle.mvt_rules.specs.Parts.Fields.{FitsRule}
use Rattle.mvt_tile.specs.Calls.Reading.{GivesSummary}
use Rattle.mvt_tile.proofs.RuleFaults.SummaryReading.{few_counted, IsSummary-from_told}
use Rattle.mvt_tile.proofs.rules.layer_scan.layer_summary.Goals as goal

pub walk-init : goal.walk-init
walk-init c = record { entries = []; walking = IsWalking-none c.new-fields.ensures; gives = c.empty_summary-summary.ensures }

pub next_usual-requires-clause-whole : goal.next_usual-requires-clause-whole
next_usual-requires-clause-whole c = let there = c.requires.1 in IsWalking-defectless there.entries c.walk.invariant.walking there.whole

pub add_field-requires-clause-fits : goal.add_field-requires-clause-fits
add_field-requires-clause-fits c = let there = c.requires.1 in All-given there.entries c.walk.invariant.walking there.whole c.in-Some.ensures.field (FitsRule messages.Layer) there.keeps.fits

pub add_field-requires-clause-keys : goal.add_field-requires-clause-keys
add_field-requires-clause-keys c =
    let few = few_counted c.args.part.bytes.now c.args.part.to c.walk.invariant.walking c.in-Some.ensures.field c.walk.invariant.gives in
    omega (arith, few.0)

pub add_field-requires-clause-values : goal.add_field-requires-clause-values
add_field-requires-clause-values c =
    let few = few_counted c.args.part.bytes.now c.args.part.to c.walk.invariant.walking c.in-Some.ensures.field c.walk.invariant.gives in
    omega (arith, few.1)

pub walk-preserved : goal.walk-preserved
walk-preserved c = record {
  entries = _;
  walking = IsWalking-more _ _ _ _ _ _ c.walk.invariant.walking c.in-Some.ensures.field;
  gives = c.add_field.ensures c.walk.invariant.entries c.walk.invariant.gives;
}

pub returns : goal.returns
returns c = λ layer there.
    IsSummary-from_told there
    (subst (λ (entries : List Entry). GivesSummary entries c.walk.summary) (IsWalking-over there.entries c.walk.invariant.walking there.whole c.in_default.ensures.over) c.walk.invariant.gives)
