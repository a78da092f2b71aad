use Rattle.std.proofs.Common.{refl, sym, arith}
use Rattle.mvt_rules.specs.Tile.{IsLayer}
use Rattle.mvt_rules.specs.Parts.Fields.{FitsRule}
use Rattle.mvt_wire.specs.declared.schema.Message.TheVariants as messages
use Rattle.mvt_tile.proofs.WireFaults.CleanWalk.{CleanWalk-nothing, CleanWalk-other}
use Rattle.mvt_tile.proofs.Reading.ReadingRules.{own_type}
use Rattle.mvt_wire.proofs.Walking.{IsWalking-defectless, All-given}
use Rattle.mvt_tile.proofs.WireFaults.EmbeddedSpans.{Embeds-given, LiesIn-given}
use Rattle.mvt_tile.proofs.RuleFaults.PolygonScan.{layer_found, layer_known, layer_passed, layers_over, rule_found, rule_least, rules_kept}
use Rattle.mvt_tile.proofs.RuleFaults.Stored.{none_stored}
use Rattle.mvt_tile.proofs.rules.polygons.polygon_fault.Goals as goal

pub walk-init : goal.walk-init
walk-init over c = record { passed = CleanWalk-nothing c.new-fields.ensures; nothing = c.requires.nothing }

pub next_whole-requires : goal.next_whole-requires
next_whole-requires over c = let there = c.requires.tile.1 in IsWalking-defectless there.entries c.walk.invariant.passed.walking there.whole

pub payload_span-from-requires-clause-own : goal.payload_span-from-requires-clause-own
payload_span-from-requires-clause-own over c =
    let there = c.requires.tile.1 in
    let fits = All-given there.entries c.walk.invariant.passed.walking there.whole c.in-Some.ensures.field (FitsRule messages.Tile) there.keeps.fits in
    own_type messages.Tile c.in-Some.field 3 2 fits c.if-field-eq-LAYERS.true refl (λ t. refl)

pub payload_span-from-requires-clause-below : goal.payload_span-from-requires-clause-below
payload_span-from-requires-clause-below over c = λ span there.
    let inside = LiesIn-given c.args.bytes.now _ c.walk.invariant.passed.walking c.in-Some.ensures.field span there in
    omega (arith, inside.1)

pub invariant_of-part : goal.invariant_of-part
invariant_of-part over c =
    let inside = LiesIn-given c.args.bytes.now _ c.walk.invariant.passed.walking c.in-Some.ensures.field _ c.payload_span-from.ensures in
    record { forward = inside.0; within = inside.1 }

pub find_in_layer-requires-clause-stands : goal.find_in_layer-requires-clause-stands
find_in_layer-requires-clause-stands over c =
    let there = c.requires.tile.1 in
    Embeds-given there.entries c.walk.invariant.passed.walking there.whole c.in-Some.ensures.field 3 (IsLayer c.args.bytes.now) c.requires.tile.0.layers there.layers
    _ c.if-field-eq-LAYERS.true c.payload_span-from.ensures

pub find_in_layer-requires-clause-others : goal.find_in_layer-requires-clause-others
find_in_layer-requires-clause-others over c =
    layer_known over.R.FeatureRule.IsBroken over.R.FeatureRule.IsKept c.args.bytes.now c.requires.others c.requires.after_tags c.walk.invariant.passed c.in-Some.ensures.field c.if-field-eq-LAYERS.true _ c.payload_span-from.ensures
    c.requires.tile.0 c.requires.tile.1

pub walk-preserved-then-field-eq-LAYERS : goal.walk-preserved-then-field-eq-LAYERS
walk-preserved-then-field-eq-LAYERS over c =
    let none = none_stored c.find_in_layer.new.found (sym c.if-is_some.ensures) in
    record {
      passed = layer_passed over.R.FeatureRule.IsBroken over.R.FeatureRule.IsKept c.args.bytes.now c.requires.others c.requires.after_tags c.walk.invariant.passed c.in-Some.ensures.field c.if-field-eq-LAYERS.true _ c.payload_span-from.ensures
          over.R.FeatureRule.IsFree c.find_in_layer.new.found none c.in_ok-find_in_layer.ensures;
      nothing = none;
    }

pub walk-preserved : goal.walk-preserved
walk-preserved over c = record { passed = CleanWalk-other c.walk.invariant.passed c.in-Some.ensures.field c.if-field-eq-LAYERS.false; nothing = c.walk.invariant.nothing }

pub returns-then-is_some-clause-none : goal.returns-then-is_some-clause-none
returns-then-is_some-clause-none over c =
    rules_kept over.R.FeatureRule.IsBroken over.R.FeatureRule.IsKept c.args.bytes.now c.requires.others c.requires.after_tags over.R.FeatureRule.IsFree c.find_in_layer.new.found
    (layer_found over.R.FeatureRule.IsBroken over.R.FeatureRule.IsKept c.args.bytes.now c.requires.others c.requires.after_tags c.walk.invariant.passed c.in-Some.ensures.field c.if-field-eq-LAYERS.true _ c.payload_span-from.ensures
    over.R.FeatureRule.IsFree c.find_in_layer.new.found (sym c.if-is_some.ensures) c.in_ok-find_in_layer.ensures)

pub returns-then-is_some-clause-found : goal.returns-then-is_some-clause-found
returns-then-is_some-clause-found over c =
    rule_found over.R.FeatureRule.IsBroken over.R.FeatureRule.IsKept c.args.bytes.now c.requires.others c.requires.after_tags over.R.FeatureRule.IsFree c.find_in_layer.new.found
    (layer_found over.R.FeatureRule.IsBroken over.R.FeatureRule.IsKept c.args.bytes.now c.requires.others c.requires.after_tags c.walk.invariant.passed c.in-Some.ensures.field c.if-field-eq-LAYERS.true _ c.payload_span-from.ensures
    over.R.FeatureRule.IsFree c.find_in_layer.new.found (sym c.if-is_some.ensures) c.in_ok-find_in_layer.ensures)

pub returns-then-is_some-clause-least : goal.returns-then-is_some-clause-least
returns-then-is_some-clause-least over c = λ never.
    rule_least over.R.FeatureRule.IsBroken over.R.FeatureRule.IsKept c.args.bytes.now c.requires.others c.requires.after_tags over.R.FeatureRule.IsFree never c.find_in_layer.new.found
    (layer_found over.R.FeatureRule.IsBroken over.R.FeatureRule.IsKept c.args.bytes.now c.requires.others c.requires.after_tags c.walk.invariant.passed c.in-Some.ensures.field c.if-field-eq-LAYERS.true _ c.payload_span-from.ensures
    over.R.FeatureRule.IsFree c.find_in_layer.new.found (sym c.if-is_some.ensures) c.in_ok-find_in_layer.ensures)

pub returns-clause-none : goal.returns-clause-none
returns-clause-none over c =
    rules_kept over.R.FeatureRule.IsBroken over.R.FeatureRule.IsKept c.args.bytes.now c.requires.others c.requires.after_tags over.R.FeatureRule.IsFree c.walk.found
    (layers_over over.R.FeatureRule.IsBroken over.R.FeatureRule.IsKept c.args.bytes.now c.requires.others c.requires.after_tags over.R.FeatureRule.IsFree c.walk.invariant.passed c.in_default.ensures.over c.walk.found c.walk.invariant.nothing)

pub returns-clause-found : goal.returns-clause-found
returns-clause-found over c =
    rule_found over.R.FeatureRule.IsBroken over.R.FeatureRule.IsKept c.args.bytes.now c.requires.others c.requires.after_tags over.R.FeatureRule.IsFree c.walk.found
    (layers_over over.R.FeatureRule.IsBroken over.R.FeatureRule.IsKept c.args.bytes.now c.requires.others c.requires.after_tags over.R.FeatureRule.IsFree c.walk.invariant.passed c.in_default.ensures.over c.walk.found c.walk.invariant.nothing)

pub returns-clause-least : goal.returns-clause-least
returns-clause-least over c = λ never.
    rule_least over.R.FeatureRule.IsBroken over.R.FeatureRule.IsKept c.args.bytes.now c.requires.others c.requires.after_tags over.R.FeatureRule.IsFree never c.walk.found
    (layers_over over.R.FeatureRule.IsBroken over.R.FeatureRule.IsKept c.args.bytes.now c.requires.others c.requires.after_tags over.R.FeatureRule.IsFree c.walk.invariant.passed c.in_default.ensures.over c.walk.found c.walk.invariant.nothing)
