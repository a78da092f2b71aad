use Rattle.std.proofs.Common.{refl, sym, arith}
use Rattle.mvt_rules.specs.Tile.{IsFeature}
use Rattle.mvt_rules.specs.Parts.Fields.{FitsRule}
use Rattle.mvt_wire.specs.declared.schema.Message.TheVariants as messages
use Rattle.mvt_tile.proofs.WireFaults.CleanWalk.{CleanWalk-nothing, CleanWalk-other}
use Rattle.mvt_tile.proofs.Reading.ReadingRules.{own_type}
use Rattle.mvt_wire.proofs.Walking.{IsWalking-defectless, All-given}
use Rattle.mvt_tile.proofs.WireFaults.EmbeddedSpans.{Embeds-given, LiesIn-given}
use Rattle.mvt_tile.proofs.RuleFaults.PolygonScan.{feature_found, feature_passed, features_over, found_some}
use Rattle.mvt_wire.proofs.NothingFound.{IfNone-held}
use Rattle.mvt_tile.proofs.RuleFaults.Stored.{none_stored}
use Rattle.mvt_tile.proofs.rules.polygons.find_in_layer.Goals as goal

pub walk-init : goal.walk-init
walk-init over c = record { passed = CleanWalk-nothing c.new-fields.ensures; nothing = c.requires.nothing }

pub next_usual-requires-clause-whole : goal.next_usual-requires-clause-whole
next_usual-requires-clause-whole over c = let there = c.requires.stands.1 in IsWalking-defectless there.entries c.walk.invariant.passed.walking there.whole

pub payload_span-from-requires-clause-own : goal.payload_span-from-requires-clause-own
payload_span-from-requires-clause-own over c =
    let there = c.requires.stands.1 in
    let fits = All-given there.entries c.walk.invariant.passed.walking there.whole c.in-Some.ensures.field (FitsRule messages.Layer) there.keeps.fits in
    own_type messages.Layer c.in-Some.field 2 2 fits c.if-field-eq-FEATURES.true refl (λ t. refl)

pub payload_span-from-requires-clause-below : goal.payload_span-from-requires-clause-below
payload_span-from-requires-clause-below over c = λ span there.
    let inside = LiesIn-given c.args.part.bytes.now c.args.part.to c.walk.invariant.passed.walking c.in-Some.ensures.field span there in
    omega (arith, inside.1, c.args.part.within)

pub invariant_of-find_in_polygons : goal.invariant_of-find_in_polygons
invariant_of-find_in_polygons over c =
    let inside = LiesIn-given c.args.part.bytes.now c.args.part.to c.walk.invariant.passed.walking c.in-Some.ensures.field _ c.payload_span-from.ensures in
    record { forward = inside.0; within = inside.1 }

pub find_in_polygons-requires-clause-stands : goal.find_in_polygons-requires-clause-stands
find_in_polygons-requires-clause-stands over c =
    let there = c.requires.stands.1 in
    Embeds-given there.entries c.walk.invariant.passed.walking there.whole c.in-Some.ensures.field 2 (IsFeature c.args.part.bytes.now) c.requires.stands.0.features there.features
    _ c.if-field-eq-FEATURES.true c.payload_span-from.ensures

pub walk-preserved-then-field-eq-FEATURES : goal.walk-preserved-then-field-eq-FEATURES
walk-preserved-then-field-eq-FEATURES over c =
    record {
      passed = feature_passed over.R.FeatureRule.IsBroken over.R.FeatureRule.IsKept c.args.part.bytes.now _ c.args.layer_index c.requires.others c.walk.invariant.passed c.in-Some.ensures.field c.if-field-eq-FEATURES.true _ c.payload_span-from.ensures
          (IfNone-held c.find_in_polygons.new.found (sym c.if-is_some.ensures) c.in_ok-find_in_polygons.ensures.none);
      nothing = none_stored c.find_in_polygons.new.found (sym c.if-is_some.ensures);
    }

pub walk-preserved : goal.walk-preserved
walk-preserved over c = record { passed = CleanWalk-other c.walk.invariant.passed c.in-Some.ensures.field c.if-field-eq-FEATURES.false; nothing = c.walk.invariant.nothing }

pub returns-then-is_some : goal.returns-then-is_some
returns-then-is_some over c = λ layer_record is.
    found_some _ _ c.find_in_polygons.new.found (sym c.if-is_some.ensures)
    (feature_found over.R.FeatureRule.IsBroken over.R.FeatureRule.IsKept c.args.part.bytes.now _ c.args.layer_index c.requires.others c.walk.invariant.passed c.in-Some.ensures.field c.if-field-eq-FEATURES.true _ c.payload_span-from.ensures
    c.requires.after_tags over.R.FeatureRule.IsFree c.find_in_polygons.new.found c.in_ok-find_in_polygons.ensures.found layer_record is)

pub returns : goal.returns
returns over c =
    features_over over.R.FeatureRule.IsBroken over.R.FeatureRule.IsKept c.args.part.bytes.now _ c.args.layer_index c.requires.others c.requires.after_tags over.R.FeatureRule.IsFree
    c.walk.invariant.passed c.in_default.ensures.over c.walk.found c.walk.invariant.nothing
