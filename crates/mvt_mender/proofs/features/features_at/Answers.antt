use Rattle.std.proofs.Common.{refl, sym, subst, arith}
use Rattle.mvt_tile.proofs.Reading.ReadingRules.{own_type}
use Rattle.mvt_tile.proofs.WireFaults.CleanWalk.{CleanWalk-nothing}
use Rattle.mvt_tile.proofs.WireFaults.EmbeddedSpans.{Embeds-given, LiesIn-given}
use Rattle.mvt_wire.proofs.Walking.{IsWalking-defectless, All-given}
use Rattle.mvt_rules.specs.Parts.Fields.{FitsRule}
use Rattle.mvt_rules.specs.Tile.{IsLayer}
use Rattle.mvt_wire.specs.declared.schema.Message.TheVariants as messages
use Rattle.mvt_mender.proofs.FoundFeatures.{found_none}
use Rattle.mvt_mender.proofs.FoundWalks.{tile_more, tile_other, tile_over}
use Rattle.mvt_mender.specs.Calls.Features.{AreFoundTo}
use Rattle.mvt_mender.proofs.features.features_at.Goals as goal

pub walk-init : goal.walk-init
walk-init c = record {
  walk = record { passed = CleanWalk-nothing c.new-fields.ensures; so_far = λ tile is. subst (AreFoundTo c.args.bytes.now c.args.places.now 0 0) (sym c.new-found.ensures.items) (found_none c.args.bytes.now c.args.places.now) };
  few = omega arith;
}

pub next_whole-requires : goal.next_whole-requires
next_whole-requires c = let there = c.requires.tile.1 in IsWalking-defectless there.entries c.walk.invariant.walk.passed.walking there.whole

pub payload_span-from-requires-clause-own : goal.payload_span-from-requires-clause-own
payload_span-from-requires-clause-own c =
    let there = c.requires.tile.1 in
    let fits = All-given there.entries c.walk.invariant.walk.passed.walking there.whole c.in-Some.ensures.field (FitsRule messages.Tile) there.keeps.fits in
    own_type messages.Tile c.in-Some.field 3 2 fits c.if-field-eq-LAYERS.true refl (λ t. refl)

pub invariant_of-part : goal.invariant_of-part
invariant_of-part c =
    let inside = LiesIn-given c.args.bytes.now _ c.walk.invariant.walk.passed.walking c.in-Some.ensures.field _ c.payload_span-from.ensures in
    record { forward = inside.0; within = inside.1 }

pub add_features-requires-clause-stands : goal.add_features-requires-clause-stands
add_features-requires-clause-stands c =
    let there = c.requires.tile.1 in
    Embeds-given there.entries c.walk.invariant.walk.passed.walking there.whole c.in-Some.ensures.field 3 (IsLayer c.args.bytes.now) c.requires.tile.0.layers there.layers
    _ c.if-field-eq-LAYERS.true c.payload_span-from.ensures

pub walk-preserved-then-field-eq-LAYERS : goal.walk-preserved-then-field-eq-LAYERS
walk-preserved-then-field-eq-LAYERS c =
    let given = c.in-Some.ensures.field in
    record {
      walk = tile_more c.args.bytes.now c.args.places.now c.walk.layer c.walk.found.items c.walk.invariant.walk given c.if-field-eq-LAYERS.true _ c.payload_span-from.ensures c.add_features.new.found.items c.in_ok-add_features.ensures;
      few = omega (arith, given.further, c.walk.invariant.few);
    }

pub walk-preserved : goal.walk-preserved
walk-preserved c =
    let given = c.in-Some.ensures.field in
    record {
      walk = tile_other c.args.bytes.now c.args.places.now c.walk.layer c.walk.found.items c.walk.invariant.walk given c.if-field-eq-LAYERS.false;
      few = omega (arith, given.further);
    }

pub returns : goal.returns
returns c =
    tile_over c.args.bytes.now c.args.places.now c.walk.layer c.walk.found.items c.walk.invariant.walk c.in_default.ensures.over c.requires.there c.requires.tile.0 c.requires.tile.1
