use Rattle.std.proofs.Common.{List, subst}
use Rattle.mvt_wire.specs.Field.{Entry}
use Rattle.mvt_rules.specs.Tile.{IsFeature, IsValue}
use Rattle.mvt_rules.specs.Parts.Fields.{FitsRule}
use Rattle.mvt_wire.specs.declared.schema.Message.TheVariants as messages
use Rattle.mvt_tile.specs.Calls.Reading.{GivesLayer}
use Rattle.mvt_tile.specs.View.{layer_of}
use Rattle.mvt_tile.proofs.Reading.LayerReading.{IsLayer-from_told}
use Rattle.mvt_tile.proofs.WireFaults.EmbeddedSpans.{Embeds-given, LiesIn-given}
use Rattle.mvt_wire.proofs.Walking.{IsWalking-defectless, IsWalking-over, All-given, IsWalking-more}
use Rattle.mvt_tile.proofs.read.layer.read_layer.Goals as goal

pub next_whole-requires : goal.next_whole-requires
next_whole-requires c = let there = c.requires.1 in IsWalking-defectless there.entries c.walk.invariant.1 there.whole

pub add_field-requires-clause-fits : goal.add_field-requires-clause-fits
add_field-requires-clause-fits c =
    let there = c.requires.1 in
    All-given there.entries c.walk.invariant.1 there.whole c.in-Some.ensures.field (FitsRule messages.Layer) there.keeps.fits

pub add_field-requires-clause-inside : goal.add_field-requires-clause-inside
add_field-requires-clause-inside c = LiesIn-given c.args.part.bytes.now c.args.part.to c.walk.invariant.1 c.in-Some.ensures.field

pub add_field-requires-clause-feature : goal.add_field-requires-clause-feature
add_field-requires-clause-feature c =
    let there = c.requires.1 in
    Embeds-given there.entries c.walk.invariant.1 there.whole c.in-Some.ensures.field 2 (IsFeature c.args.part.bytes.now) c.requires.0.features there.features

pub add_field-requires-clause-value : goal.add_field-requires-clause-value
add_field-requires-clause-value c =
    let there = c.requires.1 in
    Embeds-given there.entries c.walk.invariant.1 there.whole c.in-Some.ensures.field 4 (IsValue c.args.part.bytes.now) c.requires.0.values there.values

pub walk-preserved : goal.walk-preserved
walk-preserved c =
    let so_far = c.walk.invariant in
    (_, IsWalking-more _ _ _ _ _ _ so_far.1 c.in-Some.ensures.field, c.in_ok-add_field.ensures so_far.0 so_far.2)

pub returns : goal.returns
returns c =
    let so_far = c.walk.invariant in
    let there = c.requires.1 in
    IsLayer-from_told there
    (subst (λ (entries : List Entry). GivesLayer c.args.part.bytes.now entries (layer_of c.walk.layer)) (IsWalking-over there.entries so_far.1 there.whole c.in_default.ensures.over) so_far.2)
