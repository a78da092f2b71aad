use Rattle.std.proofs.Common.{refl, arith}
use Rattle.mvt_rules.specs.Tile.{IsLayer}
use Rattle.mvt_rules.specs.Parts.Fields.{FitsRule}
use Rattle.mvt_wire.specs.declared.schema.Message.TheVariants as messages
use Rattle.mvt_tile.proofs.WireFaults.CleanWalk.{CleanWalk-nothing, CleanWalk-next, CleanWalk-other, CleanWalk-more}
use Rattle.mvt_tile.proofs.Reading.ReadingRules.{own_type}
use Rattle.mvt_wire.proofs.Walking.{IsWalking-defectless, All-given}
use Rattle.mvt_tile.proofs.WireFaults.EmbeddedSpans.{Embeds-given, LiesIn-given}
use Rattle.mvt_tile.proofs.RuleFaults.TileScan.{AreScanned-other, AreScanned-next, AreScanned-finds, IsNextLayer-given, EndsLayers-over, not_all_passed}
use Rattle.mvt_tile.proofs.rules.walk_layers.Goals as goal

pub walk-init : goal.walk-init
walk-init over c = record {
  layers = CleanWalk-nothing c.new-fields.ensures;
  named = c.requires.begins;
  passes = λ tile is. c.requires.passes tile;
  features = record { first = rw c.requires.nothing (CleanWalk-nothing c.new-fields.ensures) };
}

pub next_whole-requires : goal.next_whole-requires
next_whole-requires over c = let there = c.requires.tile.1 in IsWalking-defectless there.entries c.walk.invariant.layers.walking there.whole

pub payload_span-from-requires-clause-own : goal.payload_span-from-requires-clause-own
payload_span-from-requires-clause-own over c =
    let there = c.requires.tile.1 in
    let fits = All-given there.entries c.walk.invariant.layers.walking there.whole c.in-Some.ensures.field (FitsRule messages.Tile) there.keeps.fits in
    own_type messages.Tile c.in-Some.field 3 2 fits c.if-field-eq-LAYERS.true refl (λ t. refl)

pub payload_span-from-requires-clause-below : goal.payload_span-from-requires-clause-below
payload_span-from-requires-clause-below over c = λ span there.
    let inside = LiesIn-given c.args.bytes.now _ c.walk.invariant.layers.walking c.in-Some.ensures.field span there in
    omega (arith, inside.1)

pub invariant_of-part : goal.invariant_of-part
invariant_of-part over c =
    let inside = LiesIn-given c.args.bytes.now _ c.walk.invariant.layers.walking c.in-Some.ensures.field _ c.payload_span-from.ensures in
    record { forward = inside.0; within = inside.1 }

pub find_in_layer-requires-clause-stands : goal.find_in_layer-requires-clause-stands
find_in_layer-requires-clause-stands over c =
    let there = c.requires.tile.1 in
    Embeds-given there.entries c.walk.invariant.layers.walking there.whole c.in-Some.ensures.field 3 (IsLayer c.args.bytes.now) c.requires.tile.0.layers there.layers
    _ c.if-field-eq-LAYERS.true c.payload_span-from.ensures

pub find_in_layer-requires-clause-sound : goal.find_in_layer-requires-clause-sound
find_in_layer-requires-clause-sound over c =
    let there = c.requires.tile.1 in
    c.requires.sound c.walk.layer_index _
    (record { entries = there.entries; whole = there.whole; here = (CleanWalk-next c.walk.invariant.layers c.in-Some.ensures.field c.if-field-eq-LAYERS.true _ c.payload_span-from.ensures there.entries there.whole).here })

pub returns-then-not-branch-clause-ends : goal.returns-then-not-branch-clause-ends
returns-then-not-branch-clause-ends over c = λ tile is.
    let so_far = c.walk.invariant in
    c.in_ok-note.ensures.ends c.if-not-branch.true tile (so_far.passes tile is)
    (IsNextLayer-given so_far.layers so_far.named is c.in-Some.ensures.field c.if-field-eq-LAYERS.true _ c.payload_span-from.ensures c.in_ok-summary.ensures.summary)

pub returns-then-not-branch-clause-finds : goal.returns-then-not-branch-clause-finds
returns-then-not-branch-clause-finds over c = λ tile is all.
    let so_far = c.walk.invariant in
    let ends = c.in_ok-note.ensures.ends c.if-not-branch.true tile (so_far.passes tile is)
    (IsNextLayer-given so_far.layers so_far.named is c.in-Some.ensures.field c.if-field-eq-LAYERS.true _ c.payload_span-from.ensures c.in_ok-summary.ensures.summary) in
    absurd (not_all_passed c.note.new.self tile (c.in_ok-note.ensures.other c.if-not-branch.true) ends all)

pub walk-preserved-then-field-eq-LAYERS : goal.walk-preserved-then-field-eq-LAYERS
walk-preserved-then-field-eq-LAYERS over c =
    let so_far = c.walk.invariant in
    let given = c.in-Some.ensures.field in
    let told = c.in_ok-summary.ensures in
    record {
      layers = CleanWalk-more so_far.layers given c.if-field-eq-LAYERS.true _ c.payload_span-from.ensures tt;
      named = omega (arith, so_far.named, c.in_ok-note.ensures.count c.if-not-branch.false);
      passes = λ tile is.
          c.in_ok-note.ensures.passes c.if-not-branch.false tile (so_far.passes tile is)
          (IsNextLayer-given so_far.layers so_far.named is given c.if-field-eq-LAYERS.true _ c.payload_span-from.ensures told.summary);
      features = AreScanned-next c.walk.found _ so_far.features given c.if-field-eq-LAYERS.true _ c.payload_span-from.ensures c.requires.after_tags told.kept told.finds;
    }

pub walk-preserved : goal.walk-preserved
walk-preserved over c =
    let so_far = c.walk.invariant in
    record {
      layers = CleanWalk-other so_far.layers c.in-Some.ensures.field c.if-field-eq-LAYERS.false;
      named = so_far.named;
      passes = so_far.passes;
      features = AreScanned-other c.walk.found so_far.features c.in-Some.ensures.field c.if-field-eq-LAYERS.false;
    }

pub returns-clause-ends : goal.returns-clause-ends
returns-clause-ends over c = λ tile is.
    let so_far = c.walk.invariant in
    EndsLayers-over so_far.layers so_far.named is c.in_default.ensures.over (so_far.passes tile is)

pub returns-clause-finds : goal.returns-clause-finds
returns-clause-finds over c = λ tile is all. AreScanned-finds c.requires.after_tags c.walk.found c.in_default.ensures.over c.walk.invariant.features tile is
