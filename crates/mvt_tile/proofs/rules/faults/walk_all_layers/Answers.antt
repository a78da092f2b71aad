use Rattle.std.proofs.Common.{◌∙◌, ◌+◌, refl, sym, ap, subst, ℕ, List, [], ◌∷◌, length, slice_get, arith, length-append}
use Rattle.mvt_rules.specs.Tile.{IsLayer}
use Rattle.mvt_rules.specs.Parts.Fields.{FitsRule}
use Rattle.mvt_wire.specs.declared.schema.Message.TheVariants as messages
use Rattle.mvt_wire.proofs.Walking.{IsWalking-defectless, All-given}
use Rattle.mvt_tile.specs.Calls.Gathered.{AreGatheredTo}
use Rattle.mvt_tile.specs.declared.rules.summary.LayerSummary.{LayerSummary}
use Rattle.mvt_tile.proofs.WireFaults.CleanWalk.{CleanWalk-nothing, CleanWalk-other, CleanWalk-more}
use Rattle.mvt_tile.proofs.WireFaults.EmbeddedSpans.{Embeds-given, LiesIn-given}
use Rattle.mvt_tile.proofs.Reading.ReadingRules.{own_type}
use Rattle.mvt_tile.proofs.RuleFaults.Gathered.{gathered_none}
use Rattle.mvt_tile.proofs.RuleFaults.GatheredScan.{next_layer, next_summary, all_layers}
use Rattle.mvt_tile.proofs.rules.faults.walk_all_layers.Goals as goal

pub walk-init : goal.walk-init
walk-init over c = record {
  passed = CleanWalk-nothing c.new-fields.ensures;
  size = ap length c.requires.no_layer;
  each = λ tile is layer summary there. absurd (let none = ap (λ (list : List LayerSummary). slice_get list layer) (sym c.requires.no_layer) ∙ there in cc);
  gathered = λ tile is. subst (AreGatheredTo over.R.FeatureRule.IsFree over.R.FeatureRule.IsBroken over.R.FeatureRule.IsKept tile 0 0) (sym c.requires.no_fault) (gathered_none over.R.FeatureRule.IsFree over.R.FeatureRule.IsBroken over.R.FeatureRule.IsKept tile);
}

pub next_whole-requires : goal.next_whole-requires
next_whole-requires over c = let there = c.requires.tile.1 in IsWalking-defectless there.entries c.walk.invariant.passed.walking there.whole

pub payload_span-from-requires-clause-own : goal.payload_span-from-requires-clause-own
payload_span-from-requires-clause-own over c =
    let there = c.requires.tile.1 in
    let fits = All-given there.entries c.walk.invariant.passed.walking there.whole c.in-Some.ensures.field (FitsRule messages.Tile) there.keeps.fits in
    own_type messages.Tile c.in-Some.field 3 2 fits c.if-field-eq-LAYERS.true refl (λ t. refl)

pub payload_span-from-requires-clause-below : goal.payload_span-from-requires-clause-below
payload_span-from-requires-clause-below over c = λ span there.
    let inside = LiesIn-given c.args.bytes.now _ c.walk.invariant.passed.walking c.in-Some.ensures.field span there in
    omega (arith, inside.1)

pub invariant_of-part : goal.invariant_of-part
invariant_of-part over c =
    let inside = LiesIn-given c.args.bytes.now _ c.walk.invariant.passed.walking c.in-Some.ensures.field _ c.payload_span-from.ensures in
    record { forward = inside.0; within = inside.1 }

pub add_faults_in_layer-requires-clause-stands : goal.add_faults_in_layer-requires-clause-stands
add_faults_in_layer-requires-clause-stands over c =
    let there = c.requires.tile.1 in
    Embeds-given there.entries c.walk.invariant.passed.walking there.whole c.in-Some.ensures.field 3 (IsLayer c.args.bytes.now) c.requires.tile.0.layers there.layers
    _ c.if-field-eq-LAYERS.true c.payload_span-from.ensures

pub walk-preserved-then-field-eq-LAYERS : goal.walk-preserved-then-field-eq-LAYERS
walk-preserved-then-field-eq-LAYERS over c =
    let so_far = c.walk.invariant in
    let given = c.in-Some.ensures.field in
    let own = c.if-field-eq-LAYERS.true in
    let there = c.payload_span-from.ensures in
    let told = c.in_ok-summary.ensures in
    let longer = c.in_ok-push.ensures.items in
    record {
      passed = CleanWalk-more so_far.passed given own _ there tt;
      size = ap length longer ∙ length-append c.walk.layers.items (c.in_ok-summary.summary ∷ []) ∙ ap (λ (n : ℕ). n + 1) so_far.size;
      each = λ tile is. next_summary so_far.passed given own _ there c.walk.layers.items c.push.new.self.items c.in_ok-summary.summary so_far.size told.summary longer tile is (so_far.each tile is);
      gathered = λ tile is.
          let next = next_layer so_far.passed given own _ there tile is in
          told.gathers tile next.0 next.1 next.2 (so_far.gathered tile is);
    }

pub walk-preserved : goal.walk-preserved
walk-preserved over c =
    let so_far = c.walk.invariant in
    record {
      passed = CleanWalk-other so_far.passed c.in-Some.ensures.field c.if-field-eq-LAYERS.false;
      size = so_far.size;
      each = so_far.each;
      gathered = so_far.gathered;
    }

pub returns-clause-summaries : goal.returns-clause-summaries
returns-clause-summaries over c = λ tile is. record {
  count = c.walk.invariant.size ∙ all_layers c.walk.invariant.passed c.in_default.ensures.over tile is;
  each = c.walk.invariant.each tile is;
}

pub returns-clause-gathers : goal.returns-clause-gathers
returns-clause-gathers over c = λ tile is.
    subst (λ (n : ℕ). AreGatheredTo over.R.FeatureRule.IsFree over.R.FeatureRule.IsBroken over.R.FeatureRule.IsKept tile n 0 c.walk.faults.items) (all_layers c.walk.invariant.passed c.in_default.ensures.over tile is) (c.walk.invariant.gathered tile is)
