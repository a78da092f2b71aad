use Rattle.std.proofs.Common.{◌≡◌, ◌∙◌, ◌+◌, List, length, slice_get, Vec, Global, refl, sym, ap, subst, arith}
use Rattle.mvt_tile.proofs.Reading.ReadingRules.{own_type}
use Rattle.mvt_tile.proofs.WireFaults.CleanWalk.{CleanWalk-nothing}
use Rattle.mvt_tile.proofs.WireFaults.EmbeddedSpans.{Embeds-given, LiesIn-given}
use Rattle.mvt_wire.proofs.Walking.{IsWalking-defectless, All-given}
use Rattle.mvt_rules.specs.Parts.Fields.{FitsRule}
use Rattle.mvt_rules.specs.Tile.{IsFeature}
use Rattle.mvt_wire.specs.declared.schema.Message.TheVariants as messages
use Rattle.mvt_mender.proofs.FoundWalks.{walk_kept, walk_other, walk_over, walk_pushed}
use Rattle.mvt_tile.specs.declared.feature_bytes.FeatureBytes.{FeatureBytes}
use Rattle.mvt_mender.proofs.FeatureWalks.{IsLayerWalk}
use Rattle.mvt_mender.proofs.features.add_features.Goals.{then-is_next+in_ok-push, else-is_next}
use Rattle.mvt_mender.proofs.features.add_features.Goals as goal

-- the features of a Vec
abbrev items_of : Vec FeatureBytes Global → List FeatureBytes
items_of found = found.items

pub walk-init : goal.walk-init
walk-init c = record {
  walk = record { passed = CleanWalk-nothing c.new-fields.ensures; so_far = λ tile layer_record is in_tile its before. before };
  few = omega arith;
}

pub next_whole-requires : goal.next_whole-requires
next_whole-requires c = let there = c.requires.stands.1 in IsWalking-defectless there.entries c.walk.invariant.walk.passed.walking there.whole

pub payload_span-from-requires-clause-own : goal.payload_span-from-requires-clause-own
payload_span-from-requires-clause-own c =
    let there = c.requires.stands.1 in
    let fits = All-given there.entries c.walk.invariant.walk.passed.walking there.whole c.in-Some.ensures.field (FitsRule messages.Layer) there.keeps.fits in
    own_type messages.Layer c.in-Some.field 2 2 fits c.if-field-eq-FEATURES.true refl (λ t. refl)

pub payload_span-from-requires-clause-below : goal.payload_span-from-requires-clause-below
payload_span-from-requires-clause-below c = λ span there.
    let inside = LiesIn-given c.args.part.bytes.now c.args.part.to c.walk.invariant.walk.passed.walking c.in-Some.ensures.field span there in
    omega (arith, inside.1, c.args.part.within)

pub invariant_of-new : goal.invariant_of-new
invariant_of-new c =
    let inside = LiesIn-given c.args.part.bytes.now c.args.part.to c.walk.invariant.walk.passed.walking c.in-Some.ensures.field _ c.payload_span-from.ensures in
    record { forward = inside.0; within = inside.1 }

pub new-it-requires : goal.new-it-requires
new-it-requires c =
    let there = c.requires.stands.1 in
    Embeds-given there.entries c.walk.invariant.walk.passed.walking there.whole c.in-Some.ensures.field 2 (IsFeature c.args.part.bytes.now) c.requires.stands.0.features there.features
    _ c.if-field-eq-FEATURES.true c.payload_span-from.ensures

pub walk-preserved-then-field-eq-FEATURES : goal.walk-preserved-then-field-eq-FEATURES
walk-preserved-then-field-eq-FEATURES c =
    let given = c.in-Some.ensures.field in
    let size : c.len.result ≡ length c.walk.found.items = omega (arith, c.len.ensures, c.walk.found.ok.0) in
    record {
      walk = elim c.if-is_next.branch [
        | then-is_next+in_ok-push w ↦
            subst (λ (list : List FeatureBytes). IsLayerWalk c.args.part.bytes.now c.args.places.now (record { from = c.args.part.from; to = c.args.part.to }) c.args.layer c.args.found.now.items c.next_whole.new.self (c.walk.feature + 1) list)
            (sym (ap items_of w.found-is ∙ w.in_ok-push.ensures.items))
            (walk_pushed c.args.part.bytes.now c.args.places.now c.requires.in_turn _ c.args.layer c.walk.feature c.args.found.now.items c.walk.found.items c.walk.invariant.walk given c.if-field-eq-FEATURES.true _ c.payload_span-from.ensures
            w.new-it.result (ap (slice_get c.args.places.now) (sym size) ∙ c.is_next.ensures.yes w.if-is_next.true) w.new-it.ensures)
        | else-is_next w ↦
            subst (λ (list : List FeatureBytes). IsLayerWalk c.args.part.bytes.now c.args.places.now (record { from = c.args.part.from; to = c.args.part.to }) c.args.layer c.args.found.now.items c.next_whole.new.self (c.walk.feature + 1) list)
            (sym (ap items_of w.found-is))
            (walk_kept c.args.part.bytes.now c.args.places.now c.requires.in_turn _ c.args.layer c.walk.feature c.args.found.now.items c.walk.found.items c.walk.invariant.walk given c.if-field-eq-FEATURES.true _ c.payload_span-from.ensures
            (λ place there. c.is_next.ensures.no w.if-is_next.false place (ap (slice_get c.args.places.now) size ∙ there)))
      ];
      few = omega (arith, given.further, c.walk.invariant.few);
    }

pub walk-preserved : goal.walk-preserved
walk-preserved c =
    let given = c.in-Some.ensures.field in
    record {
      walk = walk_other c.args.part.bytes.now c.args.places.now c.requires.in_turn _ c.args.layer c.walk.feature c.args.found.now.items c.walk.found.items c.walk.invariant.walk given c.if-field-eq-FEATURES.false;
      few = omega (arith, given.further);
    }

pub returns : goal.returns
returns c =
    walk_over c.args.part.bytes.now c.args.places.now c.requires.there _ c.args.layer c.walk.feature c.args.found.now.items c.walk.found.items c.walk.invariant.walk c.in_default.ensures.over
