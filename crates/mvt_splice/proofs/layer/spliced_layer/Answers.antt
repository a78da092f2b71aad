use Rattle.std.proofs.Common.{◌+◌, inr, refl, sym, subst, arith, add-one}
use Rattle.mvt_wire.specs.Field.{content_of, entry_of}
use Rattle.mvt_wire.proofs.Walking.{IsWalking-defectless, All-given}
use Rattle.mvt_splice.specs.Splice.{Fate, Becomes, fate_in}
use Rattle.mvt_splice.specs.Calls.Messages.{EmbedsWhole, IsFeatureMessage}
use Rattle.mvt_splice.proofs.Splicing.Layers.{IsSplicing, IsSplicing-none, IsSplicing-other, IsSplicing-feature, IsSplicing-over}
use Rattle.mvt_splice.proofs.Splicing.Messages.{type_of_bytes, embeds_held}
use Rattle.mvt_splice.proofs.Splicing.OrderedChanges.{AreChangesLeft-all, AreChangesLeft-later, AreChangesLeft-on, IsFrom-own}
use Rattle.mvt_splice.proofs.Splicing.Walks.{EncodesPiece-read}
use Rattle.mvt_splice.proofs.layer.spliced_layer.Goals as goal

pub walk-init : goal.walk-init
walk-init c = record {
  splicing = IsSplicing-none (fate_in c.args.changes.now c.args.layer) c.args.message.now c.new-out.result.items c.new-fields.result c.new-fields.ensures c.new-out.ensures.items;
  left = AreChangesLeft-all c.args.changes.now c.args.layer 0 c.requires.in_order;
}

pub next_whole-requires : goal.next_whole-requires
next_whole-requires c = IsWalking-defectless c.requires.whole.fields c.walk.invariant.splicing.passed.walking c.requires.whole.whole

pub bytes_in-feature_message-requires : goal.bytes_in-feature_message-requires
bytes_in-feature_message-requires c =
    let whole = c.requires.whole in
    let embeds = All-given whole.fields c.walk.invariant.splicing.passed.walking whole.whole c.in-Some.ensures.field (EmbedsWhole 2 IsFeatureMessage) whole.features in
    let found = embeds c.if-field-eq-FEATURES.true in
    type_of_bytes (content_of c.in-Some.field.body) found.0 found.1

pub add_feature-requires-clause-whole : goal.add_feature-requires-clause-whole
add_feature-requires-clause-whole c =
    let whole = c.requires.whole in
    let embeds = All-given whole.fields c.walk.invariant.splicing.passed.walking whole.whole c.in-Some.ensures.field (EmbedsWhole 2 IsFeatureMessage) whole.features in
    embeds_held 2 IsFeatureMessage (entry_of c.in-Some.field) c.bytes_in-feature_message.result.now embeds c.if-field-eq-FEATURES.true c.bytes_in-feature_message.ensures

pub walk-preserved-then-field-eq-FEATURES : goal.walk-preserved-then-field-eq-FEATURES
walk-preserved-then-field-eq-FEATURES c =
    let changes = c.args.changes.now in
    let layer = c.args.layer in
    let feature = c.walk.feature in
    let message = c.bytes_in-feature_message.result.now in
    let given = c.in-Some.ensures.field in
    let left = AreChangesLeft-later changes c.walk.left.now c.changes_from-left.result.now layer feature layer feature c.walk.invariant.left (IsFrom-own layer feature) c.changes_from-left.ensures.left in
    record {
      splicing = subst (IsSplicing (fate_in changes layer) c.args.message.now c.add_feature.new.out.items c.next_whole.new.self) (sym (add-one feature))
          (IsSplicing-feature c.walk.invariant.splicing given c.add_feature.new.out.items message c.if-field-eq-FEATURES.true c.bytes_in-feature_message.ensures
          (λ piece is.
          let added = c.in_ok-add_feature.ensures piece (EncodesPiece-read is c.in-Some.field.at c.at.result given.here c.at.ensures) in
          (added.0, added.1, subst (λ (fate : Fate). Becomes fate message piece added.0) (left.same layer feature (IsFrom-own layer feature)) added.2)));
      left = AreChangesLeft-on changes c.changes_from-left.result.now layer feature layer (feature + 1) left (inr (refl, omega arith));
    }

pub walk-preserved : goal.walk-preserved
walk-preserved c =
    let given = c.in-Some.ensures.field in
    record {
      splicing = IsSplicing-other c.walk.invariant.splicing given c.extend_from_slice.new.self.items c.if-field-eq-FEATURES.false _
          (λ piece is. EncodesPiece-read is c.in-Some.field.at c.at.result given.here c.at.ensures) c.in_ok-extend_from_slice.ensures.items;
      left = c.walk.invariant.left;
    }

pub returns : goal.returns
returns c = IsSplicing-over c.walk.invariant.splicing c.in_default.ensures.over
