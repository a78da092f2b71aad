use Rattle.std.proofs.Common.{◌+◌, inl, inr, refl, sym, subst, arith, add-one}
use Rattle.mvt_wire.specs.Field.{content_of, entry_of}
use Rattle.mvt_wire.proofs.Walking.{IsWalking-defectless, All-given}
use Rattle.mvt_splice.specs.Splice.{fate_in}
use Rattle.mvt_splice.specs.Calls.Messages.{EmbedsWhole, IsLayerMessage}
use Rattle.mvt_splice.proofs.Splicing.Messages.{tile_message, type_of_bytes, embeds_held}
use Rattle.mvt_splice.proofs.Splicing.OrderedChanges.{AreChangesLeft-all, AreChangesLeft-later, AreChangesLeft-on, IsFrom-own}
use Rattle.mvt_splice.proofs.Splicing.Tiles.{IsSplicingTile, IsSplicingTile-none, IsSplicingTile-other, IsSplicingTile-layer, IsSplicingTile-over, BecomesInTile-same, IsSpliced-unchanged}
use Rattle.mvt_splice.proofs.Splicing.Walks.{EncodesPiece-read}
use Rattle.mvt_splice.proofs.tile.splice.Goals as goal

pub walk-init : goal.walk-init
walk-init c = record {
  splicing = IsSplicingTile-none c.args.changes.now c.args.bytes.now c.new-out.result.items c.new-fields.result c.new-fields.ensures c.new-out.ensures.items;
  left = AreChangesLeft-all c.args.changes.now 0 0 c.requires.in_order;
}

pub next_whole-requires : goal.next_whole-requires
next_whole-requires c =
    let whole = tile_message c.args.bytes.now c.requires.tile.0 c.requires.tile.1 in
    IsWalking-defectless whole.fields c.walk.invariant.splicing.passed.walking whole.whole

pub bytes_in-message-requires : goal.bytes_in-message-requires
bytes_in-message-requires c =
    let whole = tile_message c.args.bytes.now c.requires.tile.0 c.requires.tile.1 in
    let embeds = All-given whole.fields c.walk.invariant.splicing.passed.walking whole.whole c.in-Some.ensures.field (EmbedsWhole 3 IsLayerMessage) whole.layers in
    let found = embeds c.if-field-eq-LAYERS.true in
    type_of_bytes (content_of c.in-Some.field.body) found.0 found.1

pub add_layer-requires-clause-whole : goal.add_layer-requires-clause-whole
add_layer-requires-clause-whole c =
    let whole = tile_message c.args.bytes.now c.requires.tile.0 c.requires.tile.1 in
    let embeds = All-given whole.fields c.walk.invariant.splicing.passed.walking whole.whole c.in-Some.ensures.field (EmbedsWhole 3 IsLayerMessage) whole.layers in
    embeds_held 3 IsLayerMessage (entry_of c.in-Some.field) c.bytes_in-message.result.now embeds c.if-field-eq-LAYERS.true c.bytes_in-message.ensures

pub walk-preserved-then-field-eq-LAYERS : goal.walk-preserved-then-field-eq-LAYERS
walk-preserved-then-field-eq-LAYERS c =
    let changes = c.args.changes.now in
    let layer = c.walk.layer in
    let message = c.bytes_in-message.result.now in
    let given = c.in-Some.ensures.field in
    let left = AreChangesLeft-later changes c.walk.left.now c.changes_from-left.result.now layer 0 layer 0 c.walk.invariant.left (IsFrom-own layer 0) c.changes_from-left.ensures.left in
    record {
      splicing = subst (IsSplicingTile changes c.args.bytes.now c.add_layer.new.out.items c.next_whole.new.self) (sym (add-one layer))
          (IsSplicingTile-layer c.walk.invariant.splicing given c.add_layer.new.out.items message c.if-field-eq-LAYERS.true c.bytes_in-message.ensures
          (λ piece is there.
          let added = c.in_ok-add_layer.ensures piece (EncodesPiece-read is c.in-Some.field.at c.at.result given.here c.at.ensures) there in
          (added.0, added.1, BecomesInTile-same (fate_in c.changes_from-left.result.now layer) (fate_in changes layer) message piece added.0 (λ feature. left.same layer feature (inr (refl, omega arith))) added.2)));
      left = AreChangesLeft-on changes c.changes_from-left.result.now layer 0 (layer + 1) 0 left (inl (omega arith));
    }

pub walk-preserved : goal.walk-preserved
walk-preserved c =
    let given = c.in-Some.ensures.field in
    record {
      splicing = IsSplicingTile-other c.walk.invariant.splicing given c.extend_from_slice.new.self.items c.if-field-eq-LAYERS.false _
          (λ piece is. EncodesPiece-read is c.in-Some.field.at c.at.result given.here c.at.ensures) c.in_ok-extend_from_slice.ensures.items;
      left = c.walk.invariant.left;
    }

pub returns : goal.returns
returns c =
    let spliced = IsSplicingTile-over c.walk.invariant.splicing c.in_default.ensures.over in
    record { spliced = spliced; unchanged = IsSpliced-unchanged c.args.changes.now c.args.bytes.now c.walk.out.items spliced }
