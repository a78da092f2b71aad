use Rattle.std.proofs.Common.{inl, inr, refl, arith}
use Rattle.mvt_wire.specs.declared.schema.Message.TheVariants.{Tile}
use Rattle.mvt_wire.proofs.Encoding.Payloads.{payload_within}
use Rattle.mvt_tile.proofs.OneWalk.Tiles.{fits_next, passed_unchanged, passes_nothing, passes_other, next_layer, passes_more, passed_to, sound_to, passed_in_layer, passed_layer, sound_in_layer, sound_layer, no_wire_fault, keeps_rules}
use Rattle.mvt_tile.proofs.Reading.ReadingRules.{own_type}
use Rattle.mvt_tile.proofs.walk.walk_layers.Goals as goal

pub walk-init : goal.walk-init
walk-init over c = passes_nothing (over.T.FeatureTest.IsKept c.args.test.now) c.args.bytes.now c.new-own.result c.args.layers.now (c.new-own.ensures Tile) c.requires.none c.requires.passes

pub payload_span-from-requires-clause-own : goal.payload_span-from-requires-clause-own
payload_span-from-requires-clause-own over c = own_type Tile c.in-Some.field 3 2 (fits_next c.walk.invariant c.in-Some.ensures) c.if-field-eq-LAYERS.true refl (λ t. refl)

pub invariant_of-part : goal.invariant_of-part
invariant_of-part over c =
    let field = c.in-Some.ensures.given.encoded in
    let inside = payload_within c.args.bytes.now field.key_end c.in-Some.next _ _ field.payload c.payload_span-from.ensures in
    record { forward = inside.0; within = inside.1 }

pub walk-preserved-else-not-branch : goal.walk-preserved-else-not-branch
walk-preserved-else-not-branch over c =
    let so_far = c.walk.invariant in
    let told = c.in_ok-passes_layer.ensures.passes c.if-not-branch.false in
    passes_more so_far c.in-Some.ensures c.if-field-eq-LAYERS.true _ c.payload_span-from.ensures (over.T.FeatureTest.IsKept c.passes_layer.new.test) c.in_ok-passes_layer.ensures.still
    c.passes_layer.new.layers told.one
    (λ tile is. told.kept tile (so_far.passes tile is) (λ summary summed. next_layer so_far c.in-Some.ensures c.if-field-eq-LAYERS.true _ c.payload_span-from.ensures summed tile is))
    told.wire told.passes

pub walk-preserved : goal.walk-preserved
walk-preserved over c = passes_other c.walk.invariant c.in-Some.ensures c.if-field-eq-LAYERS.false

pub returns-clause-right : goal.returns-clause-right
returns-clause-right over c = λ passes. record {
  wire = no_wire_fault (omega (arith, c.walk.invariant.within, c.if-at-bytes.false)) (passed_unchanged c.walk.invariant c.in_default.ensures) c.end_fault.result c.if-is_some.ensures c.end_fault.ensures;
  keeps = keeps_rules (omega (arith, c.walk.invariant.within, c.if-at-bytes.false)) c.walk.invariant;
}

pub returns-then-not-branch-clause-passed : goal.returns-then-not-branch-clause-passed
returns-then-not-branch-clause-passed over c = elim (c.in_ok-passes_layer.ensures.ends c.if-not-branch.true) [
  | inl inner ↦ passed_in_layer c.walk.invariant c.in-Some.ensures c.if-field-eq-LAYERS.true _ c.payload_span-from.ensures c.passes_layer.new.seen.to inner.inside inner.passed
  | inr after ↦ passed_layer c.walk.invariant c.in-Some.ensures c.if-field-eq-LAYERS.true _ c.payload_span-from.ensures c.passes_layer.new.seen.to after.0 after.1
]

pub returns-then-not-branch-clause-sound : goal.returns-then-not-branch-clause-sound
returns-then-not-branch-clause-sound over c = elim (c.in_ok-passes_layer.ensures.ends c.if-not-branch.true) [
  | inl inner ↦
      sound_in_layer c.walk.invariant c.in-Some.ensures c.if-field-eq-LAYERS.true _ c.payload_span-from.ensures (over.T.FeatureTest.IsKept c.passes_layer.new.test) c.in_ok-passes_layer.ensures.still
      c.passes_layer.new.seen inner.begun inner.inside inner.sound
  | inr after ↦
      sound_layer c.walk.invariant c.in-Some.ensures c.if-field-eq-LAYERS.true _ c.payload_span-from.ensures (over.T.FeatureTest.IsKept c.passes_layer.new.test) c.in_ok-passes_layer.ensures.still
      c.passes_layer.new.seen after.0 after.2
]

pub returns-then-at-bytes-clause-passed : goal.returns-then-at-bytes-clause-passed
returns-then-at-bytes-clause-passed over c = passed_to c.seen_to.result.to c.seen_to.ensures c.walk.invariant

pub returns-then-at-bytes-clause-sound : goal.returns-then-at-bytes-clause-sound
returns-then-at-bytes-clause-sound over c = sound_to c.seen_to.result c.seen_to.ensures c.walk.invariant

pub returns-clause-passed : goal.returns-clause-passed
returns-clause-passed over c = passed_to c.seen_to.result.to c.seen_to.ensures c.walk.invariant

pub returns-clause-sound : goal.returns-clause-sound
returns-clause-sound over c = sound_to c.seen_to.result c.seen_to.ensures c.walk.invariant
