use Rattle.std.proofs.Common.{Bool, subst, sym}
use Rattle.mvt_wire.proofs.Walking.{IsWalking-defectless}
use Rattle.mvt_splice.specs.Splice.{HasPayload}
use Rattle.mvt_splice.proofs.Splicing.Walks.{EncodesPiece-read}
use Rattle.mvt_splice.proofs.Splicing.Redrawing.{IsRedrawing, IsRedrawing-none, IsRedrawing-other, IsRedrawing-passed, IsRedrawing-drawn, IsRedrawing-over}
use Rattle.mvt_splice.proofs.geometry.redrawn.Goals as goal

pub walk-init : goal.walk-init
walk-init c = IsRedrawing-none c.args.numbers.now c.args.message.now c.new-out.result.items c.new-fields.result c.new-fields.ensures c.new-out.ensures.items

pub next_whole-requires : goal.next_whole-requires
next_whole-requires c = IsWalking-defectless c.requires.fields c.walk.invariant.passed.walking c.requires.whole

pub walk-preserved : goal.walk-preserved
walk-preserved c =
    let given = c.in-Some.ensures.field in
    IsRedrawing-other c.walk.invariant given c.if-field-eq-GEOMETRY.false c.extend_from_slice.new.self.items _
    (λ piece is. EncodesPiece-read is c.in-Some.field.at c.at.result given.here c.at.ensures) c.in_ok-extend_from_slice.ensures.items

pub walk-preserved-then-not-is_drawn : goal.walk-preserved-then-not-is_drawn
walk-preserved-then-not-is_drawn c =
    let written = c.in_ok-add_delimited.ensures in
    let geometry = c.in_ok-geometry.geometry.items in
    IsRedrawing-drawn c.walk.invariant c.in-Some.ensures.field c.if-field-eq-GEOMETRY.true c.if-not-is_drawn.true c.add_delimited.new.out.items geometry c.in_ok-geometry.ensures
    written.0 (subst (λ (payload : _). HasPayload 4 payload written.0.field) c.deref.ensures.value written.1) written.2

pub walk-preserved-else-not-is_drawn : goal.walk-preserved-else-not-is_drawn
walk-preserved-else-not-is_drawn c =
    let done = c.if-not-is_drawn.false in
    subst (λ (b : Bool). IsRedrawing c.args.numbers.now c.args.message.now c.walk.out.items c.next_whole.new.self b) (sym done)
    (IsRedrawing-passed c.walk.invariant c.in-Some.ensures.field c.if-field-eq-GEOMETRY.true done)

pub returns : goal.returns
returns c = IsRedrawing-over c.walk.invariant c.requires c.in_default.ensures.over
