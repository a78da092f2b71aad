use Rattle.std.proofs.Common.{ℕ, get_or, pos, rules, subst, arith}
use Rattle.std.proofs.lemmas.Option.{slice_get-get_or}
use Rattle.mvt_feature.specs.Calls.Bounds.{AreReaches}
use Rattle.mvt_feature.proofs.Cells.SpreadOrder.{reach_more, reaches_more, right_read}
use Rattle.mvt_sweep.proofs.Vertices.WiderBounds.{within_upper}
use Rattle.mvt_feature.proofs.feature.later.spread.reaches_of.Goals as goal

pub loop-at-preserved : goal.loop-at-preserved
loop-at-preserved c =
    let bounds = c.args.bounds.now in
    let order = c.args.order.now in
    let reach = reach_more bounds order c.loop-at.at _ _ c.loop-at.invariant.reach (within_upper c.max-reach.result _ (search rules) c.max-reach.ensures.self_bound)
    (right_read bounds order c.loop-at.at (pos 0, 0) _ c.max-reach.result (search rules) (search rules) c.max-reach.ensures.other_bound) in
    record {
      reaches = rw c.in_ok-push.ensures.items (reaches_more bounds order c.loop-at.at c.loop-at.reaches.items _ c.loop-at.invariant.reaches reach);
      reach = reach;
    }

pub bounds-bounds-number : goal.bounds-bounds-number
bounds-bounds-number c =
    let it = get_or c.args.order.now c.loop-at.at (pos 0, 0) in
    c.requires.numbering.known c.loop-at.at it.0 it.1 (slice_get-get_or c.args.order.now c.loop-at.at (pos 0, 0) c.loop-at-test.true)

pub returns : goal.returns
returns c =
    subst (λ (count : ℕ). AreReaches c.args.bounds.now c.args.order.now count c.loop-at.reaches.items) (omega (arith, c.loop-at-test.false, c.loop-at.auto.at-end)) c.loop-at.invariant.reaches
