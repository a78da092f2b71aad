use Rattle.std.proofs.Common.{below_more, sym, ◌∙◌, subst, arith}
use Rattle.std.proofs.lemmas.Option.{same_Some}
use Rattle.mvt_feature.specs.Calls.Islands.{IsClearOfEdge}
use Rattle.mvt_feature.proofs.Cells.LyingRings.{beside_clear, clear_of_all, far_clear}
use Rattle.mvt_feature.proofs.feature.lies_in.is_clear.Goals as goal
use Rattle.mvt_feature.proofs.feature.lies_in.is_clear.Goals.{then-not-are_apart+else-near-ge-MOST_NEAR+else-not-is_beside, else-not-are_apart}

pub loop-number-preserved : goal.loop-number-preserved
loop-number-preserved c =
    let ring = c.args.ring.now in
    let own = c.edge_at-edge.result in
    let clear : IsClearOfEdge ring own = elim c.if-not-are_apart.branch [
      | then-not-are_apart+else-near-ge-MOST_NEAR+else-not-is_beside w ↦ beside_clear ring own (w.is_beside.ensures w.if-not-is_beside.false)
      | else-not-are_apart w ↦ far_clear ring own c.of_edge.result c.args.bounds.now c.of_edge.ensures.begin c.of_edge.ensures.end (c.are_apart.ensures w.if-not-are_apart.false) c.requires.bounds
    ] in
    below_more _ _ c.loop-number.invariant (λ edge here. subst (IsClearOfEdge ring) (same_Some own edge (sym c.edge_at-edge.ensures ∙ here)) clear)

pub returns : goal.returns
returns c = λ true. clear_of_all c.args.ring.now c.args.around.now (λ number below edge here. c.loop-number.invariant number (omega (arith, c.loop-number-test.false)) edge here)
