use Rattle.std.proofs.Common.{arith, subst}
use Rattle.mvt_plane.specs.declared.geometry.edge.Edge.{Edge}
use Rattle.mvt_sweep.specs.Calls.Pairs.{AreEndsWithin}
use Rattle.mvt_sweep.proofs.Vertices.PairsEnough.{bounds_more}
use Rattle.mvt_sweep.proofs.pairs.list_bounds.Goals as goal

pub loop-number-preserved : goal.loop-number-preserved
loop-number-preserved c =
    let its = c.of_edge.result in
    let ends : AreEndsWithin its c.edge.result = record { begin = c.of_edge.ensures.begin; end = c.of_edge.ensures.end } in
    bounds_more c.args.vertices.now c.loop-number.number c.loop-number.bounds c.push.new.self its c.push.ensures.count c.push.ensures.last c.push.ensures.others c.loop-number.invariant
    (subst (λ (edge : Edge). AreEndsWithin its edge) c.edge.ensures ends)

pub loop-number-init : goal.loop-number-init
loop-number-init c = record { count = c.requires.empty; each = λ number none. absurd (omega arith) }
