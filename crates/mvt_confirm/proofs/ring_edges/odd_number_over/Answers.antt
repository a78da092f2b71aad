use Rattle.std.proofs.Common.{[], refl}
use Rattle.mvt_confirm.proofs.Shapes.EdgeWalks.{parity_more, parity_decided}
use Rattle.mvt_confirm.proofs.ring_edges.odd_number_over.Goals as goal

pub edges-init : goal.edges-init
edges-init c = λ left edges_left. ([], left, refl, edges_left, c.new-crossings.ensures c.args.position)

pub edges-preserved : goal.edges-preserved
edges-preserved c =
    parity_more c.args.walk c.edges.walk c.next_edge.new.self c.edges.crossings c.pass.new.self c.args.position c.in-Some.edge c.edges.invariant c.in-Some.ensures.edge c.pass.ensures

pub returns : goal.returns
returns c = parity_decided c.args.walk c.edges.walk c.edges.crossings c.args.position c.is_odd.result c.edges.invariant c.in_default.ensures.end c.is_odd.ensures
