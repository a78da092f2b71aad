use Rattle.std.proofs.Common.{◌≡◌, subst, arith}
use Rattle.mvt_confirm.proofs.Shapes.EdgeWalks.{HasPassedEdges, edge_found, none_at, none_found, one_passed}
use Rattle.mvt_confirm.proofs.ring_edges.edge_at.Goals as goal

pub edges-init : goal.edges-init
edges-init c = λ left edges_left. (omega arith, edges_left)

pub edges-preserved : goal.edges-preserved
edges-preserved c = one_passed c.args.walk c.edges.walk c.next_edge.new.self c.edges.counter c.in_ok-next_edge.field-0 c.edges.invariant c.in_ok-next_edge.ensures.edge

pub returns-in_err-next_edge-clause-none : goal.returns-in_err-next_edge-clause-none
returns-in_err-next_edge-clause-none c =
    rw c.from_residual.ensures (λ left edges_left.
    let none = c.in_err-next_edge.ensures.end _ (c.edges.invariant left edges_left).1 in
    let few = none_at left c.edges.counter none in
    let before = c.edges-test.true in
    omega arith)

pub returns-clause-there : goal.returns-clause-there
returns-clause-there c =
    let end : c.edges.counter ≡ c.args.edge = omega arith in
    let so_far = subst (HasPassedEdges c.args.walk c.edges.walk) end c.edges.invariant in
    edge_found c.args.walk c.edges.walk c.next_edge-2.new.self c.args.edge c.next_edge-2.result so_far c.next_edge-2.ensures.edge

pub returns-clause-none : goal.returns-clause-none
returns-clause-none c =
    let end : c.edges.counter ≡ c.args.edge = omega arith in
    let so_far = subst (HasPassedEdges c.args.walk c.edges.walk) end c.edges.invariant in
    none_found c.args.walk c.edges.walk c.args.edge c.next_edge-2.result so_far c.next_edge-2.ensures.end
