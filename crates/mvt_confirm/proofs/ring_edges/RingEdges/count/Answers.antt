use Rattle.std.proofs.Common.{ℕ, ◌+◌, ap, sym, ◌∙◌, subst}
use Rattle.mvt_confirm.specs.Calls.RingEdges.{EdgeWalk, EdgesLeft}
use Rattle.mvt_confirm.proofs.Shapes.EdgeWalks.{count_decided}
use Rattle.mvt_confirm.proofs.ring_edges.RingEdges.count.Goals as goal

pub returns-else-self : goal.returns-else-self
returns-else-self c = λ left edges_left.
    let walk : EdgeWalk = record { vertices = c.self.inside.vertices; first = c.self.inside.first; from = c.self.inside.from; is_closed = c.self.inside.is_closed } in
    let decided = count_decided walk left c.if-self.false (subst (λ (it : EdgeWalk). EdgesLeft it left) (sym c.self.view_is) edges_left) in
    ap (λ (n : ℕ). n + 1) c.vertices_left.ensures ∙ decided
