use Rattle.std.proofs.Common.{◌≡◌, ◌<◌, true, sym, ◌∙◌, subst, arith}
use Rattle.mvt_confirm.specs.Calls.RingEdges.{EdgeWalk, EdgesLeft, GivesEdge}
use Rattle.mvt_confirm.proofs.Shapes.EdgeWalks.{edge_back, edge_goes_on, edge_onward}
use Rattle.mvt_plane.specs.declared.geometry.edge.Edge.{Edge}
use Rattle.mvt_confirm.proofs.ring_edges.RingEdges.next_edge.Goals as goal
use Rattle.mvt_confirm.proofs.ring_edges.RingEdges.next_edge.Goals.{then-vertices_left-eq0, else-vertices_left-eq0+in_ok-b}

pub returns-in_err-b-clause-end : goal.returns-in_err-b-clause-end
returns-in_err-b-clause-end c =
    let old : EdgeWalk = record { vertices = c.self.inside.vertices; first = c.self.inside.first; from = c.self.inside.from; is_closed = c.self.inside.is_closed } in
    let some : 0 < c.self.inside.vertices.left = omega (arith, c.vertices_left.ensures, c.if-vertices_left-eq0.false) in
    rw c.from_residual.ensures (λ left edges_left.
    absurd (edge_goes_on old left c.if-self.false some (subst (λ (it : EdgeWalk). EdgesLeft it left) (sym c.self.view_is) edges_left) c.in_err-b.ensures.end))

pub returns-clause-edge : goal.returns-clause-edge
returns-clause-edge c =
    let old : EdgeWalk = record { vertices = c.self.inside.vertices; first = c.self.inside.first; from = c.self.inside.from; is_closed = c.self.inside.is_closed } in
    elim c.if-vertices_left-eq0.branch [
      | then-vertices_left-eq0 w ↦
          let none : c.self.inside.vertices.left ≡ 0 = sym c.vertices_left.ensures ∙ w.if-vertices_left-eq0.true in
          let new : EdgeWalk = record { vertices = old.vertices; first = old.first; from = old.first; is_closed = true } in
          let edge : Edge = record { a = old.from; b = old.first } in
          rw (w.b-is, w.self-inside-is) (subst (λ (it : EdgeWalk). GivesEdge it new edge) c.self.view_is (edge_back old c.if-self.false none))
      | else-vertices_left-eq0+in_ok-b w ↦
          let some : 0 < c.self.inside.vertices.left = omega (arith, c.vertices_left.ensures, w.if-vertices_left-eq0.false) in
          let new : EdgeWalk = record { vertices = w.next_vertex.new.self; first = old.first; from = w.in_ok-b.field-0.point; is_closed = old.is_closed } in
          let edge : Edge = record { a = old.from; b = w.in_ok-b.field-0.point } in
          rw (w.b-is, w.self-inside-is)
          (subst (λ (it : EdgeWalk). GivesEdge it new edge) c.self.view_is (edge_onward old w.next_vertex.new.self w.in_ok-b.field-0 c.if-self.false some w.in_ok-b.ensures.vertex))
    ]
