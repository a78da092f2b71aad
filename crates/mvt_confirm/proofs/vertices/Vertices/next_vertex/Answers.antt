use Rattle.std.proofs.Common.{◌≡◌, ap}
use Rattle.mvt_confirm.specs.Calls.Vertices.{VertexWalk}
use Rattle.mvt_confirm.proofs.Drawing.VertexWalks.{vertex_given}
use Rattle.mvt_confirm.proofs.vertices.Vertices.next_vertex.Goals as goal
use Rattle.mvt_confirm.proofs.vertices.Vertices.next_vertex.Goals.{then-self-eq0+in_ok-point, else-self-eq0+in_ok-point-2}

pub returns-clause-vertex : goal.returns-clause-vertex
returns-clause-vertex c =
    let left : c.self-2.inside.left ≡ c.if-self-eq0.self.left = ap (λ (it : VertexWalk). it.left) c.self-2.view_is in
    elim c.if-self-eq0.branch [
      | then-self-eq0+in_ok-point w ↦
          vertex_given c.args.self.now c.if-self-eq0.self w.begin_ring.new.self w.in_ok-point.point c.if-self-eq0.point c.self-2.inside.left w.self-is w.point-is left
          w.in_ok-point.ensures.vertex w.in_ok-point.ensures.fewer w.in_ok-point.ensures.counts
      | else-self-eq0+in_ok-point-2 w ↦
          vertex_given c.args.self.now c.if-self-eq0.self w.go_on.new.self w.in_ok-point-2.point c.if-self-eq0.point c.self-2.inside.left w.self-is w.point-is left
          w.in_ok-point-2.ensures.vertex w.in_ok-point-2.ensures.fewer w.in_ok-point-2.ensures.counts
    ]
