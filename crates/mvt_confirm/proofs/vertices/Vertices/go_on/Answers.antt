use Rattle.std.proofs.Common.{◌≡◌, ◌+◌, ◌-◌, ◌<◌, Some, ap, sym, ◌∙◌, subst, arith}
use Rattle.mvt_confirm.specs.Calls.Vertices.{VertexWalk, GivesPosition, TakesStep}
use Rattle.mvt_confirm.proofs.Drawing.VertexWalks.{no_vertex_closed, no_vertex_stepped, vertex_further, vertex_last}
use Rattle.mvt_confirm.proofs.vertices.Vertices.go_on.Goals as goal
use Rattle.mvt_confirm.proofs.vertices.Vertices.go_on.Goals.{then-self-eq0+in_ok-next_number, else-self-eq0}

pub returns-in_err-to-clause-end : goal.returns-in_err-to-clause-end
returns-in_err-to-clause-end c =
    rw c.from_residual.ensures (no_vertex_stepped c.args.self.now c.step.new.self.numbers c.requires c.in_err-to.ensures.there)

pub returns-in_err-next_number-clause-end : goal.returns-in_err-next_number-clause-end
returns-in_err-next_number-clause-end c =
    let there = subst (λ (it : VertexWalk). TakesStep c.args.self.now it.numbers (Some c.in_ok-to.to)) (sym c.self.view_is) c.in_ok-to.ensures.there in
    let left : c.self.inside.left ≡ c.args.self.now.left = ap (λ (it : VertexWalk). it.left) c.self.view_is ∙ c.in_ok-to.ensures.left in
    let last : c.args.self.now.left ≡ 1 = omega (arith, c.if-self-eq0.true, c.requires) in
    rw c.from_residual-in_err-next_number.ensures (
    no_vertex_closed c.args.self.now c.self.inside.numbers c.next_number.new.numbers c.in_ok-to.to last there c.in_err-next_number.ensures.there
    )

pub returns-clause-vertex : goal.returns-clause-vertex
returns-clause-vertex c =
    let there = subst (λ (it : VertexWalk). TakesStep c.args.self.now it.numbers (Some c.in_ok-to.to)) (sym c.self.view_is) c.in_ok-to.ensures.there in
    let stepped : VertexWalk = record { numbers = c.self.inside.numbers; here = c.self.inside.here; left = c.self.inside.left } in
    let here : c.self.inside.here ≡ c.in_ok-to.to = ap (λ (it : VertexWalk). it.here) c.self.view_is ∙ c.in_ok-to.ensures.here in
    let same : c.self.inside.left ≡ c.args.self.now.left = ap (λ (it : VertexWalk). it.left) c.self.view_is ∙ c.in_ok-to.ensures.left in
    let left = c.self.inside.left - 1 in
    let less : c.args.self.now.left ≡ left + 1 = omega (arith, c.requires) in
    elim c.if-self-eq0.branch [
      | then-self-eq0+in_ok-next_number w ↦
          subst (λ (new : VertexWalk). GivesPosition c.args.self.now new c.in_ok-to.to) (sym w.self-is)
          (vertex_last c.args.self.now stepped w.next_number.new.numbers left w.in_ok-next_number.field-0 c.in_ok-to.to less w.if-self-eq0.true there here w.in_ok-next_number.ensures.there)
      | else-self-eq0 w ↦
          let some : 0 < left = omega (arith, w.if-self-eq0.false) in
          subst (λ (new : VertexWalk). GivesPosition c.args.self.now new c.in_ok-to.to) (sym w.self-is) (vertex_further c.args.self.now stepped left c.in_ok-to.to less some there here)
    ]
