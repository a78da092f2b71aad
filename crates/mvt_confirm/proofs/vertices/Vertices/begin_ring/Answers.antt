use Rattle.std.proofs.Common.{◌≡◌, ◌/◌, Some, ap, sym, ◌∙◌, subst}
use Rattle.mvt_confirm.specs.Calls.Vertices.{VertexWalk, EndsVertices, GivesPosition, TakesStep}
use Rattle.mvt_confirm.proofs.Drawing.VertexWalks.{no_ring_counted, no_ring_moved, no_ring_stepped, ring_begun}
use Rattle.mvt_confirm.proofs.vertices.Vertices.begin_ring.Goals as goal

pub returns-in_err-next_number-clause-end : goal.returns-in_err-next_number-clause-end
returns-in_err-next_number-clause-end c =
    let old : VertexWalk = record { numbers = c.self.inside.numbers; here = c.self.inside.here; left = c.self.inside.left } in
    let front : c.self.inside.left ≡ 0 = ap (λ (it : VertexWalk). it.left) c.self.view_is ∙ c.requires in
    rw c.from_residual.ensures (subst EndsVertices c.self.view_is (no_ring_moved old c.next_number.new.numbers front c.in_err-next_number.ensures.there))

pub returns-in_err-first-clause-end : goal.returns-in_err-first-clause-end
returns-in_err-first-clause-end c =
    let old : VertexWalk = record { numbers = c.self.inside.numbers; here = c.self.inside.here; left = c.self.inside.left } in
    let front : c.self.inside.left ≡ 0 = ap (λ (it : VertexWalk). it.left) c.self.view_is ∙ c.requires in
    rw c.from_residual-in_err-first.ensures (
    subst EndsVertices c.self.view_is
    (no_ring_stepped old c.next_number.new.numbers c.step.new.self.numbers c.in_ok-next_number.field-0 front c.in_ok-next_number.ensures.there c.in_err-first.ensures.there)
    )

pub returns-in_err-self-inside-clause-end : goal.returns-in_err-self-inside-clause-end
returns-in_err-self-inside-clause-end c =
    let old : VertexWalk = record { numbers = c.self.inside.numbers; here = c.self.inside.here; left = c.self.inside.left } in
    let moved : VertexWalk = record { numbers = c.next_number.new.numbers; here = c.self.inside.here; left = c.self.inside.left } in
    let front : c.self.inside.left ≡ 0 = ap (λ (it : VertexWalk). it.left) c.self.view_is ∙ c.requires in
    let there = subst (λ (it : VertexWalk). TakesStep moved it.numbers (Some c.in_ok-first.first)) (sym c.self-2.view_is) c.in_ok-first.ensures.there in
    rw c.from_residual-in_err-self-inside.ensures (
    subst EndsVertices c.self.view_is
    (no_ring_counted old c.next_number.new.numbers c.self-2.inside.numbers c.next_number-2.new.numbers c.in_ok-next_number.field-0 c.in_ok-first.first front c.in_ok-next_number.ensures.there there c.in_err-self-inside.ensures.there)
    )

pub returns-clause-vertex : goal.returns-clause-vertex
returns-clause-vertex c =
    let old : VertexWalk = record { numbers = c.self.inside.numbers; here = c.self.inside.here; left = c.self.inside.left } in
    let moved : VertexWalk = record { numbers = c.next_number.new.numbers; here = c.self.inside.here; left = c.self.inside.left } in
    let stepped : VertexWalk = record { numbers = c.self-2.inside.numbers; here = c.self-2.inside.here; left = c.self-2.inside.left } in
    let front : c.self.inside.left ≡ 0 = ap (λ (it : VertexWalk). it.left) c.self.view_is ∙ c.requires in
    let there = subst (λ (it : VertexWalk). TakesStep moved it.numbers (Some c.in_ok-first.first)) (sym c.self-2.view_is) c.in_ok-first.ensures.there in
    let here : c.self-2.inside.here ≡ c.in_ok-first.first = ap (λ (it : VertexWalk). it.here) c.self-2.view_is ∙ c.in_ok-first.ensures.here in
    let line = c.in_ok-self-inside.field-0 in
    let new : VertexWalk = record { numbers = c.next_number-2.new.numbers; here = c.self-2.inside.here; left = line / 8 } in
    subst (λ (it : VertexWalk). GivesPosition it new c.in_ok-first.first) c.self.view_is
    (ring_begun old stepped c.next_number.new.numbers c.next_number-2.new.numbers c.in_ok-next_number.field-0 line c.in_ok-first.first front c.in_ok-next_number.ensures.there there here c.in_ok-self-inside.ensures.there)
