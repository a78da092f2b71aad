use Rattle.std.proofs.Common.{Some, None, subst}
use Rattle.mvt_confirm.specs.Calls.Vertices.{VertexWalk, TakesStep}
use Rattle.mvt_confirm.proofs.Drawing.VertexSteps.{no_step_taken, no_x_taken, no_y_taken, step_taken}
use Rattle.mvt_confirm.proofs.vertices.Vertices.step.Goals as goal

pub returns-in_err-x-clause-there : goal.returns-in_err-x-clause-there
returns-in_err-x-clause-there c =
    let old : VertexWalk = record { numbers = c.self.inside.numbers; here = c.self.inside.here; left = c.self.inside.left } in
    subst (λ (it : VertexWalk). TakesStep it c.next_number.new.numbers c.from_residual.result) c.self.view_is (no_x_taken old _ _ c.in_err-x.ensures.there)

pub returns-in_err-y-clause-there : goal.returns-in_err-y-clause-there
returns-in_err-y-clause-there c =
    let old : VertexWalk = record { numbers = c.self.inside.numbers; here = c.self.inside.here; left = c.self.inside.left } in
    subst (λ (it : VertexWalk). TakesStep it c.next_number-2.new.numbers c.from_residual-in_err-y.result) c.self.view_is
    (no_y_taken old _ _ _ _ c.in_ok-x.ensures.there c.in_err-y.ensures.there)

pub returns-in_err-to-clause-there : goal.returns-in_err-to-clause-there
returns-in_err-to-clause-there c =
    let old : VertexWalk = record { numbers = c.self.inside.numbers; here = c.self.inside.here; left = c.self.inside.left } in
    subst (λ (it : VertexWalk). TakesStep it c.next_number-2.new.numbers c.from_residual-in_err-to.result) c.self.view_is
    (no_step_taken old _ _ (step_taken old _ _ _ _ None c.in_ok-x.ensures.there c.in_ok-y.ensures.there c.in_err-to.ensures))

pub returns-clause-there : goal.returns-clause-there
returns-clause-there c =
    let old : VertexWalk = record { numbers = c.self.inside.numbers; here = c.self.inside.here; left = c.self.inside.left } in
    subst (λ (it : VertexWalk). TakesStep it c.next_number-2.new.numbers (Some c.in_ok-to.to)) c.self.view_is
    (step_taken old _ _ _ _ (Some c.in_ok-to.to) c.in_ok-x.ensures.there c.in_ok-y.ensures.there c.in_ok-to.ensures)
