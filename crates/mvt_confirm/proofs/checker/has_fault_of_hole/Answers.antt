use Rattle.mvt_confirm.specs.Calls.HoleFault.{outside, hole_in_hole}
use Rattle.mvt_confirm.proofs.Features.ShownByCases.{not_of_hole, with_polygon}
use Rattle.mvt_confirm.proofs.checker.has_fault_of_hole.Goals as goal

pub returns-in-Outside : goal.returns-in-Outside
returns-in-Outside c = λ profile tile is. rw c.in-Outside.is (with_polygon (outside _ _ _ _ _) (c.has_vertex_outside.ensures tile is))

pub returns-in-HoleInHole : goal.returns-in-HoleInHole
returns-in-HoleInHole c = λ profile tile is. rw c.in-HoleInHole.is (with_polygon (hole_in_hole _ _ _ _ _ _) (c.has_vertex_in_hole.ensures tile is))

pub returns-in_default : goal.returns-in_default
returns-in_default c = λ profile tile is. (λ holds. absurd (cc holds), λ shown. absurd (not_of_hole c.args.fault.now c.in_default.not-Outside c.in_default.not-HoleInHole shown.0))
