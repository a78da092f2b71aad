use Rattle.std.proofs.Common.{refl, sym, subst}
use Rattle.mvt_confirm.specs.Calls.Vertices.{between, SpellRings}
use Rattle.mvt_plane.specs.Position.{Position}
use Rattle.mvt_confirm.proofs.vertices.Vertices.new.Goals as goal

pub returns : goal.returns
returns c = λ geometry rings left drawn.
    between geometry refl left
    (subst (λ (at : Position). SpellRings at rings geometry) (sym c.origin.ensures) (record { able = drawn.spelled.able.0; spelled = drawn.spelled.spelled }))
