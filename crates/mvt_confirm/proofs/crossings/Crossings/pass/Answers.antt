use Rattle.mvt_plane.specs.declared.geometry.edge.Edge.{Edge}
use Rattle.mvt_plane.proofs.Insides.EdgeRows.{parity_after}
use Rattle.mvt_plane.proofs.Insides.InsideParity.{parts_differ}
use Rattle.mvt_confirm.proofs.crossings.Crossings.pass.Goals as goal

pub returns : goal.returns
returns c passed so_far =
    let edge : Edge = record { a = c.args.a; b = c.args.b } in
    let more = parity_after c.args.position passed edge in
    let both = parts_differ c.args.self.now.is_odd c.passes_over.result _ _ so_far c.passes_over.ensures in
    (λ odd. more.1 (both.0 odd), λ holds. both.1 (more.0 holds))
