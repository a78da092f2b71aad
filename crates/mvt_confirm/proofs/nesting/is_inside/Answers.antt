use Rattle.mvt_plane.specs.Geometry.Ring.{edges}
use Rattle.mvt_confirm.proofs.Shapes.HoleVertices.{inside_of_number}
use Rattle.mvt_confirm.proofs.Shapes.NumberedEdges.{too_few_rings}
use Rattle.mvt_confirm.proofs.nesting.is_inside.Goals as goal

pub returns-in-Some : goal.returns-in-Some
returns-in-Some c = λ rings vertices draws there.
    let ring = c.in-Some.ensures.there rings (c.vertices.ensures rings draws) in
    inside_of_number rings c.args.ring c.args.position vertices ring.0 there ring.1 (c.odd_number_over.ensures (edges ring.0) ring.2)

pub returns-in-None : goal.returns-in-None
returns-in-None c = λ rings vertices draws there. absurd (too_few_rings rings c.args.ring vertices (c.in-None.ensures.none rings (c.vertices.ensures rings draws)) there)
