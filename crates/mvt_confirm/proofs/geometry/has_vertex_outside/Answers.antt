use Rattle.mvt_rules.specs.PolygonFault.{IsVertexOutside}
use Rattle.mvt_confirm.proofs.Features.DrawnFeatures.{no_rings_decided, rings_decide}
use Rattle.mvt_confirm.proofs.geometry.has_vertex_outside.Goals as goal

pub returns-in-Some : goal.returns-in-Some
returns-in-Some c = λ tile is.
    rings_decide c.args.bytes.now c.args.layer c.args.feature tile c.in-Some.place c.is_vertex_outside.result
    (λ rings. IsVertexOutside rings c.args.polygon c.args.ring c.args.vertex) is c.in-Some.ensures.there c.is_vertex_outside.ensures

pub returns-in-None : goal.returns-in-None
returns-in-None c = λ tile is.
    no_rings_decided c.args.bytes.now c.args.layer c.args.feature tile (λ rings. IsVertexOutside rings c.args.polygon c.args.ring c.args.vertex) is c.in-None.ensures.none
