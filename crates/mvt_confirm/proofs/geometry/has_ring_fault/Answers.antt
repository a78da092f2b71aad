use Rattle.mvt_fault.specs.Code.{ring_code}
use Rattle.mvt_rules.specs.Ring.{BreaksRings}
use Rattle.mvt_confirm.proofs.Features.DrawnFeatures.{no_rings_decided, rings_decide}
use Rattle.mvt_confirm.proofs.geometry.has_ring_fault.Goals as goal

pub returns-in-Some : goal.returns-in-Some
returns-in-Some c = λ tile is.
    rings_decide c.args.bytes.now c.args.layer c.args.feature tile c.in-Some.place c.breaks_rings.result
    (λ rings. BreaksRings rings (ring_code c.args.code) c.args.ring) is c.in-Some.ensures.there
    (λ rings drawn. c.breaks_rings.ensures rings (c.vertices.ensures rings drawn))

pub returns-in-None : goal.returns-in-None
returns-in-None c = λ tile is.
    no_rings_decided c.args.bytes.now c.args.layer c.args.feature tile (λ rings. BreaksRings rings (ring_code c.args.code) c.args.ring) is c.in-None.ensures.none
