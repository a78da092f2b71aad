use Rattle.std.proofs.lemmas.Option.{IfSome_then}
use Rattle.std.proofs.lemmas.Result.{IfOk-weaker}
use Rattle.mvt_sweep.specs.Rings.{rings_of}
use Rattle.mvt_tile.specs.FreeFaults.{of_least}
use Rattle.mvt_gate.proofs.DrawnRings.{rings_are_drawn}
use Rattle.mvt_gate.proofs.FirstFaults.{ring_is_least}
use Rattle.mvt_gate.proofs.polygons.find_in_rings.Goals as goal

pub find_in_polygons-requires-clause-drawn : goal.find_in_polygons-requires-clause-drawn
find_in_polygons-requires-clause-drawn c = rings_are_drawn 3 c.requires.drawn.0 (rings_of c.args.rings.now) c.requires.drawn.1 c.in_default.ensures.none

pub find_apart-requires-clause-drawn : goal.find_apart-requires-clause-drawn
find_apart-requires-clause-drawn c = rings_are_drawn 3 c.requires.drawn.0 (rings_of c.args.rings.now) c.requires.drawn.1 c.in_default.ensures.none

pub returns-in-Some-clause-found : goal.returns-in-Some-clause-found
returns-in-Some-clause-found c =
    rw c.store_ring.ensures (λ it has. of_least (ring_is_least c.args.profile it c.args.layer c.args.feature (rings_of c.args.rings.now) c.in-Some.fault has c.in-Some.ensures.least))

pub returns-in-Polygon-clause-found : goal.returns-in-Polygon-clause-found
returns-in-Polygon-clause-found c =
    rw c.in-Polygon.is
    (IfOk-weaker c.find_in_polygons.result _ _ (λ _ some. IfSome_then c.find_in_polygons.new.found some (λ first least it has. of_least (least it has))) c.find_in_polygons.ensures.least)
