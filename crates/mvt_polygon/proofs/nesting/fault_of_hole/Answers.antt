use Rattle.std.proofs.Common.{arith}
use Rattle.mvt_sweep.specs.Rings.{rings_of}
use Rattle.mvt_polygon.proofs.NestFaults.{first_vertex, no_vertex}
use Rattle.mvt_sweep.proofs.Vertices.RingReads.{ring_there}
use Rattle.mvt_polygon.proofs.nesting.fault_of_hole.Goals as goal

pub returns-in-Some-clause-least : goal.returns-in-Some-clause-least
returns-in-Some-clause-least c = first_vertex (rings_of c.args.rings.now) c.args.ring c.loop-vertex.vertex c.in-Some.fault c.loop-vertex.invariant c.in-Some.ensures.least

pub returns-clause-none : goal.returns-clause-none
returns-clause-none c =
    let vertices = c.index-rings-ring.result in
    no_vertex (rings_of c.args.rings.now) c.args.ring vertices.items (ring_there c.args.rings.now c.args.ring vertices c.requires.there c.index-rings-ring.is)
    (λ vertex within. c.loop-vertex.invariant vertex (omega (arith, c.loop-vertex-test.false, c.len-vertex-end.ensures)))
