use Rattle.std.proofs.Common.{arith}
use Rattle.mvt_sweep.proofs.Vertices.RingReads.{count_of_rings}
use Rattle.mvt_sweep.specs.Rings.{rings_of}
use Rattle.mvt_polygon.proofs.NestFaults.{first_hole, no_hole}
use Rattle.mvt_polygon.proofs.nesting.check_nesting.Goals as goal

pub returns-in-Some-clause-least : goal.returns-in-Some-clause-least
returns-in-Some-clause-least c = first_hole (rings_of c.args.rings.now) c.loop-ring.ring c.in-Some.fault c.loop-ring.invariant c.in-Some.ensures.least

pub returns-clause-none : goal.returns-clause-none
returns-clause-none c =
    no_hole (rings_of c.args.rings.now) (λ ring within. c.loop-ring.invariant ring (omega (arith, count_of_rings c.args.rings.now, c.loop-ring-test.false)))
