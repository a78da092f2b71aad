use Rattle.std.proofs.Common.{below_more, arith}
use Rattle.mvt_sweep.specs.Rings.{rings_of}
use Rattle.mvt_polygon.proofs.RingFaults.{first_fault, no_fault}
use Rattle.mvt_sweep.proofs.Vertices.RingReads.{count_of_rings}
use Rattle.mvt_polygon.proofs.rings.check_rings.Goals as goal

pub returns-in-Some-clause-least : goal.returns-in-Some-clause-least
returns-in-Some-clause-least c = first_fault (rings_of c.args.rings.now) c.in-Some.code c.loop-ring.ring c.loop-ring.invariant c.in-Some.ensures.least

pub loop-ring-preserved : goal.loop-ring-preserved
loop-ring-preserved c = below_more _ _ c.loop-ring.invariant c.in_default.ensures.none

pub returns-clause-none : goal.returns-clause-none
returns-clause-none c =
    no_fault (rings_of c.args.rings.now) (λ ring within. c.loop-ring.invariant ring (omega (arith, count_of_rings c.args.rings.now, c.loop-ring-test.false)))
