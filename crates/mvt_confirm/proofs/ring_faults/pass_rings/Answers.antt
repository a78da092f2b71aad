use Rattle.std.proofs.Common.{◌≡◌, subst, arith}
use Rattle.mvt_confirm.specs.Calls.Rings.{GivesRing}
use Rattle.mvt_wire.proofs.NothingFound.{IfNone-held}
use Rattle.mvt_confirm.proofs.Shapes.RingCounts.{HavePassed, none_passed, next_passed, all_passed, where_some}
use Rattle.mvt_confirm.proofs.ring_faults.pass_rings.Goals as goal

pub rings-init : goal.rings-init
rings-init c = λ rings left. none_passed rings c.args.vertices.now left

pub rings-preserved : goal.rings-preserved
rings-preserved c = λ rings left.
    let some = where_some c.next_ring.result (GivesRing c.rings.vertices c.next_ring.new.vertices) c.if-is_none.ensures c.next_ring.ensures.ring in
    (next_passed rings c.rings.vertices c.next_ring.new.vertices c.rings.counter some.0 (c.rings.invariant rings left) some.1).1

pub returns-then-is_none-clause-fewer : goal.returns-then-is_none-clause-fewer
returns-then-is_none-clause-fewer c = λ fails rings left.
    let ends = IfNone-held c.next_ring.result c.if-is_none.ensures c.next_ring.ensures.end in
    let size = all_passed rings c.rings.vertices c.rings.counter (c.rings.invariant rings left) ends in
    let before = c.rings-test.true in
    omega arith

pub returns-clause-passed : goal.returns-clause-passed
returns-clause-passed c = λ holds rings left.
    let over : c.rings.counter ≡ c.args.count = omega arith in
    let passed = subst (HavePassed rings c.rings.vertices) over (c.rings.invariant rings left) in
    (passed.within, passed.left)
