use Rattle.std.proofs.Common.{refl, sym, true≢false, arith}
use Rattle.std.proofs.lemmas.Option.{IfSome_then}
use Rattle.mvt_confirm.proofs.Shapes.RingCounts.{next_passed, all_passed}
use Rattle.mvt_wire.proofs.NothingFound.{IfNone_then}
use Rattle.mvt_confirm.proofs.ring_faults.ring_at.Goals as goal

pub returns-then-pass_rings-clause-there : goal.returns-then-pass_rings-clause-there
returns-then-pass_rings-clause-there c = IfSome_then c.next_ring.result c.next_ring.ensures.ring (λ measure given rings left.
    let following = c.if-pass_rings.ensures.passed refl rings left in
    let next = (next_passed rings c.pass_rings.new.vertices c.next_ring.new.vertices c.args.ring measure (record { within = following.0; left = following.1 }) given).0 in
    (next.ring, next.there, next.decided))

pub returns-then-pass_rings-clause-none : goal.returns-then-pass_rings-clause-none
returns-then-pass_rings-clause-none c = IfNone_then c.next_ring.result c.next_ring.ensures.end (λ ends rings left.
    let following = c.if-pass_rings.ensures.passed refl rings left in
    omega (arith, all_passed rings c.pass_rings.new.vertices c.args.ring (record { within = following.0; left = following.1 }) ends))

pub returns-else-pass_rings-clause-none : goal.returns-else-pass_rings-clause-none
returns-else-pass_rings-clause-none c = λ rings left. omega (arith, c.if-pass_rings.ensures.fewer (λ same. true≢false (sym same)) rings left)
