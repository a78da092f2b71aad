use Rattle.std.proofs.Common.{true≢false, drop, refl, sym, arith}
use Rattle.mvt_confirm.proofs.Shapes.EdgeWalks.{edges_begun, none_at}
use Rattle.mvt_confirm.proofs.ring_edges.edges_of_ring.Goals as goal

pub returns-then-not-pass_rings-clause-none : goal.returns-then-not-pass_rings-clause-none
returns-then-not-pass_rings-clause-none c = λ rings left.
    let fewer = c.if-not-pass_rings.ensures.fewer (λ impossible. absurd (true≢false (sym impossible))) rings left in
    omega arith

pub returns-in_err-first-clause-none : goal.returns-in_err-first-clause-none
returns-in_err-first-clause-none c =
    rw c.from_residual.ensures (λ rings left.
    let there = c.if-not-pass_rings.ensures.passed refl rings left in
    none_at rings c.args.ring (c.in_err-first.ensures.end (drop c.args.ring rings) there.1))

pub returns-clause-there : goal.returns-clause-there
returns-clause-there c = λ rings left.
    let there = c.if-not-pass_rings.ensures.passed refl rings left in
    edges_begun rings c.args.ring c.pass_rings.new.vertices c.next_vertex.new.self c.in_ok-first.field-0 c.in_ok-first.ensures.vertex there.1
