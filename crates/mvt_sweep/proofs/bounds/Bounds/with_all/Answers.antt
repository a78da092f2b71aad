use Rattle.std.proofs.Common.{below_more, refl, sym, ◌∙◌, subst, arith}
use Rattle.std.proofs.lemmas.Option.{slice_get_within, slice_get_read, same_Some}
use Rattle.mvt_sweep.specs.Bounds.{IsInBounds}
use Rattle.mvt_sweep.proofs.bounds.Bounds.with_all.Goals as goal

pub loop-vertex-init : goal.loop-vertex-init
loop-vertex-init c = record { own = λ vertex within. within; more = λ number below. absurd (omega arith) }

pub loop-vertex-preserved : goal.loop-vertex-preserved
loop-vertex-preserved c =
    let position = c.vertex-item.result in
    let there = slice_get_read c.args.ring.now _ c.loop-vertex.vertex-index position refl c.loop-vertex-test.true c.vertex-item.is in
    record {
      own = λ vertex within. c.with-bounds.ensures.own vertex (c.loop-vertex.invariant.own vertex within);
      more = below_more _ _ (λ number before vertex here. c.with-bounds.ensures.own vertex (c.loop-vertex.invariant.more number before vertex here))
          (λ vertex here. subst (IsInBounds c.with-bounds.result) (same_Some position vertex (sym there ∙ here)) c.with-bounds.ensures.more);
    }

pub returns-clause-own : goal.returns-clause-own
returns-clause-own c = c.loop-vertex.invariant.own

pub returns-clause-more : goal.returns-clause-more
returns-clause-more c = λ number vertex here.
    let within = slice_get_within c.args.ring.now number vertex here in
    c.loop-vertex.invariant.more number (omega (arith, c.loop-vertex-test.false)) vertex here
