use Rattle.std.proofs.Common.{refl, sym, ◌∙◌, subst, below_more, arith}
use Rattle.std.proofs.lemmas.Option.{same_Some, slice_get_within}
use Rattle.mvt_sweep.specs.Rings.{rings_of}
use Rattle.mvt_sweep.proofs.Vertices.RingReads.{count_of_rings, fails, vertices_there}
use Rattle.mvt_sweep.specs.Calls.Proper.{IsProperRing}
use Rattle.mvt_sweep.proofs.Vertices.ProperRings.{all_proper, ring_of_proper, never}
use Rattle.mvt_sweep.proofs.proper.are_proper.Goals as goal

pub loop-ring-preserved : goal.loop-ring-preserved
loop-ring-preserved c =
    let ring = c.loop-ring.ring in
    let vertices = c.deref.result.now in
    let there = vertices_there c.args.rings.now ring c.index-rings-ring.result vertices c.loop-ring-test.true c.index-rings-ring.is c.deref.ensures.value in
    below_more _ _ c.loop-ring.invariant (λ its here. subst IsProperRing (same_Some vertices its (sym there ∙ here)) (c.is_proper.ensures.0 c.if-not-is_proper.false))

pub returns-then-not-is_proper : goal.returns-then-not-is_proper
returns-then-not-is_proper c =
    let ring = c.loop-ring.ring in
    let vertices = c.deref.result.now in
    let there = vertices_there c.args.rings.now ring c.index-rings-ring.result vertices c.loop-ring-test.true c.index-rings-ring.is c.deref.ensures.value in (
      never,
      λ proper. absurd (fails (IsProperRing vertices) c.is_proper.result c.is_proper.ensures c.if-not-is_proper.true (ring_of_proper (rings_of c.args.rings.now) ring vertices proper there)),
    )

pub returns : goal.returns
returns c = (
  λ _. all_proper (rings_of c.args.rings.now) (λ number ring there. c.loop-ring.invariant number (omega (arith, count_of_rings c.args.rings.now, c.loop-ring-test.false, slice_get_within (rings_of c.args.rings.now) number ring there)) ring there),
  λ _. refl,
)
