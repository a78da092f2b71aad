use Rattle.std.proofs.Common.{◌≡◌, below_more, slice_get, List, sym, ◌∙◌, ap, subst, arith}
use Rattle.std.proofs.lemmas.Option.{same_Some}
use Rattle.mvt_plane.specs.Position.{Position}
use Rattle.mvt_sweep.specs.Bounds.{AreBoundsOf}
use Rattle.mvt_sweep.specs.Rings.{rings_of}
use Rattle.mvt_sweep.proofs.Vertices.RingReads.{vertices_there}
use Rattle.mvt_sweep.proofs.bounds.Bounds.of_polygon.Goals as goal

pub of-bounds-requires : goal.of-bounds-requires
of-bounds-requires c =
    let vertices = c.deref.result.now in
    let there = vertices_there c.args.rings.now c.args.exterior c.index-rings-exterior.result vertices (omega (arith, c.requires.further, c.requires.within)) c.index-rings-exterior.is c.deref.ensures.value in
    let several = c.requires.drawn.several c.args.exterior vertices there in
    omega arith

pub loop-hole-init : goal.loop-hole-init
loop-hole-init c = λ ring below from vertices here.
    let own = c.deref.result.now in
    let there = vertices_there c.args.rings.now c.args.exterior c.index-rings-exterior.result own (omega (arith, c.requires.further, c.requires.within)) c.index-rings-exterior.is c.deref.ensures.value in
    let at : ring ≡ c.args.exterior = omega arith in
    let same = same_Some own vertices (sym there ∙ ap (slice_get (rings_of c.args.rings.now)) (sym at) ∙ here) in
    subst (λ (list : List Position). AreBoundsOf list c.of-bounds.result) same c.of-bounds.ensures

pub loop-hole-preserved : goal.loop-hole-preserved
loop-hole-preserved c =
    let own = c.deref-in-loop-hole.result.now in
    let hole = c.loop-hole.hole in
    let there = vertices_there c.args.rings.now hole c.index-rings-hole.result own (omega (arith, c.loop-hole-test.true, c.requires.within)) c.index-rings-hole.is c.deref-in-loop-hole.ensures.value in
    below_more _ _ (λ ring below from vertices here number vertex its. c.with_all-bounds.ensures.own vertex (c.loop-hole.invariant ring below from vertices here number vertex its))
    (λ from vertices here. subst (λ (list : List Position). AreBoundsOf list c.with_all-bounds.result) (same_Some own vertices (sym there ∙ here)) c.with_all-bounds.ensures.more)

pub returns : goal.returns
returns c = λ ring vertices in_it here number vertex its. c.loop-hole.invariant ring (omega (arith, c.loop-hole-test.false, in_it.before)) in_it.from vertices here number vertex its
