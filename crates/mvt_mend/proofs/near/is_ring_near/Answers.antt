use Rattle.std.proofs.Common.{length, refl, sym, ◌∙◌, subst, below_more, arith}
use Rattle.std.proofs.lemmas.Option.{same_Some, slice_get_read, slice_get_within}
use Rattle.mvt_sweep.specs.Rings.{rings_of}
use Rattle.mvt_mend.specs.Near.{IsNear}
use Rattle.mvt_mend.proofs.near.is_ring_near.Goals as goal

pub loop-vertex-preserved : goal.loop-vertex-preserved
loop-vertex-preserved c =
    let vertices = c.args.vertices.now in
    let vertex = c.loop-vertex.vertex in
    let here = slice_get_read vertices (length vertices) vertex c.index-vertices-vertex.result refl c.loop-vertex-test.true c.index-vertices-vertex.is in
    record {
      near = below_more _ _ c.loop-vertex.invariant.near (λ position there. subst (IsNear (rings_of c.args.old.now)) (same_Some c.index-vertices-vertex.result position (sym here ∙ there)) (c.is_near.ensures.near c.if-not-is_near.false));
      no_more = omega (arith, c.is_near.ensures.no_more, c.loop-vertex.invariant.no_more);
    }

pub returns-clause-near : goal.returns-clause-near
returns-clause-near c = λ _ vertex position there. c.loop-vertex.invariant.near vertex (omega (arith, c.loop-vertex-test.false, slice_get_within c.args.vertices.now vertex position there)) position there
