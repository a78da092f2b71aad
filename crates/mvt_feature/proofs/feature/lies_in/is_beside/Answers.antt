use Rattle.std.proofs.Common.{◌≡◌, below_more, refl, sym, ◌∙◌, subst, arith, int_cmp, pos}
use Rattle.std.proofs.lemmas.Option.{slice_get_read, slice_get_within, same_Some}
use Rattle.mvt_plane.specs.Geometry.Measure.{orientation}
use Rattle.mvt_plane.specs.Position.{Position}
use Rattle.mvt_feature.proofs.Cells.LyingRings.{no_side_equal}
use Rattle.mvt_feature.proofs.feature.lies_in.is_beside.Goals as goal

pub loop-vertex-preserved : goal.loop-vertex-preserved
loop-vertex-preserved c =
    let position = c.index-ring-vertex.result in
    let there = slice_get_read c.args.ring.now _ c.loop-vertex.vertex position refl c.loop-vertex-test.true c.index-ring-vertex.is in
    below_more _ _ c.loop-vertex.invariant
    (λ vertex here.
    subst (λ (it : Position). c.side-first.result ≡ int_cmp (orientation c.args.edge.now.a c.args.edge.now.b it) (pos 0)) (same_Some position vertex (sym there ∙ here)) (c.is_on_side.ensures c.if-not-is_on_side.false))

pub returns : goal.returns
returns c = λ apart. record {
  side = c.side-first.result;
  strictly = no_side_equal c.side-first.result (sym c.is_ne.ensures ∙ apart);
  each = λ number vertex here.
      let within = slice_get_within c.args.ring.now number vertex here in
      c.loop-vertex.invariant number (omega (arith, c.loop-vertex-test.false)) vertex here;
}
