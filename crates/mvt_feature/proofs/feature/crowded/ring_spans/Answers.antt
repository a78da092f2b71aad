use Rattle.std.proofs.Common.{◌∙◌, List, subst, arith, rules, sym, w32}
use Rattle.std.proofs.lemmas.Int.{to_z-of_z}
use Rattle.std.proofs.lemmas.Option.{same_Some}
use Rattle.mvt_plane.specs.Position.{Position}
use Rattle.mvt_sweep.specs.Bounds.{AreBoundsOf}
use Rattle.mvt_sweep.specs.Rings.{rings_of}
use Rattle.mvt_feature.proofs.Cells.PolygonSpans.{more_ring_spans}
use Rattle.mvt_sweep.proofs.Vertices.RingReads.{vertices_there}
use Rattle.mvt_feature.proofs.feature.crowded.ring_spans.Goals as goal

pub of-bounds-requires : goal.of-bounds-requires
of-bounds-requires c =
    let vertices = c.deref.result.now in
    let there = vertices_there c.args.rings.now c.loop-ring.ring c.index-rings-ring.result vertices c.loop-ring-test.true c.index-rings-ring.is c.deref.ensures.value in
    let several = c.requires.several c.loop-ring.ring vertices there in
    omega arith

pub loop-ring-preserved : goal.loop-ring-preserved
loop-ring-preserved c =
    let bounds = c.of-bounds.result in
    let own = c.deref.result.now in
    let there = vertices_there c.args.rings.now c.loop-ring.ring c.index-rings-ring.result own c.loop-ring-test.true c.index-rings-ring.is c.deref.ensures.value in
    more_ring_spans (rings_of c.args.rings.now) c.loop-ring.ring c.loop-ring.across.items c.push.new.self.items c.loop-ring.upward.items c.push-in-loop-ring.new.self.items _ _
    c.loop-ring.invariant
    (record {
      bounds = bounds;
      of = λ vertices here. subst (λ (list : List Position). AreBoundsOf list bounds) (same_Some own vertices (sym there ∙ here)) c.of-bounds.ensures;
      left = sym (to_z-of_z w32 bounds.left (search rules));
      right = sym (to_z-of_z w32 bounds.right (search rules));
      low = sym (to_z-of_z w32 bounds.low (search rules));
      high = sym (to_z-of_z w32 bounds.high (search rules));
    })
    c.in_ok-push.ensures.items c.in_ok-push-2.ensures.items
