use Rattle.std.proofs.Common.{◌≡◌, ◌<◌, ◌+◌, ℕ, length, refl, ◌∙◌, ap, subst, arith}
use Rattle.std.proofs.lemmas.Option.{slice_get_read}
use Rattle.mvt_sweep.specs.Calls.SweepVertices.{far_end_of}
use Rattle.mvt_sweep.specs.Rings.{rings_of}
use Rattle.mvt_sweep.proofs.Vertices.RingReads.{count_of_rings, ring_there}
use Rattle.mvt_sweep.proofs.Vertices.VertexNumbers.{AreFirst, count_only, first_more, sweep_vertex_of_ring}
use Rattle.mvt_sweep.proofs.Vertices.VertexPlans.{linked_vertices}
use Rattle.mvt_sweep.proofs.sweep.listing.list_few.Goals as goal

pub loop-edge-preserved : goal.loop-edge-preserved
loop-edge-preserved c =
    let rings = rings_of c.args.rings.now in
    let ring = c.index-rings-0.result in
    let edge = c.loop-edge.edge in
    let there = ring_there c.args.rings.now 0 ring (omega (arith, c.requires.one)) c.index-rings-0.is in
    let within : edge < length ring.items = omega (arith, c.loop-edge-test.true, c.len-edge-end.ensures, ring.ok.0) in
    let here = slice_get_read ring.items (length ring.items) edge c.index.result.now refl within c.index.ensures in
    let far_end = c.far_end_of.ensures.value ∙ ap (λ (n : ℕ). far_end_of n edge) (c.len.ensures ∙ ring.ok.0) in
    let none_before : edge ≡ 0 + edge = omega arith in
    let nothing_more : c.far_end_of.result ≡ 0 + c.far_end_of.result = omega arith in
    let before = subst (λ (n : ℕ). AreFirst rings n c.loop-edge.list.items) none_before c.loop-edge.invariant in
    first_more rings (0 + edge) (edge + 1) c.loop-edge.list.items c.push.new.self.items _ c.push.ensures.items before
    (sweep_vertex_of_ring rings 0 ring.items edge 0 c.far_end_of.result _ there within here refl far_end nothing_more) (omega arith)

pub returns-clause-list : goal.returns-clause-list
returns-clause-list c =
    let rings = rings_of c.args.rings.now in
    let ring = c.index-rings-0.result in
    let there = ring_there c.args.rings.now 0 ring (omega (arith, c.requires.one)) c.index-rings-0.is in
    let all = count_only rings ring.items (omega (arith, count_of_rings c.args.rings.now, c.requires.one)) there in
    record {
      count = omega (arith, c.loop-edge.invariant.count, c.loop-edge-test.false, c.loop-edge.auto.edge-end, c.len-edge-end.ensures, ring.ok.0, all);
      each = c.loop-edge.invariant.each;
    }

pub returns-clause-linked : goal.returns-clause-linked
returns-clause-linked c = linked_vertices (rings_of c.args.rings.now) c.loop-edge.list.items c.requires.proper (returns-clause-list c)
