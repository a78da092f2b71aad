use Rattle.std.proofs.Common.{◌≡◌, ◌<◌, ◌+◌, ℕ, suc, take, length, refl, ◌∙◌, ap, subst, arith}
use Rattle.std.proofs.lemmas.Option.{slice_get_read}
use Rattle.mvt_sweep.specs.Calls.SweepVertices.{far_end_of}
use Rattle.mvt_sweep.specs.Work.{vertex_count}
use Rattle.mvt_sweep.specs.Rings.{rings_of}
use Rattle.mvt_sweep.proofs.Vertices.VertexNumbers.{AreFirst, first_more, first_of_whole, whole_of_first, count_step, count_within, sweep_vertex_of_ring}
use Rattle.mvt_sweep.proofs.Vertices.RingReads.{ring_there}
use Rattle.mvt_sweep.proofs.sweep.listing.add_vertices.Goals as goal

pub loop-edge-init : goal.loop-edge-init
loop-edge-init c =
    let rings = rings_of c.args.rings.now in
    let first = first_of_whole rings c.args.ring c.args.list.now.items c.requires.before in
    let many : vertex_count (take c.args.ring rings) ≡ c.len-before.result + 0 = omega (arith, first.count, c.len-before.ensures, c.args.list.now.ok.0) in
    subst (λ (n : ℕ). AreFirst rings n c.args.list.now.items) many first

pub loop-edge-preserved : goal.loop-edge-preserved
loop-edge-preserved c =
    let rings = rings_of c.args.rings.now in
    let ring = c.index-rings-ring.result in
    let there = ring_there c.args.rings.now c.args.ring ring c.requires.ring c.index-rings-ring.is in
    let before : c.len-before.result ≡ vertex_count (take c.args.ring rings) = omega (arith, c.requires.before.count, c.len-before.ensures, c.args.list.now.ok.0) in
    let within : c.loop-edge.edge < length ring.items = omega (arith, c.loop-edge-test.true, c.len-edge-end.ensures, ring.ok.0) in
    let here = slice_get_read ring.items (length ring.items) c.loop-edge.edge c.index.result.now refl within c.index.ensures in
    let far_end = c.far_end_of.ensures.value ∙ ap (λ (n : ℕ). far_end_of n c.loop-edge.edge) (c.len.ensures ∙ ring.ok.0) in
    let many : c.len-before.result + (c.loop-edge.edge + 1) ≡ c.len-before.result + c.loop-edge.edge + 1 = omega arith in
    first_more rings (c.len-before.result + c.loop-edge.edge) (c.len-before.result + (c.loop-edge.edge + 1)) c.loop-edge.list.items c.push.new.self.items _ c.in_ok-push.ensures.items
    c.loop-edge.invariant (sweep_vertex_of_ring rings c.args.ring ring.items c.loop-edge.edge c.len-before.result c.far_end_of.result _ there within here before far_end refl) many

pub returns : goal.returns
returns c =
    let rings = rings_of c.args.rings.now in
    let ring = c.index-rings-ring.result in
    let there = ring_there c.args.rings.now c.args.ring ring c.requires.ring c.index-rings-ring.is in
    let before = c.requires.before.count in
    let many : c.len-before.result + c.loop-edge.edge ≡ vertex_count (take (suc c.args.ring) rings) =
    omega (arith, before, c.len-before.ensures, c.args.list.now.ok.0, c.len-edge-end.ensures, ring.ok.0, c.loop-edge-test.false, c.loop-edge.auto.edge-end, count_step rings c.args.ring ring.items there) in
    whole_of_first rings (suc c.args.ring) c.loop-edge.list.items (subst (λ (n : ℕ). AreFirst rings n c.loop-edge.list.items) many c.loop-edge.invariant)

pub overflow_cast-before : goal.overflow_cast-before
overflow_cast-before c =
    let rings = rings_of c.args.rings.now in
    let ring = c.index-rings-ring.result in
    let there = ring_there c.args.rings.now c.args.ring ring c.requires.ring c.index-rings-ring.is in
    omega (
      arith,
      c.requires.count,
      c.requires.before.count,
      c.len-before.ensures,
      c.args.list.now.ok.0,
      c.far_end_of.ensures.within,
      c.len.ensures,
      ring.ok.0,
      count_within rings c.args.ring ring.items there,
    )
