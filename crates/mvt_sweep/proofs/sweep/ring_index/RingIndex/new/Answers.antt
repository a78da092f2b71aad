use Rattle.std.proofs.Common.{◌≡◌, ◌+◌, ◌-◌, ◌≤◌, ◌++◌, ℕ, List, ◌∙◌, ap, ap₂, length, replicate, take, arith}
use Rattle.std.specs.Int.{div_ceil}
use Rattle.std.proofs.lemmas.Option.{slice_get_within}
use Rattle.mvt_sweep.specs.Work.{vertex_count}
use Rattle.mvt_sweep.specs.Rings.{rings_of}
use Rattle.mvt_sweep.proofs.Notes.RingIndexes.{next_ring_indexed}
use Rattle.mvt_sweep.proofs.Vertices.RingReads.{ring_there, count_of_rings}
use Rattle.mvt_sweep.proofs.Vertices.VertexNumbers.{count_another, count_within}
use Rattle.mvt_sweep.proofs.sweep.ring_index.RingIndex.new.Goals as goal

pub overflow_add-end : goal.overflow_add-end
overflow_add-end c =
    let ring = c.index-rings-ring.result in
    let there = ring_there c.args.rings.now c.loop-ring.ring ring c.loop-ring-test.true c.index-rings-ring.is in
    let within = count_within (rings_of c.args.rings.now) c.loop-ring.ring ring.items there in
    let counted = rw c.in_ok-count.ensures.ok_part at c.count_of.ensures.value in
    let few = rw c.in_ok-count.ensures.ok_part at c.count_of.ensures.few in
    omega (arith, within, counted, few, c.loop-ring.invariant.end, c.len-end.ensures, ring.ok.0)

pub loop-ring-preserved : goal.loop-ring-preserved
loop-ring-preserved c =
    let ring = c.index-rings-ring.result in
    let there = ring_there c.args.rings.now c.loop-ring.ring ring c.loop-ring-test.true c.index-rings-ring.is in
    let step = count_another (rings_of c.args.rings.now) c.loop-ring.ring ring.items there in
    let end : c.loop-ring.end + c.len-end.result ≡ vertex_count (take (c.loop-ring.ring + 1) (rings_of c.args.rings.now)) = omega (arith, c.loop-ring.invariant.end, c.len-end.ensures, ring.ok.0, step) in
    let rounded : c.div_ceil-in-loop-ring.result ≡ div_ceil (vertex_count (take (c.loop-ring.ring + 1) (rings_of c.args.rings.now))) 8 =
    c.div_ceil-in-loop-ring.ensures ∙ ap (λ (n : ℕ). div_ceil n 8) end in
    let index : List ℕ = c.loop-ring.index.items in
    record {
      end = end;
      index = next_ring_indexed (rings_of c.args.rings.now) c.loop-ring.ring index c.resize.new.self.items ring.items there c.loop-ring.invariant.index
          (c.in_ok-resize.ensures.items ∙ ap₂ (λ (n many : ℕ). take n index ++ replicate (n - many) c.loop-ring.ring) rounded c.loop-ring.index.ok.0);
    }

pub returns : goal.returns
returns c =
    let all : length (rings_of c.args.rings.now) ≤ c.loop-ring.ring = omega (arith, count_of_rings c.args.rings.now, c.loop-ring-test.false) in
    λ place at is. c.loop-ring.invariant.index.numbers place at is (let within = slice_get_within (rings_of c.args.rings.now) at.ring is.ring is.there in omega (arith, within, all))
