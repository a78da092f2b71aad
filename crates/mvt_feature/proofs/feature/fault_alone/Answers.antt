use Rattle.std.proofs.Common.{◌≡◌, ℕ, ◌+◌, ◌≤◌, true, false, length, sym, ◌∙◌, subst, arith}
use Rattle.mvt_plane.specs.Counted.{Counted}
use Rattle.mvt_feature.specs.Calls.Alone.{vertices_alone}
use Rattle.mvt_sweep.specs.Work.{vertex_count}
use Rattle.mvt_feature.specs.Feature.{AddsSweeps}
use Rattle.mvt_feature.specs.Calls.FeatureParts.{listed_at}
use Rattle.mvt_sweep.specs.Rings.{rings_of}
use Rattle.mvt_rules.specs.Parts.Rings.{part_of}
use Rattle.mvt_status.specs.Counts.{raised}
use Rattle.mvt_polygon.proofs.ApartFaults.{rings_listed, ends_within}
use Rattle.mvt_feature.proofs.Features.CountedFaults.{counted_from}
use Rattle.mvt_feature.proofs.Features.GatheredLists.{IsMarked}
use Rattle.mvt_feature.proofs.Features.OwnFaults.{fine_more, none_found, where_none}
use Rattle.mvt_sweep.proofs.Vertices.RingReads.{count_of_rings}
use Rattle.mvt_feature.proofs.Features.SweepShares.{alone_more, alone_same, alone_up, sweeps_then, raised_then}
use Rattle.mvt_feature.proofs.feature.fault_alone.Goals as goal
use Rattle.mvt_feature.proofs.feature.fault_alone.Goals.{then-not-crowded-polygon+in_ok-found+else-is_some, else-not-crowded-polygon}

pub own_fault_of-requires-clause-in_order : goal.own_fault_of-requires-clause-in_order
own_fault_of-requires-clause-in_order c = (rings_listed (rings_of c.args.rings.now) c.args.polygons.now c.loop-polygon.polygon c.requires.listed (omega arith)).further

pub own_fault_of-requires-clause-within : goal.own_fault_of-requires-clause-within
own_fault_of-requires-clause-within c =
    let rings = rings_of c.args.rings.now in
    let polygons = c.args.polygons.now in
    let polygon = c.loop-polygon.polygon in
    let count = count_of_rings c.args.rings.now in
    let ends = ends_within rings polygon (listed_at polygons polygon) (rings_listed rings polygons polygon c.requires.listed (omega arith)) in
    omega arith

pub returns-in_err-found-clause-counted : goal.returns-in_err-found-clause-counted
returns-in_err-found-clause-counted c =
    let rings = rings_of c.args.rings.now in
    let polygons = c.args.polygons.now in
    let marks = c.args.crowded.now in
    let polygon = c.loop-polygon.polygon in
    let more = alone_more rings polygons marks polygon c.if-not-crowded-polygon.true in
    let up = alone_up rings polygons marks (polygon + 1) (length polygons) (omega arith) in
    sweeps_then 1 (vertices_alone rings polygons marks polygon) (vertex_count (part_of rings (listed_at polygons polygon))) (vertices_alone rings polygons marks (length polygons)) c.args.count.now c.loop-polygon.count c.own_fault_of.new.count
    (omega arith) (omega arith) c.loop-polygon.invariant.counted c.own_fault_of.ensures.counted

pub returns-then-is_some-clause-counted : goal.returns-then-is_some-clause-counted
returns-then-is_some-clause-counted c =
    let rings = rings_of c.args.rings.now in
    let polygons = c.args.polygons.now in
    let marks = c.args.crowded.now in
    let polygon = c.loop-polygon.polygon in
    let more = alone_more rings polygons marks polygon c.if-not-crowded-polygon.true in
    let up = alone_up rings polygons marks (polygon + 1) (length polygons) (omega arith) in
    sweeps_then 1 (vertices_alone rings polygons marks polygon) (vertex_count (part_of rings (listed_at polygons polygon))) (vertices_alone rings polygons marks (length polygons)) c.args.count.now c.loop-polygon.count c.own_fault_of.new.count
    (omega arith) (omega arith) c.loop-polygon.invariant.counted c.own_fault_of.ensures.counted

pub returns-then-is_some-clause-found : goal.returns-then-is_some-clause-found
returns-then-is_some-clause-found c =
    let so_far = c.loop-polygon.invariant.counted in
    counted_from (rings_of c.args.rings.now) c.in_ok-found.found c.args.count.now c.loop-polygon.count c.own_fault_of.new.count so_far.no_fewer_tests so_far.no_fewer_probes c.in_ok-found.ensures.found

pub loop-polygon-preserved : goal.loop-polygon-preserved
loop-polygon-preserved c =
    let rings = rings_of c.args.rings.now in
    let polygons = c.args.polygons.now in
    let marks = c.args.crowded.now in
    let polygon = c.loop-polygon.polygon in
    let part = vertex_count (part_of rings (listed_at polygons polygon)) in
    let sum = vertices_alone rings polygons marks polygon in
    let next = vertices_alone rings polygons marks (polygon + 1) in
    let start = c.args.count.now in
    let between = c.loop-polygon.count in
    elim c.if-not-crowded-polygon.branch [
      | then-not-crowded-polygon+in_ok-found+else-is_some w ↦
          let more : next ≡ sum + part = alone_more rings polygons marks polygon w.if-not-crowded-polygon.true in
          let after = w.own_fault_of.new.count in
          let found = w.in_ok-found.found in
          let test = w.is_some.result in
          let least = where_none (raised part between.probes ≤ after.probes) found test w.if-is_some.false w.is_some.ensures w.in_ok-found.ensures.least in
          record {
            fine = fine_more rings polygons marks polygon c.loop-polygon.invariant.fine
                (λ _. none_found rings polygon (listed_at polygons polygon) found test w.if-is_some.false w.is_some.ensures w.in_ok-found.ensures.answer);
            counted = subst (λ (count : Counted). AddsSweeps 1 next start count) (sym w.count-is)
                (sweeps_then 1 sum part next start between after (omega arith) (omega arith) c.loop-polygon.invariant.counted w.own_fault_of.ensures.counted);
            least = subst (λ (count : Counted). raised next start.probes ≤ count.probes) (sym w.count-is)
                (raised_then sum part next start.probes between.probes after.probes (omega arith) c.loop-polygon.invariant.least least);
          }
      | else-not-crowded-polygon w ↦
          let same : next ≡ sum = alone_same rings polygons marks polygon w.if-not-crowded-polygon.false in
          let counted : AddsSweeps 1 next start between = subst (λ (vertices : ℕ). AddsSweeps 1 vertices start between) (sym same) c.loop-polygon.invariant.counted in
          let least : raised next start.probes ≤ between.probes = subst (λ (vertices : ℕ). raised vertices start.probes ≤ between.probes) (sym same) c.loop-polygon.invariant.least in
          let marked : IsMarked marks polygon = w.if-not-crowded-polygon.false in
          record {
            fine = fine_more rings polygons marks polygon c.loop-polygon.invariant.fine (λ unmarked. let both : true ≡ false = sym marked ∙ unmarked in absurd (cc both));
            counted = subst (λ (count : Counted). AddsSweeps 1 next start count) (sym w.count-is) counted;
            least = subst (λ (count : Counted). raised next start.probes ≤ count.probes) (sym w.count-is) least;
          }
    ]
