use Rattle.std.proofs.Common.{◌+◌, ◌-◌, ◌/◌, ◌<◌, ◌≤◌, inl, inr, List, length, take, refl, sym, ap, subst, arith}
use Rattle.std.proofs.lemmas.List.{length-take-le}
use Rattle.mvt_plane.specs.Position.{Position}
use Rattle.mvt_plane.specs.Counted.{ticked}
use Rattle.mvt_feature.specs.Calls.FeatureParts.{listed_at}
use Rattle.mvt_feature.specs.Calls.FeatureParts.AreHalves.{begun, clear, met}
use Rattle.mvt_sweep.specs.Meeting.{IsMeetingOf}
use Rattle.mvt_sweep.specs.Rings.{rings_of, AreProperRings}
use Rattle.mvt_sweep.specs.Swept.{IsNotedClear, IsSweptAnswer, met_in}
use Rattle.mvt_sweep.specs.Work.{IsCounted, vertex_count}
use Rattle.mvt_sweep.specs.declared.sweep.notes.RingNotes.{RingNotes}
use Rattle.mvt_sweep.specs.declared.sweep.swept.Swept.{Swept}
use Rattle.mvt_sweep.specs.declared.sweep.swept.Swept.TheVariants.{Meets, Clear}
use Rattle.mvt_polygon.proofs.ApartFaults.{ends_within, rings_listed}
use Rattle.mvt_feature.proofs.Features.FirstMeetings.{first_slice, second_within}
use Rattle.mvt_feature.proofs.Features.FirstPolygons.{of_listed}
use Rattle.mvt_feature.proofs.Features.FirstRings.{count_of_first, first_drawn}
use Rattle.mvt_feature.proofs.Features.FrontHalves.{all_halved, clear_half, meeting_half, nearer_less, not_halved, tested_still, work_of_another, work_of_halves}
use Rattle.mvt_sweep.proofs.Vertices.RingReads.{count_of_rings}
use Rattle.mvt_status.specs.Counts.{raised}
use Rattle.mvt_feature.proofs.Features.SweepsAdded.{first_sweep}
use Rattle.mvt_feature.proofs.feature.front.front_before.Goals as goal

pub polygon_of-meets-requires : goal.polygon_of-meets-requires
polygon_of-meets-requires c =
    let rings = rings_of c.args.rings.now in
    let home = of_listed rings c.args.polygons.now c.args.meeting.second_ring c.requires.sound c.requires.listed (second_within rings c.args.meeting c.requires.meets) in
    (home.polygon, home.within, home.of)

pub halves-init : goal.halves-init
halves-init c = record {
  halved = not_halved (rings_of c.args.rings.now) c.args.polygons.now c.polygon_of-meets.result c.in_ok-of_no_rings.field-0 c.args.meeting c.args.count.now c.requires.sound c.requires.listed c.requires.meets
      c.polygon_of-meets.ensures.within c.polygon_of-meets.ensures.of c.in_ok-of_no_rings.ensures;
  probed = omega arith;
  tested = inl refl;
  last = c.polygon_of-meets.result;
  up_to = c.polygon_of-meets.ensures.of;
  halves = begun;
}

pub slice_bounds-sweep_rings-end : goal.slice_bounds-sweep_rings-end
slice_bounds-sweep_rings-end c =
    let rings = rings_of c.args.rings.now in
    let polygons = c.args.polygons.now in
    let middle = c.halves.front.polygons + (c.halves.meets - c.halves.front.polygons) / 2 in
    let within : middle < length polygons = omega (arith, c.halves.invariant.halved.within, c.halves-test.true) in
    let ends = ends_within rings middle (listed_at polygons middle) (rings_listed rings polygons middle c.requires.listed within) in
    sym (length-take-le (listed_at polygons middle).after c.args.rings.now (omega (arith, ends, count_of_rings c.args.rings.now)))

pub sweep_rings-requires : goal.sweep_rings-requires
sweep_rings-requires c =
    let rings = c.args.rings.now in
    let after = (listed_at c.args.polygons.now (c.halves.front.polygons + (c.halves.meets - c.halves.front.polygons) / 2)).after in
    subst AreProperRings (sym (first_slice rings after)) (first_drawn (rings_of rings) after c.requires.drawn)

pub returns-in_err-notes-clause-counted : goal.returns-in_err-notes-clause-counted
returns-in_err-notes-clause-counted c =
    let rings = c.args.rings.now in
    let polygons = c.args.polygons.now in
    let after = (listed_at polygons (c.halves.front.polygons + (c.halves.meets - c.halves.front.polygons) / 2)).after in
    work_of_another (rings_of rings) polygons c.halves.front c.halves.meets c.args.count.now c.halves.count c.sweep_rings.new.count c.halves.invariant.halved c.halves-test.true
    (first_sweep (rings_of rings) after (rings_of (take after rings)) c.halves.count c.sweep_rings.new.count (first_slice rings after) c.sweep_rings.ensures.counted)

pub halves-preserved-in-Clear : goal.halves-preserved-in-Clear
halves-preserved-in-Clear c =
    let rings = c.args.rings.now in
    let polygons = c.args.polygons.now in
    let middle = c.halves.front.polygons + (c.halves.meets - c.halves.front.polygons) / 2 in
    let after = (listed_at polygons middle).after in
    let answer : IsSweptAnswer (rings_of (take after rings)) (Clear c.in-Clear.notes) = subst (IsSweptAnswer (rings_of (take after rings))) c.in-Clear.is c.in_ok-notes.ensures.answer in
    let sweep = c.sweep_rings.ensures.counted in
    let work = c.halves.invariant.halved.work in
    let least : raised (vertex_count (rings_of (take after rings))) c.halves.count.probes ≤ c.sweep_rings.new.count.probes =
    subst (λ (swept : Swept RingNotes). IsCounted (vertex_count (rings_of (take after rings))) c.halves.count c.sweep_rings.new.count (met_in swept)) c.in-Clear.is c.in_ok-notes.ensures.least in
    let same = ap vertex_count (first_slice rings after) in
    record {
      halved = clear_half (rings_of rings) polygons c.halves.front c.halves.meets middle c.in-Clear.notes c.args.count.now c.halves.count c.sweep_rings.new.count c.requires.sound c.requires.listed
          c.halves.invariant.halved c.halves-test.true refl
          (subst (λ (its : List (List Position)). IsNotedClear its c.in-Clear.notes) (first_slice rings after) answer)
          (first_sweep (rings_of rings) after (rings_of (take after rings)) c.halves.count c.sweep_rings.new.count (first_slice rings after) c.sweep_rings.ensures.counted);
      probed = omega (arith, least, same, work.no_fewer_probes);
      tested = tested_still c.halves.front.meeting c.args.meeting c.args.count.now c.halves.count c.sweep_rings.new.count c.halves.invariant.tested sweep.no_fewer_tests;
      last = c.halves.invariant.last;
      up_to = c.halves.invariant.up_to;
      halves = clear c.halves.front.polygons c.halves.meets c.halves.count c.sweep_rings.new.count c.halves.invariant.halves c.halves-test.true
          (omega (arith, least, same)) sweep.no_fewer_tests;
    }

pub polygon_of-meets-requires-in-Meets : goal.polygon_of-meets-requires-in-Meets
polygon_of-meets-requires-in-Meets c =
    let rings = c.args.rings.now in
    let polygons = c.args.polygons.now in
    let middle = c.halves.front.polygons + (c.halves.meets - c.halves.front.polygons) / 2 in
    let after = (listed_at polygons middle).after in
    let found = c.in-Meets.found in
    let answer : IsSweptAnswer (rings_of (take after rings)) (Meets found) = subst (IsSweptAnswer (rings_of (take after rings))) c.in-Meets.is c.in_ok-notes.ensures.answer in
    let within : middle < length polygons = omega (arith, c.halves.invariant.halved.within, c.halves-test.true) in
    let ends = ends_within (rings_of rings) middle (listed_at polygons middle) (rings_listed (rings_of rings) polygons middle c.requires.listed within) in
    let inside : found.second_ring < length (rings_of rings) = omega (arith, second_within (rings_of (take after rings)) found answer, ap length (first_slice rings after), count_of_first (rings_of rings) after ends, ends) in
    let home = of_listed (rings_of rings) polygons found.second_ring c.requires.sound c.requires.listed inside in
    (home.polygon, home.within, home.of)

pub halves-smaller : goal.halves-smaller
halves-smaller c =
    let rings = c.args.rings.now in
    let polygons = c.args.polygons.now in
    let middle = c.halves.front.polygons + (c.halves.meets - c.halves.front.polygons) / 2 in
    let after = (listed_at polygons middle).after in
    let found = c.in-Meets.found in
    let answer : IsSweptAnswer (rings_of (take after rings)) (Meets found) = subst (IsSweptAnswer (rings_of (take after rings))) c.in-Meets.is c.in_ok-notes.ensures.answer in
    let range = nearer_less (rings_of rings) polygons c.halves.front c.halves.meets middle c.polygon_of-meets-in-Meets.result found c.args.count.now c.halves.count c.requires.listed
    c.halves.invariant.halved c.halves-test.true refl (subst (λ (its : List (List Position)). IsMeetingOf its found) (first_slice rings after) answer)
    c.polygon_of-meets-in-Meets.ensures.of c.polygon_of-meets-in-Meets.ensures.first in
    omega (arith, range.0, range.1, c.halves-test.true)

pub halves-preserved : goal.halves-preserved
halves-preserved c =
    let rings = c.args.rings.now in
    let polygons = c.args.polygons.now in
    let middle = c.halves.front.polygons + (c.halves.meets - c.halves.front.polygons) / 2 in
    let after = (listed_at polygons middle).after in
    let found = c.in-Meets.found in
    let answer : IsSweptAnswer (rings_of (take after rings)) (Meets found) = subst (IsSweptAnswer (rings_of (take after rings))) c.in-Meets.is c.in_ok-notes.ensures.answer in
    let sweep = c.sweep_rings.ensures.counted in
    let work = c.halves.invariant.halved.work in
    let test : ticked c.halves.count.tests ≤ c.sweep_rings.new.count.tests =
    subst (λ (swept : Swept RingNotes). IsCounted (vertex_count (rings_of (take after rings))) c.halves.count c.sweep_rings.new.count (met_in swept)) c.in-Meets.is c.in_ok-notes.ensures.least in
    let range = nearer_less (rings_of rings) polygons c.halves.front c.halves.meets middle c.polygon_of-meets-in-Meets.result found c.args.count.now c.halves.count c.requires.listed
    c.halves.invariant.halved c.halves-test.true refl (subst (λ (its : List (List Position)). IsMeetingOf its found) (first_slice rings after) answer)
    c.polygon_of-meets-in-Meets.ensures.of c.polygon_of-meets-in-Meets.ensures.first in
    record {
      halved = meeting_half (rings_of rings) polygons c.halves.front c.halves.meets middle c.polygon_of-meets-in-Meets.result found c.args.count.now c.halves.count c.sweep_rings.new.count c.requires.listed
          c.halves.invariant.halved c.halves-test.true refl (subst (λ (its : List (List Position)). IsMeetingOf its found) (first_slice rings after) answer)
          c.polygon_of-meets-in-Meets.ensures.within c.polygon_of-meets-in-Meets.ensures.of c.polygon_of-meets-in-Meets.ensures.first
          (first_sweep (rings_of rings) after (rings_of (take after rings)) c.halves.count c.sweep_rings.new.count (first_slice rings after) c.sweep_rings.ensures.counted);
      probed = omega (arith, c.halves.invariant.probed, sweep.no_fewer_probes);
      tested = inr (omega (arith, test, work.no_fewer_tests));
      last = c.halves.invariant.last;
      up_to = c.halves.invariant.up_to;
      halves = met c.halves.front.polygons c.halves.meets c.polygon_of-meets-in-Meets.result c.halves.count c.sweep_rings.new.count c.halves.invariant.halves c.halves-test.true
          (range.1) test sweep.no_fewer_probes;
    }

pub returns-clause-front : goal.returns-clause-front
returns-clause-front c =
    all_halved (rings_of c.args.rings.now) c.args.polygons.now c.halves.front c.halves.meets c.args.count.now c.halves.count c.requires.listed c.halves.invariant.halved c.halves-test.false

pub returns-clause-counted : goal.returns-clause-counted
returns-clause-counted c =
    work_of_halves (rings_of c.args.rings.now) c.args.polygons.now c.halves.front c.halves.meets c.args.count.now c.halves.count c.halves.invariant.halved

pub returns-clause-halves : goal.returns-clause-halves
returns-clause-halves c = record {
  last = c.halves.invariant.last;
  meets = c.halves.meets;
  up_to = c.halves.invariant.up_to;
  none_left = omega (arith, c.halves-test.false);
  halves = c.halves.invariant.halves;
}

pub bounds-polygons-middle : goal.bounds-polygons-middle
bounds-polygons-middle c =
    omega (arith, c.halves.invariant.halved.within, c.halves-test.true)

pub returns-clause-probed : goal.returns-clause-probed
returns-clause-probed c =
    c.halves.invariant.probed

pub returns-clause-tested : goal.returns-clause-tested
returns-clause-tested c =
    c.halves.invariant.tested
