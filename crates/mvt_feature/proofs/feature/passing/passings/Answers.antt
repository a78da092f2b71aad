use Rattle.std.proofs.Common.{ℕ, List, length, take, rules, sym, ◌∙◌, subst, arith}
use Rattle.mvt_plane.specs.Position.{Position}
use Rattle.mvt_sweep.specs.Work.{vertex_count}
use Rattle.mvt_sweep.specs.Meeting.{NoMeeting}
use Rattle.mvt_sweep.specs.Rings.{rings_of, AreProperRings}
use Rattle.mvt_feature.proofs.Placed.AddedPassings.{AddsParts, none_reached, no_passings, more_read, more_work, several_more, all_parts, part_size, ends_read}
use Rattle.mvt_polygon.proofs.PolygonSlices.{part_read, proper_part}
use Rattle.mvt_polygon.proofs.ApartFaults.{rings_at}
use Rattle.mvt_feature.proofs.Placed.OwnPassings.{clear_part}
use Rattle.mvt_sweep.proofs.Vertices.RingReads.{count_of_rings}
use Rattle.mvt_sweep.proofs.Sweeps.StatusCounts.{no_work}
use Rattle.mvt_feature.proofs.feature.passing.passings.Goals as goal

pub loop-polygon-init : goal.loop-polygon-init
loop-polygon-init c =
    let rings = rings_of c.args.rings.now in
    rw c.new-passings.ensures.items
    (record { reached = none_reached rings c.args.polygons.now c.requires.sound c.requires.listed; passed = no_passings rings; counted = no_work c.args.count.now; least = omega arith })

pub offset_bounds-rings-exterior : goal.offset_bounds-rings-exterior
offset_bounds-rings-exterior c =
    let ends = ends_read c.args.rings.now c.args.polygons.now c.loop-polygon.polygon c.requires.listed c.loop-polygon-test.true in
    search rules

pub slice_bounds-add_passings-count : goal.slice_bounds-add_passings-count
slice_bounds-add_passings-count c =
    let ends = ends_read c.args.rings.now c.args.polygons.now c.loop-polygon.polygon c.requires.listed c.loop-polygon-test.true in
    omega arith

pub slice_bounds-add_passings-start : goal.slice_bounds-add_passings-start
slice_bounds-add_passings-start c =
    let ends = ends_read c.args.rings.now c.args.polygons.now c.loop-polygon.polygon c.requires.listed c.loop-polygon-test.true in
    search rules

pub slice_bounds-add_passings-end : goal.slice_bounds-add_passings-end
slice_bounds-add_passings-end c =
    let ends = ends_read c.args.rings.now c.args.polygons.now c.loop-polygon.polygon c.requires.listed c.loop-polygon-test.true in
    search rules

pub add_passings-requires-clause-some : goal.add_passings-requires-clause-some
add_passings-requires-clause-some c =
    let it = rings_at c.args.polygons.now c.loop-polygon.polygon in
    let ends = ends_read c.args.rings.now c.args.polygons.now c.loop-polygon.polygon c.requires.listed c.loop-polygon-test.true in
    omega (arith, part_size c.args.rings.now it ends.1)

pub add_passings-requires-clause-drawn : goal.add_passings-requires-clause-drawn
add_passings-requires-clause-drawn c =
    let it = rings_at c.args.polygons.now c.loop-polygon.polygon in
    let ends = ends_read c.args.rings.now c.args.polygons.now c.loop-polygon.polygon c.requires.listed c.loop-polygon-test.true in
    subst AreProperRings (sym (part_read c.args.rings.now it)) (proper_part (rings_of c.args.rings.now) it (omega (arith, count_of_rings c.args.rings.now)) c.requires.drawn)

pub add_passings-requires-clause-clear : goal.add_passings-requires-clause-clear
add_passings-requires-clause-clear c =
    let it = rings_at c.args.polygons.now c.loop-polygon.polygon in
    let ends = ends_read c.args.rings.now c.args.polygons.now c.loop-polygon.polygon c.requires.listed c.loop-polygon-test.true in
    subst (λ (rings : List (List Position)). NoMeeting rings) (sym (part_read c.args.rings.now it))
    (clear_part (rings_of c.args.rings.now) it (omega (arith, count_of_rings c.args.rings.now)) c.requires.clear)

pub returns-in_err-add_passings-clause-counted : goal.returns-in_err-add_passings-clause-counted
returns-in_err-add_passings-clause-counted c =
    let it = rings_at c.args.polygons.now c.loop-polygon.polygon in
    let work = more_work c.args.rings.now c.args.polygons.now c.loop-polygon.polygon (length c.loop-polygon.passings.items) c.requires.listed c.loop-polygon-test.true c.loop-polygon.invariant.reached
    c.loop-polygon.invariant.counted c.add_passings.ensures.counted in
    all_parts (rings_of c.args.rings.now) it.after work

pub loop-polygon-preserved : goal.loop-polygon-preserved
loop-polygon-preserved c =
    let rings = rings_of c.args.rings.now in
    let polygon = c.loop-polygon.polygon in
    let before = c.loop-polygon.passings.items in
    let after = c.add_passings.new.passings.items in
    let more = more_read c.args.rings.now c.args.polygons.now polygon before after c.requires.sound c.requires.listed c.loop-polygon-test.true c.loop-polygon.invariant.reached c.loop-polygon.invariant.passed
    c.in_ok-add_passings.ensures.added in
    let work = more_work c.args.rings.now c.args.polygons.now polygon (length before) c.requires.listed c.loop-polygon-test.true c.loop-polygon.invariant.reached
    c.loop-polygon.invariant.counted c.add_passings.ensures.counted in
    record {
      reached = more.0;
      passed = more.1;
      counted = subst (λ (to : ℕ). AddsParts (vertex_count (take to rings)) (vertex_count rings) c.args.count.now c.add_passings.new.count) (sym more.2) work;
      least = several_more c.args.rings.now c.args.polygons.now polygon c.args.count.now.probes c.loop-polygon.count.probes c.add_passings.new.count.probes c.requires.listed c.loop-polygon-test.true
          c.loop-polygon.invariant.least c.add_passings.ensures.counted.no_fewer_probes c.in_ok-add_passings.ensures.least;
    }

pub returns-clause-size : goal.returns-clause-size
returns-clause-size c = c.loop-polygon.invariant.reached.ends (omega (arith, c.loop-polygon-test.false)) ∙ count_of_rings c.args.rings.now

pub returns-clause-counted : goal.returns-clause-counted
returns-clause-counted c = all_parts (rings_of c.args.rings.now) (length c.loop-polygon.passings.items) c.loop-polygon.invariant.counted
