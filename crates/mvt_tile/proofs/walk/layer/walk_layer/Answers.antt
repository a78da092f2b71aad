use Rattle.std.proofs.Common.{arith}
use Rattle.mvt_wire.proofs.Encoding.Payloads.{LiesIn-field}
use Rattle.mvt_tile.proofs.OneWalk.Layers.{fits_next, room_next, passed_unchanged, passed_still, passes_field, place_next, next_inside, next_begun, parts_passed, front_sound, seen_here, faultless_layer, summary_passed, passes_layer}
use Rattle.mvt_tile.proofs.walk.layer.walk_layer.Goals as goal

pub add_field-requires-clause-fits : goal.add_field-requires-clause-fits
add_field-requires-clause-fits over c = fits_next c.args.part.within c.walk.invariant.0 c.in-Some.ensures

pub add_field-requires-clause-keys : goal.add_field-requires-clause-keys
add_field-requires-clause-keys over c =
    let room = room_next c.args.part.within c.walk.invariant.0 c.in-Some.ensures in
    omega (arith, room.0)

pub add_field-requires-clause-values : goal.add_field-requires-clause-values
add_field-requires-clause-values over c =
    let room = room_next c.args.part.within c.walk.invariant.0 c.in-Some.ensures in
    omega (arith, room.1)

pub passes_field-requires-clause-fits : goal.passes_field-requires-clause-fits
passes_field-requires-clause-fits over c = fits_next c.args.part.within c.walk.invariant.0 c.in-Some.ensures

pub passes_field-requires-clause-lies : goal.passes_field-requires-clause-lies
passes_field-requires-clause-lies over c = LiesIn-field c.args.part.bytes.now c.args.part.to c.in-Some.next _ c.in-Some.ensures.given.encoded

pub walk-preserved : goal.walk-preserved
walk-preserved over c = (
  passes_field c.args.part.within
      (passed_still c.walk.invariant.0 (over.T.FeatureTest.IsKept c.passes_field.new.test) c.passes_field.ensures.still c.passes_field.new.needs c.passes_field.ensures.no_fewer_keys c.passes_field.ensures.no_fewer_values)
      c.in-Some.ensures c.add_field.new.summary c.add_field.ensures (c.in_ok-passes_field.ensures.passes c.if-not-branch.false),
  λ it kept. c.passes_field.ensures.still it (c.walk.invariant.1 it kept),
)

pub returns-clause-found : goal.returns-clause-found
returns-clause-found over c =
    let part = c.args.part in
    record {
      wire = faultless_layer (over.T.FeatureTest.IsKept c.walk.test) part.bytes.now part.from part.to part.forward part.within c.if-at-part.false (passed_unchanged c.walk.invariant.0 c.in_default.ensures)
          c.end_fault.result c.if-is_some.ensures c.end_fault.ensures;
      summed = summary_passed (over.T.FeatureTest.IsKept c.walk.test) part.bytes.now part.from part.to part.forward part.within c.if-at-part.false c.walk.invariant.0;
      passes = passes_layer (over.T.FeatureTest.IsKept c.walk.test) part.bytes.now part.from part.to part.forward part.within c.if-at-part.false c.walk.invariant.0
          (omega (arith, c.if-needs-summary.false)) (omega (arith, c.if-needs-summary-2.false));
    }

pub returns-then-not-branch-clause-still : goal.returns-then-not-branch-clause-still
returns-then-not-branch-clause-still over c = λ it kept. c.passes_field.ensures.still it (c.walk.invariant.1 it kept)

pub returns-then-not-branch-clause-seen : goal.returns-then-not-branch-clause-seen
returns-then-not-branch-clause-seen over c =
    let so_far = c.walk.invariant.0 in
    let place = place_next so_far c.in-Some.ensures in
    record {
      begun = next_begun so_far c.in-Some.ensures;
      inside = next_inside so_far c.args.part.within c.in-Some.ensures;
      passed = parts_passed so_far c.in-Some.next place;
      sound = front_sound so_far c.in-Some.next place (over.T.FeatureTest.IsKept c.passes_field.new.test) c.passes_field.ensures.still c.passes_field.new.needs c.passes_field.ensures.no_fewer_keys c.passes_field.ensures.no_fewer_values;
    }

pub returns-then-at-part-clause-seen : goal.returns-then-at-part-clause-seen
returns-then-at-part-clause-seen over c = seen_here c.walk.invariant.0

pub returns-then-needs-summary-clause-seen : goal.returns-then-needs-summary-clause-seen
returns-then-needs-summary-clause-seen over c = seen_here c.walk.invariant.0

pub returns-clause-seen : goal.returns-clause-seen
returns-clause-seen over c = seen_here c.walk.invariant.0
