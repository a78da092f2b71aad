use Rattle.std.proofs.Common.{sym, ◌∙◌}
use Rattle.mvt_sweep.specs.Rings.{rings_of}
use Rattle.mvt_polygon.proofs.ApartFaults.{rings_at, rings_listed}
use Rattle.mvt_feature.proofs.Placed.AddedPassings.{ends_read}
use Rattle.mvt_polygon.proofs.PolygonSlices.{part_read}
use Rattle.mvt_mend.proofs.kept.find_from.Goals as goal

pub is_part-requires-clause-in_order : goal.is_part-requires-clause-in_order
is_part-requires-clause-in_order c = (ends_read c.args.new.now c.args.others.now c.loop-place.place c.requires.listed c.loop-place-test.true).0

pub is_part-requires-clause-within : goal.is_part-requires-clause-within
is_part-requires-clause-within c = (ends_read c.args.new.now c.args.others.now c.loop-place.place c.requires.listed c.loop-place-test.true).1

pub returns-then-is_part : goal.returns-then-is_part
returns-then-is_part c =
    let new = c.args.new.now in
    let others = c.args.others.now in
    let place = c.loop-place.place in
    let it = rings_at others place in
    record {
      following = c.loop-place.auto.place;
      within = c.loop-place-test.true;
      polygon_rings = it;
      there = rings_listed (rings_of new) others place c.requires.listed c.loop-place-test.true;
      same = sym (part_read new it) ∙ sym (c.is_part.ensures c.if-is_part.true);
    }
