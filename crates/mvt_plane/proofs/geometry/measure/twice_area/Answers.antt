use Rattle.std.proofs.Common.{arith, rules, length, ◌≤◌}
use Rattle.std.proofs.Math.ListN.{drop_of_length-le}
use Rattle.mvt_plane.proofs.Rings.Areas.{area_through}
use Rattle.mvt_plane.proofs.Points.Bounds.{fitting}
use Rattle.mvt_plane.proofs.geometry.measure.twice_area.Goals as goal

pub loop-i-preserved : goal.loop-i-preserved
loop-i-preserved c =
    let more = area_through c.index-ring-0.result c.loop-i.from c.index-ring-i.result c.args.ring.now c.loop-i.i c.loop-i-test.true c.index-ring-i.is in
    record {
      whole = omega (arith, fitting);
      bound = (omega (arith, fitting), omega (arith, fitting));
    }

pub overflow_add-area : goal.overflow_add-area
overflow_add-area c = omega (arith, fitting)

pub overflow_add-result : goal.overflow_add-result
overflow_add-result c =
    let some : 1 ≤ length c.args.ring.now = search rules in
    let end = c.loop-i.auto.i-end some in
    omega (arith, fitting)

pub returns : goal.returns
returns c =
    let some : 1 ≤ length c.args.ring.now = search rules in
    let end = c.loop-i.auto.i-end some in
    let whole = rw (drop_of_length-le c.args.ring.now c.loop-i-test.false) at c.loop-i.invariant.whole in
    omega (arith, fitting)
