use Rattle.std.proofs.Common.{◌≡◌, refl, arith}
use Rattle.mvt_sweep.specs.Calls.SweepVertices.{sweep_count}
use Rattle.mvt_sweep.specs.Work.{vertex_count}
use Rattle.mvt_sweep.specs.Rings.{rings_of}
use Rattle.mvt_sweep.proofs.Sweeps.LeastWork.{counted_by, tested_there}
use Rattle.mvt_sweep.proofs.meeting.meeting_of_few.Goals as goal

pub returns-then-find_pairs-clause-least : goal.returns-then-find_pairs-clause-least
returns-then-find_pairs-clause-least c =
    let rings = rings_of c.args.rings.now in
    let size : sweep_count c.args.vertices.now ≡ vertex_count rings = c.requires.vertices.count in
    counted_by (vertex_count rings) c.args.count.now c.find_pairs.new.count c.meeting_among.new.count c.meeting_among.result (omega (arith, c.find_pairs.ensures.counted.no_fewer_tests))
    (omega (arith, c.if-find_pairs.ensures.probed refl, size, c.meeting_among.ensures.counted.no_fewer_probes))
    (tested_there c.find_pairs.new.count c.meeting_among.new.count c.meeting_among.result c.meeting_among.ensures.least)
