use Rattle.std.proofs.Common.{◌≤◌, arith}
use Rattle.mvt_sweep.specs.Calls.Chains.{edges_of}
use Rattle.mvt_sweep.specs.Calls.SweepVertices.{sweep_count, plan_of, position_at, previous_at}
use Rattle.mvt_sweep.proofs.Chains.ChainExtremes.{ending_there}
use Rattle.mvt_sweep.proofs.Chains.ChainSteps.{chains_few, chains_known}
use Rattle.mvt_sweep.proofs.Vertices.VertexPlans.{plan_of_vertices}
use Rattle.mvt_sweep.proofs.Sweeps.SweepSlabs.{split}
use Rattle.mvt_status.specs.Counts.{bits}
use Rattle.mvt_status.proofs.BinaryDigits.{lesser_exponent, within_digits}
use Rattle.mvt_sweep.proofs.sweep.event.end_point.Goals as goal

pub returns-in-Some-clause-counted : goal.returns-in-Some-clause-counted
returns-in-Some-clause-counted g c =
    let vertices = sweep_count c.args.vertices.now in
    let some : 1 ≤ bits vertices = lesser_exponent 0 (bits vertices) (omega (arith, within_digits vertices, c.requires.number)) in
    record {
      tests_added = omega (arith, c.tick_probes.ensures.tests);
      probes_added = omega (arith, c.tick_probes.ensures.probes, some);
      visits_added = omega (arith, c.tick_probes.ensures.visits);
      no_fewer_tests = omega (arith, c.tick_probes.ensures.tests);
      no_fewer_probes = c.tick_probes.ensures.no_fewer;
      no_fewer_visits = omega (arith, c.tick_probes.ensures.visits);
    }

pub place_of-requires-clause-known : goal.place_of-requires-clause-known
place_of-requires-clause-known g c = chains_known c.args.vertices.now c.args.chains.now (g.S.Status.edges c.args.status.now) c.requires.next.key c.requires.chains c.requires.next.swept

pub place_of-requires-clause-few : goal.place_of-requires-clause-few
place_of-requires-clause-few g c = chains_few c.args.vertices.now c.args.chains.now (g.S.Status.edges c.args.status.now) c.requires.next.key c.requires.next.swept

pub place_of-requires-clause-cut : goal.place_of-requires-clause-cut
place_of-requires-clause-cut g c =
    split (plan_of c.args.vertices.now) c.requires.next.key (position_at c.args.vertices.now c.args.number) (previous_at c.args.vertices.now c.args.number) c.args.number
    (edges_of c.args.chains.now (g.S.Status.edges c.args.status.now)) (plan_of_vertices c.args.vertices.now) c.requires.next.swept c.requires.next.event

pub returns-clause-probed : goal.returns-clause-probed
returns-clause-probed g c =
    c.place_of.ensures.probed
    (ending_there c.args.vertices.now c.args.chains.now (g.S.Status.edges c.args.status.now) c.requires.next.key (position_at c.args.vertices.now c.args.number)
    (previous_at c.args.vertices.now c.args.number) c.args.number c.requires.next.swept c.requires.next.event c.requires.ends)
