use Rattle.std.proofs.Common.{◌≤◌, length, arith, rules}
use Rattle.std.proofs.lemmas.List.Edits.{length-remove}
use Rattle.mvt_status.specs.Counts.{bits}
use Rattle.mvt_status.proofs.BinaryDigits.{no_more_digits}
use Rattle.mvt_status.proofs.status.Status.replace.Goals as goal

pub returns-clause-counted : goal.returns-clause-counted
returns-clause-counted g c =
    let edges = g.Self.Status.edges c.args.self.now in
    let left = g.Self.Status.edges c.remove.new.self in
    let fewer : length left ≤ length edges = rw c.remove.ensures.list (omega (arith, length-remove edges c.args.at c.requires)) in
    let digits : bits (length left) ≤ bits (length edges) = no_more_digits (length left) (length edges) fewer in
    let taken = c.remove.ensures.counted in
    let put = c.insert.ensures.counted in
    record {
      tests = cc;
      no_fewer_probes = omega (arith, taken.no_fewer_probes, put.no_fewer_probes);
      probes_added = omega (arith, taken.probes_added, put.probes_added);
      no_fewer_visits = omega (arith, taken.no_fewer_visits, put.no_fewer_visits);
      visits_added = omega (arith, taken.visits_added, put.visits_added, digits);
    }

pub returns-clause-list : goal.returns-clause-list
returns-clause-list g c = search rules
