use Rattle.std.proofs.Common.{suc, length, arith}
use Rattle.std.proofs.lemmas.Grind.{common_steps}
use Rattle.mvt_status.proofs.BinaryDigits.{no_more_digits}
use Rattle.mvt_status.proofs.Heights.{more_levels, visits_by_digits}
use Rattle.mvt_status.proofs.tree_status.TreeStatusStatus.insert_two.Goals as goal

pub returns-clause-counted : goal.returns-clause-counted
returns-clause-counted c =
    let added = visits_by_digits _ _ _ _ _ c.self.view_is (more_levels _ _ _ _ c.visit_all.ensures.counted c.insert_into-visits.ensures.counted) c.insert_into-visits.ensures.filled in
    record {
      tests = added.tests;
      no_fewer_probes = added.no_fewer_probes;
      probes_added = added.probes_added;
      no_fewer_visits = added.no_fewer_visits;
      visits_added = omega (arith, added.visits_added, no_more_digits (length c.args.self.now) (suc (length c.args.self.now)) (omega arith));
    }

pub returns-clause-list : goal.returns-clause-list
returns-clause-list c = grind (arith, common_steps)
