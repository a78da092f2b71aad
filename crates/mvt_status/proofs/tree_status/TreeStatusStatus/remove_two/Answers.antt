use Rattle.std.proofs.Common.{ℕ, ◌*◌, List, length, remove, slice_index, ap, ◌∙◌, arith}
use Rattle.std.proofs.lemmas.List.Edits.{length-remove}
use Rattle.mvt_status.specs.Calls.Tree.{edges_of}
use Rattle.mvt_status.specs.Counts.{bits}
use Rattle.mvt_status.proofs.BinaryDigits.{no_more_digits}
use Rattle.mvt_status.proofs.Heights.{more_levels, visits_by_digits}
use Rattle.mvt_status.proofs.Removals.{next_out}
use Rattle.mvt_status.proofs.tree_status.TreeStatusStatus.remove_two.Goals as goal

pub returns-then-is_out-clause-counted : goal.returns-then-is_out-clause-counted
returns-then-is_out-clause-counted c =
    more_levels _ (6 * bits (length c.args.self.now)) _ _ (visits_by_digits _ _ _ _ _ c.self.view_is (more_levels _ _ _ _ c.visit_all.ensures.counted c.take_two-is_out.ensures.counted) c.take_two-is_out.ensures.filled) (omega arith)

pub returns-clause-upper : goal.returns-clause-upper
returns-clause-upper c =
    let kept = c.take_two-is_out.ensures.unchanged c.if-is_out.false ∙ c.self.view_is in
    let left = c.remove-lower.ensures.list ∙ ap (λ (list : List ℕ). remove list c.args.at) kept in
    c.remove-upper.ensures.value ∙ ap (λ (list : List ℕ). slice_index list c.args.at) left ∙ next_out c.args.self.now c.args.at

pub returns-clause-counted : goal.returns-clause-counted
returns-clause-counted c =
    let all = c.args.self.now in
    let kept = c.take_two-is_out.ensures.unchanged c.if-is_out.false ∙ c.self.view_is in
    let left = c.remove-lower.ensures.list ∙ ap (λ (list : List ℕ). remove list c.args.at) kept in
    let search = visits_by_digits _ _ all _ _ c.self.view_is (more_levels _ _ _ _ c.visit_all.ensures.counted c.take_two-is_out.ensures.counted) c.take_two-is_out.ensures.filled in
    let one = c.remove-lower.ensures.counted in
    let other = c.remove-upper.ensures.counted in
    let same = no_more_digits (length (edges_of c.take_two-is_out.new.side)) (length all) (omega (arith, ap length kept)) in
    let fewer = no_more_digits (length c.remove-lower.new.self) (length all) (omega (arith, ap length left, length-remove all c.args.at (omega (arith, c.requires)))) in
    record {
      tests = other.tests ∙ one.tests ∙ search.tests;
      no_fewer_probes = omega (arith, search.no_fewer_probes, one.no_fewer_probes, other.no_fewer_probes);
      probes_added = omega (arith, search.probes_added, one.probes_added, other.probes_added);
      no_fewer_visits = omega (arith, search.no_fewer_visits, one.no_fewer_visits, other.no_fewer_visits);
      visits_added = omega (arith, search.visits_added, one.visits_added, other.visits_added, same, fewer);
    }
