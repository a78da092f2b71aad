use Rattle.std.proofs.Common.{length, slice_index, ap, ◌∙◌, arith}
use Rattle.std.proofs.lemmas.List.Edits.{length-remove}
use Rattle.mvt_status.proofs.BinaryDigits.{no_more_digits}
use Rattle.mvt_status.proofs.Removals.{next_out}
use Rattle.mvt_status.proofs.status.Status.remove_two.Goals as goal

pub returns-clause-upper : goal.returns-clause-upper
returns-clause-upper g c =
    c.remove-upper.ensures.value ∙ ap (λ list. slice_index list c.args.at) c.remove-lower.ensures.list ∙ next_out (g.Self.Status.edges c.args.self.now) c.args.at

pub returns-clause-counted : goal.returns-clause-counted
returns-clause-counted g c =
    let list = g.Self.Status.edges c.args.self.now in
    let fewer = no_more_digits (length (g.Self.Status.edges c.remove-lower.new.self)) (length list) (omega (arith, ap length c.remove-lower.ensures.list, length-remove list c.args.at (omega (arith, c.requires)))) in
    let one = c.remove-lower.ensures.counted in
    let other = c.remove-upper.ensures.counted in
    record {
      tests = other.tests ∙ one.tests;
      no_fewer_probes = omega (arith, one.no_fewer_probes, other.no_fewer_probes);
      probes_added = omega (arith, one.probes_added, other.probes_added);
      no_fewer_visits = omega (arith, one.no_fewer_visits, other.no_fewer_visits);
      visits_added = omega (arith, one.visits_added, other.visits_added, fewer);
    }
