use Rattle.std.proofs.Common.{◌≡◌, ℕ, suc, ◌≤◌, List, insert, is_ok, length, remove, ap, ◌∙◌, arith, rules}
use Rattle.std.proofs.lemmas.List.Edits.{length-insert}
use Rattle.mvt_status.specs.Counts.{bits}
use Rattle.mvt_status.proofs.BinaryDigits.{no_more_digits}
use Rattle.mvt_status.proofs.ListEdits.{refused, remove_inserted}
use Rattle.mvt_status.proofs.status.Status.insert_two.Goals as goal

-- the digits of the list's length with one more in it
digits_of_more : (list more : List ℕ) (at edge : ℕ) → at ≤ length list → more ≡ insert list at edge → bits (length more) ≤ bits (suc (length list))
digits_of_more list more at edge within is =
    no_more_digits (length more) (suc (length list)) (rw is (omega (arith, length-insert list at edge within)))

pub returns-in_err-insert-clause-counted : goal.returns-in_err-insert-clause-counted
returns-in_err-insert-clause-counted g c =
    let edges = g.Self.Status.edges c.args.self.now in
    let digits = no_more_digits (length edges) (suc (length edges)) (omega arith) in
    let put = c.insert.ensures.counted in
    record {
      tests = put.tests;
      no_fewer_probes = put.no_fewer_probes;
      probes_added = put.probes_added;
      no_fewer_visits = put.no_fewer_visits;
      visits_added = omega (arith, put.visits_added, digits);
    }

pub returns-then-is_err-clause-list : goal.returns-then-is_err-clause-list
returns-then-is_err-clause-list g c =
    let edges = g.Self.Status.edges in
    let at = c.args.at in
    let back = refused (is_ok c.insert-placed.result) (edges c.insert-placed.new.self) (edges c.insert.new.self) (insert (edges c.insert.new.self) at c.args.lower)
    c.if-is_err.ensures.negation c.insert-placed.ensures.list in
    rw c.if-is_err.ensures.negation
    (c.remove.ensures.list ∙ ap (λ (list : List ℕ). remove list at) (back ∙ c.in_ok-insert.ensures.list) ∙ remove_inserted (edges c.args.self.now) at c.args.upper c.requires)

pub returns-then-is_err-clause-counted : goal.returns-then-is_err-clause-counted
returns-then-is_err-clause-counted g c =
    let edges = g.Self.Status.edges in
    let list = edges c.args.self.now in
    let back = refused (is_ok c.insert-placed.result) (edges c.insert-placed.new.self) (edges c.insert.new.self) (insert (edges c.insert.new.self) c.args.at c.args.lower)
    c.if-is_err.ensures.negation c.insert-placed.ensures.list in
    let digits = no_more_digits (length list) (suc (length list)) (omega arith) in
    let digits_put = digits_of_more list (edges c.insert.new.self) c.args.at c.args.upper c.requires c.in_ok-insert.ensures.list in
    let digits_back = digits_of_more list (edges c.insert-placed.new.self) c.args.at c.args.upper c.requires (back ∙ c.in_ok-insert.ensures.list) in
    let put = c.insert.ensures.counted in
    let placed = c.insert-placed.ensures.counted in
    let taken = c.remove.ensures.counted in
    record {
      tests = cc;
      no_fewer_probes = omega (arith, put.no_fewer_probes, placed.no_fewer_probes, taken.no_fewer_probes);
      probes_added = omega (arith, put.probes_added, placed.probes_added, taken.probes_added);
      no_fewer_visits = omega (arith, put.no_fewer_visits, placed.no_fewer_visits, taken.no_fewer_visits);
      visits_added = omega (arith, put.visits_added, placed.visits_added, taken.visits_added, digits, digits_put, digits_back);
    }

pub returns-else-is_err-clause-counted : goal.returns-else-is_err-clause-counted
returns-else-is_err-clause-counted g c =
    let edges = g.Self.Status.edges in
    let list = edges c.args.self.now in
    let digits = no_more_digits (length list) (suc (length list)) (omega arith) in
    let digits_put = digits_of_more list (edges c.insert.new.self) c.args.at c.args.upper c.requires c.in_ok-insert.ensures.list in
    let put = c.insert.ensures.counted in
    let placed = c.insert-placed.ensures.counted in
    record {
      tests = cc;
      no_fewer_probes = omega (arith, put.no_fewer_probes, placed.no_fewer_probes);
      probes_added = omega (arith, put.probes_added, placed.probes_added);
      no_fewer_visits = omega (arith, put.no_fewer_visits, placed.no_fewer_visits);
      visits_added = omega (arith, put.visits_added, placed.visits_added, digits, digits_put);
    }

pub returns-else-is_err-clause-list : goal.returns-else-is_err-clause-list
returns-else-is_err-clause-list g c = search rules
