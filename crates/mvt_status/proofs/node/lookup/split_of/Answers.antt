use Rattle.std.proofs.Common.{◌≡◌, ℕ, ◌+◌, ◌-◌, ◌*◌, ◌≤◌, ◌++◌, ◌∙◌, List, [], inl, inr, refl, sym, ap, length, length-append, slice_index, of_calls, arith}
use Rattle.std.proofs.lemmas.Bool.{cases_lt}
use Rattle.mvt_status.specs.Counts.{bits}
use Rattle.mvt_status.specs.Calls.Tree.{edges_of, fewest, height_of}
use Rattle.mvt_status.proofs.Heights.{filled_over_both, found_in_node, height_by_digits, height_of_a_word}
use Rattle.mvt_status.proofs.NodeSplits.{beside_in_node, beside_node, beside_none, none_in_front, none_there, of_first, of_own, searched_all, searched_left, searched_right, some_there, split_among, split_of_all}
use Rattle.mvt_status.proofs.node.lookup.split_of.Given as given
use Rattle.mvt_status.proofs.node.lookup.split_of.Goals as goal

pub levels-init : goal.levels-init
levels-init g c = record {
  searched = searched_all (goal.F-post g c.args.below.now) (edges_of c.args.side.now);
  high = λ some. absurd (omega (arith, some));
  room = omega arith;
  begun = inl refl;
  left = omega arith;
  down = omega arith;
  filled = omega arith;
  filled_there = omega (arith, c.is_filled.ensures.filled);
}

pub below-requires : goal.below-requires
below-requires g c =
    let same : edges_of c.node.inside.left ++ (c.node.inside.own.items ++ edges_of c.node.inside.right) ≡ edges_of c.levels.part.now
    = ap (λ seen. seen.0) (c.node.view_is ∙ c.deref-node.ensures) ∙ sym (ap edges_of c.in-Some.is) in
    search (
      of_calls,
      of_first (goal.F-pre g c.args.below.now) (goal.F-post g c.args.below.now) _ _ _ (edges_of c.node.inside.left) c.node.inside.own.items (edges_of c.node.inside.right) _ (slice_index c.deref.result.now 0) _
          c.levels.invariant.searched same c.node.invariant.some (ap (λ (list : List ℕ). slice_index list 0) c.deref.ensures.0) c.requires.callable,
    )

pub levels-preserved-then-below : goal.levels-preserved-then-below
levels-preserved-then-below g c =
    let same : edges_of c.node.inside.left ++ (c.node.inside.own.items ++ edges_of c.node.inside.right) ≡ edges_of c.levels.part.now
    = ap (λ seen. seen.0) (c.node.view_is ∙ c.deref-node.ensures) ∙ sym (ap edges_of c.in-Some.is) in
    let high : c.node.inside.height ≡ height_of c.levels.part.now = ap (λ seen. seen.1) (c.node.view_is ∙ c.deref-node.ensures) ∙ sym (ap height_of c.in-Some.is) in
    let so_far = c.levels.invariant in
    let many : length (edges_of c.levels.part.now) ≡ length (edges_of c.node.inside.left) + length c.node.inside.own.items + length (edges_of c.node.inside.right)
    = omega (arith, ap length same, length-append (edges_of c.node.inside.left) (c.node.inside.own.items ++ edges_of c.node.inside.right), length-append c.node.inside.own.items (edges_of c.node.inside.right)) in
    let both = filled_over_both _ _ _ c.node.invariant.near c.node.invariant.measured in
    let level : fewest c.node.inside.height ≡ fewest (height_of c.levels.part.now) = ap fewest high in
    let its : length c.as_slice-last.result.now ≡ length c.node.inside.own.items = ap length c.as_slice-last.ensures.value in
    record {
      searched = rw c.as_slice-last.ensures.value (searched_right (goal.F-post g c.args.below.now) _ _ _ (edges_of c.node.inside.left) c.node.inside.own.items (edges_of c.node.inside.right)
          c.levels.passed (c.levels.passed + (c.node.inside.size - c.size-then-below.result)) (slice_index c.deref.result.now 0) _ c.below.result so_far.searched same c.node.invariant.some
          (ap (λ (list : List ℕ). slice_index list 0) c.deref.ensures.0) c.below.ensures c.if-below.true
          (omega (arith, c.size-then-below.ensures, c.node.invariant.counted)));
      high = λ some. omega (arith, so_far.left, high, c.node.invariant.measured);
      room = c.as_slice-last.ensures.fits;
      begun = inr (omega arith);
      left = omega (arith, so_far.left, high, c.node.invariant.measured);
      down = omega (arith, so_far.down, high, c.node.invariant.measured, c.node.invariant.near.first, c.node.invariant.near.second);
      filled = omega (arith, so_far.filled, many, both, level, c.node.invariant.some, c.is_filled-in-Some.ensures.filled);
      filled_there = omega (arith, so_far.filled, many, level, its, c.node.invariant.filled, c.node.invariant.counted);
    }

pub levels-preserved : goal.levels-preserved
levels-preserved g c =
    let same : edges_of c.node.inside.left ++ (c.node.inside.own.items ++ edges_of c.node.inside.right) ≡ edges_of c.levels.part.now
    = ap (λ seen. seen.0) (c.node.view_is ∙ c.deref-node.ensures) ∙ sym (ap edges_of c.in-Some.is) in
    let high : c.node.inside.height ≡ height_of c.levels.part.now = ap (λ seen. seen.1) (c.node.view_is ∙ c.deref-node.ensures) ∙ sym (ap height_of c.in-Some.is) in
    let so_far = c.levels.invariant in
    let many : length (edges_of c.levels.part.now) ≡ length (edges_of c.node.inside.left) + length c.node.inside.own.items + length (edges_of c.node.inside.right)
    = omega (arith, ap length same, length-append (edges_of c.node.inside.left) (c.node.inside.own.items ++ edges_of c.node.inside.right), length-append c.node.inside.own.items (edges_of c.node.inside.right)) in
    let both = filled_over_both _ _ _ c.node.invariant.near c.node.invariant.measured in
    let level : fewest c.node.inside.height ≡ fewest (height_of c.levels.part.now) = ap fewest high in
    record {
      searched = searched_left (goal.F-post g c.args.below.now) _ _ _ _ _ _ _ _ _ _ so_far.searched same c.node.invariant.some
          (ap (λ (list : List ℕ). slice_index list 0) c.deref.ensures.0) c.below.ensures c.if-below.false;
      high = so_far.high;
      room = so_far.room;
      begun = inr (omega arith);
      left = omega (arith, so_far.left, high, c.node.invariant.measured);
      down = omega (arith, so_far.down, high, c.node.invariant.measured, c.node.invariant.near.first, c.node.invariant.near.second);
      filled = omega (arith, so_far.filled, many, both, level, c.node.invariant.some, c.is_filled-in-Some-2.ensures.filled);
      filled_there = so_far.filled_there;
    }

-- no node's first edge is in front
none : (g : given.Over) (c : goal.Then-is_empty g) → c.levels.last.now ≡ []
none g c = none_there c.levels.last.now (sym c.is_empty.ensures ∙ c.if-is_empty.true)

pub returns-then-is_empty-clause-split : goal.returns-then-is_empty-clause-split
returns-then-is_empty-clause-split g c = none_in_front (goal.F-post g c.args.below.now) _ _ _ _ _ c.levels.invariant.searched (ap edges_of c.in_default.is) (none g c) c.requires.splits

pub returns-then-is_empty-clause-beside : goal.returns-then-is_empty-clause-beside
returns-then-is_empty-clause-beside g c = beside_none (goal.F-post g c.args.below.now) _ _ _ _ _ c.levels.invariant.searched (ap edges_of c.in_default.is) (none g c)

pub returns-then-is_empty-clause-counted : goal.returns-then-is_empty-clause-counted
returns-then-is_empty-clause-counted g c =
    let so_far = c.levels.invariant in
    let most : height_of c.args.side.now ≤ 2 * bits (length (edges_of c.args.side.now)) = height_by_digits _ _ c.is_filled.ensures.filled in
    let passed = c.pass.ensures.counted in
    record {
      tests = passed.tests;
      no_fewer_probes = passed.no_fewer_probes;
      probes_added = omega (arith, passed.probes_added, so_far.left, most);
      no_fewer_visits = passed.no_fewer_visits;
      visits_added = omega (arith, passed.visits_added, so_far.left);
    }

pub split_after_first-point-requires-clause-callable : goal.split_after_first-point-requires-clause-callable
split_after_first-point-requires-clause-callable g c =
    of_own (goal.F-pre g c.args.below.now) (goal.F-post g c.args.below.now) _ _ _ _ _ c.levels.invariant.searched c.requires.callable

pub split_after_first-point-requires-clause-splits : goal.split_after_first-point-requires-clause-splits
split_after_first-point-requires-clause-splits g c =
    split_among (goal.F-post g c.args.below.now) _ _ _ _ _ c.levels.invariant.searched (ap edges_of c.in_default.is)
    (some_there c.levels.last.now (sym c.is_empty.ensures ∙ c.if-is_empty.false)) c.requires.splits

pub returns-clause-split : goal.returns-clause-split
returns-clause-split g c =
    split_of_all (goal.F-post g c.args.below.now) _ _ _ _ c.split_after_first-point.result _ _ c.levels.invariant.searched (ap edges_of c.in_default.is)
    (some_there c.levels.last.now (sym c.is_empty.ensures ∙ c.if-is_empty.false)) c.requires.splits c.split_after_first-point.ensures.split refl

pub returns-clause-beside : goal.returns-clause-beside
returns-clause-beside g c =
    let found = c.levels.invariant.searched in
    let none : edges_of c.levels.part.now ≡ [] = ap edges_of c.in_default.is in
    elim (cases_lt c.split_after_first-point.result (length c.levels.last.now)) [
      | inl within ↦
          rw (c.edge_or.ensures.there within)
          (beside_in_node (goal.F-post g c.args.below.now) _ _ _ _ c.split_after_first-point.result _ _ _ _ found none c.split_after_first-point.ensures.some within refl refl refl)
      | inr all ↦
          rw (c.edge_or.ensures.further all)
          (beside_node (goal.F-post g c.args.below.now) _ _ _ _ c.split_after_first-point.result _ _ _ found none c.split_after_first-point.ensures.some (omega (arith, all, c.split_after_first-point.ensures.split.within)) refl refl)
    ]

pub returns-clause-counted : goal.returns-clause-counted
returns-clause-counted g c =
    let there = some_there c.levels.last.now (sym c.is_empty.ensures ∙ c.if-is_empty.false) in
    found_in_node _ _ _ _ c.pass.ensures.counted c.split_after_first-point.ensures.counted c.levels.invariant.left (c.levels.invariant.high there) there c.levels.invariant.room
    c.levels.invariant.filled_there

pub overflow_add-depth : goal.overflow_add-depth
overflow_add-depth g c =
    let few : height_of c.args.side.now ≤ 128 = height_of_a_word _ (length (edges_of c.args.side.now)) c.is_filled.ensures.filled (omega (arith, c.size.ensures, c.size.auto)) in
    omega (arith, few, c.levels.invariant.left)
