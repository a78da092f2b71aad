use Rattle.std.proofs.Common.{ℕ, ◌+◌, ◌-◌, ◌/◌, ◌<◌, length, refl, of_calls, arith}
use Rattle.mvt_status.proofs.Halves.{whole_part, none_yet, split_after, split_before, split_found, checks_half, added, added_at_least}
use Rattle.mvt_status.proofs.search.split_in.Goals as goal

pub halves-init : goal.halves-init
halves-init g c = record {
  part = whole_part (goal.F-post g c.args.below.now) c.args.edges.now (length c.args.edges.now) refl;
  checks = none_yet (length c.args.edges.now - 0) (length c.args.edges.now) (omega arith);
}

pub below-requires : goal.below-requires
below-requires g c =
    let middle : ℕ = c.halves.from + (c.halves.to - c.halves.from) / 2 in
    search (of_calls, c.requires.callable middle 0 (omega (arith, c.halves.invariant.part.within, c.halves-test.true)))

pub halves-preserved-then-below : goal.halves-preserved-then-below
halves-preserved-then-below g c =
    let middle : ℕ = c.halves.from + (c.halves.to - c.halves.from) / 2 in
    let before : middle < c.halves.to = omega (arith, c.halves-test.true) in
    record {
      part = split_after (goal.F-post g c.args.below.now) c.args.edges.now c.halves.from c.halves.to middle c.halves.invariant.part before
          _ c.below.result refl c.below.ensures c.if-below.true;
      checks = checks_half (c.halves.to - c.halves.from) (c.halves.to - (middle + 1)) (length c.args.edges.now) c.halves.checked c.halves.invariant.checks
          (omega (arith, c.halves-test.true)) (omega (arith, c.halves-test.true)) (omega (arith, c.halves-test.true));
    }

pub halves-preserved : goal.halves-preserved
halves-preserved g c =
    let middle : ℕ = c.halves.from + (c.halves.to - c.halves.from) / 2 in
    let before : middle < c.halves.to = omega (arith, c.halves-test.true) in
    record {
      part = split_before (goal.F-post g c.args.below.now) c.args.edges.now c.halves.from c.halves.to middle c.halves.invariant.part before
          _ c.below.result refl c.below.ensures c.if-below.false;
      checks = checks_half (c.halves.to - c.halves.from) (middle - c.halves.from) (length c.args.edges.now) c.halves.checked c.halves.invariant.checks
          (omega (arith, c.halves-test.true)) (omega (arith, c.halves-test.true)) (omega (arith, c.halves-test.true));
    }

pub returns-clause-split : goal.returns-clause-split
returns-clause-split g c =
    split_found (goal.F-post g c.args.below.now) c.args.edges.now c.halves.from c.halves.to c.requires.splits.0 c.halves.invariant.part c.halves-test.false c.requires.splits.1

pub returns-clause-counted : goal.returns-clause-counted
returns-clause-counted g c = added (c.halves.to - c.halves.from) (length c.args.edges.now) c.halves.checked c.args.count.now c.probe_all.new.count c.halves.invariant.checks c.probe_all.ensures.counted

pub returns-clause-probed : goal.returns-clause-probed
returns-clause-probed g c =
    added_at_least (c.halves.to - c.halves.from) (length c.args.edges.now) c.halves.checked _ _ (omega (arith, c.halves-test.false)) c.halves.invariant.checks c.probe_all.ensures.probed

pub overflow_add-checked : goal.overflow_add-checked
overflow_add-checked g c = omega (arith, c.halves.invariant.checks.room, c.halves-test.true)
