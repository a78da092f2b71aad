use Rattle.std.proofs.Common.{inl, inr}
use Rattle.std.proofs.lemmas.Option.{MatchOption-at_some}
use Rattle.mvt_tile.proofs.walk.passes_layer.Goals as goal

pub returns-in_default-clause-ends : goal.returns-in_default-clause-ends
returns-in_default-clause-ends over c = λ fails. inl c.in_ok-summary.ensures.seen

pub returns-then-branch-clause-passes : goal.returns-then-branch-clause-passes
returns-then-branch-clause-passes over c = λ passes.
    let right = MatchOption-at_some _ _ _ c.in-Some.is c.in_ok-summary.ensures.found in
    record {
      wire = right.wire;
      passes = right.passes;
      one = c.in_ok-note.ensures.count c.if-branch.true;
      kept = λ tile before next. c.in_ok-note.ensures.passes c.if-branch.true tile before (next c.in-Some.summary right.summed);
    }

pub returns-clause-ends : goal.returns-clause-ends
returns-clause-ends over c = λ fails.
    let right = MatchOption-at_some _ _ _ c.in-Some.is c.in_ok-summary.ensures.found in
    inr (c.seen_to.ensures, right.wire, right.passes)
