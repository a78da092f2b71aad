use Rattle.std.proofs.Common.{◌≡◌, ℕ, suc, ◌+◌, ◌<◌, ◌≤◌, ◌∷◌, get_or, List, drop, length, slice_get, Some, sym, ◌∙◌, ap, subst, arith, add-one, drop-cons}
use Rattle.std.proofs.lemmas.List.{drop_all, take_rest}
use Rattle.mvt_splice.specs.Splice.{IsBefore}
use Rattle.mvt_splice.specs.Calls.Fates.{AreChangesLeft, BeginFrom}
use Rattle.mvt_splice.specs.declared.change.Change.{Change}
use Rattle.mvt_splice.proofs.Splicing.OrderedChanges.{AreChangesLeft-tail, AreChangesLeft-all}
use Rattle.mvt_splice.proofs.fates.changes_from.Goals as goal
use Rattle.mvt_splice.proofs.fates.changes_from.Goals.{then-passed-test+else-is_before, else-passed-test}

-- the changes from a place on that is within them
split : (changes : List Change) (first : ℕ) (change : Change) → first < length changes → change ≡ get_or changes first change → drop first changes ≡ change ∷ drop (first + 1) changes
split changes first change within is = drop-cons changes first change within ∙ ap (λ (head : Change). head ∷ drop (suc first) changes) (sym is) ∙ ap (λ (n : ℕ). change ∷ drop n changes) (sym (add-one first))

pub passed-init : goal.passed-init
passed-init c = record { within = omega arith; left = AreChangesLeft-all c.args.changes.now c.args.layer c.args.feature c.requires }

pub passed-preserved : goal.passed-preserved
passed-preserved c = record {
  within = omega arith;
  left = AreChangesLeft-tail c.args.changes.now c.args.layer c.args.feature c.index-changes-first.result (drop (c.passed.first + 1) c.args.changes.now)
      (subst (AreChangesLeft c.args.changes.now c.args.layer c.args.feature) (split c.args.changes.now c.passed.first c.index-changes-first.result c.passed-test.true c.index-changes-first.is) c.passed.invariant.left)
      (c.is_before.ensures.0 c.if-is_before.true);
}

begins_at : (changes : List Change) (first : ℕ) (first_change : Change) (layer feature : ℕ) → first < length changes → first_change ≡ get_or changes first first_change → (IsBefore first_change layer feature → ⊥) → BeginFrom (drop first changes) layer feature
begins_at changes first first_change layer feature within is not change here before =
    let same : Some first_change ≡ Some change = sym (ap (λ (list : List Change). slice_get list 0) (split changes first first_change within is)) ∙ here in
    let equal : first_change ≡ change = cc in
    not (subst (λ (it : Change). IsBefore it layer feature) (sym equal) before)

begins_none : (changes : List Change) (first layer feature : ℕ) → length changes ≤ first → BeginFrom (drop first changes) layer feature
begins_none changes first layer feature over change here before =
    let none = sym (ap (λ (list : List Change). slice_get list 0) (drop_all first changes over)) ∙ here in cc

pub returns : goal.returns
returns c =
    let whole = take_rest c.args.changes.now c.passed.first in
    record {
      left = subst (AreChangesLeft c.args.changes.now c.args.layer c.args.feature) (sym whole) c.passed.invariant.left;
      begin = subst (λ (list : List Change). BeginFrom list c.args.layer c.args.feature) (sym whole) (elim c.passed-test.branch [
        | then-passed-test+else-is_before w ↦ begins_at c.args.changes.now c.passed.first w.index-changes-first.result c.args.layer c.args.feature w.passed-test.true w.index-changes-first.is
            (λ before. let holds = w.is_before.ensures.1 before in let fails = w.if-is_before.false in cc)
        | else-passed-test w ↦ begins_none c.args.changes.now c.passed.first c.args.layer c.args.feature w.passed-test.false
      ]);
    }
