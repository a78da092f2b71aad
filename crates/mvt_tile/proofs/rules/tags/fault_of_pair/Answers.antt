use Rattle.std.proofs.Common.{◌≡◌, ℕ, Bool, true, false, sym, ◌∙◌}
use Rattle.std.proofs.lemmas.Bool.{not-true, not-false}
use Rattle.mvt_tile.specs.Calls.PassedTags.{has_key}
use Rattle.mvt_tile.proofs.RuleFaults.TagFaults.{IsFirstTagFault-no_key, IsFirstTagFault-repeated, IsFirstTagFault-no_value, AreCleanBefore-pair, IsPassed-pair}
use Rattle.mvt_tile.proofs.rules.tags.fault_of_pair.Goals as goal

pub returns-then-key-keys : goal.returns-then-key-keys
returns-then-key-keys c = λ tags pair before.
    IsFirstTagFault-no_key c.args.keys c.args.values tags pair.pairs pair.even (has_key c.args.marks.now) c.args.at c.args.key before.clean before.passed pair.first c.if-key-keys.true

pub returns-then-not-branch : goal.returns-then-not-branch
returns-then-not-branch c = λ tags pair before.
    let has : ℕ → Bool = has_key c.args.marks.now in
    let held : has c.args.key ≡ true = not-false (has c.args.key) (sym c.in_ok-insert.ensures.added ∙ c.if-not-branch.true) in
    IsFirstTagFault-repeated c.args.keys c.args.values tags pair.pairs pair.even has c.args.at c.args.key before.passed pair.first before.clean c.if-key-keys.false held

pub returns-then-value-values : goal.returns-then-value-values
returns-then-value-values c = λ tags pair before.
    let has : ℕ → Bool = has_key c.args.marks.now in
    let unheld : has c.args.key ≡ false = not-true (has c.args.key) (sym c.in_ok-insert.ensures.added ∙ c.if-not-branch.false) in
    IsFirstTagFault-no_value c.args.keys c.args.values tags pair.pairs pair.even has c.args.at c.args.key before.passed pair.first c.args.value before.clean c.if-key-keys.false unheld pair.second c.if-value-values.true

pub returns : goal.returns
returns c = λ tags pair before.
    let has : ℕ → Bool = has_key c.args.marks.now in
    let unheld : has c.args.key ≡ false = not-true (has c.args.key) (sym c.in_ok-insert.ensures.added ∙ c.if-not-branch.false) in
    record {
      passed = IsPassed-pair c.args.keys c.args.values tags pair.pairs pair.even has c.args.at c.args.key before.passed pair.first (has_key c.insert.new.self) c.in_ok-insert.ensures.holds;
      clean = AreCleanBefore-pair c.args.keys c.args.values tags pair.pairs pair.even has c.args.at c.args.key before.passed pair.first c.args.value before.clean c.if-key-keys.false unheld pair.second c.if-value-values.false;
    }
