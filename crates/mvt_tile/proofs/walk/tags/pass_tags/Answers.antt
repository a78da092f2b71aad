use Rattle.std.proofs.Common.{◌^◌, ◌+◌, drop, sym, ◌∙◌, rules}
use Rattle.std.proofs.lemmas.Bool.{not-true}
use Rattle.mvt_tile.specs.Calls.PassedTags.{has_key}
use Rattle.mvt_tile.proofs.RuleFaults.TagScans.{AreGoodWith-all, IsScanned-new, given_at, none_scanned}
use Rattle.mvt_tile.proofs.walk.tags.pass_tags.Goals as goal

pub pairs-init : goal.pairs-init
pairs-init g c = λ given leaves. record {
  at = 0;
  left = leaves;
  scanned = none_scanned c.clear.new.self given c.none-needs.result (2 ^ 32) (2 ^ 32) c.clear.ensures;
}

pub pairs-preserved : goal.pairs-preserved
pairs-preserved g c = λ given leaves.
    let so_far = c.pairs.invariant given leaves in
    let pair = given_at (g.N.NumberSource.Leaves c.next_tags.new.tags) given so_far.at c.in-Some.key c.in-Some-value.value ((rw c.in-Some-value.is at c.in-Some.ensures.pair) (drop so_far.at given) so_far.left) in
    record {
      at = so_far.at + 2;
      left = pair.left;
      scanned = IsScanned-new so_far.scanned c.insert.new.self c.in-Some.key c.in-Some-value.value c.add.new.self pair.first pair.second
          (rw c.of.ensures at c.add.ensures.keys) (rw c.of.ensures at c.add.ensures.values) (search rules) (search rules)
          (not-true (has_key c.pairs.marks c.in-Some.key) (sym c.in_ok-insert.ensures.added ∙ c.if-not-branch.false)) c.in_ok-insert.ensures.holds;
    }

pub returns : goal.returns
returns g c = λ given leaves.
    let so_far = c.pairs.invariant given leaves in
    AreGoodWith-all so_far.scanned (c.in_default.ensures.end (drop so_far.at given) so_far.left)
