use Rattle.std.proofs.Common.{drop, Some, arith}
use Rattle.mvt_tile.proofs.RuleFaults.TagScans.{IsScanned-pair, all_scanned, given_at, odd_scanned}
use Rattle.mvt_tile.proofs.rules.tags.scan_rest.Goals as goal

pub returns-in_default-value : goal.returns-in_default-value
returns-in_default-value g c = λ given leaves set keys values before.
    let so_far = c.pairs.invariant.scanned given leaves set keys values before in
    odd_scanned so_far.1 c.in-Some.key ((rw c.in_default-value.is at c.in-Some.ensures.odd) (drop c.pairs.at given) so_far.0)

pub pairs-preserved : goal.pairs-preserved
pairs-preserved g c = record {
  few = omega (arith, c.pairs.invariant.few, rw c.in-Some-value.is at c.in-Some.ensures.fewer);
  scanned = λ given leaves set keys values before.
      let so_far = c.pairs.invariant.scanned given leaves set keys values before in
      let pair = given_at (g.N.NumberSource.Leaves c.next_tags.new.tags) given c.pairs.at c.in-Some.key c.in-Some-value.value ((rw c.in-Some-value.is at c.in-Some.ensures.pair) (drop c.pairs.at given) so_far.0) in (
        pair.left,
        IsScanned-pair so_far.1 set c.in-Some.key c.in-Some-value.value c.add.new.self (Some c.args.fault) pair.first pair.second
            (rw c.of.ensures at c.add.ensures.keys) (rw c.of.ensures at c.add.ensures.values) so_far.1.so_far,
      );
}

pub returns : goal.returns
returns g c = λ given leaves set keys values before.
    let so_far = c.pairs.invariant.scanned given leaves set keys values before in
    all_scanned so_far.1 (c.in_default.ensures.end (drop c.pairs.at given) so_far.0)
