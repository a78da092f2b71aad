use Rattle.std.proofs.Common.{drop, Some, None, arith}
use Rattle.mvt_tile.proofs.RuleFaults.TagScans.{IsScanned-pair, all_scanned, given_at, odd_scanned}
use Rattle.mvt_tile.proofs.rules.tags.scan_tags.Goals as goal

pub returns-in_default-value : goal.returns-in_default-value
returns-in_default-value g c = λ given leaves.
    let so_far = c.pairs.invariant.scanned given leaves in
    odd_scanned so_far.1 c.in-Some.key ((rw c.in_default-value.is at c.in-Some.ensures.odd) (drop c.pairs.at given) so_far.0)

pub returns-in-Some-2 : goal.returns-in-Some-2
returns-in-Some-2 g c = λ given leaves.
    let so_far = c.pairs.invariant.scanned given leaves in
    let pair = given_at (g.N.NumberSource.Leaves c.next_tags.new.tags) given c.pairs.at c.in-Some.key c.in-Some-value.value ((rw c.in-Some-value.is at c.in-Some.ensures.pair) (drop c.pairs.at given) so_far.0) in
    c.scan_rest.ensures given pair.left c.fault_of_pair.new.marks c.args.keys c.args.values
    (IsScanned-pair so_far.1 c.fault_of_pair.new.marks c.in-Some.key c.in-Some-value.value c.add.new.self (Some c.in-Some-2.fault) pair.first pair.second
    (rw c.of.ensures at c.add.ensures.keys) (rw c.of.ensures at c.add.ensures.values)
    (λ pairs even. (rw c.in-Some-2.is at c.in_ok-fault.ensures) given (record { pairs = pairs; even = even; first = pair.first; second = pair.second }) (so_far.1.so_far pairs even)))

pub pairs-preserved : goal.pairs-preserved
pairs-preserved g c = record {
  few = omega (arith, c.pairs.invariant.few, rw c.in-Some-value.is at c.in-Some.ensures.fewer);
  nothing = c.pairs.invariant.nothing;
  scanned = λ given leaves.
      let so_far = c.pairs.invariant.scanned given leaves in
      let pair = given_at (g.N.NumberSource.Leaves c.next_tags.new.tags) given c.pairs.at c.in-Some.key c.in-Some-value.value ((rw c.in-Some-value.is at c.in-Some.ensures.pair) (drop c.pairs.at given) so_far.0) in (
        pair.left,
        IsScanned-pair so_far.1 c.fault_of_pair.new.marks c.in-Some.key c.in-Some-value.value c.add.new.self None pair.first pair.second
            (rw c.of.ensures at c.add.ensures.keys) (rw c.of.ensures at c.add.ensures.values)
            (λ pairs even. (rw c.in_default-2.is at c.in_ok-fault.ensures) given (record { pairs = pairs; even = even; first = pair.first; second = pair.second }) (so_far.1.so_far pairs even)),
      );
}

pub returns : goal.returns
returns g c = λ given leaves.
    let so_far = c.pairs.invariant.scanned given leaves in
    rw c.pairs.invariant.nothing (all_scanned so_far.1 (c.in_default.ensures.end (drop c.pairs.at given) so_far.0))
