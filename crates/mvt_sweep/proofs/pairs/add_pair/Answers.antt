use Rattle.std.proofs.Common.{ℕ, ◌+◌, List, sym, subst, arith}
use Rattle.mvt_sweep.specs.Calls.Pairs.{AreEnough}
use Rattle.mvt_sweep.proofs.Vertices.PairsEnough.{enough_with_pair}
use Rattle.mvt_sweep.proofs.pairs.add_pair.Goals as goal

pub returns : goal.returns
returns c = λ yes.
    subst (λ (pairs : List (ℕ × ℕ)). AreEnough c.args.vertices.now pairs c.args.second (c.args.first + 1)) (sym c.push.ensures.items)
    (enough_with_pair c.args.vertices.now c.args.pairs.now.items c.args.second c.args.first c.requires.before c.requires.in_order c.requires.known (omega (arith, c.len.ensures.value, c.if-len.false)))
