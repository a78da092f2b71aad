use Rattle.std.proofs.Common.{◌≡◌, ◌+◌, ◌-◌, refl, subst, arith}
use Rattle.mvt_sweep.specs.Calls.Pairs.{AreEnough}
use Rattle.mvt_sweep.proofs.Vertices.PairsEnough.{enough_with_clear}
use Rattle.mvt_sweep.proofs.pairs.add_pairs.Goals as goal

pub returns-then-not-may_fold-clause-enough : goal.returns-then-not-may_fold-clause-enough
returns-then-not-may_fold-clause-enough c = λ yes.
    let all : c.args.second - 1 + 1 ≡ c.args.second = omega (arith, c.if-second-eq0.false) in
    subst (AreEnough c.args.vertices.now c.add_far.new.pairs.items c.args.second) all
    (enough_with_clear c.args.vertices.now c.add_far.new.pairs.items c.args.second (c.args.second - 1) (c.if-add_far.ensures refl) (c.if-not-may_fold.ensures refl))

pub returns-else-not-may_fold-clause-enough : goal.returns-else-not-may_fold-clause-enough
returns-else-not-may_fold-clause-enough c = λ yes.
    let all : c.args.second - 1 + 1 ≡ c.args.second = omega (arith, c.if-second-eq0.false) in
    subst (AreEnough c.args.vertices.now c.add_pair.new.pairs.items c.args.second) all (c.add_pair.ensures yes)
