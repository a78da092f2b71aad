use Rattle.std.proofs.Common.{◌≡◌, ℕ, ◌+◌, List, refl, sym, ap, subst, arith}
use Rattle.mvt_sweep.specs.Calls.Pairs.{AreEndsWithin, AreEnough}
use Rattle.mvt_sweep.specs.Calls.SweepVertices.{edge_at}
use Rattle.mvt_sweep.specs.declared.bounds.Bounds.{Bounds}
use Rattle.mvt_sweep.proofs.Vertices.PairsEnough.{enough_with_clear, no_test_far}
use Rattle.mvt_sweep.proofs.pairs.add_some.Goals as goal
use Rattle.mvt_sweep.proofs.pairs.add_some.Goals.{else-not-are_apart-via-then-not-are_apart+then-may_fold+else-not-add_pair, else-not-are_apart-via-then-not-are_apart+else-may_fold, else-not-are_apart-via-else-not-are_apart}

pub loop-first-preserved : goal.loop-first-preserved
loop-first-preserved c =
    let vertices = c.args.vertices.now in
    let first = c.loop-first.first in
    let second = c.args.second in
    let so_far = c.loop-first.invariant in
    let enough = λ (pairs : List (ℕ × ℕ)). AreEnough vertices pairs second (first + 1) in
    elim c.else-not-are_apart.branch [
      | else-not-are_apart-via-then-not-are_apart+then-may_fold+else-not-add_pair w ↦ subst enough (ap (λ pairs. pairs.items) (sym w.pairs-is)) (w.if-not-add_pair.ensures refl)
      | else-not-are_apart-via-then-not-are_apart+else-may_fold w ↦
          subst enough (ap (λ pairs. pairs.items) (sym w.pairs-is)) (enough_with_clear vertices c.loop-first.pairs.items second first so_far (w.may_fold.ensures w.if-may_fold.false))
      | else-not-are_apart-via-else-not-are_apart w ↦
          let within = λ (number : ℕ) (its : Bounds). AreEndsWithin its (edge_at vertices number) in
          let ends : AreEndsWithin c.get.result (edge_at vertices first) =
          subst (within first) (sym c.get.ensures) (c.requires.bounds.each first (omega (arith, c.loop-first-test.true, c.requires.lesser, c.requires.known))) in
          let its : AreEndsWithin c.get-other.result (edge_at vertices second) = subst (within second) (sym c.get-other.ensures) (c.requires.bounds.each second c.requires.known) in
          subst enough (ap (λ pairs. pairs.items) (sym w.pairs-is)) (enough_with_clear vertices c.loop-first.pairs.items second first so_far
          (no_test_far vertices first second c.get.result c.get-other.result ends its (w.if-not-are_apart.ensures refl)))
    ]

pub returns : goal.returns
returns c = λ yes.
    let all : c.loop-first.first ≡ c.args.to = omega (arith, c.loop-first-test.false, c.loop-first.auto.first-end) in
    subst (λ (at : ℕ). AreEnough c.args.vertices.now c.loop-first.pairs.items c.args.second at) all c.loop-first.invariant
