use Rattle.std.proofs.Common.{refl, subst, sym, ap, ℕ, List, ◌+◌, arith}
use Rattle.mvt_sweep.specs.Calls.EdgeBounds.{bounds_at}
use Rattle.mvt_sweep.specs.Calls.Pairs.{AreEndsWithin, AreEnough}
use Rattle.mvt_sweep.specs.Calls.SweepVertices.{edge_at}
use Rattle.mvt_sweep.specs.declared.bounds.Bounds.{Bounds}
use Rattle.mvt_sweep.proofs.Vertices.PairsEnough.{enough_with_four, no_test_far}
use Rattle.mvt_sweep.proofs.pairs.add_far.Goals as goal
use Rattle.mvt_sweep.proofs.pairs.add_far.Goals.{else-not-four_are_apart-via-then-not-four_are_apart+else-not-add_some, else-not-four_are_apart-via-else-not-four_are_apart}

pub fours-preserved : goal.fours-preserved
fours-preserved c =
    let vertices = c.args.vertices.now in
    let bounds = c.args.bounds.now in
    let second = c.args.second in
    let enough = λ (pairs : List (ℕ × ℕ)). AreEnough vertices pairs second (c.fours.first + 4) in
    let its : AreEndsWithin c.get-other.result (edge_at vertices second) =
    subst (λ (it : Bounds). AreEndsWithin it (edge_at vertices second)) (sym c.get-other.ensures) (c.requires.bounds.each second c.requires.known) in
    record {
      enough = elim c.else-not-four_are_apart.branch [
        | else-not-four_are_apart-via-then-not-four_are_apart+else-not-add_some w ↦ subst enough (ap (λ pairs. pairs.items) (sym w.pairs-is)) (w.if-not-add_some.ensures refl)
        | else-not-four_are_apart-via-else-not-four_are_apart w ↦
            let apart = w.if-not-four_are_apart.ensures refl in
            subst enough (ap (λ pairs. pairs.items) (sym w.pairs-is)) (enough_with_four vertices c.fours.pairs.items second c.fours.first c.fours.invariant.enough
            (λ other from to. no_test_far vertices other second (bounds_at bounds other) c.get-other.result
            (c.requires.bounds.each other (omega (arith, to, c.fours-test.true, c.requires.known))) its (apart other from to)))
      ];
      forward = omega (arith, c.fours-test.true, c.fours.invariant.forward);
    }
