use Rattle.std.proofs.Common.{◌≡◌, ℕ, Bool, true, false, Ordering, ℤ, pos, ◌<ℤ◌, int_cmp, sym, subst, ◌∙◌}
use Rattle.std.specs.Ordering.{is_gt}
use Rattle.mvt_sweep.specs.Calls.SweepVertices.{plan_of, position_at, turn_at}
use Rattle.mvt_sweep.specs.Calls.Sweep.{BothBegin}
use Rattle.mvt_sweep.proofs.Sweeps.VertexSteps.{lower_comes, lower_goes}
use Rattle.mvt_sweep.proofs.Vertices.SegmentEnds.{positive_by_side}
use Rattle.mvt_sweep.proofs.sweep.begin.in_order.Goals as goal

-- a turn that passes the test of the code is positive
turns_up : (turn : ℤ) (side : Ordering) (test : Bool) → side ≡ int_cmp turn (pos 0) → test ≡ is_gt side → test ≡ true → pos 0 <ℤ turn
turns_up turn side test is answer passed = (positive_by_side turn side is).0 (sym answer ∙ passed)

-- and one that doesn't isn't
turns_not : (turn : ℤ) (side : Ordering) (test : Bool) → side ≡ int_cmp turn (pos 0) → test ≡ is_gt side → test ≡ false → ¬ (pos 0 <ℤ turn)
turns_not turn side test is answer failed positive =
    let passed : is_gt side ≡ true = (positive_by_side turn side is).1 positive in
    absurd (cc)

pub returns-then-is_gt-clause-begin : goal.returns-then-is_gt-clause-begin
returns-then-is_gt-clause-begin c =
    let vertices = c.args.vertices.now in
    let number = c.args.number in
    subst (λ (it : ℕ). BothBegin (plan_of vertices) (position_at vertices number) it number) (sym c.previous-previous.ensures.value)
    (lower_comes vertices number c.requires.number c.requires.begin (turns_up (turn_at vertices number) c.args.turn c.is_gt.result c.requires.turn c.is_gt.ensures c.if-is_gt.true))

pub returns-else-is_gt-clause-begin : goal.returns-else-is_gt-clause-begin
returns-else-is_gt-clause-begin c =
    let vertices = c.args.vertices.now in
    let number = c.args.number in
    subst (λ (it : ℕ). BothBegin (plan_of vertices) (position_at vertices number) number it) (sym c.previous-previous.ensures.value)
    (lower_goes vertices number c.requires.number c.requires.begin c.requires.tested
    (turns_not (turn_at vertices number) c.args.turn c.is_gt.result c.requires.turn c.is_gt.ensures c.if-is_gt.false))
