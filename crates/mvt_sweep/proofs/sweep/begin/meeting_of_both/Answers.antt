use Rattle.std.proofs.Common.{◌≡◌, ℕ, IfNone, Ordering, false, ℤ, pos, ◌<ℤ◌, int_cmp, sym, subst, ◌∙◌}
use Rattle.std.specs.Ordering.{MatchOrdering, is_ne}
use Rattle.std.specs.declared.cmp.Ordering.TheVariants.{Less, Equal, Greater}
use Rattle.std.proofs.lemmas.Cmp.{int_ranked}
use Rattle.mvt_sweep.specs.Calls.SweepVertices.{plan_of, turn_at}
use Rattle.mvt_sweep.specs.Calls.Sweep.{Tested}
use Rattle.mvt_sweep.proofs.Sweeps.NoMeetings.{none_map}
use Rattle.mvt_sweep.proofs.Sweeps.VertexSteps.{not_one_way}
use Rattle.mvt_sweep.proofs.Vertices.PairsEnough.{turning_apart}
use Rattle.mvt_sweep.proofs.Vertices.SegmentEnds.{turning_by_side}
use Rattle.mvt_sweep.proofs.sweep.begin.meeting_of_both.Goals as goal

-- a turn is 0 where it compares as equal
straight : (turn : ℤ) (side : Ordering) → side ≡ int_cmp turn (pos 0) → is_ne side ≡ false → turn ≡ pos 0
straight turn side is = by_case side (int_ranked turn (pos 0) side is)
  where
    by_case : (side : Ordering) → MatchOrdering side (turn <ℤ pos 0) (turn ≡ pos 0) (pos 0 <ℤ turn) → is_ne side ≡ false → turn ≡ pos 0
    by_case Less below = λ flat. absurd (cc flat)
    by_case Equal same = λ flat. same
    by_case Greater above = λ flat. absurd (cc flat)

pub returns-then-is_ne-clause-none : goal.returns-then-is_ne-clause-none
returns-then-is_ne-clause-none c =
    turning_apart c.args.vertices.now c.args.number c.requires.number
    (turning_by_side (turn_at c.args.vertices.now c.args.number) c.args.turn c.requires.turn (sym c.is_ne.ensures ∙ c.if-is_ne.true))

pub returns-clause-none : goal.returns-clause-none
returns-clause-none c =
    let plan = plan_of c.args.vertices.now in
    let number = c.args.number in
    subst (λ (it : ℕ). IfNone c.meeting.result (Tested plan it number × Tested plan number it)) c.previous.ensures.value c.meeting.ensures.none

-- edges along one line go one way, so the test finds their meeting
pub returns-clause-untested : goal.returns-clause-untested
returns-clause-untested c =
    let vertices = c.args.vertices.now in
    let number = c.args.number in
    none_map c.meeting.result (λ tested. absurd (not_one_way vertices number c.requires.number c.requires.begin
    (subst (λ (it : ℕ). Tested (plan_of vertices) it number) c.previous.ensures.value tested.0)
    (straight (turn_at vertices number) c.args.turn c.requires.turn (sym c.is_ne.ensures ∙ c.if-is_ne.false)))) c.meeting.ensures.none
