use Rattle.std.proofs.Common.{◌≡◌, ◌+◌, ◌-◌, ℕ, List, ap, sym, subst, arith}
use Rattle.std.proofs.lemmas.Grind.{common_steps}
use Rattle.mvt_plane.proofs.Spelling.Readers.{first_left}
use Rattle.mvt_plane.specs.Commands.Course.{Course}
use Rattle.mvt_plane.specs.Position.{Position}
use Rattle.mvt_plane.specs.Calls.Reading.{StandsAt}
use Rattle.mvt_draw.specs.Calls.Cursor.{position_of, course_of}
use Rattle.mvt_draw.proofs.Courses.{IsAmidRun, IsAmidRun-more}
use Rattle.mvt_draw.proofs.reading.read_steps.Goals as goal

pub steps-preserved : goal.steps-preserved
steps-preserved g c = record {
  forward = omega (arith, c.in_ok-step.ensures.place);
  fewer = omega (arith, c.in_ok-step.ensures.place, c.in_ok-step.ensures.fewer);
  left = λ numbers source. c.in_ok-step.ensures.left numbers (c.steps.invariant.left numbers source);
  goes = λ numbers source geometry_type leads.
      let first = first_left geometry_type c.args.line c.steps.left (position_of c.steps.cursor) (omega arith) in
      subst (λ state. StandsAt geometry_type numbers c.step.new.cursor.at state) (first.3 (position_of c.step.new.cursor))
      (c.in_ok-step.ensures.goes numbers (c.steps.invariant.left numbers source) geometry_type first.0 first.1
      (subst (λ state. StandsAt geometry_type numbers c.steps.cursor.at state) first.2 (c.steps.invariant.goes numbers source geometry_type leads)));
  drawn = λ keeps numbers source positions rest ahead.
      let kept = g.S.PositionSink.kept in
      let before = kept c.args.sink.now in
      let start = course_of numbers c.args.cursor.now in
      let now = course_of numbers c.steps.cursor in
      let new = course_of numbers c.step.new.cursor in
      let to = position_of c.step.new.cursor in
      let left = c.steps.left - 1 in
      let fewer : c.steps.left ≡ left + 1 = omega arith in
      subst (λ (it : List Position). IsAmidRun before start positions rest it new left) (sym (c.in_ok-take.ensures.kept keeps))
      (IsAmidRun-more before start positions rest (kept c.steps.sink) now new to left
      (subst (λ (it : ℕ). IsAmidRun before start positions rest (kept c.steps.sink) now it) fewer (c.steps.invariant.drawn keeps numbers source positions rest ahead))
      (λ goal more step. let told = c.in_ok-step.ensures.drawn numbers (c.steps.invariant.left numbers source) goal more step in (ap (λ (it : Course). it.here) told, told)));
}

pub returns-clause-drawn : goal.returns-clause-drawn
returns-clause-drawn g c = λ keeps numbers source positions rest ahead.
    let amid = c.steps.invariant.drawn keeps numbers source positions rest ahead in
    grind (arith, common_steps)
