use Rattle.std.proofs.Common.{◌≡◌, arith, subst}
use Rattle.mvt_plane.specs.Commands.Reading.{with_left}
use Rattle.mvt_draw.specs.Calls.Reach.{Reaches}
use Rattle.mvt_draw.proofs.Reaches.{next_step}
use Rattle.mvt_draw.proofs.passing.pass_steps.Goals as goal

pub steps-preserved : goal.steps-preserved
steps-preserved g c = record {
  near = omega (arith, c.steps.invariant.near, c.pass_step.ensures.further c.if-not-pass_step.false);
  fewer = omega (arith, c.steps.invariant.fewer, c.pass_step.ensures.fewer c.if-not-pass_step.false);
  passes = λ geometry_type numbers begun.
      next_step geometry_type numbers _ _ c.steps.reach c.pass_step.new.reach c.args.line c.steps.left (omega arith)
      (λ leg line from. c.pass_step.ensures.passes c.if-not-pass_step.false geometry_type numbers leg line from)
      (c.steps.invariant.passes geometry_type numbers begun);
}

pub returns-clause-passes : goal.returns-clause-passes
returns-clause-passes g c = λ passes geometry_type numbers begun.
    let none : c.steps.left ≡ 0 = omega arith in
    subst (λ left. Reaches geometry_type numbers (g.N.NumberSource.Leaves c.steps.source) c.steps.reach (with_left geometry_type c.args.line left)) none (c.steps.invariant.passes geometry_type numbers begun)
