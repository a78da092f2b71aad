use Rattle.std.proofs.lemmas.Result.{on_ok_weaker}
use Rattle.mvt_draw.proofs.Sources.{pair_left}
use Rattle.mvt_draw.proofs.commands.step.Goals as goal

pub returns-in-Some-clause-left : goal.returns-in-Some-clause-left
returns-in-Some-clause-left g c =
    on_ok_weaker c.short_step.result (λ place numbers left.
    rw place (pair_left _ numbers c.args.cursor.now.at c.in-Some.x c.in-Some.y (c.in-Some.ensures.pair _ left)).1) c.short_step.ensures.place

pub returns-in-Some-clause-drawn : goal.returns-in-Some-clause-drawn
returns-in-Some-clause-drawn g c =
    on_ok_weaker c.short_step.result (λ drawn numbers left.
    drawn numbers (pair_left _ numbers c.args.cursor.now.at c.in-Some.x c.in-Some.y (c.in-Some.ensures.pair _ left)).0) c.short_step.ensures.drawn

pub returns-in-Some-next_short_pair-clause-left : goal.returns-in-Some-next_short_pair-clause-left
returns-in-Some-next_short_pair-clause-left g c =
    on_ok_weaker c.short_step-in-Some-next_short_pair.result (λ place numbers left.
    let pair = c.in-Some-next_short_pair.ensures.pair _ (c.in-None.ensures.same _ left) in
    rw place (pair_left _ numbers c.args.cursor.now.at c.in-Some-next_short_pair.x c.in-Some-next_short_pair.y pair).1) c.short_step-in-Some-next_short_pair.ensures.place

pub returns-in-Some-next_short_pair-clause-drawn : goal.returns-in-Some-next_short_pair-clause-drawn
returns-in-Some-next_short_pair-clause-drawn g c =
    on_ok_weaker c.short_step-in-Some-next_short_pair.result (λ drawn numbers left.
    let pair = c.in-Some-next_short_pair.ensures.pair _ (c.in-None.ensures.same _ left) in
    drawn numbers (pair_left _ numbers c.args.cursor.now.at c.in-Some-next_short_pair.x c.in-Some-next_short_pair.y pair).0) c.short_step-in-Some-next_short_pair.ensures.drawn

pub returns-in-None-next_short_pair-clause-drawn : goal.returns-in-None-next_short_pair-clause-drawn
returns-in-None-next_short_pair-clause-drawn g c =
    on_ok_weaker c.any_step.result (λ drawn numbers left.
    drawn numbers (c.in-None-next_short_pair.ensures.same _ (c.in-None.ensures.same _ left))) c.any_step.ensures.drawn
