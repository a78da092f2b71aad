use Rattle.std.proofs.Common.{sym, ◌∙◌}
use Rattle.mvt_sweep.proofs.Vertices.ConvexFours.{not_another, one_side, some_side}
use Rattle.mvt_sweep.proofs.convex.turn_one_way.Goals as goal

pub returns : goal.returns
returns c = λ yes.
    let turn = c.side-turn.result in
    record {
      turn = turn;
      turns = some_side turn (sym c.is_eq.ensures ∙ c.if-is_eq.false);
      second = c.side-turn.ensures;
      third = sym (not_another c.side.result turn (sym c.ne.ensures ∙ c.if-ne.false)) ∙ c.side.ensures;
      last = sym (not_another c.side-else-ne.result turn (sym c.ne-else-ne.ensures ∙ c.if-ne-2.false)) ∙ c.side-else-ne.ensures;
      first = sym (one_side c.side-2.result turn (sym c.eq.ensures ∙ yes)) ∙ c.side-2.ensures;
    }
