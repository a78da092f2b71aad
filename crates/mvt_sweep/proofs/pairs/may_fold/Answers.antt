use Rattle.std.proofs.Common.{sym, ◌∙◌}
use Rattle.mvt_sweep.proofs.Vertices.PairsEnough.{next_apart, previous_apart}
use Rattle.mvt_sweep.proofs.pairs.may_fold.Goals as goal

pub returns-then-next-second : goal.returns-then-next-second
returns-then-next-second c =
    next_apart c.args.vertices.now c.args.first c.args.second c.orient.result (sym c.next.ensures.value ∙ c.if-next-second.true)
    (rw (c.edge-one.ensures, c.edge-other.ensures) at c.orient.ensures)

pub returns-then-next-first : goal.returns-then-next-first
returns-then-next-first c =
    previous_apart c.args.vertices.now c.args.first c.args.second c.orient-then-next-first.result (λ same. c.if-next-second.false (c.next.ensures.value ∙ same))
    (sym c.next-else-next-second.ensures.value ∙ c.if-next-first.true) (rw (c.edge-one.ensures, c.edge-other.ensures) at c.orient-then-next-first.ensures)
