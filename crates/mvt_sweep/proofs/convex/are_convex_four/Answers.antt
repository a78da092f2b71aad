use Rattle.std.proofs.Common.{refl, arith}
use Rattle.mvt_sweep.proofs.Vertices.ConvexFours.{enough_for_four}
use Rattle.mvt_sweep.proofs.convex.are_convex_four.Goals as goal

pub returns-clause-enough : goal.returns-clause-enough
returns-clause-enough c = λ yes.
    enough_for_four c.args.vertices.now (omega (arith, c.len.ensures, c.if-len-ne4.false)) (c.if-not-go_round.ensures refl)
    (rw (c.position-a.ensures, c.position-b.ensures, c.position-c.ensures, c.position-d.ensures) at (c.turn_one_way.ensures yes))
