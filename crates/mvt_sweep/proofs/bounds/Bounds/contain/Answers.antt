use Rattle.std.proofs.Common.{arith}
use Rattle.std.proofs.lemmas.Int.{ints}
use Rattle.mvt_sweep.proofs.bounds.Bounds.contain.Goals as goal
use Rattle.mvt_sweep.proofs.bounds.Bounds.contain.Goals.{then-self-x, else-self-x, then-x-self, else-x-self}

pub returns-then-self-y : goal.returns-then-self-y
returns-then-self-y c = elim c.if-x-self.branch [
  | then-x-self w ↦ elim c.if-self-x.branch [
    | then-self-x v ↦ (
      λ yes. record { left = grind (arith, ints); right = grind (arith, ints); low = grind (arith, ints); high = grind (arith, ints) },
      λ within. let high = within.high in grind (arith, ints),
    )
    | else-self-x v ↦ absurd (cc)
  ]
  | else-x-self w ↦ absurd (cc)
]
