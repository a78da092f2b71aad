use Rattle.std.proofs.Common.{◌≡◌, ◌*◌, ◌%◌, ◌/◌, arith}
use Rattle.std.proofs.lemmas.Bool.{eq-eqb, eqb-true}
use Rattle.mvt_confirm.proofs.tags.is_even.Goals as goal

pub returns : goal.returns
returns c = (
  λ holds. let rest : c.args.number % 2 ≡ 0 = eqb-true (c.args.number % 2) 0 holds in (c.args.number / 2, omega arith),
  λ half. let is : c.args.number ≡ 2 * half.0 = half.1 in eq-eqb (c.args.number % 2) 0 (omega arith),
)
