use Rattle.std.proofs.Common.{◌≡◌, ◌^◌, ◌*ℤ◌, ap, arith}
use mir.Syntax.{w128}
use Rattle.mvt_plane.proofs.Points.Bounds.{fitting, IsMultiplied, multiplied}
use Rattle.mvt_mend.proofs.near.close.offset.Goals as goal

-- the product, as it is computed
product : (c : goal.After-from) → IsMultiplied w128 (2 ^ 93) c.from.result c.args.w
product c = multiplied w128 (2 ^ 30) (2 ^ 63) c.from.result c.args.w (omega (arith, fitting)) c.requires.w (omega arith) (omega arith) (omega arith)

pub overflow_mul-result : goal.overflow_mul-result
overflow_mul-result c = (product c).fits

pub overflow_sub-result : goal.overflow_sub-result
overflow_sub-result c =
    let known = product c in
    omega (arith, fitting)

pub returns-clause-value : goal.returns-clause-value
returns-clause-value c =
    let known = product c in
    let same : c.from.result ≡ c.args.from = omega (arith, fitting) in
    let whole = ap (λ z. z *ℤ c.args.w) same in
    omega (arith, fitting)

pub returns-clause-bound : goal.returns-clause-bound
returns-clause-bound c =
    let known = product c in
    (omega (arith, fitting), omega (arith, fitting))
