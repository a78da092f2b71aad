use Rattle.std.proofs.Common.{◌≡◌, ◌^◌, ℤ, ◌-ℤ◌, w64, arith}
use Rattle.mvt_plane.specs.Bound.{IsWithin}
use Rattle.mvt_plane.specs.Geometry.Measure.{orientation}
use Rattle.mvt_plane.proofs.Points.Bounds.{fitting, IsMultiplied, multiplied}
use Rattle.mvt_plane.proofs.geometry.measure.orient.Goals as goal

-- the product of two steps fits
product : (a b : ℤ) → IsWithin (2 ^ 31) a → IsWithin (2 ^ 31) b → IsMultiplied w64 (2 ^ 62) a b
product a b left right = multiplied w64 (2 ^ 31) (2 ^ 31) a b left right (omega arith) (omega arith) (omega arith)

pub overflow_mul-diagonal : goal.overflow_mul-diagonal
overflow_mul-diagonal c = (product c.x_step.result c.y_step.result c.x_step.ensures.bound c.y_step.ensures.bound).fits

pub overflow_mul-antidiagonal : goal.overflow_mul-antidiagonal
overflow_mul-antidiagonal c = (product c.y_step-2.result c.x_step-2.result c.y_step-2.ensures.bound c.x_step-2.ensures.bound).fits

pub returns : goal.returns
returns c =
    let diagonal = product c.x_step.result c.y_step.result c.x_step.ensures.bound c.y_step.ensures.bound in
    let antidiagonal = product c.y_step-2.result c.x_step-2.result c.y_step-2.ensures.bound c.x_step-2.ensures.bound in
    let same : c.from.result -ℤ c.from-2.result ≡ orientation c.args.a c.args.b c.args.c = cc in
    omega (arith, fitting)
