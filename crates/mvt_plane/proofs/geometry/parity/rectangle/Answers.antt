use Rattle.std.proofs.Common.{◌^◌, ◌*ℤ◌, w64, ◌∙◌, ap₂, arith}
use Rattle.mvt_plane.proofs.Points.Bounds.{multiplied}
use Rattle.mvt_plane.proofs.geometry.parity.rectangle.Goals as goal

pub overflow_mul-result : goal.overflow_mul-result
overflow_mul-result c = (multiplied w64 (2 ^ 31) (2 ^ 31) _ _ c.x_step.ensures.bound c.y_step.ensures.bound (omega arith) (omega arith) (omega arith)).fits

pub returns : goal.returns
returns c =
    let product = multiplied w64 (2 ^ 31) (2 ^ 31) _ _ c.x_step.ensures.bound c.y_step.ensures.bound (omega arith) (omega arith) (omega arith) in
    product.value ∙ ap₂ ◌*ℤ◌ c.x_step.ensures.value c.y_step.ensures.value
