use Rattle.std.proofs.Common.{◌≡◌, ◌^◌, ◌-ℤ◌, ◌*ℤ◌, ℤ, pos, w64, int_cmp, ◌∙◌, ap, ap₂, arith}
use Rattle.mvt_plane.specs.Geometry.Measure.{orientation}
use Rattle.mvt_plane.specs.Bound.{IsWithin}
use Rattle.mvt_plane.proofs.Points.Bounds.{IsMultiplied, multiplied}
use Rattle.mvt_plane.proofs.Orders.Sides.{cmp_by_difference}
use Rattle.mvt_plane.proofs.geometry.measure.side.Goals as goal

-- the product of two steps, as it is computed
product : (a b : ℤ) → IsWithin (2 ^ 31) a → IsWithin (2 ^ 31) b → IsMultiplied w64 (2 ^ 62) a b
product a b left right = multiplied w64 (2 ^ 31) (2 ^ 31) a b left right (omega arith) (omega arith) (omega arith)

pub overflow_mul-right : goal.overflow_mul-right
overflow_mul-right c = (product _ _ c.x_step.ensures.bound c.y_step.ensures.bound).fits

pub overflow_mul-left : goal.overflow_mul-left
overflow_mul-left c = (product _ _ c.y_step-2.ensures.bound c.x_step-2.ensures.bound).fits

pub returns : goal.returns
returns c =
    let right = product _ _ c.x_step.ensures.bound c.y_step.ensures.bound in
    let left = product _ _ c.y_step-2.ensures.bound c.x_step-2.ensures.bound in
    let same : c.x_step.result *ℤ c.y_step.result -ℤ c.y_step-2.result *ℤ c.x_step-2.result ≡ orientation c.args.from c.args.to c.args.position = cc in
    c.cmp.ensures ∙ ap₂ int_cmp right.value left.value ∙ cmp_by_difference (c.x_step.result *ℤ c.y_step.result) (c.y_step-2.result *ℤ c.x_step-2.result) ∙ ap (λ (n : ℤ). int_cmp n (pos 0)) same
