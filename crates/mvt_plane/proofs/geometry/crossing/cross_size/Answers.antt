use Rattle.std.proofs.Common.{◌≡◌, ◌^◌, ◌-ℤ◌, ◌≤ℤ◌, ℤ, pos, nat_abs, w64, to_z, of_z, FitsSigned, ◌∙◌, ap, arith}
use Rattle.std.proofs.lemmas.Int.{ints, to_z-of_z}
use mir.Syntax.{w128}
use Rattle.mvt_plane.specs.Bound.{IsWithin}
use Rattle.mvt_plane.specs.Geometry.CommonPoint.{cross_product}
use Rattle.mvt_plane.proofs.Points.Bounds.{fitting, IsMultiplied, multiplied}
use Rattle.mvt_plane.proofs.geometry.crossing.cross_size.Goals as goal

-- the product of two steps, as it is computed
product : (a b : ℤ) → IsWithin (2 ^ 31) a → IsWithin (2 ^ 31) b → IsMultiplied w64 (2 ^ 62) a b
product a b left right = multiplied w64 (2 ^ 31) (2 ^ 31) a b left right (omega arith) (omega arith) (omega arith)

-- the size of a number, as it is passed on
sized : (z size : ℤ) → IsWithin (2 ^ 63) z → size ≡ pos (nat_abs z) → (to_z w128 (of_z w128 size) ≡ pos (nat_abs z)) × (to_z w128 (of_z w128 size) ≤ℤ pos (2 ^ 63))
sized z size within same =
    let fits : FitsSigned w128 size = omega (arith, ints) in
    let passed = to_z-of_z w128 size fits in
    (passed ∙ same, omega (arith, ints))

-- what is computed in between
computed : (right left : ℤ) → IsWithin (2 ^ 62) right → IsWithin (2 ^ 62) left → (to_z w128 (of_z w128 (to_z w128 (of_z w128 right) -ℤ to_z w128 (of_z w128 left))) ≡ right -ℤ left) × (IsWithin (2 ^ 63) (right -ℤ left))
computed right left right_within left_within = (omega (arith, fitting), (omega (arith, fitting), omega (arith, fitting)))

pub overflow_mul-right : goal.overflow_mul-right
overflow_mul-right c = (product c.x_step.result c.y_step.result c.x_step.ensures.bound c.y_step.ensures.bound).fits

pub overflow_mul-left : goal.overflow_mul-left
overflow_mul-left c = (product c.y_step-2.result c.x_step-2.result c.y_step-2.ensures.bound c.x_step-2.ensures.bound).fits

pub abs-requires : goal.abs-requires
abs-requires c =
    let right = product c.x_step.result c.y_step.result c.x_step.ensures.bound c.y_step.ensures.bound in
    let left = product c.y_step-2.result c.x_step-2.result c.y_step-2.ensures.bound c.x_step-2.ensures.bound in
    omega (arith, fitting)

pub returns-clause-value : goal.returns-clause-value
returns-clause-value c =
    let right = product c.x_step.result c.y_step.result c.x_step.ensures.bound c.y_step.ensures.bound in
    let left = product c.y_step-2.result c.x_step-2.result c.y_step-2.ensures.bound c.x_step-2.ensures.bound in
    let cross : c.from.result -ℤ c.from-2.result ≡ cross_product (record { a = c.args.a; b = c.args.b }) (record { a = c.args.c; b = c.args.d }) = cc in
    let difference = computed c.from.result c.from-2.result (omega (arith, fitting), omega (arith, fitting)) (omega (arith, fitting), omega (arith, fitting)) in
    let size = c.abs.ensures.value ∙ ap (λ (z : ℤ). pos (nat_abs z)) difference.0 in
    (sized _ c.abs.result difference.1 size).0 ∙ ap (λ (z : ℤ). pos (nat_abs z)) cross

pub returns-clause-bound : goal.returns-clause-bound
returns-clause-bound c =
    let right = product c.x_step.result c.y_step.result c.x_step.ensures.bound c.y_step.ensures.bound in
    let left = product c.y_step-2.result c.x_step-2.result c.y_step-2.ensures.bound c.x_step-2.ensures.bound in
    let difference = computed c.from.result c.from-2.result (omega (arith, fitting), omega (arith, fitting)) (omega (arith, fitting), omega (arith, fitting)) in
    let size = c.abs.ensures.value ∙ ap (λ (z : ℤ). pos (nat_abs z)) difference.0 in
    (sized _ c.abs.result difference.1 size).1
