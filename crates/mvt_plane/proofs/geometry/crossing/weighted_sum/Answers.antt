use Rattle.std.proofs.Common.{◌≡◌, ◌^◌, ◌*ℤ◌, ℤ, ap, arith}
use mir.Syntax.{w128}
use Rattle.mvt_plane.specs.Bound.{IsWithin}
use Rattle.mvt_plane.proofs.Points.Bounds.{fitting, IsMultiplied, multiplied}
use Rattle.mvt_plane.proofs.geometry.crossing.weighted_sum.Goals as goal

-- a weight times a coordinate, as it is computed
product : (weight z : ℤ) → IsWithin (2 ^ 63) weight → IsWithin (2 ^ 30) z → IsMultiplied w128 (2 ^ 93) weight z
product weight z large small = multiplied w128 (2 ^ 63) (2 ^ 30) weight z large small (omega arith) (omega arith) (omega arith)

pub overflow_mul-result : goal.overflow_mul-result
overflow_mul-result c = (product c.args.weight_a c.from.result c.requires.weight_a (omega (arith, fitting), omega (arith, fitting))).fits

pub overflow_mul-result-2 : goal.overflow_mul-result-2
overflow_mul-result-2 c = (product c.args.weight_b c.from-2.result c.requires.weight_b (omega (arith, fitting), omega (arith, fitting))).fits

pub overflow_add-result : goal.overflow_add-result
overflow_add-result c =
    let first = product c.args.weight_a c.from.result c.requires.weight_a (omega (arith, fitting), omega (arith, fitting)) in
    let second = product c.args.weight_b c.from-2.result c.requires.weight_b (omega (arith, fitting), omega (arith, fitting)) in
    omega (arith, fitting)

pub returns : goal.returns
returns c =
    let first = product c.args.weight_a c.from.result c.requires.weight_a (omega (arith, fitting), omega (arith, fitting)) in
    let second = product c.args.weight_b c.from-2.result c.requires.weight_b (omega (arith, fitting), omega (arith, fitting)) in
    let a : c.from.result ≡ c.args.a = omega (arith, fitting) in
    let b : c.from-2.result ≡ c.args.b = omega (arith, fitting) in
    let first_is = ap (λ (z : ℤ). c.args.weight_a *ℤ z) a in
    let second_is = ap (λ (z : ℤ). c.args.weight_b *ℤ z) b in
    omega (arith, fitting)
