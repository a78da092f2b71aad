use Rattle.std.proofs.Common.{◌≡◌, ◌^◌, ◌*ℤ◌, ap, ◌∙◌, arith}
use Rattle.std.proofs.lemmas.Int.{to_z-of_z}
use mir.Syntax.{w32, w128}
use Rattle.mvt_plane.proofs.Points.Bounds.{fitting, IsMultiplied, multiplied}
use Rattle.mvt_confirm.proofs.edge_tests.times_width.Goals as goal

-- the product, as it is computed
product : (c : goal.After-w) → IsMultiplied w128 (2 ^ 93) c.from.result c.w.result
product c =
    let width = c.w.ensures.value in
    let range = c.w.ensures.in_range in
    multiplied w128 (2 ^ 30) (2 ^ 63) c.from.result c.w.result (omega (arith, fitting)) (omega (arith, fitting, range.positive, range.w)) (omega arith) (omega arith) (omega arith)

pub returns : goal.returns
returns c =
    let same : c.from.result ≡ c.args.coordinate = c.from.ensures ∙ to_z-of_z w32 c.args.coordinate c.ranges.coordinate in
    (product c).value ∙ ap (λ z. z *ℤ c.w.result) same ∙ ap (λ z. c.args.coordinate *ℤ z) c.w.ensures.value

pub overflow_mul-result : goal.overflow_mul-result
overflow_mul-result c = (product c).fits
