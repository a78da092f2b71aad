use Rattle.std.proofs.Common.{◌≡◌, ◌^◌, ◌-ℤ◌, ℤ, arith}
use mir.Syntax.{w128}
use Rattle.mvt_plane.specs.Bound.{IsWithin}
use Rattle.mvt_plane.proofs.Points.Bounds.{fitting, IsMultiplied, multiplied, equal_products}
use Rattle.mvt_plane.proofs.geometry.edge.is_along.Goals as goal

-- a step times an offset fits
scaled : (step offset : ℤ) → IsWithin (2 ^ 31) step → IsWithin (2 ^ 94) offset → IsMultiplied w128 (2 ^ 125) step offset
scaled step offset small large = multiplied w128 (2 ^ 31) (2 ^ 94) step offset small large (omega arith) (omega arith) (omega arith)

pub overflow_mul-result : goal.overflow_mul-result
overflow_mul-result c = (scaled c.from.result c.args.y (omega (arith, fitting)) c.requires.y).fits

pub overflow_mul-result-2 : goal.overflow_mul-result-2
overflow_mul-result-2 c = (scaled c.from-2.result c.args.x (omega (arith, fitting)) c.requires.x).fits

pub returns : goal.returns
returns c =
    let run : c.from.result ≡ c.args.b.x -ℤ c.args.a.x = omega (arith, fitting) in
    let rise : c.from-2.result ≡ c.args.b.y -ℤ c.args.a.y = omega (arith, fitting) in
    let left = scaled c.from.result c.args.y (omega (arith, fitting)) c.requires.y in
    let right = scaled c.from-2.result c.args.x (omega (arith, fitting)) c.requires.x in
    rw (← run, ← rise) (equal_products w128 (2 ^ 125) (2 ^ 125) c.from.result c.args.y c.from-2.result c.args.x left right)
