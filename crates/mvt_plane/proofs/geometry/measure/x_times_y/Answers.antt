use Rattle.std.proofs.Common.{◌≡◌, ◌^◌, ◌*ℤ◌, w64, ◌∙◌, ap₂, arith}
use Rattle.mvt_plane.proofs.Points.Bounds.{fitting, IsMultiplied, multiplied}
use Rattle.mvt_plane.proofs.geometry.measure.x_times_y.Goals as goal

-- the product of the coordinates fits
product : (c : goal.After-from-2) → IsMultiplied w64 (2 ^ 60) c.from.result c.from-2.result
product c = multiplied w64 (2 ^ 30) (2 ^ 30) c.from.result c.from-2.result (omega (arith, fitting)) (omega (arith, fitting)) (omega arith) (omega arith) (omega arith)

pub returns-clause-value : goal.returns-clause-value
returns-clause-value c =
    let x : c.from.result ≡ c.args.a.x = omega (arith, fitting) in
    let y : c.from-2.result ≡ c.args.b.y = omega (arith, fitting) in
    (product c).value ∙ ap₂ ◌*ℤ◌ x y

pub returns-clause-bound : goal.returns-clause-bound
returns-clause-bound c = rw (product c).value (product c).within
