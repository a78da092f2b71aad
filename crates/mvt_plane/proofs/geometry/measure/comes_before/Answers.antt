use Rattle.std.proofs.Common.{◌≡◌, ◌+◌, ◌^◌, ◌+ℤ◌, ◌*ℤ◌, ℤ, pos, to_z, of_z, w64, ap, ◌∙◌, arith}
use Rattle.std.proofs.lemmas.Int.{ints, to_z-of_z, by_lt_z}
use Rattle.std.specs.Int.Signed.{lt_z}
use Rattle.mvt_plane.specs.Geometry.Measure.{key_of}
use Rattle.mvt_plane.specs.Bound.{IsWithin}
use Rattle.mvt_plane.proofs.Points.Bounds.{within_fits}
use Rattle.mvt_plane.proofs.geometry.measure.comes_before.Goals as goal

-- a step goes up the order of keys exactly where its weighed sum is positive
weighed : (x y one other : ℤ) → IsWithin (2 ^ 31) x → IsWithin (2 ^ 31) y → one +ℤ (x *ℤ pos (2 ^ 32) +ℤ y) ≡ other
    → lt_z (pos 0) (x *ℤ pos 2147483649 +ℤ y) ≡ lt_z one other
weighed x y one other along_x along_y reached = by_lt_z one other (λ less. grind (arith, ints)) (λ not_less. grind (arith, ints))

-- the sum fits
computed : (x y : ℤ) → IsWithin (2 ^ 31) x → IsWithin (2 ^ 31) y
    → to_z w64 (of_z w64 (to_z w64 (of_z w64 (to_z w64 (of_z w64 x) *ℤ pos 2147483649)) +ℤ to_z w64 (of_z w64 y))) ≡ x *ℤ pos 2147483649 +ℤ y
computed x y along_x along_y =
    let x_fits = within_fits w64 (2 ^ 31) x along_x (omega arith) in
    let y_fits = within_fits w64 (2 ^ 31) y along_y (omega arith) in
    let product_fits = within_fits w64 (2 ^ 62 + 2 ^ 31) (x *ℤ pos 2147483649) (omega (arith, ints), omega (arith, ints)) (omega arith) in
    let sum_fits = within_fits w64 (2 ^ 62 + 2 ^ 32) (x *ℤ pos 2147483649 +ℤ y) (omega (arith, ints), omega (arith, ints)) (omega arith) in
    simp to_z-of_z

pub returns : goal.returns
returns c =
    let x = c.x_step in
    let y = c.y_step in
    ap (lt_z (pos 0)) (computed x.result y.result x.ensures.bound y.ensures.bound)
    ∙ weighed x.result y.result (key_of c.args.one) (key_of c.args.other) x.ensures.bound y.ensures.bound (omega (arith, ints, x.ensures.value, y.ensures.value))
