-- Edges whose bounds are apart: they have no point in common.
use Rattle.std.proofs.Common.{inl, inr, ℤ, pos, ◌*ℤ◌, ◌≤ℤ◌, ◌<ℤ◌, arith}
use Rattle.mvt_plane.proofs.Orders.Order.{zs, le_or_lt, mono_le_right, mono_lt_right}
use Rattle.mvt_plane.specs.Position.{Position}
use Rattle.mvt_plane.specs.Geometry.RationalPoint.{RationalPoint, LiesOn, IsBetween}
use Rattle.mvt_plane.specs.declared.geometry.edge.Edge.{Edge}
use Rattle.mvt_sweep.specs.Bounds.{IsInBounds, AreBoundsApart}
use Rattle.mvt_sweep.specs.declared.bounds.Bounds.{Bounds}

-- a positive factor of both sides
without_factor : (a b w : ℤ) → pos 1 ≤ℤ w → (a *ℤ w) ≤ℤ (b *ℤ w) → a ≤ℤ b
without_factor a b w positive most = elim (le_or_lt a b) [
  | inl less ↦ less
  | inr more ↦
      let above : pos 0 <ℤ w = omega (arith, zs) in
      let less : (b *ℤ w) <ℤ (a *ℤ w) = mono_lt_right more above in
      absurd (omega (arith, zs))
]

-- a coordinate, times w, is between bounds
record IsSpanned (low high w z : ℤ) : Type 0 where
  from : (low *ℤ w) ≤ℤ z
  to : z ≤ℤ (high *ℤ w)

-- so it is where it is between two coordinates within the bounds
spanned : (low high a b w z : ℤ) → pos 1 ≤ℤ w → low ≤ℤ a → a ≤ℤ high → low ≤ℤ b → b ≤ℤ high → IsBetween (a *ℤ w) (b *ℤ w) z → IsSpanned low high w z
spanned low high a b w z positive low_a a_high low_b b_high between =
    let least : pos 0 ≤ℤ w = omega (arith, zs) in
    let first : (low *ℤ w) ≤ℤ (a *ℤ w) = mono_le_right low_a least in
    let second : (a *ℤ w) ≤ℤ (high *ℤ w) = mono_le_right a_high least in
    let third : (low *ℤ w) ≤ℤ (b *ℤ w) = mono_le_right low_b least in
    let fourth : (b *ℤ w) ≤ℤ (high *ℤ w) = mono_le_right b_high least in
    elim between [
      | inl up ↦ let begun = up.0 in let ended = up.1 in record { from = omega (arith, zs); to = omega (arith, zs) }
      | inr down ↦ let begun = down.0 in let ended = down.1 in record { from = omega (arith, zs); to = omega (arith, zs) }
    ]

-- a whole number between two bounds
record IsIn (low high number : ℤ) : Type 0 where
  from : low ≤ℤ number
  to : number ≤ℤ high

-- where a coordinate is between two bounds and between two others, so is a whole number
common_number : (low high its_low its_high w z : ℤ) → pos 1 ≤ℤ w → IsSpanned low high w z → IsSpanned its_low its_high w z → (number : ℤ) × IsIn low high number × IsIn its_low its_high number
common_number low high its_low its_high w z positive one other =
    let one_from = one.from in
    let one_to = one.to in
    let other_from = other.from in
    let other_to = other.to in
    elim (le_or_lt low its_low) [
      | inl following ↦
          let within : its_low ≤ℤ high = without_factor its_low high w positive (omega (arith, zs)) in
          let own : its_low ≤ℤ its_high = without_factor its_low its_high w positive (omega (arith, zs)) in
          (its_low, record { from = following; to = within }, record { from = omega (arith, zs); to = own })
      | inr before ↦
          let within : low ≤ℤ its_high = without_factor low its_high w positive (omega (arith, zs)) in
          let own : low ≤ℤ high = without_factor low high w positive (omega (arith, zs)) in
          (low, record { from = omega (arith, zs); to = own }, record { from = omega (arith, zs); to = within })
    ]

-- a point of an edge within bounds, by its x and by its y
x_spanned : (bounds : Bounds) (edge : Edge) (point : RationalPoint) → IsInBounds bounds edge.a → IsInBounds bounds edge.b → LiesOn point edge → IsSpanned bounds.left bounds.right point.w point.x
x_spanned bounds edge point from to on = spanned bounds.left bounds.right edge.a.x edge.b.x point.w point.x on.positive from.left from.right to.left to.right on.x_between

-- by its y
y_spanned : (bounds : Bounds) (edge : Edge) (point : RationalPoint) → IsInBounds bounds edge.a → IsInBounds bounds edge.b → LiesOn point edge → IsSpanned bounds.low bounds.high point.w point.y
y_spanned bounds edge point from to on = spanned bounds.low bounds.high edge.a.y edge.b.y point.w point.y on.positive from.low from.high to.low to.high on.y_between

-- edges within bounds that are apart have no point in common
pub no_common_point : (one other : Bounds) (first second : Edge) (point : RationalPoint) → AreBoundsApart one other → IsInBounds one first.a → IsInBounds one first.b → IsInBounds other second.a → IsInBounds other second.b
    → LiesOn point first → ¬ LiesOn point second
no_common_point one other first second point apart first_a first_b second_a second_b on_first on_second =
    let x = common_number one.left one.right other.left other.right point.w point.x on_first.positive (x_spanned one first point first_a first_b on_first) (x_spanned other second point second_a second_b on_second) in
    let y = common_number one.low one.high other.low other.high point.w point.y on_first.positive (y_spanned one first point first_a first_b on_first) (y_spanned other second point second_a second_b on_second) in
    let position : Position = record { x = x.0; y = y.0 } in
    apart position
    (record { left = x.1.from; right = x.1.to; low = y.1.from; high = y.1.to })
    (record { left = x.2.from; right = x.2.to; low = y.2.from; high = y.2.to })
