-- Two edges that have a common point have a named one.
use Rattle.std.proofs.Common.{◌≡◌, ◌⊎◌, inl, inr, Option, Some, refl, ℤ, pos, ◌<ℤ◌}
use Rattle.mvt_plane.specs.Geometry.CommonPoint.{IsCommon, NoEndIsCommon, IsNamed, first_a, first_b, second_a, second_b, crossing, cross_product}
use Rattle.mvt_plane.specs.Calls.Measure.{AreOpposite}
use Rattle.mvt_plane.specs.Position.{Position}
use Rattle.mvt_plane.specs.Geometry.RationalPoint.{RationalPoint, whole}
use Rattle.mvt_plane.specs.declared.geometry.edge.Edge.{Edge}
use Rattle.mvt_plane.proofs.Points.CommonPoints.{IsCommon-decide}
use Rattle.mvt_plane.proofs.Points.CrossingLines.{one_crossing}
use Rattle.mvt_plane.proofs.Points.Crossings.{side, apart_over, apart_under}
use Rattle.mvt_plane.proofs.Points.Means.{crossing_of, crossing_size, crossing_on_first, crossing_on_second}
use Rattle.mvt_plane.proofs.Orders.Order.{sign_cases}
use Rattle.mvt_plane.proofs.Points.Overlaps.{end_is_common}
use Rattle.mvt_plane.proofs.Points.RationalPoints.{is_common_same}
use Rattle.mvt_plane.proofs.Points.TouchingLines as touching

-- two numbers that are neither 0 nor of one sign
opposite_signs : (a b : ℤ) → ¬ (a ≡ pos 0) → ¬ (b ≡ pos 0) → (pos 0 <ℤ a → ¬ (pos 0 <ℤ b)) → (a <ℤ pos 0 → ¬ (b <ℤ pos 0)) → AreOpposite a b
opposite_signs a b a_some b_some not_over not_under = by_sign (sign_cases a) (sign_cases b)
  where
    by_sign : (a <ℤ pos 0) ⊎ ((a ≡ pos 0) ⊎ (pos 0 <ℤ a)) → (b <ℤ pos 0) ⊎ ((b ≡ pos 0) ⊎ (pos 0 <ℤ b)) → AreOpposite a b
    by_sign (inl under) (inl other) = absurd (not_under under other)
    by_sign (inl under) (inr (inl none)) = absurd (b_some none)
    by_sign (inl under) (inr (inr over)) = inr (under, over)
    by_sign (inr (inl none)) other = absurd (a_some none)
    by_sign (inr (inr over)) (inl under) = inl (over, under)
    by_sign (inr (inr over)) (inr (inl none)) = absurd (b_some none)
    by_sign (inr (inr over)) (inr (inr other)) = absurd (not_over over other)

module _ (shared : Option Position) (first second : Edge) (point : RationalPoint) (common : IsCommon shared first second point) (no_end : NoEndIsCommon shared first second) where
  -- where none of the ends is common, the lines aren't parallel
  not_parallel : ¬ (cross_product first second ≡ pos 0)
  not_parallel parallel = end_is_common shared first second point parallel common no_end

  -- the first edge has its ends on both sides of the second
  first_parted : AreOpposite (side second first.a) (side second first.b)
  first_parted = opposite_signs (side second first.a) (side second first.b)
      (λ on. touching.none_by_ends shared first second (touching.first_a on) no_end point common)
      (λ on. touching.none_by_ends shared first second (touching.first_b on) no_end point common)
      (λ a b. apart_over first second a b point common.on_first common.on_second)
      (λ a b. apart_under first second a b point common.on_first common.on_second)

  -- and the second on both sides of the first
  second_parted : AreOpposite (side first second.a) (side first second.b)
  second_parted = opposite_signs (side first second.a) (side first second.b)
      (λ on. touching.none_by_ends shared first second (touching.second_a on) no_end point common)
      (λ on. touching.none_by_ends shared first second (touching.second_b on) no_end point common)
      (λ a b. apart_over second first a b point common.on_second common.on_first)
      (λ a b. apart_under second first a b point common.on_second common.on_first)

  -- so the crossing is common too
  crossing_is_common : IsCommon shared first second (crossing_of first second)
  crossing_is_common =
      let on_first = crossing_on_first first second first_parted in
      let on_second = crossing_on_second first second first_parted second_parted in
      let same = one_crossing first second point (crossing_of first second) not_parallel common.on_first.on_line common.on_second.on_line on_first.on_line on_second.on_line in
      is_common_same shared first second point (crossing_of first second) same on_first.positive common

  -- and it is named
  crossing_is_named : IsNamed shared first second (Some (crossing_of first second))
  crossing_is_named = crossing (crossing_of first second) refl no_end crossing_is_common (crossing_size first second first_parted)

-- the law
pub common_is_named : (shared : Option Position) (first second : Edge) (point : RationalPoint) → IsCommon shared first second point
    → (named : RationalPoint) × IsNamed shared first second (Some named)
common_is_named shared first second point common =
    by_ends (whether (whole first.a)) (whether (whole first.b)) (whether (whole second.a)) (whether (whole second.b))
  where
    whether : (other : RationalPoint) → Dec (IsCommon shared first second other)
    whether other = IsCommon-decide shared first second other

    by_ends : Dec (IsCommon shared first second (whole first.a)) → Dec (IsCommon shared first second (whole first.b))
        → Dec (IsCommon shared first second (whole second.a)) → Dec (IsCommon shared first second (whole second.b))
        → (named : RationalPoint) × IsNamed shared first second (Some named)
    by_ends (yes here) b c d = (whole first.a, first_a refl here)
    by_ends (no a) (yes here) c d = (whole first.b, first_b refl here a)
    by_ends (no a) (no b) (yes here) d = (whole second.a, second_a refl here a b)
    by_ends (no a) (no b) (no c) (yes here) = (whole second.b, second_b refl here a b c)
    by_ends (no a) (no b) (no c) (no d) =
        (crossing_of first second, crossing_is_named shared first second point common (record { first_a = a; first_b = b; second_a = c; second_b = d }))
