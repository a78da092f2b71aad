-- Edges of which an end is on the other's line have no common point where none of the ends is one.
use Rattle.std.proofs.Common.{◌≡◌, Option, pos, arith}
use Rattle.mvt_plane.specs.Position.{Position}
use Rattle.mvt_plane.specs.Geometry.RationalPoint.{RationalPoint, whole}
use Rattle.mvt_plane.specs.Geometry.CommonPoint.{IsCommon, NoEndIsCommon, cross_product}
use Rattle.mvt_plane.specs.declared.geometry.edge.Edge.{Edge}
use Rattle.mvt_plane.proofs.Points.CrossingLines.{IsOnLine, one_crossing, on_line_by_side}
use Rattle.mvt_plane.proofs.Points.Crossings.{side}
use Rattle.mvt_plane.proofs.Orders.Order.{zs, is_zero}
use Rattle.mvt_plane.proofs.Points.Overlaps.{end_is_common}
use Rattle.mvt_plane.proofs.Points.RationalPoints.{is_common_same, begin_lies_on, end_lies_on}

-- one of the four ends is on the line of the other edge
pub data IsTouching (first second : Edge) : Type 0 where
  first_a : side second first.a ≡ pos 0 → IsTouching first second
  first_b : side second first.b ≡ pos 0 → IsTouching first second
  second_a : side first second.a ≡ pos 0 → IsTouching first second
  second_b : side first second.b ≡ pos 0 → IsTouching first second

-- a position on both lines is the common point
position_is_common : (shared : Option Position) (first second : Edge) (point : RationalPoint) (position : Position) → ¬ (cross_product first second ≡ pos 0)
    → IsCommon shared first second point → IsOnLine (whole position) first → IsOnLine (whole position) second → IsCommon shared first second (whole position)
position_is_common shared first second point position crossed common on_first on_second =
    let same = one_crossing first second point (whole position) crossed common.on_first.on_line common.on_second.on_line on_first on_second in
    is_common_same shared first second point (whole position) same (omega (arith, zs)) common

-- so is the end of the one edge that is on the other's line
end_on_line_is_common : (shared : Option Position) (first second : Edge) (point : RationalPoint) → ¬ (cross_product first second ≡ pos 0)
    → IsTouching first second → IsCommon shared first second point → ¬ NoEndIsCommon shared first second
end_on_line_is_common shared first second point crossed (first_a none) common no_end =
    no_end.first_a (position_is_common shared first second point first.a crossed common (begin_lies_on first).on_line (on_line_by_side second first.a none))
end_on_line_is_common shared first second point crossed (first_b none) common no_end =
    no_end.first_b (position_is_common shared first second point first.b crossed common (end_lies_on first).on_line (on_line_by_side second first.b none))
end_on_line_is_common shared first second point crossed (second_a none) common no_end =
    no_end.second_a (position_is_common shared first second point second.a crossed common (on_line_by_side first second.a none) (begin_lies_on second).on_line)
end_on_line_is_common shared first second point crossed (second_b none) common no_end =
    no_end.second_b (position_is_common shared first second point second.b crossed common (on_line_by_side first second.b none) (end_lies_on second).on_line)

-- no common point where no end is one
pub none_by_ends : (shared : Option Position) (first second : Edge) → IsTouching first second → NoEndIsCommon shared first second
    → (point : RationalPoint) → ¬ IsCommon shared first second point
none_by_ends shared first second touching no_end point common = elim (is_zero (cross_product first second)) [
  | yes parallel ↦ end_is_common shared first second point parallel common no_end
  | no crossed ↦ end_on_line_is_common shared first second point crossed touching common no_end
]
