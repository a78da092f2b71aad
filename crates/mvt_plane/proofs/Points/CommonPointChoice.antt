-- How the common point of two edges is named, step by step.
use Rattle.std.proofs.Common.{◌≡◌, ◌↔◌, inl, inr, Bool, true, false, IsTrue, Option, Ordering, is_eq, ℤ, pos, ◌-ℤ◌, ◌<ℤ◌, int_cmp, refl, ◌∙◌, arith}
use Rattle.std.specs.Ordering.{MatchOrdering}
use Rattle.std.specs.declared.cmp.Ordering.TheVariants.{Less, Equal, Greater}
use Rattle.std.proofs.lemmas.Cmp.{int_ranked}
use Rattle.mvt_plane.specs.Geometry.CommonPoint.{IsCommon, NoEndIsCommon, cross_product}
use Rattle.mvt_plane.specs.Calls.Measure.{AreOpposite}
use Rattle.mvt_plane.specs.Position.{Position}
use Rattle.mvt_plane.specs.Geometry.RationalPoint.{RationalPoint, LiesOn, whole}
use Rattle.mvt_plane.specs.declared.geometry.edge.Edge.{Edge}
use Rattle.mvt_plane.proofs.Points.CrossingLines.{one_crossing, side_by_line}
use Rattle.mvt_plane.proofs.Points.Crossings.{side, cross_by_sides, apart_over, apart_under}
use Rattle.mvt_plane.proofs.Orders.Order.{zs}
use Rattle.mvt_plane.proofs.Points.RationalPoints.{IsSame, is_at_same, begin_lies_on, end_lies_on}
use Rattle.mvt_plane.proofs.Orders.Sides.{IsApart}

-- ---- ends on one side

-- no point is on both edges where the first one's ends are on one side of the second
pub apart_by_sides : (first second : Edge) (a b : Ordering) → a ≡ int_cmp (side second first.a) (pos 0) → b ≡ int_cmp (side second first.b) (pos 0) → a ≡ b → ¬ (a ≡ Equal)
    → (point : RationalPoint) → LiesOn point first → LiesOn point second → ⊥
apart_by_sides first second a b a_is b_is same apart point on_first on_second =
    by_case a (int_ranked (side second first.a) (pos 0) a a_is) (int_ranked (side second first.b) (pos 0) a (same ∙ b_is)) apart
  where
    by_case : (r : Ordering) → MatchOrdering r (side second first.a <ℤ pos 0) (side second first.a ≡ pos 0) (pos 0 <ℤ side second first.a)
        → MatchOrdering r (side second first.b <ℤ pos 0) (side second first.b ≡ pos 0) (pos 0 <ℤ side second first.b) → ¬ (r ≡ Equal) → ⊥
    by_case Less a_under b_under apart = apart_under first second a_under b_under point on_first on_second
    by_case Equal a_on b_on apart = apart refl
    by_case Greater a_over b_over apart = apart_over first second a_over b_over point on_first on_second

-- else, with none of them on the line, they are on different sides
pub opposite_by_sides : (x y : ℤ) (a b : Ordering) → a ≡ int_cmp x (pos 0) → b ≡ int_cmp y (pos 0) → is_eq a ≡ false → is_eq b ≡ false → ¬ ((a ≡ b) × ¬ (a ≡ Equal)) → AreOpposite x y
opposite_by_sides x y a b a_is b_is a_off b_off differ = by_case a b (int_ranked x (pos 0) a a_is) (int_ranked y (pos 0) b b_is) a_off b_off differ
  where
    by_case : (r s : Ordering) → MatchOrdering r (x <ℤ pos 0) (x ≡ pos 0) (pos 0 <ℤ x) → MatchOrdering s (y <ℤ pos 0) (y ≡ pos 0) (pos 0 <ℤ y)
        → is_eq r ≡ false → is_eq s ≡ false → ¬ ((r ≡ s) × ¬ (r ≡ Equal)) → AreOpposite x y
    by_case Less Less x_is y_is r_off s_off differ = absurd (differ (refl, λ same. cc))
    by_case Less Greater x_is y_is r_off s_off differ = inr (x_is, y_is)
    by_case Greater Less x_is y_is r_off s_off differ = inl (x_is, y_is)
    by_case Greater Greater x_is y_is r_off s_off differ = absurd (differ (refl, λ same. cc))
    by_case r s x_is y_is r_off s_off differ = absurd (cc)

-- ---- ends that are common points

-- what a test says of an end of the one edge: whether it touches the other
abbrev pub Decides : Bool → Option Position → Position → Edge → Type 0
Decides found shared end edge = IsTrue found ↔ (LiesOn (whole end) edge × IsApart shared (whole end))

module _ (shared : Option Position) (first second : Edge) (found : Bool) where
  -- an end of the first edge that touches
  pub common_by_first_a : Decides found shared first.a second → found ≡ true → IsCommon shared first second (whole first.a)
  common_by_first_a decides yes_found = let both = decides.0 yes_found in record { on_first = begin_lies_on first; on_second = both.0; apart = both.1 }

  pub common_by_first_b : Decides found shared first.b second → found ≡ true → IsCommon shared first second (whole first.b)
  common_by_first_b decides yes_found = let both = decides.0 yes_found in record { on_first = end_lies_on first; on_second = both.0; apart = both.1 }

  -- an end of the second one
  pub common_by_second_a : Decides found shared second.a first → found ≡ true → IsCommon shared first second (whole second.a)
  common_by_second_a decides yes_found = let both = decides.0 yes_found in record { on_first = both.0; on_second = begin_lies_on second; apart = both.1 }

  pub common_by_second_b : Decides found shared second.b first → found ≡ true → IsCommon shared first second (whole second.b)
  common_by_second_b decides yes_found = let both = decides.0 yes_found in record { on_first = both.0; on_second = end_lies_on second; apart = both.1 }

  -- one that doesn't touch
  pub first_not_common : (end : Position) → Decides found shared end second → found ≡ false → ¬ IsCommon shared first second (whole end)
  first_not_common end decides missed common = let one = decides.1 (common.on_second, common.apart) in cc

  pub second_not_common : (end : Position) → Decides found shared end first → found ≡ false → ¬ IsCommon shared first second (whole end)
  second_not_common end decides missed common = let one = decides.1 (common.on_first, common.apart) in cc

-- ---- the crossing

-- none of the ends is common where all are beside the other edge's line
pub no_end_beside : (shared : Option Position) (first second : Edge) → AreOpposite (side second first.a) (side second first.b) → AreOpposite (side first second.a) (side first second.b) → NoEndIsCommon shared first second
no_end_beside shared first second opposite other = record {
  first_a = λ common. beside (side second first.a) (side second first.b) opposite (side_by_line second first.a common.on_second.on_line);
  first_b = λ common. beside_too (side second first.a) (side second first.b) opposite (side_by_line second first.b common.on_second.on_line);
  second_a = λ common. beside (side first second.a) (side first second.b) other (side_by_line first second.a common.on_first.on_line);
  second_b = λ common. beside_too (side first second.a) (side first second.b) other (side_by_line first second.b common.on_first.on_line);
}
  where
    beside : (x y : ℤ) → AreOpposite x y → ¬ (x ≡ pos 0)
    beside x y opposite zero = omega (arith, zs)

    beside_too : (x y : ℤ) → AreOpposite x y → ¬ (y ≡ pos 0)
    beside_too x y opposite zero = omega (arith, zs)

-- edges that cross aren't parallel
not_parallel : (first second : Edge) → AreOpposite (side second first.a) (side second first.b) → ¬ (cross_product first second ≡ pos 0)
not_parallel first second opposite parallel = apart (side second first.a) (side second first.b) (cross_product first second) opposite (cross_by_sides first second) parallel
  where
    apart : (x y cross : ℤ) → AreOpposite x y → cross ≡ x -ℤ y → ¬ (cross ≡ pos 0)
    apart x y cross opposite difference zero = omega (arith, zs)

-- no point is common where the crossing is the shared vertex
pub none_by_shared : (shared : Option Position) (first second : Edge) (point : RationalPoint) → AreOpposite (side second first.a) (side second first.b)
    → LiesOn point first → LiesOn point second → ¬ IsApart shared point → (other : RationalPoint) → ¬ IsCommon shared first second other
none_by_shared shared first second point opposite on_first on_second at other common =
    at (λ vertex there here. common.apart vertex there (is_at_same point other vertex same on_first.positive here))
  where
    same : IsSame point other
    same = one_crossing first second point other (not_parallel first second opposite) on_first.on_line on_second.on_line common.on_first.on_line common.on_second.on_line
