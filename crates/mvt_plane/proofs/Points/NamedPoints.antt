-- The point that is named for two edges is the only one, and in range.
use Rattle.std.proofs.Common.{◌≡◌, ℕ, ◌^◌, inl, inr, Option, Some, None, ℤ, pos, ◌*ℤ◌, ◌≤ℤ◌, sym, ◌∙◌, ap, ap₂, subst, arith}
use Rattle.std.proofs.Math.IntN.{*ℤ_comm, nat_abs}
use Rattle.std.proofs.lemmas.Int.{ints}
use Rattle.std.proofs.lemmas.Option.{none-some, same_Some}
use Rattle.mvt_plane.specs.Bound.{IsWithin}
use Rattle.mvt_plane.specs.Geometry.CommonPoint.{IsCommon, IsNamed, NoEndIsCommon, cross_product, none, first_a, first_b, second_a, second_b, crossing}
use Rattle.mvt_plane.specs.Position.{Position, IsPosition}
use Rattle.mvt_plane.specs.Geometry.RationalPoint.{RationalPoint, LiesOn, IsBetween, IsBounded, whole}
use Rattle.mvt_plane.specs.declared.geometry.edge.Edge.{Edge}
use Rattle.mvt_plane.proofs.Points.Bounds.{product_within, difference_within}
use Rattle.mvt_plane.proofs.Points.CrossingLines.{one_crossing}
use Rattle.mvt_plane.proofs.Orders.Order.{zs, cancel_eq}
use Rattle.mvt_plane.proofs.Points.RationalPoints.{IsSame}

-- ---- one point

-- the same three numbers
pub same_triple : {x x' y y' w w' : ℤ} → x ≡ x' → y ≡ y' → w ≡ w' → ◌≡◌ {A = RationalPoint} (record { x = x; y = y; w = w }) (record { x = x'; y = y'; w = w' })
same_triple {x} {x'} {y} {y'} {w} {w'} first second third =
    ap (λ (n : ℤ). record { x = n; y = y; w = w }) first ∙ ap₂ (λ (m n : ℤ). record { x = x'; y = m; w = n }) second third

-- one rational point, with the same w, has the same numbers
same_numbers : (point other : RationalPoint) → pos 1 ≤ℤ point.w → point.w ≡ other.w → IsSame point other → point ≡ other
same_numbers point other positive w same =
    let x = along point.x point.w other.x other.w positive w same.x in
    let y = along point.y point.w other.y other.w positive w same.y in
    same_triple x y w
  where
    along : (z w z' w' : ℤ) → pos 1 ≤ℤ w → w ≡ w' → z *ℤ w' ≡ z' *ℤ w → z ≡ z'
    along z w z' w' positive same_w same = cancel_eq w z z' (omega (arith, zs)) (*ℤ_comm w z ∙ ap (λ (n : ℤ). z *ℤ n) same_w ∙ same ∙ *ℤ_comm z' w)

-- the size of a number that is at least 1 isn't that of 0
size_apart : (w z : ℤ) → pos 1 ≤ℤ w → w ≡ pos (nat_abs z) → ¬ (z ≡ pos 0)
size_apart w z positive size zero = omega (arith, ints)

module _ (shared : Option Position) (first second : Edge) where
  -- the beginning of the first edge is named where it is common
  by_first_a : (answer : Option RationalPoint) → IsCommon shared first second (whole first.a) → IsNamed shared first second answer → answer ≡ Some (whole first.a)
  by_first_a answer common (none same apart) = absurd (apart (whole first.a) common)
  by_first_a answer common (first_a same here) = same
  by_first_a answer common (first_b same here a) = absurd (a common)
  by_first_a answer common (second_a same here a b) = absurd (a common)
  by_first_a answer common (second_b same here a b c) = absurd (a common)
  by_first_a answer common (crossing point same ends here w) = absurd (ends.first_a common)

  -- else its end
  by_first_b : (answer : Option RationalPoint) → ¬ IsCommon shared first second (whole first.a) → IsCommon shared first second (whole first.b)
      → IsNamed shared first second answer → answer ≡ Some (whole first.b)
  by_first_b answer apart common (none same none_common) = absurd (none_common (whole first.b) common)
  by_first_b answer apart common (first_a same here) = absurd (apart here)
  by_first_b answer apart common (first_b same here a) = same
  by_first_b answer apart common (second_a same here a b) = absurd (b common)
  by_first_b answer apart common (second_b same here a b c) = absurd (b common)
  by_first_b answer apart common (crossing point same ends here w) = absurd (ends.first_b common)

  -- else the beginning of the second edge
  by_second_a : (answer : Option RationalPoint) → ¬ IsCommon shared first second (whole first.a) → ¬ IsCommon shared first second (whole first.b)
      → IsCommon shared first second (whole second.a) → IsNamed shared first second answer → answer ≡ Some (whole second.a)
  by_second_a answer a' b' common (none same none_common) = absurd (none_common (whole second.a) common)
  by_second_a answer a' b' common (first_a same here) = absurd (a' here)
  by_second_a answer a' b' common (first_b same here a) = absurd (b' here)
  by_second_a answer a' b' common (second_a same here a b) = same
  by_second_a answer a' b' common (second_b same here a b c) = absurd (c common)
  by_second_a answer a' b' common (crossing point same ends here w) = absurd (ends.second_a common)

  -- else its end
  by_second_b : (answer : Option RationalPoint) → ¬ IsCommon shared first second (whole first.a) → ¬ IsCommon shared first second (whole first.b)
      → ¬ IsCommon shared first second (whole second.a) → IsCommon shared first second (whole second.b)
      → IsNamed shared first second answer → answer ≡ Some (whole second.b)
  by_second_b answer a' b' c' common (none same none_common) = absurd (none_common (whole second.b) common)
  by_second_b answer a' b' c' common (first_a same here) = absurd (a' here)
  by_second_b answer a' b' c' common (first_b same here a) = absurd (b' here)
  by_second_b answer a' b' c' common (second_a same here a b) = absurd (c' here)
  by_second_b answer a' b' c' common (second_b same here a b c) = same
  by_second_b answer a' b' c' common (crossing point same ends here w) = absurd (ends.second_b common)

  -- none where there is no common point
  by_none : (answer : Option RationalPoint) → ((point : RationalPoint) → ¬ IsCommon shared first second point) → IsNamed shared first second answer → answer ≡ None
  by_none answer apart (none same none_common) = same
  by_none answer apart (first_a same here) = absurd (apart _ here)
  by_none answer apart (first_b same here a) = absurd (apart _ here)
  by_none answer apart (second_a same here a b) = absurd (apart _ here)
  by_none answer apart (second_b same here a b c) = absurd (apart _ here)
  by_none answer apart (crossing point same ends here w) = absurd (apart point here)

  -- two crossings of one w have the same numbers
  one_of_size : (point other : RationalPoint) → IsCommon shared first second point → IsCommon shared first second other
      → point.w ≡ pos (nat_abs (cross_product first second)) → other.w ≡ pos (nat_abs (cross_product first second)) → point ≡ other
  one_of_size point other here there w w' =
      let crossed = size_apart point.w (cross_product first second) here.on_first.positive w in
      same_numbers point other here.on_first.positive (w ∙ sym w')
      (one_crossing first second point other crossed here.on_first.on_line here.on_second.on_line there.on_first.on_line there.on_second.on_line)

  -- else the crossing
  by_crossing : (answer : Option RationalPoint) (point : RationalPoint) → NoEndIsCommon shared first second → IsCommon shared first second point
      → point.w ≡ pos (nat_abs (cross_product first second)) → IsNamed shared first second answer → answer ≡ Some point
  by_crossing answer point no_end common w (none same none_common) = absurd (none_common point common)
  by_crossing answer point no_end common w (first_a same here) = absurd (no_end.first_a here)
  by_crossing answer point no_end common w (first_b same here a) = absurd (no_end.first_b here)
  by_crossing answer point no_end common w (second_a same here a b) = absurd (no_end.second_a here)
  by_crossing answer point no_end common w (second_b same here a b c) = absurd (no_end.second_b here)
  by_crossing answer point no_end common w (crossing other same ends here w') = same ∙ ap Some (one_of_size other point here common w' w)

  -- so there is only one
  pub one_named : (answer other : Option RationalPoint) → IsNamed shared first second answer → IsNamed shared first second other → answer ≡ other
  one_named answer other (none same apart) named = same ∙ sym (by_none other apart named)
  one_named answer other (first_a same here) named = same ∙ sym (by_first_a other here named)
  one_named answer other (first_b same here a) named = same ∙ sym (by_first_b other a here named)
  one_named answer other (second_a same here a b) named = same ∙ sym (by_second_a other a b here named)
  one_named answer other (second_b same here a b c) named = same ∙ sym (by_second_b other a b c here named)
  one_named answer other (crossing point same ends here w) named = same ∙ sym (by_crossing other point ends here w named)

-- ---- in range

-- the cross product of edges in range
pub cross_within : (first second : Edge) → IsPosition first.a → IsPosition first.b → IsPosition second.a → IsPosition second.b → IsWithin (2 ^ 63) (cross_product first second)
cross_within first second a b c d =
    let ux = difference_within (2 ^ 30) (2 ^ 30) first.b.x first.a.x b.x a.x in
    let uy = difference_within (2 ^ 30) (2 ^ 30) first.b.y first.a.y b.y a.y in
    let vx = difference_within (2 ^ 30) (2 ^ 30) second.b.x second.a.x d.x c.x in
    let vy = difference_within (2 ^ 30) (2 ^ 30) second.b.y second.a.y d.y c.y in
    difference_within (2 ^ 62) (2 ^ 62) _ _ (product_within (2 ^ 31) (2 ^ 31) _ _ ux vy) (product_within (2 ^ 31) (2 ^ 31) _ _ uy vx)

-- a number of that size
size_within : (n : ℕ) (z : ℤ) → IsWithin n z → pos (nat_abs z) ≤ℤ pos n
size_within n z within = omega (arith, ints)

-- a coordinate between those of positions in range
between_within : (a b w z : ℤ) → IsWithin (2 ^ 30) a → IsWithin (2 ^ 30) b → pos 1 ≤ℤ w → w ≤ℤ pos (2 ^ 63) → IsBetween (a *ℤ w) (b *ℤ w) z → IsWithin (2 ^ 93) z
between_within a b w z a_within b_within positive size between =
    let w_within : IsWithin (2 ^ 63) w = (omega (arith, zs), size) in
    within (a *ℤ w) (b *ℤ w) (product_within (2 ^ 30) (2 ^ 63) a w a_within w_within) (product_within (2 ^ 30) (2 ^ 63) b w b_within w_within) between
  where
    within : (from to : ℤ) → IsWithin (2 ^ 93) from → IsWithin (2 ^ 93) to → IsBetween from to z → IsWithin (2 ^ 93) z
    within from to from_within to_within (inl up) = (omega (arith, zs), omega (arith, zs))
    within from to from_within to_within (inr down) = (omega (arith, zs), omega (arith, zs))

-- a point of an edge in range is in range where its w is
pub bounded_on_edge : (point : RationalPoint) (edge : Edge) → IsPosition edge.a → IsPosition edge.b → point.w ≤ℤ pos (2 ^ 63) → LiesOn point edge → IsBounded point
bounded_on_edge point edge a b size lies = record {
  positive = lies.positive;
  w = size;
  x = between_within edge.a.x edge.b.x point.w point.x a.x b.x lies.positive size lies.x_between;
  y = between_within edge.a.y edge.b.y point.w point.y a.y b.y lies.positive size lies.y_between;
}

-- so is each position in range
bounded_whole : (position : Position) → IsPosition position → IsBounded (whole position)
bounded_whole position within =
    record { positive = omega (arith, zs); w = omega (arith, zs); x = wide position.x within.x; y = wide position.y within.y }
  where
    wide : (z : ℤ) → IsWithin (2 ^ 30) z → IsWithin (2 ^ 93) z
    wide z within = (omega (arith, zs), omega (arith, zs))

-- the point that is named for edges in range is in range
pub named_is_bounded : (shared : Option Position) (first second : Edge) (point : RationalPoint) → IsPosition first.a → IsPosition first.b
    → IsPosition second.a → IsPosition second.b → IsNamed shared first second (Some point) → IsBounded point
named_is_bounded shared first second point a b c d named = by_name named
  where
    -- the same point
    here : (other : RationalPoint) → Some point ≡ Some other → IsBounded other → IsBounded point
    here other same bounded = subst IsBounded (sym (same_Some point other same)) bounded

    by_name : IsNamed shared first second (Some point) → IsBounded point
    by_name (none same apart) = absurd (none-some point (sym same))
    by_name (first_a same common) = here _ same (bounded_whole first.a a)
    by_name (first_b same common a') = here _ same (bounded_whole first.b b)
    by_name (second_a same common a' b') = here _ same (bounded_whole second.a c)
    by_name (second_b same common a' b' c') = here _ same (bounded_whole second.b d)
    by_name (crossing other same ends common w) =
        let size = size_within (2 ^ 63) (cross_product first second) (cross_within first second a b c d) in
        here other same (bounded_on_edge other first a b (subst (λ (n : ℤ). n ≤ℤ pos (2 ^ 63)) (sym w) size) common.on_first)
