-- Where two edges have no gap they have a point in common, and the other way round. So edges that meet only at a vertex
-- that they share keep their order up to it.
use Rattle.std.proofs.Common.{◌≡◌, ◌^◌, inl, inr, [], ◌∷◌, ℤ, pos, neg_ℤ, ◌+ℤ◌, ◌-ℤ◌, ◌*ℤ◌, ◌<ℤ◌, ◌≤ℤ◌, Option, Some, sym, ◌∙◌, ap, refl, arith}
use Rattle.std.proofs.Math.IntN.{*ℤ_comm}
use Rattle.std.proofs.lemmas.Int.{ints, by_lt_z}
use Rattle.std.proofs.lemmas.Option.{same_Some}
use Rattle.mvt_plane.specs.Geometry.EdgeOrder.{Segment, segment, IsRising, reach, height, gap, slope, IsAfter, IsBelow}
use Rattle.mvt_plane.specs.Calls.EdgeOrder.{edge_along, IsEndOf, Reaches, MeetOnlyAt, key_at}
use Rattle.mvt_plane.specs.Geometry.Measure.{orientation, key_of}
use Rattle.mvt_plane.specs.Position.{Position}
use Rattle.mvt_plane.specs.Geometry.RationalPoint.{RationalPoint, LiesOn, IsAt, IsBetween, whole}
use Rattle.mvt_plane.proofs.Orders.Gaps.{key_over, key_at_position, reach_positive, gap_of_sum, gap_by_slope, gap_positive_between, height_by_orientation}
use Rattle.mvt_plane.proofs.Points.Lines.{through, upper_bound, lower_bound, between_by_step, between_back, line_back, step_follows}
use Rattle.mvt_plane.proofs.Orders.Order.{zs, le_or_lt, sign_cases, is_zero, neg-mul_ℤ, mul-neg_ℤ, sub-mul_ℤ, mul_pos, mul_nonneg, mul_nonpos_nonneg, mono_le, mono_lt, cancel_eq, cancel_lt, factor_nonneg}
use Rattle.mvt_plane.proofs.Points.Overlaps.{end_lies}
use Rattle.mvt_plane.proofs.Orders.Polynomials.{constant, negated, once, ◌⊕◌, ◌⊖◌, ◌⊗◌, identity, consequence, given}
use Rattle.mvt_plane.proofs.Points.RationalPoints.{times_one}

-- Points of an edge

-- a point on an edge has the height of the edge at its key
pub height_of_point : (it : Segment) (point : RationalPoint) → LiesOn point (edge_along it) → point.y *ℤ reach it ≡ height it (key_at point) point.w
height_of_point it point lies =
    consequence (it.low.x ∷ it.low.y ∷ it.high.x ∷ it.high.y ∷ point.x ∷ point.y ∷ point.w ∷ [])
    (λ LX LY HX HY X Y W. let low = key_over LX LY in let reach = key_over HX HY ⊖ low in (
      Y ⊗ reach,
      LY ⊗ reach ⊗ W ⊕ (key_over X Y ⊖ low ⊗ W) ⊗ (HY ⊖ LY),
      through (constant (pos (2 ^ 32))) (HX ⊖ LX) (HY ⊖ LY) LX LY X Y W ∷ [],
    )) (lies.on_line, tt) tt

-- how far a point is from the first end, in one coordinate, has the sign of how far the other end is
step_has_sign : (a b w z : ℤ) → pos 1 ≤ℤ w → IsBetween (a *ℤ w) (b *ℤ w) z
    → (pos 0 <ℤ (b -ℤ a) → pos 0 ≤ℤ (z -ℤ a *ℤ w)) × ((b -ℤ a) <ℤ pos 0 → (z -ℤ a *ℤ w) ≤ℤ pos 0)
step_has_sign a b w z positive (inl (low, high)) =
    (λ rises. omega (arith, zs), λ falls. omega (arith, zs, mul_nonpos_nonneg {a = b -ℤ a} {b = w} (omega (arith, zs)) (omega (arith, zs)), sub-mul_ℤ b a w))
step_has_sign a b w z positive (inr (low, high)) =
    (λ rises. omega (arith, zs, mul_nonneg {a = b -ℤ a} {b = w} (omega (arith, zs)) (omega (arith, zs)), sub-mul_ℤ b a w), λ falls. omega (arith, zs))

-- where t is to the reach as s is to u, and s has the sign of u, t isn't negative
share_nonneg : (u s reach t : ℤ) → pos 0 <ℤ reach → u *ℤ t ≡ reach *ℤ s
    → (pos 0 <ℤ u → pos 0 ≤ℤ s) → (u <ℤ pos 0 → s ≤ℤ pos 0) → ¬ (u ≡ pos 0) → pos 0 ≤ℤ t
share_nonneg u s reach t positive same rises falls apart = elim (sign_cases u) [
  | inl sign ↦
      let product = mul_nonneg {a = reach} {b = neg_ℤ s} (omega (arith, zs)) (omega (arith, zs, falls sign)) in
      factor_nonneg (neg_ℤ u) t (omega (arith, zs)) (omega (arith, zs, mul-neg_ℤ reach s, neg-mul_ℤ u t))
  | inr (inl none) ↦ absurd (apart none)
  | inr (inr sign) ↦ factor_nonneg u t sign (omega (arith, zs, mul_nonneg {a = reach} {b = s} (omega (arith, zs)) (rises sign)))
]

-- a step along a rising edge goes to keys that aren't less
key_rises : (u v s t : ℤ) → pos 0 <ℤ (u *ℤ pos (2 ^ 32) +ℤ v) → u *ℤ t ≡ v *ℤ s → (pos 0 <ℤ u → pos 0 ≤ℤ s) → (u <ℤ pos 0 → s ≤ℤ pos 0)
    → (pos 0 <ℤ v → pos 0 ≤ℤ t) → (v <ℤ pos 0 → t ≤ℤ pos 0) → pos 0 ≤ℤ (s *ℤ pos (2 ^ 32) +ℤ t)
key_rises u v s t rising on_line s_rises s_falls t_rises t_falls =
    let all = u ∷ v ∷ s ∷ t ∷ [] in
    let by_x = consequence all (λ U V S D. (U ⊗ key_over S D, key_over U V ⊗ S, given once (U ⊗ D) (V ⊗ S) ∷ [])) (on_line, tt) tt in
    let by_y = consequence all (λ U V S D. (V ⊗ key_over S D, key_over U V ⊗ D, given (negated (constant (pos (2 ^ 32)))) (U ⊗ D) (V ⊗ S) ∷ [])) (on_line, tt) tt in
    elim (is_zero u) [
      | yes none ↦ elim (is_zero v) [ yes level ↦ absurd (omega (arith, ints)) | no apart ↦ share_nonneg v t _ _ rising by_y t_rises t_falls apart ]
      | no apart ↦ share_nonneg u s _ _ rising by_x s_rises s_falls apart
    ]

-- from the lesser end of an edge
begun_by : (a b c d x y w : ℤ) → pos 1 ≤ℤ w → (a *ℤ pos (2 ^ 32) +ℤ b) <ℤ (c *ℤ pos (2 ^ 32) +ℤ d) → (c -ℤ a) *ℤ (y -ℤ b *ℤ w) ≡ (d -ℤ b) *ℤ (x -ℤ a *ℤ w)
    → IsBetween (a *ℤ w) (c *ℤ w) x → IsBetween (b *ℤ w) (d *ℤ w) y → ((a *ℤ pos (2 ^ 32) +ℤ b) *ℤ w) ≤ℤ (x *ℤ pos (2 ^ 32) +ℤ y)
begun_by a b c d x y w positive rising on_line x_between y_between =
    let reach = identity (a ∷ b ∷ c ∷ d ∷ []) (λ A B C D. (key_over (C ⊖ A) (D ⊖ B), key_over C D ⊖ key_over A B)) tt in
    let rest = identity (a ∷ b ∷ x ∷ y ∷ w ∷ []) (λ A B X Y W. (key_over (X ⊖ A ⊗ W) (Y ⊖ B ⊗ W), key_over X Y ⊖ key_over A B ⊗ W)) tt in
    let s = step_has_sign a c w x positive x_between in
    let t = step_has_sign b d w y positive y_between in
    let risen = key_rises (c -ℤ a) (d -ℤ b) (x -ℤ a *ℤ w) (y -ℤ b *ℤ w) (omega (arith, zs, reach)) on_line s.0 s.1 t.0 t.1 in
    omega (arith, zs, rest, risen)

-- and to the greater one
lasts_by : (a b c d x y w : ℤ) → pos 1 ≤ℤ w → (a *ℤ pos (2 ^ 32) +ℤ b) <ℤ (c *ℤ pos (2 ^ 32) +ℤ d) → (c -ℤ a) *ℤ (y -ℤ b *ℤ w) ≡ (d -ℤ b) *ℤ (x -ℤ a *ℤ w)
    → IsBetween (a *ℤ w) (c *ℤ w) x → IsBetween (b *ℤ w) (d *ℤ w) y → (x *ℤ pos (2 ^ 32) +ℤ y) ≤ℤ ((c *ℤ pos (2 ^ 32) +ℤ d) *ℤ w)
lasts_by a b c d x y w positive rising on_line x_between y_between =
    let ends = line_back a b c d x y w on_line in
    let turned = consequence (a ∷ b ∷ c ∷ d ∷ x ∷ y ∷ w ∷ [])
    (λ A B C D X Y W. ((C ⊖ A) ⊗ (D ⊗ W ⊖ Y), (D ⊖ B) ⊗ (C ⊗ W ⊖ X), through once (A ⊖ C) (B ⊖ D) C D X Y W ∷ [])) (ends, tt) tt in
    let reach = identity (a ∷ b ∷ c ∷ d ∷ []) (λ A B C D. (key_over (C ⊖ A) (D ⊖ B), key_over C D ⊖ key_over A B)) tt in
    let rest = identity (c ∷ d ∷ x ∷ y ∷ w ∷ []) (λ C D X Y W. (key_over (C ⊗ W ⊖ X) (D ⊗ W ⊖ Y), key_over C D ⊗ W ⊖ key_over X Y)) tt in
    let s = step_has_sign c a w x positive (between_back _ _ x x_between) in
    let t = step_has_sign d b w y positive (between_back _ _ y y_between) in
    let risen = key_rises (c -ℤ a) (d -ℤ b) (c *ℤ w -ℤ x) (d *ℤ w -ℤ y) (omega (arith, zs, reach)) turned
    (λ sign. omega (arith, zs, s.1 (omega (arith, zs)))) (λ sign. omega (arith, zs, s.0 (omega (arith, zs))))
    (λ sign. omega (arith, zs, t.1 (omega (arith, zs)))) (λ sign. omega (arith, zs, t.0 (omega (arith, zs)))) in
    omega (arith, zs, rest, risen)

-- and the edge reaches its key
pub reaches_point : (it : Segment) (point : RationalPoint) → IsRising it → LiesOn point (edge_along it) → Reaches (key_at point) point.w it
reaches_point it point rising lies =
    record {
      begun = begun_by it.low.x it.low.y it.high.x it.high.y point.x point.y point.w lies.positive rising lies.on_line lies.x_between lies.y_between;
      lasts = lasts_by it.low.x it.low.y it.high.x it.high.y point.x point.y point.w lies.positive rising lies.on_line lies.x_between lies.y_between;
    }

-- a point of the height of an edge is on its line
line_by_height : (a b c d x y w : ℤ)
    → y *ℤ ((c *ℤ pos (2 ^ 32) +ℤ d) -ℤ (a *ℤ pos (2 ^ 32) +ℤ b))
    ≡ b *ℤ ((c *ℤ pos (2 ^ 32) +ℤ d) -ℤ (a *ℤ pos (2 ^ 32) +ℤ b)) *ℤ w +ℤ ((x *ℤ pos (2 ^ 32) +ℤ y) -ℤ (a *ℤ pos (2 ^ 32) +ℤ b) *ℤ w) *ℤ (d -ℤ b)
    → (c -ℤ a) *ℤ (y -ℤ b *ℤ w) ≡ (d -ℤ b) *ℤ (x -ℤ a *ℤ w)
line_by_height a b c d x y w same =
    cancel_eq (pos (2 ^ 32)) _ _ (omega (arith, zs)) (consequence (a ∷ b ∷ c ∷ d ∷ x ∷ y ∷ w ∷ [])
    (λ A B C D X Y W. let k = constant (pos (2 ^ 32)) in let low = key_over A B in let reach = key_over C D ⊖ low in (
      k ⊗ ((C ⊖ A) ⊗ (Y ⊖ B ⊗ W)),
      k ⊗ ((D ⊖ B) ⊗ (X ⊖ A ⊗ W)),
      given once (Y ⊗ reach) (B ⊗ reach ⊗ W ⊕ (key_over X Y ⊖ low ⊗ W) ⊗ (D ⊖ B)) ∷ [],
    )) (same, tt) tt)

-- what is on an edge's line, between its ends in key, is between them in both coordinates
between_by_key : (a b c d x y w : ℤ) → (a *ℤ pos (2 ^ 32) +ℤ b) <ℤ (c *ℤ pos (2 ^ 32) +ℤ d) → ((a *ℤ pos (2 ^ 32) +ℤ b) *ℤ w) ≤ℤ (x *ℤ pos (2 ^ 32) +ℤ y)
    → (x *ℤ pos (2 ^ 32) +ℤ y) ≤ℤ ((c *ℤ pos (2 ^ 32) +ℤ d) *ℤ w) → (c -ℤ a) *ℤ (y -ℤ b *ℤ w) ≡ (d -ℤ b) *ℤ (x -ℤ a *ℤ w)
    → IsBetween (a *ℤ w) (c *ℤ w) x × IsBetween (b *ℤ w) (d *ℤ w) y
between_by_key a b c d x y w rising begun lasts on_line =
    let all = a ∷ b ∷ c ∷ d ∷ x ∷ y ∷ w ∷ [] in
    let low = a *ℤ pos (2 ^ 32) +ℤ b in
    let high = c *ℤ pos (2 ^ 32) +ℤ d in
    let along_x = consequence all (λ A B C D X Y W. (
      (key_over C D ⊖ key_over A B) ⊗ (X ⊖ A ⊗ W),
      (C ⊖ A) ⊗ (key_over X Y ⊖ key_over A B ⊗ W),
      through (negated once) (C ⊖ A) (D ⊖ B) A B X Y W ∷ [],
    )) (on_line, tt) tt in
    let along_y = consequence all (λ A B C D X Y W. (
      (key_over C D ⊖ key_over A B) ⊗ (Y ⊖ B ⊗ W),
      (D ⊖ B) ⊗ (key_over X Y ⊖ key_over A B ⊗ W),
      through (constant (pos (2 ^ 32))) (C ⊖ A) (D ⊖ B) A B X Y W ∷ [],
    )) (on_line, tt) tt in
    let positive : pos 0 <ℤ (high -ℤ low) = omega (arith, zs) in
    let step : pos 0 ≤ℤ ((x *ℤ pos (2 ^ 32) +ℤ y) -ℤ low *ℤ w) = omega (arith, zs) in
    let short : ((x *ℤ pos (2 ^ 32) +ℤ y) -ℤ low *ℤ w) ≤ℤ ((high -ℤ low) *ℤ w) = omega (arith, zs, sub-mul_ℤ high low w) in (
      between_by_step a c w x (step_follows (high -ℤ low) (c -ℤ a) _ (x -ℤ a *ℤ w) w positive along_x step short),
      between_by_step b d w y (step_follows (high -ℤ low) (d -ℤ b) _ (y -ℤ b *ℤ w) w positive along_y step short),
    )

-- a point of that height, where the edge reaches, is on it
pub point_of_height : (it : Segment) (point : RationalPoint) → IsRising it → pos 1 ≤ℤ point.w → Reaches (key_at point) point.w it
    → point.y *ℤ reach it ≡ height it (key_at point) point.w → LiesOn point (edge_along it)
point_of_height it point rising positive reaches same =
    let on_line = line_by_height it.low.x it.low.y it.high.x it.high.y point.x point.y point.w same in
    let between = between_by_key it.low.x it.low.y it.high.x it.high.y point.x point.y point.w rising reaches.begun reaches.lasts on_line in
    record { positive = positive; on_line = on_line; x_between = between.0; y_between = between.1 }

-- an end of an edge is on it
pub end_lies_on : (it : Segment) (position : Position) → IsEndOf position it → LiesOn (whole position) (edge_along it)
end_lies_on it position end = end_lies (edge_along it) position end

-- Points in common

-- at a common point there is no gap
pub common_has_no_gap : (first second : Segment) (point : RationalPoint) → LiesOn point (edge_along first) → LiesOn point (edge_along second)
    → gap first second (key_at point) point.w ≡ pos 0
common_has_no_gap first second point on_first on_second =
    let key = key_at point in
    consequence (point.y ∷ reach first ∷ reach second ∷ height first key point.w ∷ height second key point.w ∷ [])
    (λ Y R S H J. (
      J ⊗ R ⊖ H ⊗ S,
      constant (pos 0),
      given S (Y ⊗ R) H ∷ given (negated R) (Y ⊗ S) J ∷ [],
    )) (height_of_point first point on_first, (height_of_point second point on_second, tt)) tt

-- the point of an edge at a key
abbrev point_at : Segment → ℤ → ℤ → RationalPoint
point_at it t w = record { x = t *ℤ reach it -ℤ height it t w; y = pos (2 ^ 32) *ℤ height it t w; w = (pos (2 ^ 32) *ℤ reach it) *ℤ w }

-- it is there
key_of_point_at : (it : Segment) (t w : ℤ) → key_at (point_at it t w) ≡ (pos (2 ^ 32) *ℤ reach it) *ℤ t
key_of_point_at it t w =
    identity (t ∷ reach it ∷ height it t w ∷ []) (λ T R H. let k = constant (pos (2 ^ 32)) in ((T ⊗ R ⊖ H) ⊗ k ⊕ k ⊗ H, (k ⊗ R) ⊗ T)) tt

-- a height is linear in both numbers of a key
height_multiple : (it : Segment) (m t w : ℤ) → height it (m *ℤ t) (m *ℤ w) ≡ m *ℤ height it t w
height_multiple it m t w =
    identity (key_of it.low ∷ key_of it.high ∷ it.low.y ∷ it.high.y ∷ m ∷ t ∷ w ∷ [])
    (λ L H A B M T W. (A ⊗ (H ⊖ L) ⊗ (M ⊗ W) ⊕ (M ⊗ T ⊖ L ⊗ (M ⊗ W)) ⊗ (B ⊖ A), M ⊗ (A ⊗ (H ⊖ L) ⊗ W ⊕ (T ⊖ L ⊗ W) ⊗ (B ⊖ A)))) tt

-- an edge reaches a key in other numbers
reaches_multiple : (it : Segment) (m t w key : ℤ) → pos 0 ≤ℤ m → key ≡ m *ℤ t → Reaches t w it → Reaches key (m *ℤ w) it
reaches_multiple it m t w key sign same reaches =
    let moved = λ (end : ℤ). identity (end ∷ m ∷ w ∷ []) (λ E M W. (E ⊗ (M ⊗ W), M ⊗ (E ⊗ W))) tt in
    record {
      begun = omega (arith, zs, moved (key_of it.low), mono_le sign reaches.begun);
      lasts = omega (arith, zs, moved (key_of it.high), mono_le sign reaches.lasts);
    }

-- at a key of an edge, another edge of the same height has the point of the first
point_at_lies_on : (first second : Segment) (t w : ℤ) → IsRising first → IsRising second → pos 1 ≤ℤ w → Reaches t w second
    → height second t w *ℤ reach first ≡ height first t w *ℤ reach second
    → LiesOn (point_at first t w) (edge_along second)
point_at_lies_on first second t w first_rising second_rising positive reaches same =
    let m = pos (2 ^ 32) *ℤ reach first in
    let there = key_of_point_at first t w in
    let scale : pos 0 <ℤ m = mul_pos {a = pos (2 ^ 32)} {b = reach first} (omega (arith, zs)) (reach_positive first first_rising) in
    let above : pos 1 ≤ℤ (m *ℤ w) = omega (arith, zs, mul_pos {a = m} {b = w} scale (omega (arith, zs))) in
    let moved : (pos (2 ^ 32) *ℤ height first t w) *ℤ reach second ≡ m *ℤ height second t w =
    consequence (reach first ∷ reach second ∷ height first t w ∷ height second t w ∷ [])
    (λ F S W TW. let k = constant (pos (2 ^ 32)) in ((k ⊗ W) ⊗ S, (k ⊗ F) ⊗ TW, given (negated k) (TW ⊗ F) (W ⊗ S) ∷ [])) (same, tt) tt in
    let high = moved ∙ sym (height_multiple second m t w) ∙ ap (λ (key : ℤ). height second key (m *ℤ w)) (sym there) in
    point_of_height second (point_at first t w) second_rising above (reaches_multiple second m t w _ (omega (arith, zs)) there reaches) high

-- where two edges reach and have no gap, they have a point in common
pub no_gap_is_common : (first second : Segment) (t w : ℤ) → IsRising first → IsRising second → pos 1 ≤ℤ w → Reaches t w first → Reaches t w second → gap first second t w ≡ pos 0
    → (point : RationalPoint) × LiesOn point (edge_along first) × LiesOn point (edge_along second) × (key_at point *ℤ w ≡ t *ℤ point.w)
no_gap_is_common first second t w first_rising second_rising positive reaches_first reaches_second none =
    let on_first = point_at_lies_on first first t w first_rising first_rising positive reaches_first refl in
    let on_second = point_at_lies_on first second t w first_rising second_rising positive reaches_second (omega (arith, zs)) in
    let m = pos (2 ^ 32) *ℤ reach first in
    let there = ap (λ (key : ℤ). key *ℤ w) (key_of_point_at first t w)
    ∙ identity (m ∷ t ∷ w ∷ []) (λ M T W. ((M ⊗ T) ⊗ W, T ⊗ (M ⊗ W))) tt in
    (point_at first t w, on_first, on_second, there)

-- an edge that reaches two keys reaches those between
reaches_between : (it : Segment) (left right m n : ℤ) → pos 0 ≤ℤ m → pos 0 ≤ℤ n → Reaches left (pos 1) it → Reaches right (pos 1) it
    → Reaches (m *ℤ left +ℤ n *ℤ right) (m *ℤ pos 1 +ℤ n *ℤ pos 1) it
reaches_between it left right m n m_sign n_sign at_left at_right =
    let moved = λ (end : ℤ). identity (end ∷ m ∷ n ∷ []) (λ E M N. (E ⊗ (M ⊗ once ⊕ N ⊗ once), M ⊗ (E ⊗ once) ⊕ N ⊗ (E ⊗ once))) tt in
    record {
      begun = omega (arith, zs, moved (key_of it.low), mono_le m_sign at_left.begun, mono_le n_sign at_right.begun);
      lasts = omega (arith, zs, moved (key_of it.high), mono_le m_sign at_left.lasts, mono_le n_sign at_right.lasts);
    }

-- a key beyond another one is so in other numbers
beyond_same : (left t w key v : ℤ) → pos 1 ≤ℤ w → pos 1 ≤ℤ v → key *ℤ w ≡ t *ℤ v → (left *ℤ w) <ℤ t → (left *ℤ v) <ℤ key
beyond_same left t w key v positive above same beyond =
    by_lt_z (left *ℤ v) key (λ order. order) (λ back. absurd (omega (arith, zs, upper_bound v w left key t above positive same back)))

-- so is one before it
before_same : (right t w key v : ℤ) → pos 1 ≤ℤ w → pos 1 ≤ℤ v → key *ℤ w ≡ t *ℤ v → t <ℤ (right *ℤ w) → key <ℤ (right *ℤ v)
before_same right t w key v positive above same before =
    by_lt_z key (right *ℤ v) (λ order. order) (λ back. absurd (omega (arith, zs, lower_bound v w right key t above positive same back)))

-- a weighted mean of two keys is between them
mean_between : (left right m n : ℤ) → pos 0 <ℤ m → pos 0 <ℤ n → left <ℤ right
    → ((left *ℤ (m *ℤ pos 1 +ℤ n *ℤ pos 1)) <ℤ (m *ℤ left +ℤ n *ℤ right)) × ((m *ℤ left +ℤ n *ℤ right) <ℤ (right *ℤ (m *ℤ pos 1 +ℤ n *ℤ pos 1)))
mean_between left right m n m_sign n_sign order =
    let all = left ∷ right ∷ m ∷ n ∷ [] in
    let low = identity all (λ L R M N. (L ⊗ (M ⊗ once ⊕ N ⊗ once), M ⊗ L ⊕ N ⊗ L)) tt in
    let high = identity all (λ L R M N. (R ⊗ (M ⊗ once ⊕ N ⊗ once), M ⊗ R ⊕ N ⊗ R)) tt in
    (omega (arith, zs, low, mono_lt n_sign order), omega (arith, zs, high, mono_lt m_sign order))

-- where the gap falls from a positive number to one that isn't, they have one between
pub common_where_gap_falls : (first second : Segment) (left right : ℤ) → IsRising first → IsRising second → left <ℤ right → Reaches left (pos 1) first → Reaches left (pos 1) second
    → Reaches right (pos 1) first → Reaches right (pos 1) second → pos 0 <ℤ gap first second left (pos 1) → gap first second right (pos 1) <ℤ pos 0
    → (point : RationalPoint) × LiesOn point (edge_along first) × LiesOn point (edge_along second) × ((left *ℤ point.w) <ℤ key_at point) × (key_at point <ℤ (right *ℤ point.w))
common_where_gap_falls first second left right first_rising second_rising order first_left second_left first_right second_right above below =
    let m = neg_ℤ (gap first second right (pos 1)) in
    let n = gap first second left (pos 1) in
    let t = m *ℤ left +ℤ n *ℤ right in
    let w = m *ℤ pos 1 +ℤ n *ℤ pos 1 in
    let m_sign : pos 0 <ℤ m = omega (arith, zs, below) in
    let positive : pos 1 ≤ℤ w = omega (arith, zs, m_sign, above, times_one m, times_one n) in
    let none = gap_of_sum first second m n left (pos 1) right (pos 1)
    ∙ identity (gap first second right (pos 1) ∷ n ∷ []) (λ P N. (negated P ⊗ N ⊕ N ⊗ P, constant (pos 0))) tt in
    let on_first = reaches_between first left right m n (omega (arith, zs, m_sign)) (omega (arith, zs, above)) first_left first_right in
    let on_second = reaches_between second left right m n (omega (arith, zs, m_sign)) (omega (arith, zs, above)) second_left second_right in
    let common = no_gap_is_common first second t w first_rising second_rising positive on_first on_second none in
    let between = mean_between left right m n m_sign above order in (
      common.0,
      common.1,
      common.2,
      beyond_same left t w (key_at common.0) common.0.w positive common.1.positive common.3 between.0,
      before_same right t w (key_at common.0) common.0.w positive common.1.positive common.3 between.1,
    )

-- Edges that meet only at a shared vertex

-- a key is that of a vertex where a point of the key is the vertex
key_of_vertex : (point : RationalPoint) (vertex : Position) (key : ℤ) → pos 1 ≤ℤ point.w → IsAt point vertex → key_at point *ℤ pos 1 ≡ key *ℤ point.w → key_of vertex ≡ key
key_of_vertex point vertex key positive at same =
    let there : key_of vertex *ℤ point.w ≡ key *ℤ point.w = sym (key_at_position point vertex at) ∙ sym (times_one (key_at point)) ∙ same in
    cancel_eq point.w _ _ (omega (arith, zs)) (*ℤ_comm point.w (key_of vertex) ∙ there ∙ *ℤ_comm key point.w)

-- where they have no gap, the shared vertex is
pub shared_where_no_gap : (shared : Option Position) (first second : Segment) (key : ℤ) → IsRising first → IsRising second → Reaches key (pos 1) first → Reaches key (pos 1) second
    → MeetOnlyAt shared first second → gap first second key (pos 1) ≡ pos 0 → (vertex : Position) × (shared ≡ Some vertex) × (key_of vertex ≡ key)
shared_where_no_gap shared first second key first_rising second_rising first_reaches second_reaches meet none =
    let common = no_gap_is_common first second key (pos 1) first_rising second_rising (omega (arith, zs)) first_reaches second_reaches none in
    let met = meet common.0 common.1 common.2 in
    (met.0, met.1, key_of_vertex common.0 met.0 key common.1.positive met.2 common.3)

-- a vertex strictly between two keys isn't at or beyond the greater one
vertex_between : (left right key w t : ℤ) → pos 1 ≤ℤ w → t ≡ key *ℤ w → (left *ℤ w) <ℤ t → t <ℤ (right *ℤ w) → (left <ℤ key → right ≤ℤ key) → ⊥
vertex_between left right key w t positive same beyond before apart =
    let low = cancel_lt w left key (omega (arith, zs)) (omega (arith, zs, *ℤ_comm w left, *ℤ_comm w key)) in
    let high = cancel_lt w key right (omega (arith, zs)) (omega (arith, zs, *ℤ_comm w right, *ℤ_comm w key)) in
    omega (arith, zs, apart low, high)

-- right after a key the one is below the other; so it is up to the next key, if the shared vertex isn't strictly
-- between
pub below_up_to : (shared : Option Position) (first second : Segment) (left right : ℤ) → IsRising first → IsRising second → left <ℤ right → Reaches left (pos 1) first
    → Reaches left (pos 1) second → Reaches right (pos 1) first → Reaches right (pos 1) second → MeetOnlyAt shared first second
    → ((vertex : Position) → shared ≡ Some vertex → left <ℤ key_of vertex → right ≤ℤ key_of vertex) → IsAfter left first second → IsBelow left right first second
below_up_to shared first second left right first_rising second_rising order first_left second_left first_right second_right meet apart (inl above) =
    let at_right : pos 0 ≤ℤ gap first second right (pos 1) = by_lt_z (gap first second right (pos 1)) (pos 0)
    (λ below.
    let common = common_where_gap_falls first second left right first_rising second_rising order first_left second_left first_right second_right above below in
    let met = meet common.0 common.1 common.2 in
    absurd (vertex_between left right (key_of met.0) common.0.w (key_at common.0) common.1.positive (key_at_position common.0 met.0 met.2) common.3 common.4 (apart met.0 met.1)))
    (λ at_least. at_least) in
    record { at_left = omega (arith, zs, above); at_right = at_right; apart = omega (arith, zs, above, at_right) }
below_up_to shared first second left right first_rising second_rising order first_left second_left first_right second_right meet apart (inr (none, rises)) =
    let grown = gap_by_slope first second left right in
    let more = mul_pos {a = right -ℤ left} {b = slope first second} (omega (arith, zs)) rises in
    let above : pos 0 <ℤ gap first second right (pos 1) = omega (arith, zs, grown, more, none) in
    record { at_left = omega (arith, zs, none); at_right = omega (arith, zs, above); apart = omega (arith, zs, none, above) }

-- edges of which the one is below the other have no common point at a key strictly between
pub none_common_between : (first second : Segment) (left right : ℤ) (point : RationalPoint) → IsBelow left right first second → LiesOn point (edge_along first)
    → LiesOn point (edge_along second) → (left *ℤ point.w) <ℤ key_at point → (right *ℤ point.w) ≤ℤ key_at point
none_common_between first second left right point below on_first on_second beyond =
    by_lt_z (key_at point) (right *ℤ point.w)
    (λ before. absurd (omega (arith, zs, gap_positive_between first second left right (key_at point) point.w on_first.positive below beyond before, common_has_no_gap first second point on_first on_second)))
    (λ at_least. at_least)

-- an end of no orientation, at a key of an edge, is on it
end_on_other : (low one other : Position) → key_of low <ℤ key_of one → key_of low <ℤ key_of other → key_of one ≤ℤ key_of other → orientation low other one ≡ pos 0
    → LiesOn (whole one) (edge_along (segment low other))
end_on_other low one other one_rises other_rises order none =
    let none_above = height_by_orientation (segment low other) one ∙ ap (λ (z : ℤ). pos (2 ^ 32) *ℤ z) none in
    point_of_height (segment low other) (whole one) other_rises (omega (arith, zs))
    (record { begun = omega (arith, zs, times_one (key_of low)); lasts = omega (arith, zs, times_one (key_of other)) })
    (omega (arith, zs, none_above))

-- the orientation of the other two is the opposite
orientation_back : (a b c : Position) → orientation a c b ≡ neg_ℤ (orientation a b c)
orientation_back a b c =
    identity (a.x ∷ a.y ∷ b.x ∷ b.y ∷ c.x ∷ c.y ∷ [])
    (λ AX AY BX BY CX CY. ((CX ⊖ AX) ⊗ (BY ⊖ AY) ⊖ (CY ⊖ AY) ⊗ (BX ⊖ AX), negated ((BX ⊖ AX) ⊗ (CY ⊖ AY) ⊖ (BY ⊖ AY) ⊗ (CX ⊖ AX)))) tt

-- a position beyond the shared vertex isn't common
not_beyond : (low one : Position) (first second : Segment) → key_of low <ℤ key_of one → MeetOnlyAt (Some low) first second → LiesOn (whole one) (edge_along first)
    → LiesOn (whole one) (edge_along second) → ⊥
not_beyond low one first second rises meet on_first on_second =
    let met = meet (whole one) on_first on_second in
    let there = key_at_position (whole one) met.0 met.2 ∙ times_one (key_of met.0) in
    let same = ap key_of (same_Some low met.0 met.1) in
    omega (arith, zs, there, same, rises)

-- two edges that begin in a shared vertex and meet nowhere else go different ways
pub begin_apart : (low one other : Position) → key_of low <ℤ key_of one → key_of low <ℤ key_of other → MeetOnlyAt (Some low) (segment low one) (segment low other)
    → ¬ (orientation low one other ≡ pos 0)
begin_apart low one other one_rises other_rises meet none = elim (le_or_lt (key_of one) (key_of other)) [
  | inl order ↦
      let turned = orientation_back low one other ∙ ap neg_ℤ none in
      not_beyond low one (segment low one) (segment low other) one_rises meet (end_lies_on (segment low one) one (inr refl)) (end_on_other low one other one_rises other_rises order turned)
  | inr order ↦
      not_beyond low other (segment low one) (segment low other) other_rises meet (end_on_other low other one other_rises one_rises (omega (arith, zs, order)) none)
      (end_lies_on (segment low other) other (inr refl))
]
