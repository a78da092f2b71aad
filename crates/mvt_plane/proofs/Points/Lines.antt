-- Points on lines, as numbers: what follows between an edge's ends, and lines of one direction with a point in common
--
-- A line goes through (a, b) in direction (u, v); the rational point (x, y, w) is on it where
-- u *ℤ (y -ℤ b *ℤ w) ≡ v *ℤ (x -ℤ a *ℤ w).
use Rattle.std.proofs.Common.{◌≡◌, inl, inr, [], ◌∷◌, ℤ, pos, ◌-ℤ◌, ◌*ℤ◌, ◌≤ℤ◌, ◌<ℤ◌, arith}
use Rattle.std.proofs.Math.IntN.{*ℤ_comm}
use Rattle.mvt_plane.specs.Geometry.RationalPoint.{IsBetween}
use Rattle.mvt_plane.proofs.Orders.Order.{zs, le_or_lt, sub-mul_ℤ, mul_nonneg, mul_nonpos_nonneg, mono_le_right, cancel_le, cancel_eq, cancel_apart, factor_nonneg, factor_nonpos}
use Rattle.mvt_plane.proofs.Orders.Polynomials.{Polynomial, Given, constant, negated, once, ◌⊖◌, ◌⊗◌, identity, consequence, given}

-- that equation, over polynomials, times a factor
abbrev pub through : (factor u v a b x y w : Polynomial) → Given
through factor u v a b x y w = given factor (u ⊗ (y ⊖ b ⊗ w)) (v ⊗ (x ⊖ a ⊗ w))

-- ---- another triple of the same rational point

-- a lower bound of a coordinate is one in another triple
pub lower_bound : (w u a x z : ℤ) → pos 1 ≤ℤ w → pos 1 ≤ℤ u → x *ℤ u ≡ z *ℤ w → (a *ℤ w) ≤ℤ x → (a *ℤ u) ≤ℤ z
lower_bound w u a x z positive other same order =
    let scaled = mono_le_right {a = a *ℤ w} {b = x} {c = u} order (omega (arith, zs)) in
    let moved = identity (w ∷ u ∷ a ∷ []) (λ W U A. ((A ⊗ W) ⊗ U, W ⊗ (A ⊗ U))) tt in
    cancel_le w (a *ℤ u) z (omega (arith, zs)) (omega (arith, zs, *ℤ_comm z w))

-- so is an upper bound
pub upper_bound : (w u b x z : ℤ) → pos 1 ≤ℤ w → pos 1 ≤ℤ u → x *ℤ u ≡ z *ℤ w → x ≤ℤ (b *ℤ w) → z ≤ℤ (b *ℤ u)
upper_bound w u b x z positive other same order =
    let scaled = mono_le_right {a = x} {b = b *ℤ w} {c = u} order (omega (arith, zs)) in
    let moved = identity (w ∷ u ∷ b ∷ []) (λ W U B. ((B ⊗ W) ⊗ U, W ⊗ (B ⊗ U))) tt in
    cancel_le w z (b *ℤ u) (omega (arith, zs)) (omega (arith, zs, *ℤ_comm z w))

-- a coordinate between those of two positions is between them in another triple
pub between_same : (w u a b x z : ℤ) → pos 1 ≤ℤ w → pos 1 ≤ℤ u → x *ℤ u ≡ z *ℤ w → IsBetween (a *ℤ w) (b *ℤ w) x → IsBetween (a *ℤ u) (b *ℤ u) z
between_same w u a b x z positive other same (inl rising) = inl (lower_bound w u a x z positive other same rising.0, upper_bound w u b x z positive other same rising.1)
between_same w u a b x z positive other same (inr falling) = inr (lower_bound w u b x z positive other same falling.0, upper_bound w u a x z positive other same falling.1)

-- what is on a line with direction (u, v) through (a, b) is on it in another triple
pub line_same : (u v a b x y w X Y W : ℤ) → pos 1 ≤ℤ w → x *ℤ W ≡ X *ℤ w → y *ℤ W ≡ Y *ℤ w → u *ℤ (y -ℤ b *ℤ w) ≡ v *ℤ (x -ℤ a *ℤ w) → u *ℤ (Y -ℤ b *ℤ W) ≡ v *ℤ (X -ℤ a *ℤ W)
line_same u v a b x y w X Y W positive same_x same_y on_line =
    cancel_eq w _ _ (omega (arith, zs)) (consequence (u ∷ v ∷ a ∷ b ∷ x ∷ y ∷ w ∷ X ∷ Y ∷ W ∷ [])
    (λ U V A B PX PY PW QX QY QW. (
      PW ⊗ (U ⊗ (QY ⊖ B ⊗ QW)),
      PW ⊗ (V ⊗ (QX ⊖ A ⊗ QW)),
      through QW U V A B PX PY PW ∷ given (negated U) (PY ⊗ QW) (QY ⊗ PW) ∷ given V (PX ⊗ QW) (QX ⊗ PW) ∷ [],
    )) (on_line, (same_y, (same_x, tt))) tt)

-- ---- an edge from either end

-- between two numbers is between them in the other order
pub between_back : (from to z : ℤ) → IsBetween from to z → IsBetween to from z
between_back from to z (inl rising) = inr rising
between_back from to z (inr falling) = inl falling

-- a line through (a, b) and (c, d) is one through (c, d) and (a, b)
pub line_back : (a b c d x y w : ℤ) → (c -ℤ a) *ℤ (y -ℤ b *ℤ w) ≡ (d -ℤ b) *ℤ (x -ℤ a *ℤ w) → (a -ℤ c) *ℤ (y -ℤ d *ℤ w) ≡ (b -ℤ d) *ℤ (x -ℤ c *ℤ w)
line_back a b c d x y w on_line =
    consequence (a ∷ b ∷ c ∷ d ∷ x ∷ y ∷ w ∷ [])
    (λ A B C D X Y W. ((A ⊖ C) ⊗ (Y ⊖ D ⊗ W), (B ⊖ D) ⊗ (X ⊖ C ⊗ W), through (negated once) (C ⊖ A) (D ⊖ B) A B X Y W ∷ [])) (on_line, tt) tt

-- ---- between the ends in one coordinate

-- a step (s, t) in direction (u, v) with u > 0 is short in t where it is so in s
pub step_follows : (u v s t w : ℤ) → pos 0 <ℤ u → u *ℤ t ≡ v *ℤ s → pos 0 ≤ℤ s → s ≤ℤ (u *ℤ w) → IsBetween (pos 0) (v *ℤ w) t
step_follows u v s t w sign on_line low high =
    let rest = consequence (u ∷ v ∷ s ∷ t ∷ w ∷ []) (λ U V S D W. (U ⊗ (V ⊗ W ⊖ D), V ⊗ (U ⊗ W ⊖ S), given (negated once) (U ⊗ D) (V ⊗ S) ∷ [])) (on_line, tt) tt in
    let left : pos 0 ≤ℤ (u *ℤ w -ℤ s) = omega (arith, zs) in
    elim (le_or_lt (pos 0) v) [
      | inl rising ↦
          let above = factor_nonneg u t sign (omega (arith, zs, mul_nonneg rising low)) in
          let below = factor_nonneg u (v *ℤ w -ℤ t) sign (omega (arith, zs, mul_nonneg rising left)) in
          inl (omega (arith, zs), omega (arith, zs))
      | inr falling ↦
          let turned : v ≤ℤ pos 0 = omega (arith, zs) in
          let below = factor_nonpos u t sign (omega (arith, zs, mul_nonpos_nonneg turned low)) in
          let above = factor_nonpos u (v *ℤ w -ℤ t) sign (omega (arith, zs, mul_nonpos_nonneg turned left)) in
          inr (omega (arith, zs), omega (arith, zs))
    ]

-- a coordinate between those of an edge's ends, as a step
pub between_by_step : (a b w z : ℤ) → IsBetween (pos 0) ((b -ℤ a) *ℤ w) (z -ℤ a *ℤ w) → IsBetween (a *ℤ w) (b *ℤ w) z
between_by_step a b w z (inl up) = inl (omega (arith, zs, up.0), omega (arith, zs, up.1, sub-mul_ℤ b a w))
between_by_step a b w z (inr down) = inr (omega (arith, zs, down.0, sub-mul_ℤ b a w), omega (arith, zs, down.1))

-- a point between an edge's ends in x, where the edge rises in x, is between them in y
rising_follows : (a b c d x y w : ℤ) → ¬ (c -ℤ a ≡ pos 0) → pos 1 ≤ℤ w → (c -ℤ a) *ℤ (y -ℤ b *ℤ w) ≡ (d -ℤ b) *ℤ (x -ℤ a *ℤ w) → (a *ℤ w) ≤ℤ x → x ≤ℤ (c *ℤ w) → IsBetween (b *ℤ w) (d *ℤ w) y
rising_follows a b c d x y w apart positive on_line low high =
    let order = cancel_le w a c (omega (arith, zs)) (omega (arith, zs, *ℤ_comm a w, *ℤ_comm c w)) in
    between_by_step b d w y (step_follows (c -ℤ a) (d -ℤ b) (x -ℤ a *ℤ w) (y -ℤ b *ℤ w) w (omega (arith, zs)) on_line (omega (arith, zs)) (omega (arith, zs, sub-mul_ℤ c a w)))

-- on an edge that isn't vertical, between the ends in x is between them in y
pub between_follows : (a b c d x y w : ℤ) → ¬ (c -ℤ a ≡ pos 0) → pos 1 ≤ℤ w → (c -ℤ a) *ℤ (y -ℤ b *ℤ w) ≡ (d -ℤ b) *ℤ (x -ℤ a *ℤ w) → IsBetween (a *ℤ w) (c *ℤ w) x → IsBetween (b *ℤ w) (d *ℤ w) y
between_follows a b c d x y w apart positive on_line (inl rising) = rising_follows a b c d x y w apart positive on_line rising.0 rising.1
between_follows a b c d x y w apart positive on_line (inr falling) =
    between_back _ _ y (rising_follows c d a b x y w (λ none. apart (omega (arith, zs))) positive (line_back a b c d x y w on_line) falling.0 falling.1)

-- ---- lines of one direction

-- a point on a line is on that through the same position in a parallel direction
pub turned_line : (u v p q a b x y w : ℤ) → ¬ (u ≡ pos 0) → u *ℤ q -ℤ v *ℤ p ≡ pos 0 → u *ℤ (y -ℤ b *ℤ w) ≡ v *ℤ (x -ℤ a *ℤ w) → p *ℤ (y -ℤ b *ℤ w) ≡ q *ℤ (x -ℤ a *ℤ w)
turned_line u v p q a b x y w apart parallel on_line =
    cancel_apart u _ _ apart (consequence (u ∷ v ∷ p ∷ q ∷ a ∷ b ∷ x ∷ y ∷ w ∷ [])
    (λ U V P Q A B X Y W. let S = X ⊖ A ⊗ W in let D = Y ⊖ B ⊗ W in (
      U ⊗ (P ⊗ D),
      U ⊗ (Q ⊗ S),
      given P (U ⊗ D) (V ⊗ S) ∷ given (negated S) (U ⊗ Q ⊖ V ⊗ P) (constant (pos 0)) ∷ [],
    )) (on_line, (parallel, tt)) tt)

-- two lines of one direction with a point in common: the position of one is on the other
pub position_on_line : (p q a b c d x y w : ℤ) → pos 1 ≤ℤ w → p *ℤ (y -ℤ b *ℤ w) ≡ q *ℤ (x -ℤ a *ℤ w) → p *ℤ (y -ℤ d *ℤ w) ≡ q *ℤ (x -ℤ c *ℤ w) → p *ℤ (b -ℤ d *ℤ pos 1) ≡ q *ℤ (a -ℤ c *ℤ pos 1)
position_on_line p q a b c d x y w positive one other =
    cancel_eq w _ _ (omega (arith, zs)) (consequence (p ∷ q ∷ a ∷ b ∷ c ∷ d ∷ x ∷ y ∷ w ∷ [])
    (λ P Q A B C D X Y W. (
      W ⊗ (P ⊗ (B ⊖ D ⊗ once)),
      W ⊗ (Q ⊗ (A ⊖ C ⊗ once)),
      through once P Q C D X Y W ∷ through (negated once) P Q A B X Y W ∷ [],
    )) (other, (one, tt)) tt)

-- a point and a position on a line that isn't vertical, alike in x, are alike in y
pub same_height : (u v a b c d x y w : ℤ) → ¬ (u ≡ pos 0) → u *ℤ (y -ℤ b *ℤ w) ≡ v *ℤ (x -ℤ a *ℤ w) → u *ℤ (d -ℤ b *ℤ pos 1) ≡ v *ℤ (c -ℤ a *ℤ pos 1) → x ≡ c *ℤ w → y ≡ d *ℤ w
same_height u v a b c d x y w apart point position same =
    cancel_apart u y (d *ℤ w) apart (consequence (u ∷ v ∷ a ∷ b ∷ c ∷ d ∷ x ∷ y ∷ w ∷ []) (λ U V A B C D X Y W. (
      U ⊗ Y,
      U ⊗ (D ⊗ W),
      through once U V A B X Y W ∷ through (negated W) U V A B C D once ∷ given V X (C ⊗ W) ∷ [],
    )) (point, (position, (same, tt))) tt)
