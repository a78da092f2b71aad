-- A point of an edge is between the edge's ends, as a mean of them, with weights that aren't negative. By these weights
-- an edge needs no cases of its direction.
use Rattle.std.proofs.Common.{◌≡◌, ◌⊎◌, inl, inr, [], ◌∷◌, ℤ, pos, ◌+ℤ◌, ◌-ℤ◌, ◌*ℤ◌, ◌≤ℤ◌, ◌<ℤ◌, sym, ap, arith}
use Rattle.mvt_plane.specs.Position.{Position}
use Rattle.mvt_plane.specs.Geometry.RationalPoint.{RationalPoint, LiesOn, IsBetween}
use Rattle.mvt_plane.specs.declared.geometry.edge.Edge.{Edge}
use Rattle.mvt_plane.proofs.Orders.Polynomials.{constant, negated, once, ◌⊕◌, ◌⊖◌, ◌⊗◌, identity, consequence, given}
use Rattle.mvt_plane.proofs.Orders.Order.{zs, le_or_lt, is_zero, sign_cases, mul_nonpos_nonneg, mul_nonneg_nonpos, mul_pos, mul_nonneg, mono_lt_right, factor_nonneg, factor_nonpos, cancel_eq}
use Rattle.mvt_plane.proofs.Points.RationalPoints.{reversed, lies_on_reversed}

-- the point is the mean of the edge's ends with these weights
pub record Weights (point : RationalPoint) (edge : Edge) : Type 0 where
  pub of_a : ℤ
  pub of_b : ℤ
  pub a_sign : pos 0 ≤ℤ of_a
  pub b_sign : pos 0 ≤ℤ of_b
  pub some : pos 0 <ℤ (of_a +ℤ of_b)
  pub x : (of_a +ℤ of_b) *ℤ point.x ≡ (of_a *ℤ edge.a.x +ℤ of_b *ℤ edge.b.x) *ℤ point.w
  pub y : (of_a +ℤ of_b) *ℤ point.y ≡ (of_a *ℤ edge.a.y +ℤ of_b *ℤ edge.b.y) *ℤ point.w

-- ---- the two axes, and the two ends, are alike

-- the axes changed
abbrev pub flipped : Position → Position
flipped p = record { x = p.y; y = p.x }

abbrev pub flipped_edge : Edge → Edge
flipped_edge edge = record { a = flipped edge.a; b = flipped edge.b }

abbrev pub flipped_point : RationalPoint → RationalPoint
flipped_point point = record { x = point.y; y = point.x; w = point.w }

pub flip_lies : (point : RationalPoint) (edge : Edge) → LiesOn point edge → LiesOn (flipped_point point) (flipped_edge edge)
flip_lies point edge lies = record { positive = lies.positive; on_line = sym lies.on_line; x_between = lies.y_between; y_between = lies.x_between }

flip_weights : (point : RationalPoint) (edge : Edge) → Weights (flipped_point point) (flipped_edge edge) → Weights point edge
flip_weights point edge weights = record {
  of_a = weights.of_a;
  of_b = weights.of_b;
  a_sign = weights.a_sign;
  b_sign = weights.b_sign;
  some = weights.some;
  x = weights.y;
  y = weights.x;
}

-- a sum of the weighted ends, from the other end
turn_sum : (m n p q w z : ℤ) → (m +ℤ n) *ℤ z ≡ (m *ℤ p +ℤ n *ℤ q) *ℤ w → (n +ℤ m) *ℤ z ≡ (n *ℤ q +ℤ m *ℤ p) *ℤ w
turn_sum m n p q w z sum =
    consequence (m ∷ n ∷ p ∷ q ∷ w ∷ z ∷ []) (λ M N P Q W Z. ((N ⊕ M) ⊗ Z, (N ⊗ Q ⊕ M ⊗ P) ⊗ W, given once ((M ⊕ N) ⊗ Z) ((M ⊗ P ⊕ N ⊗ Q) ⊗ W) ∷ [])) (sum, tt) tt

turn_weights : (point : RationalPoint) (edge : Edge) → Weights point (reversed edge) → Weights point edge
turn_weights point edge weights = record {
  of_a = weights.of_b;
  of_b = weights.of_a;
  a_sign = weights.b_sign;
  b_sign = weights.a_sign;
  some = let sum = weights.some in omega (arith, zs);
  x = turn_sum weights.of_a weights.of_b edge.b.x edge.a.x point.w point.x weights.x;
  y = turn_sum weights.of_a weights.of_b edge.b.y edge.a.y point.w point.y weights.y;
}

-- ---- a point of an edge has weights

-- on an edge that leads to greater x
weights_rising : (point : RationalPoint) (edge : Edge) → pos 0 <ℤ (edge.b.x -ℤ edge.a.x) → LiesOn point edge → Weights point edge
weights_rising point edge rising lies = between lies.x_between
  where
    there : (edge.a.x *ℤ point.w) ≤ℤ point.x → point.x ≤ℤ (edge.b.x *ℤ point.w) → Weights point edge
    there from to =
        let all = edge.a.x ∷ edge.a.y ∷ edge.b.x ∷ edge.b.y ∷ point.w ∷ point.x ∷ point.y ∷ [] in
        let positive = lies.positive in
        let length : pos 0 <ℤ ((edge.b.x -ℤ edge.a.x) *ℤ point.w) = mul_pos rising (omega (arith, zs)) in
        let total = identity all (λ AX AY BX BY W X Y. ((BX ⊖ AX) ⊗ W, (BX ⊗ W ⊖ X) ⊕ (X ⊖ AX ⊗ W))) tt in
        record {
          of_a = edge.b.x *ℤ point.w -ℤ point.x;
          of_b = point.x -ℤ edge.a.x *ℤ point.w;
          a_sign = omega (arith, zs);
          b_sign = omega (arith, zs);
          some = omega (arith, zs);
          x = identity all (λ AX AY BX BY W X Y. (((BX ⊗ W ⊖ X) ⊕ (X ⊖ AX ⊗ W)) ⊗ X, ((BX ⊗ W ⊖ X) ⊗ AX ⊕ (X ⊖ AX ⊗ W) ⊗ BX) ⊗ W)) tt;
          y = consequence all (λ AX AY BX BY W X Y. (
            ((BX ⊗ W ⊖ X) ⊕ (X ⊖ AX ⊗ W)) ⊗ Y,
            ((BX ⊗ W ⊖ X) ⊗ AY ⊕ (X ⊖ AX ⊗ W) ⊗ BY) ⊗ W,
            given W ((BX ⊖ AX) ⊗ (Y ⊖ AY ⊗ W)) ((BY ⊖ AY) ⊗ (X ⊖ AX ⊗ W)) ∷ [],
          )) (lies.on_line, tt) tt;
        }

    between : IsBetween (edge.a.x *ℤ point.w) (edge.b.x *ℤ point.w) point.x → Weights point edge
    between (inl up) = there up.0 up.1
    between (inr down) =
        let positive = lies.positive in
        let one : edge.a.x <ℤ edge.b.x = omega (arith, zs) in
        let scale : pos 0 <ℤ point.w = omega (arith, zs) in
        absurd (omega (arith, zs, down, mono_lt_right one scale))

-- on an edge that isn't vertical
weights_across : (point : RationalPoint) (edge : Edge) → ¬ (edge.b.x -ℤ edge.a.x ≡ pos 0) → LiesOn point edge → Weights point edge
weights_across point edge across lies = by_sign (sign_cases (edge.b.x -ℤ edge.a.x))
  where
    by_sign : ((edge.b.x -ℤ edge.a.x) <ℤ pos 0) ⊎ ((edge.b.x -ℤ edge.a.x ≡ pos 0) ⊎ (pos 0 <ℤ (edge.b.x -ℤ edge.a.x))) → Weights point edge
    by_sign (inl falling) = turn_weights point edge (weights_rising point (reversed edge) (omega (arith, zs)) (lies_on_reversed point edge lies))
    by_sign (inr (inl none)) = absurd (across none)
    by_sign (inr (inr rising)) = weights_rising point edge rising lies

-- on an edge of no length
weights_nowhere : (point : RationalPoint) (edge : Edge) → edge.b.x -ℤ edge.a.x ≡ pos 0 → edge.b.y -ℤ edge.a.y ≡ pos 0 → LiesOn point edge → Weights point edge
weights_nowhere point edge same_x same_y lies = record {
  of_a = pos 1;
  of_b = pos 0;
  a_sign = omega (arith, zs);
  b_sign = omega (arith, zs);
  some = omega (arith, zs);
  x = at_end edge.a.x edge.b.x point.w point.x same_x lies.x_between;
  y = at_end edge.a.y edge.b.y point.w point.y same_y lies.y_between;
}
  where
    at_end : (a b w z : ℤ) → b -ℤ a ≡ pos 0 → IsBetween (a *ℤ w) (b *ℤ w) z → (pos 1 +ℤ pos 0) *ℤ z ≡ (pos 1 *ℤ a +ℤ pos 0 *ℤ b) *ℤ w
    at_end a b w z none between =
        let same : b ≡ a = omega (arith, zs) in
        let scaled = ap (λ (n : ℤ). n *ℤ w) same in
        let here : z ≡ a *ℤ w = omega (arith, zs, between) in
        consequence (a ∷ b ∷ w ∷ z ∷ [])
        (λ A B W Z. ((once ⊕ constant (pos 0)) ⊗ Z, (once ⊗ A ⊕ constant (pos 0) ⊗ B) ⊗ W, given once Z (A ⊗ W) ∷ [])) (here, tt) tt

-- each point of an edge has them
pub weights_of : (point : RationalPoint) (edge : Edge) → LiesOn point edge → Weights point edge
weights_of point edge lies = by_x (is_zero (edge.b.x -ℤ edge.a.x)) (is_zero (edge.b.y -ℤ edge.a.y))
  where
    by_x : Dec (edge.b.x -ℤ edge.a.x ≡ pos 0) → Dec (edge.b.y -ℤ edge.a.y ≡ pos 0) → Weights point edge
    by_x (no across) y = weights_across point edge across lies
    by_x (yes none) (no across) =
        flip_weights point edge (weights_across (flipped_point point) (flipped_edge edge) across (flip_lies point edge lies))
    by_x (yes none) (yes nowhere) = weights_nowhere point edge none nowhere lies

-- ---- a point with weights is one of the edge

-- a mean is between
mean_between : (m n a b w z : ℤ) → pos 0 ≤ℤ m → pos 0 ≤ℤ n → pos 0 <ℤ (m +ℤ n) → pos 1 ≤ℤ w → (m +ℤ n) *ℤ z ≡ (m *ℤ a +ℤ n *ℤ b) *ℤ w
    → IsBetween (a *ℤ w) (b *ℤ w) z
mean_between m n a b w z m_sign n_sign some positive sum = by_order (le_or_lt a b)
  where
    by_order : (a ≤ℤ b) ⊎ (b <ℤ a) → IsBetween (a *ℤ w) (b *ℤ w) z
    by_order order =
        let all = m ∷ n ∷ a ∷ b ∷ w ∷ z ∷ [] in
        let following = consequence all
        (λ M N A B W Z. let hold = given once ((M ⊕ N) ⊗ Z) ((M ⊗ A ⊕ N ⊗ B) ⊗ W) ∷ [] in ((M ⊕ N) ⊗ (Z ⊖ A ⊗ W), N ⊗ ((B ⊖ A) ⊗ W), hold)) (sum, tt) tt in
        let before = consequence all
        (λ M N A B W Z. ((M ⊕ N) ⊗ (B ⊗ W ⊖ Z), M ⊗ ((B ⊖ A) ⊗ W), given (negated once) ((M ⊕ N) ⊗ Z) ((M ⊗ A ⊕ N ⊗ B) ⊗ W) ∷ [])) (sum, tt) tt in
        let scale : pos 0 ≤ℤ w = omega (arith, zs) in
        elim order [
          | inl rises ↦
              let rise : pos 0 ≤ℤ (b -ℤ a) = omega (arith, zs) in
              let length = mul_nonneg rise scale in
              let low = factor_nonneg (m +ℤ n) (z -ℤ a *ℤ w) some (omega (arith, zs, mul_nonneg n_sign length)) in
              let high = factor_nonneg (m +ℤ n) (b *ℤ w -ℤ z) some (omega (arith, zs, mul_nonneg m_sign length)) in
              inl (omega (arith, zs), omega (arith, zs))
          | inr falls ↦
              let fall : (b -ℤ a) ≤ℤ pos 0 = omega (arith, zs) in
              let length = mul_nonpos_nonneg fall scale in
              let high = factor_nonpos (m +ℤ n) (z -ℤ a *ℤ w) some (omega (arith, zs, mul_nonneg_nonpos n_sign length)) in
              let low = factor_nonpos (m +ℤ n) (b *ℤ w -ℤ z) some (omega (arith, zs, mul_nonneg_nonpos m_sign length)) in
              inr (omega (arith, zs), omega (arith, zs))
        ]

-- a mean is on the line
mean_on_line : (m n ax ay bx by w x y : ℤ) → pos 0 <ℤ (m +ℤ n) → (m +ℤ n) *ℤ x ≡ (m *ℤ ax +ℤ n *ℤ bx) *ℤ w → (m +ℤ n) *ℤ y ≡ (m *ℤ ay +ℤ n *ℤ by) *ℤ w
    → (bx -ℤ ax) *ℤ (y -ℤ ay *ℤ w) ≡ (by -ℤ ay) *ℤ (x -ℤ ax *ℤ w)
mean_on_line m n ax ay bx by w x y some x_sum y_sum =
    cancel_eq (m +ℤ n) ((bx -ℤ ax) *ℤ (y -ℤ ay *ℤ w)) ((by -ℤ ay) *ℤ (x -ℤ ax *ℤ w)) some
    (consequence (m ∷ n ∷ ax ∷ ay ∷ bx ∷ by ∷ w ∷ x ∷ y ∷ [])
    (λ M N AX AY BX BY W X Y. (
      (M ⊕ N) ⊗ ((BX ⊖ AX) ⊗ (Y ⊖ AY ⊗ W)),
      (M ⊕ N) ⊗ ((BY ⊖ AY) ⊗ (X ⊖ AX ⊗ W)),
      given (AY ⊖ BY) ((M ⊕ N) ⊗ X) ((M ⊗ AX ⊕ N ⊗ BX) ⊗ W) ∷ given (BX ⊖ AX) ((M ⊕ N) ⊗ Y) ((M ⊗ AY ⊕ N ⊗ BY) ⊗ W) ∷ [],
    )) (x_sum, (y_sum, tt)) tt)

pub lies_by_weights : (point : RationalPoint) (edge : Edge) → pos 1 ≤ℤ point.w → Weights point edge → LiesOn point edge
lies_by_weights point edge positive weights =
    let m = weights.of_a in
    let n = weights.of_b in
    record {
      positive = positive;
      on_line = mean_on_line m n edge.a.x edge.a.y edge.b.x edge.b.y point.w point.x point.y weights.some weights.x weights.y;
      x_between = mean_between m n edge.a.x edge.b.x point.w point.x weights.a_sign weights.b_sign weights.some positive weights.x;
      y_between = mean_between m n edge.a.y edge.b.y point.w point.y weights.a_sign weights.b_sign weights.some positive weights.y;
    }
