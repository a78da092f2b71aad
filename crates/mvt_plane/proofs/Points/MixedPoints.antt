-- Means of two rational points, with whole numbers as weights. An edge has the means of any two of its points. So where
-- one edge is above another at one place and isn't at another place, the two edges have a point in common.
use Rattle.std.proofs.Common.{◌≡◌, inl, inr, [], ◌∷◌, ℤ, pos, ◌+ℤ◌, ◌-ℤ◌, ◌*ℤ◌, ◌≤ℤ◌, ◌<ℤ◌, subst, arith}
use Rattle.mvt_plane.specs.Geometry.RationalPoint.{RationalPoint, LiesOn, IsBetween}
use Rattle.mvt_plane.specs.declared.geometry.edge.Edge.{Edge}
use Rattle.mvt_plane.proofs.Points.Lines.{through, between_back}
use Rattle.mvt_plane.proofs.Points.NamedPoints.{same_triple}
use Rattle.mvt_plane.proofs.Orders.Order.{zs, le_or_lt, mono_le, mono_le_right, mul_nonneg, mul_pos}
use Rattle.mvt_plane.proofs.Orders.Polynomials.{◌⊕◌, ◌⊖◌, ◌⊗◌, identity, consequence, given}

-- the mean of two rational points with these weights
abbrev pub mixed : ℤ → RationalPoint → ℤ → RationalPoint → RationalPoint
mixed m p n q = record { x = m *ℤ p.x +ℤ n *ℤ q.x; y = m *ℤ p.y +ℤ n *ℤ q.y; w = m *ℤ p.w +ℤ n *ℤ q.w }

-- ---- it is on each edge that both are on

-- what is between two numbers in their order
between_in_order : (a b w z : ℤ) → a ≤ℤ b → pos 1 ≤ℤ w → IsBetween (a *ℤ w) (b *ℤ w) z → ((a *ℤ w) ≤ℤ z) × (z ≤ℤ (b *ℤ w))
between_in_order a b w z order positive (inl up) = up
between_in_order a b w z order positive (inr down) =
    let scale : pos 0 ≤ℤ w = omega (arith, zs) in
    let wide = mono_le_right order scale in
    (omega (arith, zs), omega (arith, zs))

-- a product with a mean is the mean of the products
product_of_mean : (a m n w v : ℤ) → a *ℤ (m *ℤ w +ℤ n *ℤ v) ≡ m *ℤ (a *ℤ w) +ℤ n *ℤ (a *ℤ v)
product_of_mean a m n w v =
    identity (a ∷ m ∷ n ∷ w ∷ v ∷ []) (λ A M N W V. (A ⊗ (M ⊗ W ⊕ N ⊗ V), M ⊗ (A ⊗ W) ⊕ N ⊗ (A ⊗ V))) tt

-- between the means of lower and of upper bounds is the mean
mean_in_order : (a b m n w x v y : ℤ) → a ≤ℤ b → pos 0 ≤ℤ m → pos 0 ≤ℤ n → pos 1 ≤ℤ w → pos 1 ≤ℤ v → IsBetween (a *ℤ w) (b *ℤ w) x → IsBetween (a *ℤ v) (b *ℤ v) y
    → ((a *ℤ (m *ℤ w +ℤ n *ℤ v)) ≤ℤ (m *ℤ x +ℤ n *ℤ y)) × ((m *ℤ x +ℤ n *ℤ y) ≤ℤ (b *ℤ (m *ℤ w +ℤ n *ℤ v)))
mean_in_order a b m n w x v y order m_sign n_sign one other first second =
    let p = between_in_order a b w x order one first in
    let q = between_in_order a b v y order other second in
    let low = mono_le m_sign p.0 in
    let low_other = mono_le n_sign q.0 in
    let high = mono_le m_sign p.1 in
    let high_other = mono_le n_sign q.1 in
    let from = product_of_mean a m n w v in
    let to = product_of_mean b m n w v in
    (omega (arith, zs), omega (arith, zs))

-- in either order
mean_between : (a b m n w x v y : ℤ) → pos 0 ≤ℤ m → pos 0 ≤ℤ n → pos 1 ≤ℤ w → pos 1 ≤ℤ v → IsBetween (a *ℤ w) (b *ℤ w) x → IsBetween (a *ℤ v) (b *ℤ v) y
    → IsBetween (a *ℤ (m *ℤ w +ℤ n *ℤ v)) (b *ℤ (m *ℤ w +ℤ n *ℤ v)) (m *ℤ x +ℤ n *ℤ y)
mean_between a b m n w x v y m_sign n_sign one other first second = elim (le_or_lt a b) [
  | inl rises ↦ inl (mean_in_order a b m n w x v y rises m_sign n_sign one other first second)
  | inr falls ↦ inr (mean_in_order b a m n w x v y (omega (arith, zs)) m_sign n_sign one other (between_back _ _ _ first) (between_back _ _ _ second))
]

-- the mean of two points of a line is on it
mean_on_line : (u v a b m n px py pw qx qy qw : ℤ) → u *ℤ (py -ℤ b *ℤ pw) ≡ v *ℤ (px -ℤ a *ℤ pw) → u *ℤ (qy -ℤ b *ℤ qw) ≡ v *ℤ (qx -ℤ a *ℤ qw)
    → u *ℤ ((m *ℤ py +ℤ n *ℤ qy) -ℤ b *ℤ (m *ℤ pw +ℤ n *ℤ qw)) ≡ v *ℤ ((m *ℤ px +ℤ n *ℤ qx) -ℤ a *ℤ (m *ℤ pw +ℤ n *ℤ qw))
mean_on_line u v a b m n px py pw qx qy qw p_line q_line =
    consequence (u ∷ v ∷ a ∷ b ∷ m ∷ n ∷ px ∷ py ∷ pw ∷ qx ∷ qy ∷ qw ∷ [])
    (λ U V A B M N PX PY PW QX QY QW. (
      U ⊗ ((M ⊗ PY ⊕ N ⊗ QY) ⊖ B ⊗ (M ⊗ PW ⊕ N ⊗ QW)),
      V ⊗ ((M ⊗ PX ⊕ N ⊗ QX) ⊖ A ⊗ (M ⊗ PW ⊕ N ⊗ QW)),
      through M U V A B PX PY PW ∷ through N U V A B QX QY QW ∷ [],
    )) (p_line, (q_line, tt)) tt

-- the mean of two points of an edge lies on it
pub mixed_lies : (edge : Edge) (m : ℤ) (p : RationalPoint) (n : ℤ) (q : RationalPoint) → pos 0 ≤ℤ m → pos 0 ≤ℤ n → pos 1 ≤ℤ (m *ℤ p.w +ℤ n *ℤ q.w)
    → LiesOn p edge → LiesOn q edge → LiesOn (mixed m p n q) edge
mixed_lies edge m p n q m_sign n_sign some p_on q_on = record {
  positive = some;
  on_line = mean_on_line (edge.b.x -ℤ edge.a.x) (edge.b.y -ℤ edge.a.y) edge.a.x edge.a.y m n p.x p.y p.w q.x q.y q.w p_on.on_line q_on.on_line;
  x_between = mean_between edge.a.x edge.b.x m n p.w p.x q.w q.x m_sign n_sign p_on.positive q_on.positive p_on.x_between q_on.x_between;
  y_between = mean_between edge.a.y edge.b.y m n p.w p.y q.w q.y m_sign n_sign p_on.positive q_on.positive p_on.y_between q_on.y_between;
}

-- ---- points at one x

-- two rational points have one x
abbrev pub AreAtOneX : RationalPoint → RationalPoint → Type 0
AreAtOneX point other = point.x *ℤ other.w ≡ other.x *ℤ point.w

-- the y of the first one is less
abbrev pub IsLower : RationalPoint → RationalPoint → Type 0
IsLower point other = (point.y *ℤ other.w) <ℤ (other.y *ℤ point.w)

-- the point of two that are at different x, at the x of a third one between them
abbrev pub across : RationalPoint → RationalPoint → RationalPoint → RationalPoint
across p q z = mixed (q.x *ℤ z.w -ℤ z.x *ℤ q.w) p (z.x *ℤ p.w -ℤ p.x *ℤ z.w) q

-- it is there
pub across_at : (p q z : RationalPoint) → AreAtOneX (across p q z) z
across_at p q z =
    identity (p.x ∷ p.w ∷ q.x ∷ q.w ∷ z.x ∷ z.w ∷ []) (λ PX PW QX QW X W. let m = QX ⊗ W ⊖ X ⊗ QW in let n = X ⊗ PW ⊖ PX ⊗ W in ((m ⊗ PX ⊕ n ⊗ QX) ⊗ W, X ⊗ (m ⊗ PW ⊕ n ⊗ QW))) tt

-- its w
across_over : (px pw qx qw x w : ℤ) → (qx *ℤ w -ℤ x *ℤ qw) *ℤ pw +ℤ (x *ℤ pw -ℤ px *ℤ w) *ℤ qw ≡ (qx *ℤ pw -ℤ px *ℤ qw) *ℤ w
across_over px pw qx qw x w =
    identity (px ∷ pw ∷ qx ∷ qw ∷ x ∷ w ∷ []) (λ PX PW QX QW X W. ((QX ⊗ W ⊖ X ⊗ QW) ⊗ PW ⊕ (X ⊗ PW ⊖ PX ⊗ W) ⊗ QW, (QX ⊗ PW ⊖ PX ⊗ QW) ⊗ W)) tt

-- and it is on each edge that both are on
pub across_lies : (edge : Edge) (p q z : RationalPoint) → pos 1 ≤ℤ z.w → (p.x *ℤ q.w) <ℤ (q.x *ℤ p.w) → (p.x *ℤ z.w) ≤ℤ (z.x *ℤ p.w) → (z.x *ℤ q.w) ≤ℤ (q.x *ℤ z.w)
    → LiesOn p edge → LiesOn q edge → LiesOn (across p q z) edge
across_lies edge p q z positive order begun lasts p_on q_on =
    let over = across_over p.x p.w q.x q.w z.x z.w in
    let wide : pos 0 <ℤ (q.x *ℤ p.w -ℤ p.x *ℤ q.w) = omega (arith, zs) in
    let scale : pos 0 <ℤ z.w = omega (arith, zs) in
    let some = mul_pos wide scale in
    mixed_lies edge (q.x *ℤ z.w -ℤ z.x *ℤ q.w) p (z.x *ℤ p.w -ℤ p.x *ℤ z.w) q (omega (arith, zs)) (omega (arith, zs)) (omega (arith, zs)) p_on q_on

-- ---- edges that cross between two places

-- by how much the one point is lower than the other
abbrev rise : RationalPoint → RationalPoint → ℤ
rise low high = high.y *ℤ low.w -ℤ low.y *ℤ high.w

-- where a first pair at one x rises and a second pair falls as the weights say, the means are one point
one_mean : (low high upper under : RationalPoint) → AreAtOneX high low → AreAtOneX under upper
    → mixed (rise under upper *ℤ low.w) high (rise low high *ℤ upper.w) under ≡ mixed (rise under upper *ℤ high.w) low (rise low high *ℤ under.w) upper
one_mean low high upper under first second =
    same_triple
    (consequence (rise under upper ∷ rise low high ∷ low.x ∷ high.x ∷ upper.x ∷ under.x ∷ low.w ∷ high.w ∷ upper.w ∷ under.w ∷ [])
    (λ H F A B C D AW BW CW DW. ((H ⊗ AW) ⊗ B ⊕ (F ⊗ CW) ⊗ D, (H ⊗ BW) ⊗ A ⊕ (F ⊗ DW) ⊗ C, given H (B ⊗ AW) (A ⊗ BW) ∷ given F (D ⊗ CW) (C ⊗ DW) ∷ [])) (first, (second, tt)) tt)
    (identity (low.y ∷ high.y ∷ upper.y ∷ under.y ∷ low.w ∷ high.w ∷ upper.w ∷ under.w ∷ [])
    (λ H F A B C D AW BW. ((((A ⊗ BW ⊖ B ⊗ AW) ⊗ C) ⊗ F) ⊕ (((F ⊗ C ⊖ H ⊗ D) ⊗ AW) ⊗ B), (((A ⊗ BW ⊖ B ⊗ AW) ⊗ D) ⊗ H) ⊕ (((F ⊗ C ⊖ H ⊗ D) ⊗ BW) ⊗ A))) tt)
    (identity (rise under upper ∷ rise low high ∷ low.w ∷ high.w ∷ upper.w ∷ under.w ∷ []) (λ H F A B C D. ((H ⊗ A) ⊗ B ⊕ (F ⊗ C) ⊗ D, (H ⊗ B) ⊗ A ⊕ (F ⊗ D) ⊗ C)) tt)

-- no rational point is on both edges
abbrev pub AreClear : Edge → Edge → Type 0
AreClear edge other = (point : RationalPoint) → LiesOn point edge → ¬ LiesOn point other

-- a point of each of two edges, at one x
pub record AreLevel (edge other : Edge) (point its : RationalPoint) : Type 0 where
  pub first : LiesOn point edge
  pub second : LiesOn its other
  pub at : AreAtOneX its point

-- where the second edge is higher at one x and isn't at another, they have a point in common
crosses : (edge other : Edge) (low high upper under : RationalPoint) → AreLevel edge other low high → AreLevel edge other upper under
    → IsLower low high → (under.y *ℤ upper.w) ≤ℤ (upper.y *ℤ under.w) → ¬ AreClear edge other
crosses edge other low high upper under one two rises falls clear =
    let low_w = one.first.positive in
    let high_w = one.second.positive in
    let upper_w = two.first.positive in
    let under_w = two.second.positive in
    let m : pos 0 ≤ℤ rise under upper = omega (arith, zs) in
    let n : pos 0 <ℤ rise low high = omega (arith, zs) in
    let of_high = mul_nonneg {a = rise under upper} {b = low.w} m (omega (arith, zs)) in
    let of_under = mul_pos {a = rise low high} {b = upper.w} n (omega (arith, zs)) in
    let of_low = mul_nonneg {a = rise under upper} {b = high.w} m (omega (arith, zs)) in
    let of_upper = mul_pos {a = rise low high} {b = under.w} n (omega (arith, zs)) in
    let some = mul_nonneg {a = rise under upper *ℤ low.w} {b = high.w} of_high (omega (arith, zs)) in
    let more = mul_pos {a = rise low high *ℤ upper.w} {b = under.w} of_under (omega (arith, zs)) in
    let some_too = mul_nonneg {a = rise under upper *ℤ high.w} {b = low.w} of_low (omega (arith, zs)) in
    let more_too = mul_pos {a = rise low high *ℤ under.w} {b = upper.w} of_upper (omega (arith, zs)) in
    let on_other = mixed_lies other (rise under upper *ℤ low.w) high (rise low high *ℤ upper.w) under of_high (omega (arith, zs)) (omega (arith, zs)) one.second two.second in
    let on_edge = mixed_lies edge (rise under upper *ℤ high.w) low (rise low high *ℤ under.w) upper of_low (omega (arith, zs)) (omega (arith, zs)) one.first two.first in
    clear _ on_edge (subst (λ (point : RationalPoint). LiesOn point other) (one_mean low high upper under one.at two.at) on_other)

-- so of two edges that have none in common, the second is higher at each x or at none
pub same_side : (edge other : Edge) → AreClear edge other → (point its another its_too : RationalPoint) → AreLevel edge other point its → AreLevel edge other another its_too
    → IsLower point its → IsLower another its_too
same_side edge other clear point its another its_too one two lower =
    elim (le_or_lt (its_too.y *ℤ another.w) (another.y *ℤ its_too.w)) [ inl falls ↦ absurd (crosses edge other point its another its_too one two lower falls clear) | inr rises ↦ rises ]
