-- How two edges cross, by the sides of one edge on which the ends of the other are.
use Rattle.std.proofs.Common.{◌≡◌, List, [], ◌∷◌, ℤ, pos, ◌+ℤ◌, ◌-ℤ◌, ◌*ℤ◌, neg_ℤ, ◌≤ℤ◌, ◌<ℤ◌, arith}
use Rattle.mvt_plane.specs.Position.{Position}
use Rattle.mvt_plane.specs.Geometry.RationalPoint.{RationalPoint, LiesOn}
use Rattle.mvt_plane.specs.Geometry.CommonPoint.{cross_product}
use Rattle.mvt_plane.specs.Geometry.Measure.{orientation}
use Rattle.mvt_plane.specs.declared.geometry.edge.Edge.{Edge}
use Rattle.mvt_plane.proofs.Orders.Polynomials.{Polynomial, constant, negated, once, ◌⊕◌, ◌⊖◌, ◌⊗◌, identity, consequence, given}
use Rattle.mvt_plane.proofs.Orders.Order.{zs, mul_nonneg, cancel_zero}
use Rattle.mvt_plane.proofs.Points.PointWeights.{Weights, weights_of}

-- on which side of an edge a position is: twice the area of the triangle of the edge and the position
abbrev pub side : Edge → Position → ℤ
side edge position = orientation edge.a edge.b position

-- the same, over coordinates
abbrev pub side_over : (ax ay bx by x y : Polynomial) → Polynomial
side_over ax ay bx by x y = (bx ⊖ ax) ⊗ (y ⊖ ay) ⊖ (by ⊖ ay) ⊗ (x ⊖ ax)

-- the coordinates of two edges
abbrev pub coordinates : Edge → Edge → List ℤ
coordinates first second = first.a.x ∷ first.a.y ∷ first.b.x ∷ first.b.y ∷ second.a.x ∷ second.a.y ∷ second.b.x ∷ second.b.y ∷ []

-- the cross product is the difference of the sides
pub cross_by_sides : (first second : Edge) → cross_product first second ≡ side second first.a -ℤ side second first.b
cross_by_sides first second =
    identity (coordinates first second) (λ A a B b C c D d. ((B ⊖ A) ⊗ (d ⊖ c) ⊖ (b ⊖ a) ⊗ (D ⊖ C), side_over C c D d A a ⊖ side_over C c D d B b)) tt

-- the same, by the sides of the other edge
pub cross_by_other_sides : (first second : Edge) → cross_product first second ≡ side first second.b -ℤ side first second.a
cross_by_other_sides first second =
    identity (coordinates first second) (λ A a B b C c D d. ((B ⊖ A) ⊗ (d ⊖ c) ⊖ (b ⊖ a) ⊗ (D ⊖ C), side_over A a B b D d ⊖ side_over A a B b C c)) tt

-- the sides of a mean's two ends balance where the mean is on the line
sides_balance : (ax ay bx by cx cy dx dy w x y m n : ℤ) → pos 1 ≤ℤ w
    → (m +ℤ n) *ℤ x ≡ (m *ℤ ax +ℤ n *ℤ bx) *ℤ w → (m +ℤ n) *ℤ y ≡ (m *ℤ ay +ℤ n *ℤ by) *ℤ w
    → (dx -ℤ cx) *ℤ (y -ℤ cy *ℤ w) ≡ (dy -ℤ cy) *ℤ (x -ℤ cx *ℤ w)
    → m *ℤ ((dx -ℤ cx) *ℤ (ay -ℤ cy) -ℤ (dy -ℤ cy) *ℤ (ax -ℤ cx)) +ℤ n *ℤ ((dx -ℤ cx) *ℤ (by -ℤ cy) -ℤ (dy -ℤ cy) *ℤ (bx -ℤ cx)) ≡ pos 0
sides_balance ax ay bx by cx cy dx dy w x y m n positive x_sum y_sum on_line =
    cancel_zero w _ (λ none. omega (arith, zs))
    (consequence (ax ∷ ay ∷ bx ∷ by ∷ cx ∷ cy ∷ dx ∷ dy ∷ w ∷ x ∷ y ∷ m ∷ n ∷ [])
    (λ A a B b C c D d W X Y M N. (
      W ⊗ (M ⊗ side_over C c D d A a ⊕ N ⊗ side_over C c D d B b),
      constant (pos 0),
      given (d ⊖ c) ((M ⊕ N) ⊗ X) ((M ⊗ A ⊕ N ⊗ B) ⊗ W) ∷ given (C ⊖ D) ((M ⊕ N) ⊗ Y) ((M ⊗ a ⊕ N ⊗ b) ⊗ W) ∷ given (M ⊕ N) ((D ⊖ C) ⊗ (Y ⊖ c ⊗ W)) ((d ⊖ c) ⊗ (X ⊖ C ⊗ W)) ∷ [],
    ))
    (x_sum, (y_sum, (on_line, tt))) tt)

-- where a point lies on both edges, the sides of the first one's ends balance
pub balance : (point : RationalPoint) (first second : Edge) → LiesOn point second → (weights : Weights point first)
    → weights.of_a *ℤ side second first.a +ℤ weights.of_b *ℤ side second first.b ≡ pos 0
balance point first second lies weights =
    let a = first.a in
    let b = first.b in
    let c = second.a in
    let d = second.b in
    sides_balance a.x a.y b.x b.y c.x c.y d.x d.y point.w point.x point.y weights.of_a weights.of_b lies.positive weights.x weights.y lies.on_line

-- ---- edges that don't cross

-- a sum of two positive numbers with weights
positive_mean : (m n a b : ℤ) → pos 0 ≤ℤ m → pos 0 ≤ℤ n → pos 0 <ℤ (m +ℤ n) → pos 0 <ℤ a → pos 0 <ℤ b → pos 0 <ℤ (m *ℤ a +ℤ n *ℤ b)
positive_mean m n a b m_sign n_sign some a_sign b_sign =
    let all = identity (m ∷ n ∷ a ∷ b ∷ []) (λ M N A B. (M ⊗ A ⊕ N ⊗ B, M ⊗ (A ⊖ once) ⊕ N ⊗ (B ⊖ once) ⊕ (M ⊕ N))) tt in
    let left : pos 0 ≤ℤ (a -ℤ pos 1) = omega (arith, zs) in
    let right : pos 0 ≤ℤ (b -ℤ pos 1) = omega (arith, zs) in
    omega (arith, zs, mul_nonneg m_sign left, mul_nonneg n_sign right)

-- no point is on both edges where the first one's ends are on the positive side of the second
pub apart_over : (first second : Edge) → pos 0 <ℤ side second first.a → pos 0 <ℤ side second first.b
    → (point : RationalPoint) → LiesOn point first → LiesOn point second → ⊥
apart_over first second a_over b_over point on_first on_second =
    let weights = weights_of point first on_first in
    let none = balance point first second on_second weights in
    omega (arith, zs, positive_mean weights.of_a weights.of_b _ _ weights.a_sign weights.b_sign weights.some a_over b_over)

-- nor where they are on the negative side
pub apart_under : (first second : Edge) → side second first.a <ℤ pos 0 → side second first.b <ℤ pos 0
    → (point : RationalPoint) → LiesOn point first → LiesOn point second → ⊥
apart_under first second a_under b_under point on_first on_second =
    let weights = weights_of point first on_first in
    let m = weights.of_a in
    let n = weights.of_b in
    let a = side second first.a in
    let b = side second first.b in
    let none = balance point first second on_second weights in
    let a_sign : pos 0 <ℤ neg_ℤ a = omega (arith, zs) in
    let b_sign : pos 0 <ℤ neg_ℤ b = omega (arith, zs) in
    let turn = identity (m ∷ n ∷ a ∷ b ∷ []) (λ M N A B. (M ⊗ negated A ⊕ N ⊗ negated B, negated (M ⊗ A ⊕ N ⊗ B))) tt in
    omega (arith, zs, positive_mean m n (neg_ℤ a) (neg_ℤ b) weights.a_sign weights.b_sign weights.some a_sign b_sign)
