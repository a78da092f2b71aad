-- Means of two positions, with whole numbers as weights: rational points of the edge between them.
use Rattle.std.proofs.Common.{◌≡◌, ◌^◌, inl, inr, ℤ, pos, ◌+ℤ◌, ◌-ℤ◌, ◌*ℤ◌, neg_ℤ, ◌≤ℤ◌, ◌<ℤ◌, sym, ◌∙◌, ap₂, subst, arith}
use Rattle.std.proofs.Math.IntN.{*ℤ_comm, nat_abs}
use Rattle.std.proofs.lemmas.Int.{ints}
use Rattle.mvt_plane.specs.Geometry.CommonPoint.{cross_product}
use Rattle.mvt_plane.specs.Calls.Measure.{AreOpposite}
use Rattle.mvt_plane.specs.Position.{IsPosition}
use Rattle.mvt_plane.specs.Geometry.RationalPoint.{RationalPoint, LiesOn, IsBounded}
use Rattle.mvt_plane.specs.declared.geometry.edge.Edge.{Edge}
use Rattle.mvt_plane.proofs.Points.Crossings.{side, side_over, coordinates, cross_by_sides, cross_by_other_sides}
use Rattle.mvt_plane.proofs.Points.NamedPoints.{same_triple, bounded_on_edge}
use Rattle.mvt_plane.proofs.Orders.Order.{zs}
use Rattle.mvt_plane.proofs.Orders.Polynomials.{negated, ◌⊕◌, ◌⊗◌, identity}
use Rattle.mvt_plane.proofs.Points.PointWeights.{lies_by_weights}

-- the mean of an edge's ends with these weights
abbrev pub mean : Edge → ℤ → ℤ → RationalPoint
mean edge m n = record { x = m *ℤ edge.a.x +ℤ n *ℤ edge.b.x; y = m *ℤ edge.a.y +ℤ n *ℤ edge.b.y; w = m +ℤ n }

-- it lies on the edge
pub mean_lies : (edge : Edge) (m n : ℤ) → pos 0 ≤ℤ m → pos 0 ≤ℤ n → pos 1 ≤ℤ (m +ℤ n) → LiesOn (mean edge m n) edge
mean_lies edge m n m_sign n_sign some =
    lies_by_weights (mean edge m n) edge some (record {
      of_a = m;
      of_b = n;
      a_sign = m_sign;
      b_sign = n_sign;
      some = omega (arith, zs);
      x = *ℤ_comm (m +ℤ n) (m *ℤ edge.a.x +ℤ n *ℤ edge.b.x);
      y = *ℤ_comm (m +ℤ n) (m *ℤ edge.a.y +ℤ n *ℤ edge.b.y);
    })

-- between positions in range it is in range
pub mean_bounded : (edge : Edge) (m n : ℤ) → IsPosition edge.a → IsPosition edge.b → pos 0 ≤ℤ m → pos 0 ≤ℤ n → pos 1 ≤ℤ (m +ℤ n)
    → (m +ℤ n) ≤ℤ pos (2 ^ 63) → IsBounded (mean edge m n)
mean_bounded edge m n a b m_sign n_sign some size = bounded_on_edge (mean edge m n) edge a b size (mean_lies edge m n m_sign n_sign some)

-- ---- the crossing of two edges

-- the means by the sides of the other edge's ends are one, whichever edge is taken
mean_of_other : (first second : Edge) → mean first (neg_ℤ (side second first.b)) (side second first.a) ≡ mean second (side first second.b) (neg_ℤ (side first second.a))
mean_of_other first second =
    let all = coordinates first second in
    same_triple
    (identity all (λ A a B b C c D d. (negated (side_over C c D d B b) ⊗ A ⊕ side_over C c D d A a ⊗ B, side_over A a B b D d ⊗ C ⊕ negated (side_over A a B b C c) ⊗ D)) tt)
    (identity all (λ A a B b C c D d. (negated (side_over C c D d B b) ⊗ a ⊕ side_over C c D d A a ⊗ b, side_over A a B b D d ⊗ c ⊕ negated (side_over A a B b C c) ⊗ d)) tt)
    (identity all (λ A a B b C c D d. (negated (side_over C c D d B b) ⊕ side_over C c D d A a, side_over A a B b D d ⊕ negated (side_over A a B b C c))) tt)

-- the same with signs turned
turned_mean_of_other : (first second : Edge) → mean first (side second first.b) (neg_ℤ (side second first.a)) ≡ mean second (neg_ℤ (side first second.b)) (side first second.a)
turned_mean_of_other first second =
    let all = coordinates first second in
    same_triple
    (identity all (λ A a B b C c D d. (side_over C c D d B b ⊗ A ⊕ negated (side_over C c D d A a) ⊗ B, negated (side_over A a B b D d) ⊗ C ⊕ side_over A a B b C c ⊗ D)) tt)
    (identity all (λ A a B b C c D d. (side_over C c D d B b ⊗ a ⊕ negated (side_over C c D d A a) ⊗ b, negated (side_over A a B b D d) ⊗ c ⊕ side_over A a B b C c ⊗ d)) tt)
    (identity all (λ A a B b C c D d. (side_over C c D d B b ⊕ negated (side_over C c D d A a), negated (side_over A a B b D d) ⊕ side_over A a B b C c)) tt)

-- the size of a positive number, and of a negative one
size_over : (z : ℤ) → pos 0 <ℤ z → pos (nat_abs z) ≡ z
size_over z over = omega (arith, ints)

size_under : (z : ℤ) → z <ℤ pos 0 → pos (nat_abs z) ≡ neg_ℤ z
size_under z under = omega (arith, ints)

-- the mean of each edge's ends by how far the other one's line is from them
abbrev pub crossing_of : Edge → Edge → RationalPoint
crossing_of first second = mean first (pos (nat_abs (side second first.b))) (pos (nat_abs (side second first.a)))

-- the one edge's crossing is the other one's
other_crossing : (first second : Edge) → AreOpposite (side second first.a) (side second first.b) → AreOpposite (side first second.a) (side first second.b)
    → crossing_of first second ≡ mean second (pos (nat_abs (side first second.b))) (pos (nat_abs (side first second.a)))
other_crossing first second (inl over) (inr under) =
    ap₂ (mean first) (size_under _ over.1) (size_over _ over.0) ∙ mean_of_other first second
    ∙ sym (ap₂ (mean second) (size_over _ under.1) (size_under _ under.0))
other_crossing first second (inr under) (inl over) =
    ap₂ (mean first) (size_over _ under.1) (size_under _ under.0) ∙ turned_mean_of_other first second
    ∙ sym (ap₂ (mean second) (size_under _ over.1) (size_over _ over.0))
other_crossing first second (inl over) (inl other) = let one = cross_by_sides first second in let two = cross_by_other_sides first second in absurd (omega (arith, zs))
other_crossing first second (inr under) (inr other) = let one = cross_by_sides first second in let two = cross_by_other_sides first second in absurd (omega (arith, zs))

-- its w is the size of the cross product
pub crossing_size : (first second : Edge) → AreOpposite (side second first.a) (side second first.b)
    → pos (nat_abs (side second first.b)) +ℤ pos (nat_abs (side second first.a)) ≡ pos (nat_abs (cross_product first second))
crossing_size first second opposite = whole (side second first.a) (side second first.b) (cross_product first second) opposite (cross_by_sides first second)
  where
    whole : (a b cross : ℤ) → AreOpposite a b → cross ≡ a -ℤ b → pos (nat_abs b) +ℤ pos (nat_abs a) ≡ pos (nat_abs cross)
    whole a b cross (inl over) difference = omega (arith, ints)
    whole a b cross (inr under) difference = omega (arith, ints)

-- and at least 1
pub size_some : (a b : ℤ) → AreOpposite a b → pos 1 ≤ℤ (pos (nat_abs b) +ℤ pos (nat_abs a))
size_some a b (inl over) = omega (arith, ints)
size_some a b (inr under) = omega (arith, ints)

-- it lies on the first edge
pub crossing_on_first : (first second : Edge) → AreOpposite (side second first.a) (side second first.b) → LiesOn (crossing_of first second) first
crossing_on_first first second opposite =
    mean_lies first (pos (nat_abs (side second first.b))) (pos (nat_abs (side second first.a))) (omega (arith, ints)) (omega (arith, ints)) (size_some (side second first.a) (side second first.b) opposite)

-- and on the second
pub crossing_on_second : (first second : Edge) → AreOpposite (side second first.a) (side second first.b) → AreOpposite (side first second.a) (side first second.b)
    → LiesOn (crossing_of first second) second
crossing_on_second first second opposite other =
    let there = mean_lies second (pos (nat_abs (side first second.b))) (pos (nat_abs (side first second.a))) (omega (arith, ints)) (omega (arith, ints)) (size_some (side first second.a) (side first second.b) other) in
    subst (λ (point : RationalPoint). LiesOn point second) (sym (other_crossing first second opposite other)) there
