-- Rational points on edges: many triples of numbers are one point, and an edge is the same from either end
use Rattle.std.proofs.Common.{◌≡◌, ◌↔◌, ◌⊎◌, inl, inr, [], ◌∷◌, Option, ℤ, pos, ◌-ℤ◌, ◌*ℤ◌, ◌≤ℤ◌, sym, ◌∙◌, ap, arith}
use Rattle.std.proofs.Math.Decide.{map_dec}
use Rattle.mvt_plane.specs.Geometry.CommonPoint.{IsCommon}
use Rattle.mvt_plane.specs.Position.{Position}
use Rattle.mvt_plane.specs.Geometry.RationalPoint.{RationalPoint, LiesOn, IsAt, IsBetween, whole}
use Rattle.mvt_plane.specs.declared.geometry.edge.Edge.{Edge}
use Rattle.mvt_plane.proofs.Points.Lines.{between_same, line_same, between_back, line_back}
use Rattle.mvt_plane.proofs.Orders.Order.{zs, le_or_lt, le_decide, same_or_apart, mul_pos, cancel_eq}
use Rattle.mvt_plane.proofs.Orders.Polynomials.{negated, once, ◌⊖◌, ◌⊗◌, identity, consequence, given}

-- ---- triples of one rational point

-- both triples are one rational point
pub record IsSame (point other : RationalPoint) : Type 0 where
  pub x : point.x *ℤ other.w ≡ other.x *ℤ point.w
  pub y : point.y *ℤ other.w ≡ other.y *ℤ point.w

-- so the other way round
pub same_back : (point other : RationalPoint) → IsSame point other → IsSame other point
same_back point other same = record { x = sym same.x; y = sym same.y }

-- the multiple of a triple
abbrev pub multiple : ℤ → RationalPoint → RationalPoint
multiple factor point = record { x = factor *ℤ point.x; y = factor *ℤ point.y; w = factor *ℤ point.w }

-- a multiple is the same point
pub same_multiple : (factor : ℤ) (point : RationalPoint) → IsSame point (multiple factor point)
same_multiple factor point =
    let moved = λ (z : ℤ). identity (factor ∷ z ∷ point.w ∷ []) (λ K Z W. (Z ⊗ (K ⊗ W), (K ⊗ Z) ⊗ W)) tt in
    record { x = moved point.x; y = moved point.y }

-- so lying on an edge passes from one triple to another
pub lies_on_same : (point other : RationalPoint) (edge : Edge) → IsSame point other → pos 1 ≤ℤ other.w → LiesOn point edge → LiesOn other edge
lies_on_same point other edge same positive lies =
    record {
      positive = positive;
      on_line = line_same _ _ edge.a.x edge.a.y point.x point.y point.w other.x other.y other.w lies.positive same.x same.y lies.on_line;
      x_between = between_same point.w other.w edge.a.x edge.b.x point.x other.x lies.positive positive same.x lies.x_between;
      y_between = between_same point.w other.w edge.a.y edge.b.y point.y other.y lies.positive positive same.y lies.y_between;
    }

-- a coordinate that is a position's is so in another triple
at_same_number : (w u a x z : ℤ) → pos 1 ≤ℤ w → x *ℤ u ≡ z *ℤ w → x ≡ a *ℤ w → z ≡ a *ℤ u
at_same_number w u a x z positive same at = cancel_eq w z (a *ℤ u) (omega (arith, zs))
    (consequence (w ∷ u ∷ a ∷ x ∷ z ∷ []) (λ W U A X Z. (W ⊗ Z, W ⊗ (A ⊗ U), given (negated once) (X ⊗ U) (Z ⊗ W) ∷ given U X (A ⊗ W) ∷ [])) (same, (at, tt)) tt)

-- and being a position passes
pub is_at_same : (point other : RationalPoint) (position : Position) → IsSame point other → pos 1 ≤ℤ point.w → IsAt point position → IsAt other position
is_at_same point other position same positive at =
    record {
      x = at_same_number point.w other.w position.x point.x other.x positive same.x at.x;
      y = at_same_number point.w other.w position.y point.y other.y positive same.y at.y;
    }

-- being a common point passes
pub is_common_same : (shared : Option Position) (first second : Edge) (point other : RationalPoint) → IsSame point other → pos 1 ≤ℤ other.w → IsCommon shared first second point → IsCommon shared first second other
is_common_same shared first second point other same positive common =
    record {
      on_first = lies_on_same point other first same positive common.on_first;
      on_second = lies_on_same point other second same positive common.on_second;
      apart = λ vertex there at. common.apart vertex there (is_at_same other point vertex (same_back point other same) positive at);
    }

-- a multiple with a positive factor has a positive last number
multiple_positive : (factor w : ℤ) → pos 1 ≤ℤ factor → pos 1 ≤ℤ w → pos 1 ≤ℤ (factor *ℤ w)
multiple_positive factor w positive above =
    let product = mul_pos {a = factor} {b = w} (omega (arith, zs)) (omega (arith, zs)) in
    omega (arith, zs)

-- on an edge are a triple and its multiples alike
pub lies_on_multiple : (factor : ℤ) (point : RationalPoint) (edge : Edge) → pos 1 ≤ℤ factor → pos 1 ≤ℤ point.w → LiesOn point edge ↔ LiesOn (multiple factor point) edge
lies_on_multiple factor point edge positive above =
    let same = same_multiple factor point in
    let there = lies_on_same point (multiple factor point) edge same (multiple_positive factor point.w positive above) in
    let back = lies_on_same (multiple factor point) point edge (same_back point (multiple factor point) same) above in
    (there, back)

-- a product with the same factor on both sides
factored : (k a x w : ℤ) → pos 1 ≤ℤ k → (x ≡ a *ℤ w) ↔ (k *ℤ x ≡ a *ℤ (k *ℤ w))
factored k a x w positive =
    let moved = identity (k ∷ a ∷ w ∷ []) (λ K A W. (K ⊗ (A ⊗ W), A ⊗ (K ⊗ W))) tt in
    (λ same. ap (λ (z : ℤ). k *ℤ z) same ∙ moved, λ same. cancel_eq k x (a *ℤ w) (omega (arith, zs)) (same ∙ sym moved))

-- at a position are a triple and its multiples alike
pub is_at_multiple : (factor : ℤ) (point : RationalPoint) (position : Position) → pos 1 ≤ℤ factor → IsAt point position ↔ IsAt (multiple factor point) position
is_at_multiple factor point position positive =
    let x = factored factor position.x point.x point.w positive in
    let y = factored factor position.y point.y point.w positive in
    ((λ at. record { x = x.0 at.x; y = y.0 at.y }), (λ at. record { x = x.1 at.x; y = y.1 at.y }))

-- ---- an edge from either end

-- the edge from its end to its beginning
abbrev pub reversed : Edge → Edge
reversed edge = record { a = edge.b; b = edge.a }

-- it has the same points
pub lies_on_reversed : (point : RationalPoint) (edge : Edge) → LiesOn point edge → LiesOn point (reversed edge)
lies_on_reversed point edge lies =
    record {
      positive = lies.positive;
      on_line = line_back edge.a.x edge.a.y edge.b.x edge.b.y point.x point.y point.w lies.on_line;
      x_between = between_back _ _ _ lies.x_between;
      y_between = between_back _ _ _ lies.y_between;
    }

-- ---- an edge has its ends

-- a number times one
pub times_one : (a : ℤ) → a *ℤ pos 1 ≡ a
times_one a = identity (a ∷ []) (λ A. (A ⊗ once, A)) tt

-- a number is between itself and another one
between_first : (a b : ℤ) → IsBetween (a *ℤ pos 1) (b *ℤ pos 1) a
between_first a b =
    let one = times_one a in
    let other = times_one b in
    elim (le_or_lt a b) [ inl rising ↦ inl (omega (arith, zs), omega (arith, zs)) | inr falling ↦ inr (omega (arith, zs), omega (arith, zs)) ]

-- a line through (a, b) has that point
line_first : (u v a b : ℤ) → u *ℤ (b -ℤ b *ℤ pos 1) ≡ v *ℤ (a -ℤ a *ℤ pos 1)
line_first u v a b =
    identity (u ∷ v ∷ a ∷ b ∷ []) (λ U V A B. (U ⊗ (B ⊖ B ⊗ once), V ⊗ (A ⊖ A ⊗ once))) tt

-- the vertex where it begins
pub begin_lies_on : (edge : Edge) → LiesOn (whole edge.a) edge
begin_lies_on edge =
    record {
      positive = omega (arith, zs);
      on_line = line_first _ _ edge.a.x edge.a.y;
      x_between = between_first edge.a.x edge.b.x;
      y_between = between_first edge.a.y edge.b.y;
    }

-- the vertex where it ends
pub end_lies_on : (edge : Edge) → LiesOn (whole edge.b) edge
end_lies_on edge = lies_on_reversed (whole edge.b) (reversed edge) (begin_lies_on (reversed edge))

-- ---- tests

-- both hold, or not both
pub both_decide : {A B : Type 0} → Dec A → Dec B → Dec (A × B)
both_decide (yes a) (yes b) = yes (a, b)
both_decide (no apart) b = no (λ both. apart both.0)
both_decide (yes a) (no apart) = no (λ both. apart both.1)

-- one holds, or neither does
pub any_decide : {A B : Type 0} → Dec A → Dec B → Dec (A ⊎ B)
any_decide (yes a) b = yes (inl a)
any_decide (no first) (yes b) = yes (inr b)
any_decide (no first) (no second) = no (λ either. elim either [ inl a ↦ first a | inr b ↦ second b ])

-- whether a number is between two
between_decide : (from to z : ℤ) → Dec (IsBetween from to z)
between_decide from to z = any_decide (both_decide (le_decide from z) (le_decide z to)) (both_decide (le_decide to z) (le_decide z from))

-- whether a rational point is a position
pub is_at_decide : (point : RationalPoint) (position : Position) → Dec (IsAt point position)
is_at_decide point position = map_dec (λ both. record { x = both.0; y = both.1 }) (λ at. (at.x, at.y)) (both_decide (same_or_apart _ _) (same_or_apart _ _))

-- whether a rational point lies on an edge
pub lies_on_decide : (point : RationalPoint) (edge : Edge) → Dec (LiesOn point edge)
lies_on_decide point edge =
    map_dec (λ parts. record { positive = parts.0.0; on_line = parts.0.1; x_between = parts.1.0; y_between = parts.1.1 }) (λ lies. ((lies.positive, lies.on_line), (lies.x_between, lies.y_between)))
    (both_decide
    (both_decide (le_decide (pos 1) point.w) (same_or_apart _ _))
    (both_decide (between_decide _ _ _) (between_decide _ _ _)))

-- a rational point that is a position, and the position's own numbers
pub same_point : (position : Position) (point : RationalPoint) → point.x ≡ position.x *ℤ point.w → point.y ≡ position.y *ℤ point.w → IsSame (whole position) point
same_point position point x y = record { x = sym x ∙ sym (times_one point.x); y = sym y ∙ sym (times_one point.y) }
