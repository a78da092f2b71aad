-- The gap between two edges, as a sum of products: how it goes with the key, and how gaps join. It doesn't matter here
-- where an edge begins or ends.
use Rattle.std.proofs.Common.{◌≡◌, ◌^◌, ◌⊎◌, inl, inr, List, [], ◌∷◌, ℤ, pos, neg_ℤ, ◌+ℤ◌, ◌-ℤ◌, ◌*ℤ◌, ◌<ℤ◌, ◌≤ℤ◌, ◌∙◌, ap₂, arith}
use Rattle.std.proofs.Math.IntN.{*ℤ_comm, *ℤ-zero}
use borrow.Author.Differences.{product_is}
use Rattle.mvt_plane.proofs.Orders.Order.{zs, le_or_lt, mul_pos, mul_nonneg, cancel_eq, cancel_lt, factor_pos, factor_nonneg}
use Rattle.mvt_plane.proofs.Orders.Polynomials.{mul-add_ℤ, Polynomial, constant, negated, once, ◌⊕◌, ◌⊖◌, ◌⊗◌, identity, consequence, given}
use Rattle.mvt_plane.specs.Geometry.EdgeOrder.{Segment, segment, IsRising, reach, height, gap, slope, IsAfter, IsBelow}
use Rattle.mvt_plane.specs.Calls.EdgeOrder.{key_at}
use Rattle.mvt_plane.specs.Geometry.Measure.{orientation, key_of}
use Rattle.mvt_plane.specs.Position.{Position, IsPosition}
use Rattle.mvt_plane.specs.Geometry.RationalPoint.{RationalPoint, IsAt}

-- ---- the same sums, as polynomials

-- a key, of x and y
abbrev pub key_over : Polynomial → Polynomial → Polynomial
key_over x y = x ⊗ constant (pos (2 ^ 32)) ⊕ y

-- a height, of the y and the key of the low end, the reach, and the rise in y
abbrev height_over : Polynomial → Polynomial → Polynomial → Polynomial → Polynomial → Polynomial → Polynomial
height_over low key far rise t w = low ⊗ far ⊗ w ⊕ (t ⊖ key ⊗ w) ⊗ rise

-- a gap of two edges, of these numbers of each
abbrev gap_over : (low key far rise its_low its_key its_far its_rise t w : Polynomial) → Polynomial
gap_over low key far rise its_low its_key its_far its_rise t w = height_over its_low its_key its_far its_rise t w ⊗ far ⊖ height_over low key far rise t w ⊗ its_far

-- these numbers, and then others
abbrev numbers_of : Segment → Segment → List ℤ → List ℤ
numbers_of first second others =
    first.low.y ∷ key_of first.low ∷ reach first ∷ (first.high.y -ℤ first.low.y) ∷ second.low.y ∷ key_of second.low ∷ reach second ∷ (second.high.y -ℤ second.low.y) ∷ others

-- ---- keys

-- positions in range have keys of their own
pub same_key : (one other : Position) → IsPosition one → IsPosition other → key_of one ≡ key_of other → one ≡ other
same_key one other in_range other_in_range same =
    let low = in_range.y.0 in
    let high = in_range.y.1 in
    let other_low = other_in_range.y.0 in
    let other_high = other_in_range.y.1 in
    let first = product_is one.x (pos (2 ^ 32)) in
    let second = product_is other.x (pos (2 ^ 32)) in
    ap₂ (λ (x y : ℤ). record { x = x; y = y }) (omega (arith, zs)) (omega (arith, zs))

-- a rational point that is a position has its key
pub key_at_position : (point : RationalPoint) (position : Position) → IsAt point position → key_at point ≡ key_of position *ℤ point.w
key_at_position point position at =
    consequence (position.x ∷ position.y ∷ point.w ∷ point.x ∷ point.y ∷ [])
    (λ X Y W PX PY. (key_over PX PY, key_over X Y ⊗ W, given (constant (pos (2 ^ 32))) PX (X ⊗ W) ∷ given once PY (Y ⊗ W) ∷ [])) (at.x, (at.y, tt)) tt

-- a rising edge goes some way
pub reach_positive : (it : Segment) → IsRising it → pos 0 <ℤ reach it
reach_positive it rising = omega (arith, zs)

-- ---- along the key

-- a gap is linear in both numbers of a key
pub gap_of_sum : (first second : Segment) (m n t w u v : ℤ) → gap first second (m *ℤ t +ℤ n *ℤ u) (m *ℤ w +ℤ n *ℤ v) ≡ m *ℤ gap first second t w +ℤ n *ℤ gap first second u v
gap_of_sum first second m n t w u v =
    identity (numbers_of first second (m ∷ n ∷ t ∷ w ∷ u ∷ v ∷ []))
    (λ A B C D E F G H M N T W U V. let at = gap_over A B C D E F G H in (at (M ⊗ T ⊕ N ⊗ U) (M ⊗ W ⊕ N ⊗ V), M ⊗ at T W ⊕ N ⊗ at U V)) tt

-- it is a weighted sum of those at two keys
pub gap_between : (first second : Segment) (left right t w : ℤ)
    → (right -ℤ left) *ℤ gap first second t w ≡ (right *ℤ w -ℤ t) *ℤ gap first second left (pos 1) +ℤ (t -ℤ left *ℤ w) *ℤ gap first second right (pos 1)
gap_between first second left right t w =
    identity (numbers_of first second (left ∷ right ∷ t ∷ w ∷ []))
    (λ A B C D E F G H L R T W. let at = gap_over A B C D E F G H in ((R ⊖ L) ⊗ at T W, (R ⊗ W ⊖ T) ⊗ at L once ⊕ (T ⊖ L ⊗ W) ⊗ at R once)) tt

-- it grows by the slope
pub gap_by_slope : (first second : Segment) (left right : ℤ) → gap first second right (pos 1) ≡ gap first second left (pos 1) +ℤ (right -ℤ left) *ℤ slope first second
gap_by_slope first second left right =
    identity (numbers_of first second (left ∷ right ∷ []))
    (λ A B C D E F G H L R. let at = gap_over A B C D E F G H in (at R once, at L once ⊕ (R ⊖ L) ⊗ (H ⊗ C ⊖ D ⊗ G))) tt

-- a sum with positive weights of two numbers, neither negative and not both 0, is positive
weighted_pos : (m n a b : ℤ) → pos 0 <ℤ m → pos 0 <ℤ n → pos 0 ≤ℤ a → pos 0 ≤ℤ b → pos 0 <ℤ (a +ℤ b) → pos 0 <ℤ (m *ℤ a +ℤ n *ℤ b)
weighted_pos m n a b m_sign n_sign a_sign b_sign some =
    let m_some : pos 0 ≤ℤ m = omega (arith, zs) in
    let n_some : pos 0 ≤ℤ n = omega (arith, zs) in
    elim (le_or_lt a (pos 0)) [
      | inl none ↦ let above : pos 0 <ℤ b = omega (arith, zs) in omega (arith, zs, mul_nonneg m_some a_sign, mul_pos n_sign above)
      | inr above ↦ omega (arith, zs, mul_pos m_sign above, mul_nonneg n_some b_sign)
    ]

-- so is what is between two such numbers
positive_between : (left right t w at_left at_right between : ℤ) → pos 1 ≤ℤ w → (left *ℤ w) <ℤ t → t <ℤ (right *ℤ w) → pos 0 ≤ℤ at_left → pos 0 ≤ℤ at_right → pos 0 <ℤ (at_left +ℤ at_right)
    → (right -ℤ left) *ℤ between ≡ (right *ℤ w -ℤ t) *ℤ at_left +ℤ (t -ℤ left *ℤ w) *ℤ at_right → pos 0 <ℤ between
positive_between left right t w at_left at_right between positive later earlier left_sign right_sign some sum =
    let there : left <ℤ right = cancel_lt w left right (omega (arith, zs)) (omega (arith, zs, *ℤ_comm w left, *ℤ_comm w right)) in
    let all = weighted_pos (right *ℤ w -ℤ t) (t -ℤ left *ℤ w) at_left at_right (omega (arith, zs)) (omega (arith, zs)) left_sign right_sign some in
    factor_pos (right -ℤ left) between (omega (arith, zs)) (omega (arith, zs))

-- strictly between two keys over which the first edge is below, the gap is positive
pub gap_positive_between : (first second : Segment) (left right t w : ℤ) → pos 1 ≤ℤ w → IsBelow left right first second → (left *ℤ w) <ℤ t → t <ℤ (right *ℤ w) → pos 0 <ℤ gap first second t w
gap_positive_between first second left right t w positive below later earlier =
    positive_between left right t w (gap first second left (pos 1)) (gap first second right (pos 1)) (gap first second t w) positive later earlier below.at_left below.at_right below.apart
    (gap_between first second left right t w)

-- ---- several edges

-- backward the gap has the other sign
pub gap_back : (first second : Segment) (t w : ℤ) → gap second first t w ≡ neg_ℤ (gap first second t w)
gap_back first second t w =
    identity (height first t w ∷ reach first ∷ height second t w ∷ reach second ∷ []) (λ A R B S. (A ⊗ S ⊖ B ⊗ R, negated (B ⊗ R ⊖ A ⊗ S))) tt

-- an edge has no gap to itself
pub gap_to_itself : (it : Segment) (t w : ℤ) → gap it it t w ≡ pos 0
gap_to_itself it t w = identity (height it t w ∷ reach it ∷ []) (λ A R. (A ⊗ R ⊖ A ⊗ R, constant (pos 0))) tt

-- differences of fractions join
joined : (a b c r s q : ℤ) → s *ℤ (c *ℤ r -ℤ a *ℤ q) ≡ q *ℤ (b *ℤ r -ℤ a *ℤ s) +ℤ r *ℤ (c *ℤ s -ℤ b *ℤ q)
joined a b c r s q =
    identity (a ∷ b ∷ c ∷ r ∷ s ∷ q ∷ []) (λ A B C R S Q. (S ⊗ (C ⊗ R ⊖ A ⊗ Q), Q ⊗ (B ⊗ R ⊖ A ⊗ S) ⊕ R ⊗ (C ⊗ S ⊖ B ⊗ Q))) tt

-- gaps join
pub gaps_join : (first second third : Segment) (t w : ℤ) → reach second *ℤ gap first third t w ≡ reach third *ℤ gap first second t w +ℤ reach first *ℤ gap second third t w
gaps_join first second third t w = joined (height first t w) (height second t w) (height third t w) (reach first) (reach second) (reach third)

-- so do slopes
pub slopes_join : (first second third : Segment) → reach second *ℤ slope first third ≡ reach third *ℤ slope first second +ℤ reach first *ℤ slope second third
slopes_join first second third =
    joined (first.high.y -ℤ first.low.y) (second.high.y -ℤ second.low.y) (third.high.y -ℤ third.low.y) (reach first) (reach second) (reach third)

-- the sign of a whole that two parts join to
module _ (r s q near far whole : ℤ) (r_sign : pos 0 <ℤ r) (s_sign : pos 0 <ℤ s) (q_sign : pos 0 <ℤ q) (sum : s *ℤ whole ≡ q *ℤ near +ℤ r *ℤ far) where
  -- positive, of parts that aren't negative and not both 0
  joined_pos : pos 0 ≤ℤ near → pos 0 ≤ℤ far → pos 0 <ℤ (near +ℤ far) → pos 0 <ℤ whole
  joined_pos near_sign far_sign some =
      let all = weighted_pos q r near far q_sign r_sign near_sign far_sign some in
      factor_pos s whole (omega (arith, zs)) (omega (arith, zs))

  -- not negative, of parts that aren't
  joined_nonneg : pos 0 ≤ℤ near → pos 0 ≤ℤ far → pos 0 ≤ℤ whole
  joined_nonneg near_sign far_sign =
      let q_some : pos 0 ≤ℤ q = omega (arith, zs) in
      let r_some : pos 0 ≤ℤ r = omega (arith, zs) in
      factor_nonneg s whole s_sign (omega (arith, zs, mul_nonneg q_some near_sign, mul_nonneg r_some far_sign))

  -- 0, of parts that are 0
  joined_zero : near ≡ pos 0 → far ≡ pos 0 → whole ≡ pos 0
  joined_zero near_none far_none =
      cancel_eq s whole (pos 0) s_sign
      (sum ∙ ap₂ (λ (m n : ℤ). q *ℤ m +ℤ r *ℤ n) near_none far_none ∙ omega (arith, zs, *ℤ-zero q, *ℤ-zero r, *ℤ-zero s))

  -- and parts that aren't negative are 0 where it is 0
  parts_zero : pos 0 ≤ℤ near → pos 0 ≤ℤ far → whole ≡ pos 0 → (near ≡ pos 0) × (far ≡ pos 0)
  parts_zero near_sign far_sign none = elim (le_or_lt (near +ℤ far) (pos 0)) [
    | inl most ↦ (omega (arith, zs), omega (arith, zs))
    | inr some ↦ absurd (omega (arith, zs, joined_pos near_sign far_sign some))
  ]

-- of two numbers the first is positive, or it is 0 and the second is positive
abbrev IsAbove : ℤ → ℤ → Type 0
IsAbove a b = (pos 0 <ℤ a) ⊎ ((a ≡ pos 0) × (pos 0 <ℤ b))

-- what joins of such pairs is one
after_joined : (r s q : ℤ) → pos 0 <ℤ r → pos 0 <ℤ s → pos 0 <ℤ q → (near far whole near_slope far_slope whole_slope : ℤ) → s *ℤ whole ≡ q *ℤ near +ℤ r *ℤ far
    → s *ℤ whole_slope ≡ q *ℤ near_slope +ℤ r *ℤ far_slope → IsAbove near near_slope → IsAbove far far_slope → IsAbove whole whole_slope
after_joined r s q r_sign s_sign q_sign near far whole near_slope far_slope whole_slope sum slopes (inl one) other =
    inl (joined_pos r s q near far whole r_sign s_sign q_sign sum (omega (arith, zs)) (omega (arith, zs)) (omega (arith, zs)))
after_joined r s q r_sign s_sign q_sign near far whole near_slope far_slope whole_slope sum slopes (inr one) (inl other) =
    let none = one.0 in
    inl (joined_pos r s q near far whole r_sign s_sign q_sign sum (omega (arith, zs)) (omega (arith, zs)) (omega (arith, zs)))
after_joined r s q r_sign s_sign q_sign near far whole near_slope far_slope whole_slope sum slopes (inr one) (inr other) =
    let rises = one.1 in
    let other_rises = other.1 in
    inr (
      joined_zero r s q near far whole r_sign s_sign q_sign sum one.0 other.0,
      joined_pos r s q near_slope far_slope whole_slope r_sign s_sign q_sign slopes (omega (arith, zs)) (omega (arith, zs)) (omega (arith, zs)),
    )

-- so the order right after a key is transitive
pub after_trans : (key : ℤ) (first second third : Segment) → IsRising first → IsRising second → IsRising third → IsAfter key first second → IsAfter key second third → IsAfter key first third
after_trans key first second third rising second_rising third_rising after next =
    after_joined (reach first) (reach second) (reach third) (reach_positive first rising) (reach_positive second second_rising) (reach_positive third third_rising)
    (gap first second key (pos 1)) (gap second third key (pos 1)) (gap first third key (pos 1)) (slope first second) (slope second third) (slope first third)
    (gaps_join first second third key (pos 1)) (slopes_join first second third) after next

-- and strict
pub after_apart : (key : ℤ) (it : Segment) → ¬ IsAfter key it it
after_apart key it after = by_case (gap it it key (pos 1)) (slope it it) (gap_to_itself it key (pos 1)) level after
  where
    level : slope it it ≡ pos 0
    level = identity ((it.high.y -ℤ it.low.y) ∷ reach it ∷ []) (λ A R. (A ⊗ R ⊖ A ⊗ R, constant (pos 0))) tt

    by_case : (a b : ℤ) → a ≡ pos 0 → b ≡ pos 0 → ¬ IsAbove a b
    by_case a b none level above = omega (arith, zs)

-- and so is the order between two keys
pub below_trans : (left right : ℤ) (first second third : Segment) → IsRising first → IsRising second → IsRising third → IsBelow left right first second → IsBelow left right second third
    → IsBelow left right first third
below_trans left right first second third rising second_rising third_rising below next =
    let r = reach first in
    let s = reach second in
    let q = reach third in
    let r_sign = reach_positive first rising in
    let s_sign = reach_positive second second_rising in
    let q_sign = reach_positive third third_rising in
    let at_left = gaps_join first second third left (pos 1) in
    let at_right = gaps_join first second third right (pos 1) in
    record {
      at_left = joined_nonneg r s q _ _ _ r_sign s_sign q_sign at_left below.at_left next.at_left;
      at_right = joined_nonneg r s q _ _ _ r_sign s_sign q_sign at_right below.at_right next.at_right;
      apart = joined_sum r s q r_sign s_sign q_sign (gap first second left (pos 1)) (gap second third left (pos 1)) (gap first third left (pos 1))
          (gap first second right (pos 1)) (gap second third right (pos 1)) (gap first third right (pos 1)) at_left at_right
          below.at_left below.at_right below.apart next.at_left next.at_right next.apart;
    }
  where
    sums : (r s q a b c x y z : ℤ) → s *ℤ c ≡ q *ℤ a +ℤ r *ℤ b → s *ℤ z ≡ q *ℤ x +ℤ r *ℤ y → s *ℤ (c +ℤ z) ≡ q *ℤ (a +ℤ x) +ℤ r *ℤ (b +ℤ y)
    sums r s q a b c x y z left right = omega (arith, zs, mul-add_ℤ s c z, mul-add_ℤ q a x, mul-add_ℤ r b y)

    joined_sum : (r s q : ℤ) → pos 0 <ℤ r → pos 0 <ℤ s → pos 0 <ℤ q → (a b c x y z : ℤ) → s *ℤ c ≡ q *ℤ a +ℤ r *ℤ b → s *ℤ z ≡ q *ℤ x +ℤ r *ℤ y
        → pos 0 ≤ℤ a → pos 0 ≤ℤ x → pos 0 <ℤ (a +ℤ x) → pos 0 ≤ℤ b → pos 0 ≤ℤ y → pos 0 <ℤ (b +ℤ y) → pos 0 <ℤ (c +ℤ z)
    joined_sum r s q r_sign s_sign q_sign a b c x y z left right a_sign x_sign near b_sign y_sign far =
        joined_pos r s q (a +ℤ x) (b +ℤ y) (c +ℤ z) r_sign s_sign q_sign (sums r s q a b c x y z left right) (omega (arith, zs)) (omega (arith, zs)) (omega (arith, zs))

-- and strict
pub below_apart : (left right : ℤ) (it : Segment) → ¬ IsBelow left right it it
below_apart left right it below = let some = rw (gap_to_itself it left (pos 1), gap_to_itself it right (pos 1)) at below.apart in omega (arith, zs)

-- no gap between the outer two of three edges in order: none between neighbours
pub no_gap_within : (first second third : Segment) (t w : ℤ) → IsRising first → IsRising second → IsRising third → pos 0 ≤ℤ gap first second t w → pos 0 ≤ℤ gap second third t w
    → gap first third t w ≡ pos 0 → (gap first second t w ≡ pos 0) × (gap second third t w ≡ pos 0)
no_gap_within first second third t w rising second_rising third_rising = parts_zero
    (reach first) (reach second) (reach third) (gap first second t w) (gap second third t w) (gap first third t w)
    (reach_positive first rising) (reach_positive second second_rising) (reach_positive third third_rising) (gaps_join first second third t w)

-- ---- orientation

-- how far a position is above an edge, at its key
pub height_by_orientation : (it : Segment) (position : Position)
    → position.y *ℤ reach it -ℤ height it (key_of position) (pos 1) ≡ pos (2 ^ 32) *ℤ orientation it.low it.high position
height_by_orientation it position =
    identity (it.low.x ∷ it.low.y ∷ it.high.x ∷ it.high.y ∷ position.x ∷ position.y ∷ [])
    (λ LX LY HX HY X Y. let far = key_over HX HY ⊖ key_over LX LY in (Y ⊗ far ⊖ height_over LY (key_over LX LY) far (HY ⊖ LY) (key_over X Y) once, constant (pos (2 ^ 32)) ⊗ ((HX ⊖ LX) ⊗ (Y ⊖ LY) ⊖ (HY ⊖ LY) ⊗ (X ⊖ LX)))) tt

-- the gap of two edges at the key of a position
pub gap_by_orientation : (first second : Segment) (position : Position)
    → gap first second (key_of position) (pos 1)
    ≡ pos (2 ^ 32) *ℤ (orientation first.low first.high position *ℤ reach second -ℤ orientation second.low second.high position *ℤ reach first)
gap_by_orientation first second position =
    joined_sides (pos (2 ^ 32)) (reach first) (reach second) (height first (key_of position) (pos 1)) (height second (key_of position) (pos 1)) position.y
    (orientation first.low first.high position) (orientation second.low second.high position) (height_by_orientation first position) (height_by_orientation second position)
  where
    joined_sides : (m r s a b y u v : ℤ) → y *ℤ r -ℤ a ≡ m *ℤ u → y *ℤ s -ℤ b ≡ m *ℤ v → b *ℤ r -ℤ a *ℤ s ≡ m *ℤ (u *ℤ s -ℤ v *ℤ r)
    joined_sides m r s a b y u v one other =
        consequence (m ∷ r ∷ s ∷ a ∷ b ∷ y ∷ u ∷ v ∷ [])
        (λ M R S A B Y U V. (B ⊗ R ⊖ A ⊗ S, M ⊗ (U ⊗ S ⊖ V ⊗ R), given S (Y ⊗ R ⊖ A) (M ⊗ U) ∷ given (negated R) (Y ⊗ S ⊖ B) (M ⊗ V) ∷ [])) (one, (other, tt)) tt

-- the slope of two edges that begin in one position
pub slope_by_orientation : (low one other : Position) → slope (segment low one) (segment low other) ≡ pos (2 ^ 32) *ℤ orientation low one other
slope_by_orientation low one other =
    identity (low.x ∷ low.y ∷ one.x ∷ one.y ∷ other.x ∷ other.y ∷ [])
    (λ LX LY AX AY BX BY. ((BY ⊖ LY) ⊗ (key_over AX AY ⊖ key_over LX LY) ⊖ (AY ⊖ LY) ⊗ (key_over BX BY ⊖ key_over LX LY), constant (pos (2 ^ 32)) ⊗ ((AX ⊖ LX) ⊗ (BY ⊖ LY) ⊖ (AY ⊖ LY) ⊗ (BX ⊖ LX)))) tt

-- which have no gap there
begun_together : (low one other : Position) → gap (segment low one) (segment low other) (key_of low) (pos 1) ≡ pos 0
begun_together low one other = no_gap low.y (key_of low) (reach (segment low one)) (one.y -ℤ low.y) (reach (segment low other)) (other.y -ℤ low.y)
  where
    no_gap : (y k r u s v : ℤ) → (y *ℤ s *ℤ pos 1 +ℤ (k -ℤ k *ℤ pos 1) *ℤ v) *ℤ r -ℤ (y *ℤ r *ℤ pos 1 +ℤ (k -ℤ k *ℤ pos 1) *ℤ u) *ℤ s ≡ pos 0
    no_gap y k r u s v =
        identity (y ∷ k ∷ r ∷ u ∷ s ∷ v ∷ [])
        (λ Y K R U S V. (height_over Y K S V K once ⊗ R ⊖ height_over Y K R U K once ⊗ S, constant (pos 0))) tt

-- so the orientation says what their order after it is
pub after_by_orientation : (low one other : Position) → pos 0 <ℤ orientation low one other → IsAfter (key_of low) (segment low one) (segment low other)
after_by_orientation low one other sign =
    inr (begun_together low one other, rises (slope (segment low one) (segment low other)) (orientation low one other) (slope_by_orientation low one other) sign)
  where
    rises : (a b : ℤ) → a ≡ pos (2 ^ 32) *ℤ b → pos 0 <ℤ b → pos 0 <ℤ a
    rises a b same sign = let product = product_is (pos (2 ^ 32)) b in omega (arith, zs)

-- and the order says what the sign of the orientation is
pub orientation_by_after : (low one other : Position) → IsAfter (key_of low) (segment low one) (segment low other) → pos 0 <ℤ orientation low one other
orientation_by_after low one other after =
    sign (gap (segment low one) (segment low other) (key_of low) (pos 1)) (slope (segment low one) (segment low other)) (orientation low one other)
    (begun_together low one other) (slope_by_orientation low one other) after
  where
    sign : (a b c : ℤ) → a ≡ pos 0 → b ≡ pos (2 ^ 32) *ℤ c → IsAbove a b → pos 0 <ℤ c
    sign a b c none same above = let product = product_is (pos (2 ^ 32)) c in omega (arith, zs)
