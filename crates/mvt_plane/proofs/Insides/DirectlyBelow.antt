-- Where an edge is directly below a position, an odd number of a ring's edges pass below the position where they do
-- below an end of the edge: in the slanted plane both the edge's point in the position's column and the end are inside
-- the ring, or neither is.
use Rattle.std.proofs.Common.{◌≡◌, ◌^◌, ◌⊎◌, inl, inr, ◌↔◌, ℕ, true, false, List, [], ◌∷◌, map, slice_get, Some, ℤ, pos, ◌-ℤ◌, ◌*ℤ◌, ◌≤ℤ◌, ◌<ℤ◌, refl, sym, ◌∙◌, ap, subst, arith}
use Rattle.std.proofs.lemmas.Bool.{cond-true, cond-false}
use Rattle.std.proofs.lemmas.Int.{ints, by_lt_z}
use Rattle.std.proofs.Math.IntN.{*ℤ_comm}
use Rattle.std.specs.Int.Signed.{lt_z}
use borrow.Author.Differences.{product_is}
use Rattle.mvt_plane.specs.Geometry.Apart.{IsClearOf}
use Rattle.mvt_plane.specs.Geometry.Below.{IsAboveRising, PassesBelow, HasOddBelow, IsNotAbove, IsDirectlyBelow}
use Rattle.mvt_plane.specs.Geometry.EdgeOrder.{Segment, segment, segment_between, reach, gap}
use Rattle.mvt_plane.specs.Geometry.Inside.{Differ, IsPointInside}
use Rattle.mvt_plane.specs.Geometry.Measure.{key_of, orientation}
use Rattle.mvt_plane.specs.Position.{Position, IsPosition}
use Rattle.mvt_plane.specs.Geometry.RationalPoint.{RationalPoint, LiesOn, whole}
use Rattle.mvt_plane.specs.Geometry.Ring.{edges}
use Rattle.mvt_plane.specs.declared.geometry.edge.Edge.{Edge}
use Rattle.mvt_plane.proofs.Insides.BelowSlanted.{IsInColumn, AreAlike, HasOtherKeys, other_keys, odd_alike, odd_at_own_place}
use Rattle.mvt_plane.proofs.Insides.EdgesBelow.{below_rising, below_back}
use Rattle.mvt_plane.proofs.Orders.GapPoints.{no_gap_is_common}
use Rattle.mvt_plane.proofs.Orders.Gaps.{same_key, gap_by_orientation, reach_positive}
use Rattle.mvt_plane.proofs.Insides.InsideEdges.{point_over, over_on_edge}
use Rattle.mvt_plane.proofs.Points.MixedPoints.{AreClear}
use Rattle.mvt_plane.proofs.Insides.InsideAsAWhole.{points_together}
use Rattle.mvt_plane.proofs.Orders.Order.{zs, sign_cases, mul_pos, factor_pos}
use Rattle.mvt_plane.proofs.Insides.PointsUnder.{above}
use Rattle.mvt_plane.proofs.Orders.Polynomials.{constant, negated, once, ◌⊕◌, ◌⊖◌, ◌⊗◌, identity}
use Rattle.mvt_plane.proofs.Points.RationalPoints.{begin_lies_on, lies_on_reversed, times_one}
use Rattle.mvt_plane.proofs.Rings.RingEdges.{ends_of_edge}
use Rattle.mvt_plane.proofs.Insides.SlantedPlane.{slant, slant_edge, clear_slanted}

-- ---- an edge from its lesser key on

-- the edge between two positions of which the first has the lesser key
between_rising : (one other : Position) → key_of one <ℤ key_of other → segment_between one other ≡ segment one other
between_rising one other rises = cond-true (lt_z (key_of one) (key_of other)) (segment one other) (segment other one) (less (key_of one) (key_of other) rises)
  where
    less : (a b : ℤ) → a <ℤ b → lt_z a b ≡ true
    less a b is = grind (arith, ints)

-- and the second
between_falling : (one other : Position) → key_of other <ℤ key_of one → segment_between one other ≡ segment other one
between_falling one other falls = cond-false (lt_z (key_of one) (key_of other)) (segment one other) (segment other one) (not_less (key_of one) (key_of other) falls)
  where
    not_less : (a b : ℤ) → b <ℤ a → lt_z a b ≡ false
    not_less a b is = grind (arith, ints)

-- an edge that passes below a position, from its end of lesser key to the other
pub record IsUnder (position : Position) (edge : Edge) : Type 0 where
  pub low : Position
  pub high : Position
  pub along : segment_between edge.a edge.b ≡ segment low high
  pub begun : key_of low <ℤ key_of position
  pub ended : key_of position <ℤ key_of high
  pub above : pos 0 <ℤ orientation low high position
  pub points : (point : RationalPoint) → LiesOn point (record { a = low; b = high }) → LiesOn point edge
  pub slanted : (point : RationalPoint) → LiesOn point (record { a = slant low; b = slant high }) → LiesOn point (slant_edge edge)

-- a position above a rising edge isn't its end
beyond_end : (position low high : Position) → IsPosition position → IsPosition high → key_of position ≤ℤ key_of high → pos 0 <ℤ orientation low high position
    → key_of position <ℤ key_of high
beyond_end position low high here in_range order over = by_lt_z (key_of position) (key_of high) (λ more. more) (λ back.
    let same : position ≡ high = same_key position high here in_range (omega (arith, zs)) in
    let none : orientation low high position ≡ pos 0 = ap (orientation low high) same ∙ level low high in
    absurd (omega (arith, zs)))
  where
    level : (a b : Position) → orientation a b b ≡ pos 0
    level a b = identity (a.x ∷ a.y ∷ b.x ∷ b.y ∷ []) (λ A a B b. ((B ⊖ A) ⊗ (b ⊖ a) ⊖ (b ⊖ a) ⊗ (B ⊖ A), constant (pos 0))) tt

-- it has these ends
under_of : (position : Position) (edge : Edge) → IsPosition position → IsPosition edge.a → IsPosition edge.b → PassesBelow position edge → IsUnder position edge
under_of position edge here from to below = by_way below.above below.parted
  where
    up : IsAboveRising position edge.a edge.b → key_of edge.a <ℤ key_of position → key_of position ≤ℤ key_of edge.b → IsUnder position edge
    up it begun ended = record {
      low = edge.a;
      high = edge.b;
      along = between_rising edge.a edge.b it.rising;
      begun = begun;
      ended = beyond_end position edge.a edge.b here to ended it.above;
      above = it.above;
      points = λ point lies. lies;
      slanted = λ point lies. lies;
    }

    down : IsAboveRising position edge.b edge.a → key_of edge.b <ℤ key_of position → key_of position ≤ℤ key_of edge.a → IsUnder position edge
    down it begun ended = record {
      low = edge.b;
      high = edge.a;
      along = between_falling edge.a edge.b it.rising;
      begun = begun;
      ended = beyond_end position edge.b edge.a here from ended it.above;
      above = it.above;
      points = λ point lies. lies_on_reversed point (record { a = edge.b; b = edge.a }) lies;
      slanted = λ point lies. lies_on_reversed point (record { a = slant edge.b; b = slant edge.a }) lies;
    }

    at_least : (end : Position) → ¬ (key_of end <ℤ key_of position) → key_of position ≤ℤ key_of end
    at_least end none = by_lt_z (key_of end) (key_of position) (λ less. absurd (none less)) (λ order. order)

    clash : (one other : Position) → key_of one <ℤ key_of other → key_of other <ℤ key_of position → ¬ (key_of one <ℤ key_of position) → ⊥
    clash one other rises before none = none (omega (arith, zs))

    by_way : IsAboveRising position edge.a edge.b ⊎ IsAboveRising position edge.b edge.a
        → Differ (key_of edge.a <ℤ key_of position) (key_of edge.b <ℤ key_of position) → IsUnder position edge
    by_way (inl it) (inl (first, none)) = up it first (at_least edge.b none)
    by_way (inl it) (inr (none, second)) = absurd (clash edge.a edge.b it.rising second none)
    by_way (inr it) (inl (first, none)) = absurd (clash edge.b edge.a it.rising first none)
    by_way (inr it) (inr (none, second)) = down it second (at_least edge.a none)

-- ---- its point in the position's column

-- in the slanted plane
abbrev pub point_below : Position → Position → Position → RationalPoint
point_below position low high = point_over (slant position) (slant low) (slant high)

-- another edge is as far over it as there is a gap up to the edge, at the position's key
over_by_gap : (a b low high position : Position)
    → above (record { a = slant a; b = slant b }) (point_below position low high) ≡ gap (segment a b) (segment low high) (key_of position) (pos 1)
over_by_gap a b low high position =
    identity (a.y ∷ b.y ∷ key_of a ∷ key_of b ∷ low.y ∷ high.y ∷ key_of low ∷ key_of high ∷ key_of position ∷ [])
    (λ AY BY A B LY HY L H K. ((negated BY ⊖ negated AY) ⊗ (K ⊗ (H ⊖ L) ⊖ A ⊗ (H ⊖ L)) ⊖ (B ⊖ A) ⊗ ((negated LY ⊗ (H ⊖ L) ⊕ (negated HY ⊖ negated LY) ⊗ (K ⊖ L)) ⊖ negated AY ⊗ (H ⊖ L)), (LY ⊗ (H ⊖ L) ⊗ once ⊕ (K ⊖ L ⊗ once) ⊗ (HY ⊖ LY)) ⊗ (B ⊖ A) ⊖ (AY ⊗ (B ⊖ A) ⊗ once ⊕ (K ⊖ A ⊗ once) ⊗ (BY ⊖ AY)) ⊗ (H ⊖ L))) tt

-- where there is a gap, the other edge is below the position
below_by_gap : (a b low high position : Position) → key_of low <ℤ key_of high → key_of a <ℤ key_of b → pos 0 <ℤ orientation low high position
    → pos 0 <ℤ gap (segment a b) (segment low high) (key_of position) (pos 1) → pos 0 <ℤ orientation a b position
below_by_gap a b low high position rising other_rising over some =
    by_parts _ (orientation a b position) (reach (segment low high)) (orientation low high position) (reach (segment a b))
    (gap_by_orientation (segment a b) (segment low high) position) (reach_positive (segment low high) rising) over (reach_positive (segment a b) other_rising) some
  where
    by_parts : (g u r o s : ℤ) → g ≡ pos (2 ^ 32) *ℤ (u *ℤ r -ℤ o *ℤ s) → pos 0 <ℤ r → pos 0 <ℤ o → pos 0 <ℤ s → pos 0 <ℤ g → pos 0 <ℤ u
    by_parts g u r o s same r_sign o_sign s_sign sign =
        let product = product_is (pos (2 ^ 32)) (u *ℤ r -ℤ o *ℤ s) in
        let more = mul_pos {a = o} {b = s} o_sign s_sign in
        let turned = *ℤ_comm r u in
        factor_pos r u (omega (arith, zs)) (omega (arith, zs))

-- where it isn't above the edge and has no point in common with it, there is a gap
gap_by_clear : (a b low high position : Position) → key_of low <ℤ key_of position → key_of position <ℤ key_of high → key_of a <ℤ key_of position → key_of position <ℤ key_of b
    → AreClear (record { a = low; b = high }) (record { a = a; b = b }) → pos 0 ≤ℤ gap (segment a b) (segment low high) (key_of position) (pos 1)
    → pos 0 <ℤ gap (segment a b) (segment low high) (key_of position) (pos 1)
gap_by_clear a b low high position begun ended other_begun other_ended clear least = elim (sign_cases (gap (segment a b) (segment low high) (key_of position) (pos 1))) [
  | inl less ↦ absurd (omega (arith, zs, less, least))
  | inr (inl none) ↦
      let common = no_gap_is_common (segment a b) (segment low high) (key_of position) (pos 1) (omega (arith, zs)) (omega (arith, zs)) (omega (arith, zs))
      (record { begun = omega (arith, zs, times_one (key_of a)); lasts = omega (arith, zs, times_one (key_of b)) })
      (record { begun = omega (arith, zs, times_one (key_of low)); lasts = omega (arith, zs, times_one (key_of high)) }) none in
      absurd (clear common.0 common.2 common.1)
  | inr (inr more) ↦ more
]

-- so an edge that rises past the key is below the position where it is over the point
under_alike : (a b low high position : Position) → key_of low <ℤ key_of position → key_of position <ℤ key_of high → pos 0 <ℤ orientation low high position
    → AreClear (record { a = low; b = high }) (record { a = a; b = b })
    → (key_of a <ℤ key_of b → PassesBelow position (record { a = a; b = b }) → pos 0 ≤ℤ gap (segment a b) (segment low high) (key_of position) (pos 1))
    → AreAlike position (point_below position low high) a b
under_alike a b low high position begun ended over clear not_above other_begun other_ended =
    (λ its. subst (λ (up : ℤ). pos 0 <ℤ up) (sym same) (there its), λ up. back (subst (λ (it : ℤ). pos 0 <ℤ it) same up))
  where
    same : above (record { a = slant a; b = slant b }) (point_below position low high) ≡ gap (segment a b) (segment low high) (key_of position) (pos 1)
    same = over_by_gap a b low high position

    there : pos 0 <ℤ orientation a b position → pos 0 <ℤ gap (segment a b) (segment low high) (key_of position) (pos 1)
    there its = gap_by_clear a b low high position begun ended other_begun other_ended clear
        (not_above (omega (arith, zs)) ((below_rising position a b other_begun (omega (arith, zs))).0 its))

    back : pos 0 <ℤ gap (segment a b) (segment low high) (key_of position) (pos 1) → pos 0 <ℤ orientation a b position
    back some = below_by_gap a b low high position (omega (arith, zs)) (omega (arith, zs)) over some

-- ---- round a ring

-- an odd number of its edges pass below the position where the point is inside the slanted ring
odd_at_the_point : (position : Position) (edge : Edge) (ring : List Position) (it : IsUnder position edge) → IsPosition position
    → ((number : ℕ) (vertex : Position) → slice_get ring number ≡ Some vertex → IsPosition vertex)
    → ((number : ℕ) (other : Edge) → slice_get (edges ring) number ≡ Some other → ¬ LiesOn (whole position) other)
    → IsClearOf edge ring → ((number : ℕ) (other : Edge) → slice_get (edges ring) number ≡ Some other → PassesBelow position other → IsNotAbove position other edge)
    → HasOddBelow position ring ↔ IsPointInside (point_below position it.low it.high) (map slant ring)
odd_at_the_point position edge ring it here in_range off clear none_above = odd_alike position (point_below position it.low it.high) ring column each
  where
    column : IsInColumn position (point_below position it.low it.high)
    column = let begun = it.begun in let ended = it.ended in record { positive = omega (arith, zs); at = refl }

    least : (number : ℕ) (other : Edge) → slice_get (edges ring) number ≡ Some other → PassesBelow position other → (its : Segment) → segment_between other.a other.b ≡ its
        → pos 0 ≤ℤ gap its (segment it.low it.high) (key_of position) (pos 1)
    least number other there below its same =
        subst (λ (one : Segment). pos 0 ≤ℤ gap one (segment it.low it.high) (key_of position) (pos 1)) same
        (subst (λ (two : Segment). pos 0 ≤ℤ gap (segment_between other.a other.b) two (key_of position) (pos 1)) it.along (none_above number other there below))

    each : (number : ℕ) (other : Edge) → slice_get (edges ring) number ≡ Some other
        → HasOtherKeys (key_of position) other × AreAlike position (point_below position it.low it.high) other.a other.b × AreAlike position (point_below position it.low it.high) other.b other.a
    each number other there =
        let ends = ends_of_edge ring number other there in (
          other_keys position other here (in_range _ other.a ends.0) (in_range _ other.b ends.1) (off number other there),
          under_alike other.a other.b it.low it.high position it.begun it.ended it.above
              (λ point lies its. clear number other point there (it.points point lies) its)
              (λ rises below. least number other there below (segment other.a other.b) (between_rising other.a other.b rises)),
          under_alike other.b other.a it.low it.high position it.begun it.ended it.above
              (λ point lies its. clear number other point there (it.points point lies) (lies_on_reversed point (record { a = other.b; b = other.a }) its))
              (λ rises below. least number other there (below_back position other.b other.a below) (segment other.b other.a) (between_falling other.a other.b rises)),
        )

-- an odd number of its edges pass below the end of a clear edge where the end's place is inside the slanted ring
odd_at_the_end : (edge : Edge) (ring : List Position) → IsPosition edge.a
    → ((number : ℕ) (vertex : Position) → slice_get ring number ≡ Some vertex → IsPosition vertex) → IsClearOf edge ring
    → HasOddBelow edge.a ring ↔ IsPointInside (whole (slant edge.a)) (map slant ring)
odd_at_the_end edge ring from in_range clear = odd_at_own_place edge.a ring each
  where
    each : (number : ℕ) (other : Edge) → slice_get (edges ring) number ≡ Some other → HasOtherKeys (key_of edge.a) other
    each number other there =
        let ends = ends_of_edge ring number other there in
        other_keys edge.a other from (in_range _ other.a ends.0) (in_range _ other.b ends.1) (λ lies. clear number other (whole edge.a) there (begin_lies_on edge) lies)

-- where an edge is directly below a position, an odd number of a ring's edges pass below it where they do below an end
-- of the edge
pub odd_as_below_the_edge : (position : Position) (edge : Edge) (ring : List Position) → IsPosition position → IsPosition edge.a → IsPosition edge.b
    → ((number : ℕ) (vertex : Position) → slice_get ring number ≡ Some vertex → IsPosition vertex)
    → ((number : ℕ) (other : Edge) → slice_get (edges ring) number ≡ Some other → ¬ LiesOn (whole position) other)
    → IsClearOf edge ring → IsDirectlyBelow position edge ring → HasOddBelow position ring ↔ HasOddBelow edge.a ring
odd_as_below_the_edge position edge ring here from to in_range off clear directly =
    let it : IsUnder position edge = under_of position edge here from to directly.below in
    let begun = it.begun in
    let point = point_below position it.low it.high in
    let end = whole (slant edge.a) in
    let on_edge = it.slanted point (over_on_edge (slant position) (slant it.low) (slant it.high) (omega (arith, zs)) it.ended) in
    let end_on = begin_lies_on (slant_edge edge) in
    let clear_there = clear_slanted edge ring clear in
    let at_point = odd_at_the_point position edge ring it here in_range off clear directly.none_above in
    let at_end = odd_at_the_end edge ring from in_range clear in (
      λ odd. at_end.1 (points_together (slant_edge edge) (map slant ring) clear_there point end on_edge end_on (at_point.0 odd)),
      λ odd. at_point.1 (points_together (slant_edge edge) (map slant ring) clear_there end point end_on on_edge (at_end.0 odd)),
    )
