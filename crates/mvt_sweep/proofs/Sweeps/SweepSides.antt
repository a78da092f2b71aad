-- On which side of the next vertex an edge is: below it, on it or above it.
use Rattle.std.proofs.Common.{◌≡◌, ℕ, ◌<◌, ◌⊎◌, ◌^◌, inl, inr, List, [], ◌∷◌, ◌++◌, ℤ, pos, ◌-ℤ◌, ◌*ℤ◌, ◌<ℤ◌, ◌≤ℤ◌, refl, sym, ap, subst, arith}
use borrow.Author.Differences.{product_is}
use Rattle.mvt_plane.specs.Geometry.EdgeOrder.{Segment, segment, IsRising, gap, reach}
use Rattle.mvt_plane.specs.Calls.EdgeOrder.{IsEndOf, Reaches}
use Rattle.mvt_plane.specs.Geometry.Measure.{key_of, orientation}
use Rattle.mvt_plane.specs.Position.{Position}
use Rattle.mvt_plane.specs.Geometry.RationalPoint.{whole}
use Rattle.mvt_sweep.specs.Calls.Chain.{Has, EachOne, Head, Ordered}
use Rattle.mvt_sweep.specs.Calls.Sweep.{Plan, IsPlan, Tested, IsActive, IsSwept, IsEvent, IsUnder, IsSlab}
use Rattle.mvt_plane.proofs.Orders.Order.{zs, le_or_lt, sign_cases, mul_pos, mul_neg_pos, mul_nonneg, factor_neg, mul_nonpos_nonneg}
use Rattle.mvt_plane.proofs.Orders.Polynomials.{unknown, ◌⊖◌, ◌⊗◌, constant, ring}
use Rattle.mvt_plane.proofs.Points.RationalPoints.{times_one}
use Rattle.mvt_sweep.proofs.Chains.ChainParts.{each_has, has_either}
use Rattle.mvt_plane.proofs.Orders.GapPoints.{point_of_height, end_lies_on}
use Rattle.mvt_plane.proofs.Orders.Gaps.{key_at_position, reach_positive, height_by_orientation, gap_by_orientation}

-- Edges that begin in the vertex

-- an edge that begins in a vertex goes from it on
pub begins_at : (vertex : Position) (it : Segment) → it.low ≡ vertex → it ≡ segment vertex it.high
begins_at vertex it begins = ap (λ (low : Position). segment low it.high) begins

-- and ends after it
pub rises_from : (vertex : Position) (it : Segment) → IsRising it → it.low ≡ vertex → key_of vertex <ℤ key_of it.high
rises_from vertex it rising begins = subst (λ (low : Position). key_of low <ℤ key_of it.high) begins rising

-- Below, on and above the vertex

-- an edge has its beginning on it
on_at_low : (low high : Position) → orientation low high low ≡ pos 0
on_at_low low high =
    let A = unknown 0 in
    let B = unknown 1 in
    let C = unknown 2 in
    let D = unknown 3 in
    ring (low.x ∷ low.y ∷ high.x ∷ high.y ∷ []) ((C ⊖ A) ⊗ (B ⊖ B) ⊖ (D ⊖ B) ⊗ (A ⊖ A)) (constant (pos 0)) tt

-- and its end
on_at_high : (low high : Position) → orientation low high high ≡ pos 0
on_at_high low high =
    let A = unknown 0 in
    let B = unknown 1 in
    let C = unknown 2 in
    let D = unknown 3 in
    ring (low.x ∷ low.y ∷ high.x ∷ high.y ∷ []) ((C ⊖ A) ⊗ (D ⊖ B) ⊖ (D ⊖ B) ⊗ (C ⊖ A)) (constant (pos 0)) tt

-- so it is with any of its ends
pub on_at_end : (vertex : Position) (it : Segment) → IsEndOf vertex it → orientation it.low it.high vertex ≡ pos 0
on_at_end vertex it (inl low) = subst (λ (at : Position). orientation it.low it.high at ≡ pos 0) (sym low) (on_at_low it.low it.high)
on_at_end vertex it (inr high) = subst (λ (at : Position). orientation it.low it.high at ≡ pos 0) (sym high) (on_at_high it.low it.high)

-- below and on: the gap is positive
pub gap_from_below : (between one other one_reach other_reach : ℤ) → between ≡ pos (2 ^ 32) *ℤ (one *ℤ other_reach -ℤ other *ℤ one_reach) → pos 0 <ℤ one_reach → pos 0 <ℤ other_reach
    → pos 0 <ℤ one → other ≤ℤ pos 0 → pos 0 <ℤ between
gap_from_below between one other one_reach other_reach is one_long other_long under on =
    let more : pos 0 <ℤ (one *ℤ other_reach) = mul_pos under other_long in
    let less : (other *ℤ one_reach) ≤ℤ pos 0 = mul_nonpos_nonneg on (omega (arith, zs)) in
    omega (arith, zs, product_is (pos (2 ^ 32)) (one *ℤ other_reach -ℤ other *ℤ one_reach))

-- on and above: the gap is positive
pub gap_to_above : (between one other one_reach other_reach : ℤ) → between ≡ pos (2 ^ 32) *ℤ (one *ℤ other_reach -ℤ other *ℤ one_reach) → pos 0 <ℤ one_reach → pos 0 <ℤ other_reach
    → pos 0 ≤ℤ one → other <ℤ pos 0 → pos 0 <ℤ between
gap_to_above between one other one_reach other_reach is one_long other_long on above =
    let more : pos 0 ≤ℤ (one *ℤ other_reach) = mul_nonneg on (omega (arith, zs)) in
    let less : (other *ℤ one_reach) <ℤ pos 0 = mul_neg_pos above one_long in
    omega (arith, zs, product_is (pos (2 ^ 32)) (one *ℤ other_reach -ℤ other *ℤ one_reach))

-- after one that is above all are above
above_by_gap : (between one other one_reach other_reach : ℤ) → between ≡ pos (2 ^ 32) *ℤ (one *ℤ other_reach -ℤ other *ℤ one_reach) → pos 0 <ℤ one_reach → pos 0 <ℤ other_reach
    → pos 0 ≤ℤ between → one <ℤ pos 0 → other <ℤ pos 0
above_by_gap between one other one_reach other_reach is one_long other_long some above =
    let less : (one *ℤ other_reach) <ℤ pos 0 = mul_neg_pos above other_long in
    let same = product_is (pos (2 ^ 32)) (one *ℤ other_reach -ℤ other *ℤ one_reach) in
    let turned : one_reach *ℤ other ≡ other *ℤ one_reach = ring (one_reach ∷ other ∷ []) (unknown 0 ⊗ unknown 1) (unknown 1 ⊗ unknown 0) tt in
    let negative : (one_reach *ℤ other) <ℤ pos 0 = omega (arith, zs) in
    factor_neg one_reach other (omega (arith, zs)) negative

-- one that isn't below, before one that the vertex is on, has no gap to it
no_gap_to_end : (between one other one_reach other_reach : ℤ) → between ≡ pos (2 ^ 32) *ℤ (one *ℤ other_reach -ℤ other *ℤ one_reach) → pos 0 <ℤ one_reach → pos 0 <ℤ other_reach
    → pos 0 ≤ℤ between → ¬ (pos 0 <ℤ one) → other ≡ pos 0 → between ≡ pos 0
no_gap_to_end between one other one_reach other_reach is one_long other_long some others on =
    let at_most : one ≤ℤ pos 0 = elim (le_or_lt one (pos 0)) [ inl at_most ↦ at_most | inr under ↦ absurd (others under) ] in
    let less : (one *ℤ other_reach) ≤ℤ pos 0 = mul_nonpos_nonneg at_most (omega (arith, zs)) in
    let on_it : pos 0 ≤ℤ other = omega (arith, zs) in
    let more : pos 0 ≤ℤ (other *ℤ one_reach) = mul_nonneg on_it (omega (arith, zs)) in
    omega (arith, zs, product_is (pos (2 ^ 32)) (one *ℤ other_reach -ℤ other *ℤ one_reach))

-- Edges that go on up to the vertex

-- an edge that goes on and has the vertex for an end ends there
active_ends : (plan : Plan) (key : ℤ) (vertex : Position) (first second edge : ℕ) → IsEvent plan key vertex first second → IsActive plan key edge → IsEndOf vertex (plan.segment edge)
    → key_of (plan.segment edge).high ≡ key_of vertex
active_ends plan key vertex first second edge event active (inl low) =
    let same = ap key_of low in
    let begun = active.begun in
    let later = event.later in
    absurd (omega (arith, zs))
active_ends plan key vertex first second edge event active (inr high) = sym (ap key_of high)

-- an edge that ends in the vertex went on up to it
ending_active : (plan : Plan) (key : ℤ) (vertex : Position) (first second edge : ℕ) → IsPlan plan → IsEvent plan key vertex first second → edge < plan.count
    → key_of (plan.segment edge).high ≡ key_of vertex → IsActive plan key edge
ending_active plan key vertex first second edge is_plan event known ends =
    let later = event.later in
    let rising = is_plan.rising edge known in
    record {
      known = known;
      begun = elim (event.next_low edge known) [ inl before ↦ before | inr following ↦ absurd (omega (arith, zs)) ];
      lasts = omega (arith, zs);
    }

-- the first edge that isn't below the vertex ends in it, where any other does
pub first_ends : (plan : Plan) (key : ℤ) (vertex : Position) (first second head edge : ℕ) (back : List ℕ) → IsPlan plan → IsEvent plan key vertex first second → IsActive plan key head
    → ¬ IsUnder plan vertex head → EachOne (IsSlab plan key vertex head) back → edge < plan.count → (plan.segment edge).high ≡ vertex → (head ≡ edge) ⊎ Has back edge
    → key_of (plan.segment head).high ≡ key_of vertex
first_ends plan key vertex first second head edge back is_plan event active others slabs known ends (inl same) =
    subst (λ (it : ℕ). key_of (plan.segment it).high ≡ key_of vertex) (sym same) (ap key_of ends)
first_ends plan key vertex first second head edge back is_plan event active others slabs known ends (inr there) =
    let slab = each_has (IsSlab plan key vertex head) back edge slabs there in
    let one = plan.segment head in
    let other = plan.segment edge in
    let none : gap one other (key_of vertex) (pos 1) ≡ pos 0 =
    no_gap_to_end (gap one other (key_of vertex) (pos 1)) (orientation one.low one.high vertex) (orientation other.low other.high vertex) (reach one) (reach other)
    (gap_by_orientation one other vertex) (reach_positive one (is_plan.rising head active.known)) (reach_positive other (is_plan.rising edge known)) slab.below.at_right others
    (on_at_end vertex other (inr (sym ends))) in
    active_ends plan key vertex first second head event active (slab.tied_first none)

-- an edge that ends in the vertex isn't among those below
pub end_in_rest : (plan : Plan) (key : ℤ) (vertex : Position) (first second edge : ℕ) (front rest : List ℕ) → IsPlan plan → IsSwept plan key (front ++ rest)
    → IsEvent plan key vertex first second → EachOne (IsUnder plan vertex) front → edge < plan.count → (plan.segment edge).high ≡ vertex → Has rest edge
end_in_rest plan key vertex first second edge front rest is_plan swept event below known ends =
    elim (has_either front rest edge (swept.whole edge (ending_active plan key vertex first second edge is_plan event known (ap key_of ends)))) [
      | inl in_front ↦
          let under : IsUnder plan vertex edge = each_has (IsUnder plan vertex) front edge below in_front in
          let on = on_at_end vertex (plan.segment edge) (inr (sym ends)) in
          absurd (omega (arith, zs))
      | inr in_rest ↦ in_rest
    ]

-- Above the vertex

-- a number times 1
is_other : (one other : ℤ) → one ≡ other *ℤ pos 1 → other ≡ one
is_other one other same = omega (arith, zs, times_one other)

-- an edge that passes through the vertex, and was tested against one that ends or begins there, ends or begins there
-- too
touching_ends : (plan : Plan) (vertex : Position) (touch edge : ℕ) → IsPlan plan → touch < plan.count → edge < plan.count → IsEndOf vertex (plan.segment touch)
    → Tested plan touch edge → Reaches (key_of vertex) (pos 1) (plan.segment edge) → orientation (plan.segment edge).low (plan.segment edge).high vertex ≡ pos 0
    → (at : Position) × IsEndOf at (plan.segment edge) × (key_of at ≡ key_of vertex)
touching_ends plan vertex touch edge is_plan touch_known known at_touch tested reaches on =
    let it = plan.segment edge in
    let level = height_by_orientation it vertex in
    let none : pos (2 ^ 32) *ℤ orientation it.low it.high vertex ≡ pos 0 = ap (λ (z : ℤ). pos (2 ^ 32) *ℤ z) on in
    let on_edge = point_of_height it (whole vertex) (is_plan.rising edge known) (omega (arith, zs)) reaches (omega (arith, zs)) in
    let meeting = tested (whole vertex) (end_lies_on (plan.segment touch) vertex at_touch) on_edge in
    let at = meeting.0 in
    let there : key_of vertex ≡ key_of at *ℤ pos 1 = key_at_position (whole vertex) at meeting.2 in
    (at, is_plan.on_second touch edge at touch_known known meeting.1, is_other (key_of vertex) (key_of at) there)

-- so one that goes on there, before it and after it, doesn't pass through it
passes_by : (plan : Plan) (key : ℤ) (vertex : Position) (touch edge : ℕ) → IsPlan plan → key <ℤ key_of vertex → touch < plan.count → IsEndOf vertex (plan.segment touch)
    → Tested plan touch edge → IsActive plan key edge → IsActive plan (key_of vertex) edge → ¬ (orientation (plan.segment edge).low (plan.segment edge).high vertex ≡ pos 0)
passes_by plan key vertex touch edge is_plan later touch_known at_touch tested before following on =
    let begun = before.begun in
    let lasts = following.lasts in
    let low_times = times_one (key_of (plan.segment edge).low) in
    let high_times = times_one (key_of (plan.segment edge).high) in
    let reaches : Reaches (key_of vertex) (pos 1) (plan.segment edge) = record { begun = omega (arith, zs); lasts = omega (arith, zs) } in
    let end = touching_ends plan vertex touch edge is_plan touch_known before.known at_touch tested reaches on in
    let same = end.2 in
    elim end.1 [
      | inl low ↦ let alike = ap key_of low in absurd (omega (arith, zs))
      | inr high ↦ let alike = ap key_of high in absurd (omega (arith, zs))
    ]

-- the first of those that aren't below the vertex and go on is above it, if it was tested against an edge of the
-- vertex; so are all
pub above : (plan : Plan) (key : ℤ) (vertex : Position) (touch : ℕ) (back : List ℕ) → IsPlan plan → key <ℤ key_of vertex → touch < plan.count → IsEndOf vertex (plan.segment touch)
    → Head (Tested plan) touch back → EachOne (λ (edge : ℕ). ¬ IsUnder plan vertex edge) back → Ordered (IsSlab plan key vertex) back
    → ((edge : ℕ) → Has back edge → IsActive plan key edge) → ((edge : ℕ) → Has back edge → IsActive plan (key_of vertex) edge)
    → (edge : ℕ) → Has back edge → orientation (plan.segment edge).low (plan.segment edge).high vertex <ℤ pos 0
above plan key vertex touch [] is_plan later touch_known at_touch tested others slabs before following edge here = absurd here
above plan key vertex touch (head ∷ back) is_plan later touch_known at_touch tested others slabs before following edge here =
    let of_head : orientation (plan.segment head).low (plan.segment head).high vertex <ℤ pos 0 = elim (sign_cases (orientation (plan.segment head).low (plan.segment head).high vertex)) [
      | inl negative ↦ negative
      | inr (inl on) ↦ absurd (passes_by plan key vertex touch head is_plan later touch_known at_touch tested (before head (inl refl)) (following head (inl refl)) on)
      | inr (inr under) ↦ absurd (others.0 under)
    ] in
    elim here [
      | inl same ↦ subst (λ (it : ℕ). orientation (plan.segment it).low (plan.segment it).high vertex <ℤ pos 0) same of_head
      | inr there ↦
          let slab = each_has (IsSlab plan key vertex head) back edge slabs.0 there in
          let one = plan.segment head in
          let other = plan.segment edge in
          let one_rises = is_plan.rising head (before head (inl refl)).known in
          let other_rises = is_plan.rising edge (before edge (inr there)).known in
          above_by_gap (gap one other (key_of vertex) (pos 1)) (orientation one.low one.high vertex) (orientation other.low other.high vertex) (reach one) (reach other)
          (gap_by_orientation one other vertex) (reach_positive one one_rises) (reach_positive other other_rises) slab.below.at_right of_head
    ]
