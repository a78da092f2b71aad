-- The sweep step by step: from a key over the next vertex to its key.
use Rattle.std.proofs.Common.{◌≡◌, ◌≢◌, ℕ, ◌<◌, ◌⊎◌, inl, inr, List, [], ◌∷◌, ◌++◌, Option, Some, ℤ, pos, ◌*ℤ◌, ◌<ℤ◌, ◌≤ℤ◌, refl, sym, ◌∙◌, ap, subst, arith}
use Rattle.mvt_plane.specs.Geometry.EdgeOrder.{Segment, segment, IsAfter}
use Rattle.mvt_plane.specs.Calls.EdgeOrder.{MeetOnlyAt, key_at}
use Rattle.mvt_plane.specs.Geometry.Measure.{key_of, orientation}
use Rattle.mvt_plane.specs.Position.{Position}
use Rattle.mvt_plane.specs.Geometry.RationalPoint.{RationalPoint}
use Rattle.mvt_sweep.specs.Calls.Chain.{Has, EachOne, Head, Joined}
use Rattle.mvt_sweep.specs.Calls.Sweep.{Plan, IsPlan, IsWrong, Tested, After, IsSwept, IsEvent, BothBegin, PassesOn, BothEnd, IsUnder, IsCut, IsSlab}
use Rattle.mvt_plane.proofs.Orders.Order.{zs, mono_le_right, mono_lt_right}
use Rattle.mvt_sweep.proofs.Chains.ChainParts.{has_right, chain_front, chain_back, chain_join, ordered_parts}
use Rattle.mvt_plane.proofs.Orders.GapPoints.{reaches_point, begin_apart}
use Rattle.mvt_plane.proofs.Orders.Gaps.{after_by_orientation}
use Rattle.mvt_sweep.proofs.Sweeps.SweepChanges.{IsChange, IsReady, changed}
use Rattle.mvt_sweep.proofs.Sweeps.SweepSides.{begins_at, rises_from, first_ends, end_in_rest}
use Rattle.mvt_sweep.proofs.Sweeps.SweepSlabs.{event_back, slab_of_all, swept_differ}

-- Keys as numbers

-- where an edge begins after a key, no point of it is before that
begins_after : (key low w at : ℤ) → pos 1 ≤ℤ w → key <ℤ low → (low *ℤ w) ≤ℤ at → (key *ℤ w) <ℤ at
begins_after key low w at positive following begun =
    let more : (key *ℤ w) <ℤ (low *ℤ w) = mono_lt_right following (omega (arith, zs)) in
    omega (arith, zs)

-- where it ends, no point of it is after that
ends_before : (key high w at : ℤ) → pos 1 ≤ℤ w → high ≤ℤ key → at ≤ℤ (high *ℤ w) → at ≤ℤ (key *ℤ w)
ends_before key high w at positive before lasts =
    let more : (high *ℤ w) ≤ℤ (key *ℤ w) = mono_le_right before (omega (arith, zs)) in
    omega (arith, zs)

-- The first and the last

-- before all edges the line meets none
pub start : (plan : Plan) (key : ℤ) → IsPlan plan → ((edge : ℕ) → edge < plan.count → key <ℤ key_of (plan.segment edge).low) → IsSwept plan key []
start plan key is_plan following = record {
  active = λ edge here. absurd here;
  whole = λ edge active.
      let later = following edge active.known in
      let begun = active.begun in
      absurd (omega (arith, zs));
  tested = tt;
  after = tt;
  past = λ first second point first_known second_known differ wrong.
      let there = reaches_point (plan.segment first) point (is_plan.rising first first_known) wrong.on_first in
      begins_after key (key_of (plan.segment first).low) point.w (key_at point) wrong.on_first.positive (following first first_known) there.begun;
}

-- two edges that begin in the vertex and were tested go different ways
pub spike : (plan : Plan) (vertex : Position) (one other : ℕ) → IsPlan plan → one < plan.count → other < plan.count → plan.shared one other ≡ Some vertex
    → (plan.segment one).low ≡ vertex → (plan.segment other).low ≡ vertex → Tested plan one other
    → ¬ (orientation vertex (plan.segment one).high (plan.segment other).high ≡ pos 0)
spike plan vertex one other is_plan one_known other_known shared one_begins other_begins tested straight =
    let one_along = begins_at vertex (plan.segment one) one_begins in
    let other_along = begins_at vertex (plan.segment other) other_begins in
    let meet : MeetOnlyAt (Some vertex) (segment vertex (plan.segment one).high) (segment vertex (plan.segment other).high) =
    subst (λ (it : Segment). MeetOnlyAt (Some vertex) (segment vertex (plan.segment one).high) it) other_along
    (subst (λ (it : Segment). MeetOnlyAt (Some vertex) it (plan.segment other)) one_along
    (subst (λ (it : Option Position). MeetOnlyAt it (plan.segment one) (plan.segment other)) shared tested)) in
    begin_apart vertex (plan.segment one).high (plan.segment other).high (rises_from vertex (plan.segment one) (is_plan.rising one one_known) one_begins)
    (rises_from vertex (plan.segment other) (is_plan.rising other other_known) other_begins) meet straight

-- after all edges no two meet wrongly
pub finish : (plan : Plan) (key : ℤ) (edges : List ℕ) → IsPlan plan → IsSwept plan key edges → ((edge : ℕ) → edge < plan.count → key_of (plan.segment edge).high ≤ℤ key)
    → (first second : ℕ) (point : RationalPoint) → first < plan.count → second < plan.count → first ≢ second → ¬ IsWrong plan point first second
finish plan key edges is_plan swept following first second point first_known second_known differ wrong =
    let there = reaches_point (plan.segment first) point (is_plan.rising first first_known) wrong.on_first in
    let within = ends_before key (key_of (plan.segment first).high) point.w (key_at point) wrong.on_first.positive (following first first_known) there.lasts in
    let later = swept.past first second point first_known second_known differ wrong in
    absurd (omega (arith, zs))

-- The edges that end in the vertex

-- the edge that ends is the first of those that aren't below the vertex
pub pass_found : (plan : Plan) (key : ℤ) (vertex : Position) (ending beginning : ℕ) (edges front rest : List ℕ) → IsPlan plan → IsSwept plan key edges
    → IsEvent plan key vertex ending beginning → PassesOn plan vertex ending beginning → IsCut plan vertex edges front rest → (back : List ℕ) × (rest ≡ ending ∷ back)
pass_found plan key vertex ending beginning edges front rest is_plan swept event passes cut =
    let now : IsSwept plan key (front ++ rest) = subst (IsSwept plan key) cut.whole swept in
    found rest now cut.others (end_in_rest plan key vertex ending beginning ending front rest is_plan now event cut.below event.first_known passes.ends)
  where
    found : (rest : List ℕ) → IsSwept plan key (front ++ rest) → EachOne (λ (edge : ℕ). ¬ IsUnder plan vertex edge) rest → Has rest ending → (back : List ℕ) × (rest ≡ ending ∷ back)
    found [] now others there = absurd there
    found (head ∷ back) now others there =
        let active = now.active head (has_right front (head ∷ back) head (inl refl)) in
        let slabs = (ordered_parts (IsSlab plan key vertex) front (head ∷ back) (slab_of_all plan key vertex ending beginning (front ++ head ∷ back) is_plan now event)).1 in
        let ends = first_ends plan key vertex ending beginning head ending back is_plan event active others.0 slabs.0 event.first_known passes.ends there in
        elim (event.only_high head active.known ends) [
          | inl same ↦ (back, ap (λ (it : ℕ). it ∷ back) same)
          | inr same ↦
              let begins : key_of (plan.segment head).low ≡ key_of vertex = ap (λ (it : ℕ). key_of (plan.segment it).low) same ∙ ap key_of passes.begins in
              let begun = active.begun in
              let later = event.later in
              absurd (omega (arith, zs))
        ]

-- after the one of two that end comes the other
other_found : (plan : Plan) (key : ℤ) (vertex : Position) (one other head : ℕ) (front back : List ℕ) → IsPlan plan → IsSwept plan key (front ++ head ∷ back)
    → IsEvent plan key vertex one other → (plan.segment other).high ≡ vertex → EachOne (λ (edge : ℕ). ¬ IsUnder plan vertex edge) back → head ≡ one → Has (head ∷ back) other
    → (tail : List ℕ) × (head ∷ back ≡ one ∷ other ∷ tail)
other_found plan key vertex one other head front back is_plan now event ends others is_one (inl is_other) = absurd (event.differ (sym is_one ∙ is_other))
other_found plan key vertex one other head front [] is_plan now event ends others is_one (inr there) = absurd there
other_found plan key vertex one other head front (next ∷ tail) is_plan now event ends others is_one (inr there) =
    let active = now.active next (has_right front (head ∷ next ∷ tail) next (inr (inl refl))) in
    let slabs = (ordered_parts (IsSlab plan key vertex) front (head ∷ next ∷ tail) (slab_of_all plan key vertex one other (front ++ head ∷ next ∷ tail) is_plan now event)).1 in
    let apart = (ordered_parts (λ (it that : ℕ). it ≢ that) front (head ∷ next ∷ tail) (swept_differ plan key (front ++ head ∷ next ∷ tail) is_plan now)).1 in
    let next_ends = first_ends plan key vertex one other next other tail is_plan event active others.0 slabs.1.0 event.second_known ends there in
    elim (event.only_high next active.known next_ends) [
      | inl same ↦ absurd (apart.0.0 (is_one ∙ sym same))
      | inr same ↦ (tail, ap (λ (it : ℕ). it ∷ next ∷ tail) is_one ∙ ap (λ (it : ℕ). one ∷ it ∷ tail) same)
    ]

-- two edges that end are the first ones, in one order or the other
pub end_found : (plan : Plan) (key : ℤ) (vertex : Position) (first second : ℕ) (edges front rest : List ℕ) → IsPlan plan → IsSwept plan key edges → IsEvent plan key vertex first second
    → BothEnd plan vertex first second → IsCut plan vertex edges front rest
    → (back : List ℕ) × ((rest ≡ first ∷ second ∷ back) ⊎ (rest ≡ second ∷ first ∷ back))
end_found plan key vertex first second edges front rest is_plan swept event ending cut =
    let now : IsSwept plan key (front ++ rest) = subst (IsSwept plan key) cut.whole swept in
    let back = event_back plan key vertex first second is_plan event in
    found rest now cut.others (end_in_rest plan key vertex first second first front rest is_plan now event cut.below event.first_known ending.first_ends)
    (end_in_rest plan key vertex second first second front rest is_plan now back cut.below event.second_known ending.second_ends)
  where
    found : (rest : List ℕ) → IsSwept plan key (front ++ rest) → EachOne (λ (edge : ℕ). ¬ IsUnder plan vertex edge) rest → Has rest first → Has rest second
        → (back : List ℕ) × ((rest ≡ first ∷ second ∷ back) ⊎ (rest ≡ second ∷ first ∷ back))
    found [] now others first_there second_there = absurd first_there
    found (head ∷ back) now others first_there second_there =
        let active = now.active head (has_right front (head ∷ back) head (inl refl)) in
        let slabs = (ordered_parts (IsSlab plan key vertex) front (head ∷ back) (slab_of_all plan key vertex first second (front ++ head ∷ back) is_plan now event)).1 in
        let ends = first_ends plan key vertex first second head first back is_plan event active others.0 slabs.0 event.first_known ending.first_ends first_there in
        let turned = event_back plan key vertex first second is_plan event in
        elim (event.only_high head active.known ends) [
          | inl same ↦
              let tail = other_found plan key vertex first second head front back is_plan now event ending.second_ends others.1 same second_there in
              (tail.0, inl tail.1)
          | inr same ↦
              let tail = other_found plan key vertex second first head front back is_plan now turned ending.first_ends others.1 same first_there in
              (tail.0, inr tail.1)
        ]

-- The three steps

-- only the first of the other list counts
joined_to_head : (R : ℕ → ℕ → Type 0) (xs ys : List ℕ) (y : ℕ) → Joined R xs (y ∷ []) → Joined R xs (y ∷ ys)
joined_to_head R [] ys y joined = tt
joined_to_head R (x ∷ []) ys y joined = joined
joined_to_head R (x ∷ next ∷ xs) ys y joined = joined_to_head R (next ∷ xs) ys y joined

-- an edge that begins in the vertex doesn't end there
begins_not_ends : (plan : Plan) (vertex : Position) (edge : ℕ) → IsPlan plan → edge < plan.count → (plan.segment edge).low ≡ vertex → ¬ (key_of (plan.segment edge).high ≡ key_of vertex)
begins_not_ends plan vertex edge is_plan known begins ends =
    let rises = rises_from vertex (plan.segment edge) (is_plan.rising edge known) begins in
    absurd (omega (arith, zs))

-- and one that ends there doesn't begin there
ends_not_begins : (plan : Plan) (vertex : Position) (edge : ℕ) → IsPlan plan → edge < plan.count → (plan.segment edge).high ≡ vertex → ¬ (key_of (plan.segment edge).low ≡ key_of vertex)
ends_not_begins plan vertex edge is_plan known ends begins =
    let rising = is_plan.rising edge known in
    let same = ap key_of ends in
    absurd (omega (arith, zs))

-- two edges begin
pub begin_step : (plan : Plan) (key : ℤ) (vertex : Position) (lower upper : ℕ) (edges front back : List ℕ) → IsPlan plan → IsSwept plan key edges → IsEvent plan key vertex lower upper
    → BothBegin plan vertex lower upper → IsCut plan vertex edges front back → Tested plan lower upper → Joined (Tested plan) front (lower ∷ []) → Head (Tested plan) upper back
    → IsSwept plan (key_of vertex) (front ++ lower ∷ upper ∷ back)
begin_step plan key vertex lower upper edges front back is_plan swept event begin cut tested under over =
    let ordered : After plan (key_of vertex) lower upper =
    let one = plan.segment lower in
    let other = plan.segment upper in
    subst (λ (it : Segment). IsAfter (key_of vertex) it other) (sym (begins_at vertex one begin.lower_begins))
    (subst (λ (it : Segment). IsAfter (key_of vertex) (segment vertex one.high) it) (sym (begins_at vertex other begin.upper_begins))
    (after_by_orientation vertex one.high other.high begin.in_order)) in
    let now : IsSwept plan key (front ++ back) = subst (IsSwept plan key) cut.whole swept in
    let change : IsChange plan vertex [] (lower ∷ upper ∷ []) = record {
      goes = λ edge here. absurd here;
      gone_all = λ edge known ends. elim (event.only_high edge known ends) [
        | inl same ↦ begins_not_ends plan vertex edge is_plan known (ap (λ (it : ℕ). (plan.segment it).low) same ∙ begin.lower_begins) ends
        | inr same ↦ begins_not_ends plan vertex edge is_plan known (ap (λ (it : ℕ). (plan.segment it).low) same ∙ begin.upper_begins) ends
      ];
      known = λ edge here. elim here [
        | inl same ↦ subst (λ (it : ℕ). it < plan.count) same event.first_known
        | inr later ↦ elim later [ inl same ↦ subst (λ (it : ℕ). it < plan.count) same event.second_known | inr none ↦ absurd none ]
      ];
      begins = λ edge here. elim here [
        | inl same ↦ subst (λ (it : ℕ). (plan.segment it).low ≡ vertex) same begin.lower_begins
        | inr later ↦ elim later [ inl same ↦ subst (λ (it : ℕ). (plan.segment it).low ≡ vertex) same begin.upper_begins | inr none ↦ absurd none ]
      ];
      new_all = λ edge known begins. elim (event.only_low edge known begins) [ inl same ↦ inl (sym same) | inr same ↦ inr (inl (sym same)) ];
    } in
    let ready : IsReady plan key vertex lower upper front [] (lower ∷ upper ∷ []) back = record {
      plan_holds = is_plan;
      event = event;
      swept = now;
      below = cut.below;
      others = cut.others;
      change = change;
      touch = upper;
      touch_known = event.second_known;
      at_touch = inl (sym begin.upper_begins);
      touched = over;
    } in
    let chain = chain_join (Tested plan) front (lower ∷ upper ∷ back) (chain_front (Tested plan) front back now.tested) (tested, (over, chain_back (Tested plan) front back now.tested))
    (joined_to_head (Tested plan) front (upper ∷ back) lower under) in
    changed plan key vertex lower upper front [] (lower ∷ upper ∷ []) back ready chain (ordered, (tt, tt))

-- another takes its place
pub pass_step : (plan : Plan) (key : ℤ) (vertex : Position) (ending beginning : ℕ) (edges front back : List ℕ) → IsPlan plan → IsSwept plan key edges
    → IsEvent plan key vertex ending beginning → PassesOn plan vertex ending beginning → IsCut plan vertex edges front (ending ∷ back) → Joined (Tested plan) front (beginning ∷ [])
    → Head (Tested plan) beginning back → IsSwept plan (key_of vertex) (front ++ beginning ∷ back)
pass_step plan key vertex ending beginning edges front back is_plan swept event passes cut under over =
    let now : IsSwept plan key (front ++ ending ∷ back) = subst (IsSwept plan key) cut.whole swept in
    let change : IsChange plan vertex (ending ∷ []) (beginning ∷ []) = record {
      goes = λ edge here. elim here [ inl same ↦ subst (λ (it : ℕ). (plan.segment it).high ≡ vertex) same passes.ends | inr none ↦ absurd none ];
      gone_all = λ edge known ends. elim (event.only_high edge known ends) [
        | inl same ↦ inl (sym same)
        | inr same ↦ absurd (begins_not_ends plan vertex edge is_plan known (ap (λ (it : ℕ). (plan.segment it).low) same ∙ passes.begins) ends)
      ];
      known = λ edge here. elim here [ inl same ↦ subst (λ (it : ℕ). it < plan.count) same event.second_known | inr none ↦ absurd none ];
      begins = λ edge here. elim here [ inl same ↦ subst (λ (it : ℕ). (plan.segment it).low ≡ vertex) same passes.begins | inr none ↦ absurd none ];
      new_all = λ edge known begins. elim (event.only_low edge known begins) [
        | inl same ↦ absurd (ends_not_begins plan vertex edge is_plan known (ap (λ (it : ℕ). (plan.segment it).high) same ∙ passes.ends) begins)
        | inr same ↦ inl (sym same)
      ];
    } in
    let ready : IsReady plan key vertex ending beginning front (ending ∷ []) (beginning ∷ []) back = record {
      plan_holds = is_plan;
      event = event;
      swept = now;
      below = cut.below;
      others = cut.others.1;
      change = change;
      touch = beginning;
      touch_known = event.second_known;
      at_touch = inl (sym passes.begins);
      touched = over;
    } in
    let rest = chain_back (Tested plan) front (ending ∷ back) now.tested in
    let chain = chain_join (Tested plan) front (beginning ∷ back) (chain_front (Tested plan) front (ending ∷ back) now.tested) (over, rest.1)
    (joined_to_head (Tested plan) front back beginning under) in
    changed plan key vertex ending beginning front (ending ∷ []) (beginning ∷ []) back ready chain (tt, tt)

-- without them those on both sides are neighbours
pub end_step : (plan : Plan) (key : ℤ) (vertex : Position) (first second : ℕ) (edges front back : List ℕ) → IsPlan plan → IsSwept plan key edges → IsEvent plan key vertex first second
    → BothEnd plan vertex first second → IsCut plan vertex edges front (first ∷ second ∷ back) → Joined (Tested plan) front back → IsSwept plan (key_of vertex) (front ++ back)
end_step plan key vertex first second edges front back is_plan swept event ending cut joined =
    let now : IsSwept plan key (front ++ first ∷ second ∷ back) = subst (IsSwept plan key) cut.whole swept in
    let change : IsChange plan vertex (first ∷ second ∷ []) [] = record {
      goes = λ edge here. elim here [
        | inl same ↦ subst (λ (it : ℕ). (plan.segment it).high ≡ vertex) same ending.first_ends
        | inr later ↦ elim later [ inl same ↦ subst (λ (it : ℕ). (plan.segment it).high ≡ vertex) same ending.second_ends | inr none ↦ absurd none ]
      ];
      gone_all = λ edge known ends. elim (event.only_high edge known ends) [ inl same ↦ inl (sym same) | inr same ↦ inr (inl (sym same)) ];
      known = λ edge here. absurd here;
      begins = λ edge here. absurd here;
      new_all = λ edge known begins. elim (event.only_low edge known begins) [
        | inl same ↦ ends_not_begins plan vertex edge is_plan known (ap (λ (it : ℕ). (plan.segment it).high) same ∙ ending.first_ends) begins
        | inr same ↦ ends_not_begins plan vertex edge is_plan known (ap (λ (it : ℕ). (plan.segment it).high) same ∙ ending.second_ends) begins
      ];
    } in
    let rest = chain_back (Tested plan) front (first ∷ second ∷ back) now.tested in
    let ready : IsReady plan key vertex first second front (first ∷ second ∷ []) [] back = record {
      plan_holds = is_plan;
      event = event;
      swept = now;
      below = cut.below;
      others = cut.others.1.1;
      change = change;
      touch = second;
      touch_known = event.second_known;
      at_touch = inr (sym ending.second_ends);
      touched = rest.1.0;
    } in
    let chain = chain_join (Tested plan) front back (chain_front (Tested plan) front (first ∷ second ∷ back) now.tested) rest.1.1 joined in
    changed plan key vertex first second front (first ∷ second ∷ []) [] back ready chain tt
