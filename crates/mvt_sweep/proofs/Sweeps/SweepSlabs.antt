-- From one vertex to the next the edges keep their order, and none of them meet wrongly.
use Rattle.std.proofs.Common.{◌≡◌, ◌≢◌, ℕ, ◌^◌, ◌<◌, ◌⊎◌, inl, inr, List, [], ◌∷◌, ◌++◌, Some, ℤ, pos, ◌+ℤ◌, ◌-ℤ◌, ◌*ℤ◌, ◌<ℤ◌, ◌≤ℤ◌, refl, sym, ◌∙◌, ap, ap₂, subst, arith}
use Rattle.std.proofs.Math.IntN.{*ℤ_comm}
use Rattle.mvt_plane.specs.Geometry.EdgeOrder.{Segment, IsRising, gap, reach}
use Rattle.mvt_plane.specs.Calls.EdgeOrder.{edge_along, IsEndOf, Reaches, key_at}
use Rattle.mvt_plane.specs.Geometry.Measure.{key_of, orientation}
use Rattle.mvt_plane.specs.Position.{Position}
use Rattle.mvt_plane.specs.Geometry.RationalPoint.{RationalPoint, LiesOn, IsAt}
use Rattle.mvt_sweep.specs.Calls.Chain.{Has, EachOne, Ordered}
use Rattle.mvt_sweep.specs.Calls.Sweep.{Plan, IsPlan, IsWrong, Tested, After, IsActive, IsPast, IsSwept, IsEvent, IsUnder, IsCut, IsSlab}
use Rattle.mvt_plane.proofs.Orders.Order.{zs, le_or_lt, compare_ℤ, is_zero, mul_pos, cancel_le, cancel_lt, cancel_eq, cancel_zero, factor_nonneg, factor_pos, antisym_ℤ}
use Rattle.mvt_plane.proofs.Orders.Polynomials.{unknown, constant, negated, ◌⊕◌, ◌⊖◌, ◌⊗◌, given, ring_from}
use Rattle.mvt_plane.proofs.Points.RationalPoints.{times_one}
use Rattle.mvt_sweep.proofs.Chains.ChainParts.{each_has, each_by_has, ordered_by_chain, ordered_map, ordered_either, chain_map, chain_both}
use Rattle.mvt_sweep.proofs.Sweeps.SweepSides.{on_at_end}
use Rattle.mvt_plane.proofs.Orders.GapPoints.{reaches_point, common_has_no_gap, shared_where_no_gap, below_up_to, none_common_between}
use Rattle.mvt_plane.proofs.Orders.Gaps.{reach_positive, gap_between, after_trans, after_apart, below_trans, no_gap_within, gap_by_orientation}

-- an order excludes the other way round
never : {a b : ℤ} → a ≤ℤ b → b <ℤ a → ⊥
never at_most less = omega (arith, zs)

-- of numbers in a row the first and the last, and other small steps
less_by : {a b c : ℤ} → a <ℤ b → b ≤ℤ c → a <ℤ c
less_by one other = omega (arith, zs)

at_most_by : {a b c : ℤ} → a ≤ℤ b → b ≤ℤ c → a ≤ℤ c
at_most_by one other = omega (arith, zs)

weaker : {a b : ℤ} → a <ℤ b → a ≤ℤ b
weaker less = omega (arith, zs)

positive : {z : ℤ} → ¬ (z ≡ pos 0) → pos 0 ≤ℤ z → pos 0 <ℤ z
positive some sign = omega (arith, zs)

not_zero : {w : ℤ} → pos 1 ≤ℤ w → ¬ (w ≡ pos 0)
not_zero some none = omega (arith, zs)

no_more : {a b : ℤ} → a ≡ b → a ≤ℤ b
no_more same = omega (arith, zs)

-- two cases may be in the other order
either_back : {A B : Type 0} → A ⊎ B → B ⊎ A
either_back (inl one) = inr one
either_back (inr other) = inl other

-- the edges of a vertex may be in either order
pub event_back : (plan : Plan) (key : ℤ) (vertex : Position) (first second : ℕ) → IsPlan plan → IsEvent plan key vertex first second → IsEvent plan key vertex second first
event_back plan key vertex first second is_plan event = record {
  later = event.later;
  first_known = event.second_known;
  second_known = event.first_known;
  differ = λ same. event.differ (sym same);
  at_first = event.at_second;
  at_second = event.at_first;
  meet = is_plan.alike second first event.second_known event.first_known ∙ event.meet;
  only_low = λ edge known same. either_back (event.only_low edge known same);
  only_high = λ edge known same. either_back (event.only_high edge known same);
  next_low = event.next_low;
  next_high = event.next_high;
}

-- an edge reaches the keys from its one end to the other
reaches_whole : (it : Segment) (key : ℤ) → key_of it.low ≤ℤ key → key ≤ℤ key_of it.high → Reaches key (pos 1) it
reaches_whole it key begun lasts = record {
  begun = subst (λ (z : ℤ). z ≤ℤ key) (sym (times_one (key_of it.low))) begun;
  lasts = subst (λ (z : ℤ). key ≤ℤ z) (sym (times_one (key_of it.high))) lasts;
}

-- an edge that goes on reaches the next vertex
pub reaches_next : (plan : Plan) (key : ℤ) (vertex : Position) (first second edge : ℕ) → IsPlan plan → IsEvent plan key vertex first second → IsActive plan key edge
    → Reaches key (pos 1) (plan.segment edge) × Reaches (key_of vertex) (pos 1) (plan.segment edge)
reaches_next plan key vertex first second edge is_plan event active =
    let later = event.later in
    let begun = active.begun in
    let lasts = active.lasts in (
      reaches_whole (plan.segment edge) key begun (omega (arith, zs)),
      reaches_whole (plan.segment edge) (key_of vertex) (omega (arith, zs)) (elim (event.next_high edge active.known) [ inl ended ↦ absurd (omega (arith, zs)) | inr following ↦ following ]),
    )

-- an edge with an end of the key of the vertex is one of its two
one_of_two : (plan : Plan) (key : ℤ) (vertex : Position) (first second edge : ℕ) (position : Position) → IsEvent plan key vertex first second → edge < plan.count
    → IsEndOf position (plan.segment edge) → key_of position ≡ key_of vertex → (edge ≡ first) ⊎ (edge ≡ second)
one_of_two plan key vertex first second edge position event known end same = elim end [
  | inl at_low ↦ event.only_low edge known (sym (ap (λ (it : Position). key_of it) at_low) ∙ same)
  | inr at_high ↦ event.only_high edge known (sym (ap (λ (it : Position). key_of it) at_high) ∙ same)
]

-- so the vertex is an end of it
end_here : (plan : Plan) (key : ℤ) (vertex : Position) (first second edge : ℕ) (position : Position) → IsEvent plan key vertex first second → edge < plan.count
    → IsEndOf position (plan.segment edge) → key_of position ≡ key_of vertex → IsEndOf vertex (plan.segment edge)
end_here plan key vertex first second edge position event known end same = elim (one_of_two plan key vertex first second edge position event known end same) [
  | inl is_first ↦ subst (λ (it : ℕ). IsEndOf vertex (plan.segment it)) (sym is_first) event.at_first
  | inr is_second ↦ subst (λ (it : ℕ). IsEndOf vertex (plan.segment it)) (sym is_second) event.at_second
]

-- a vertex after the key that an edge ends or begins in isn't before the next vertex
not_between : (plan : Plan) (key : ℤ) (vertex : Position) (first second edge : ℕ) (position : Position) → IsEvent plan key vertex first second → edge < plan.count
    → IsEndOf position (plan.segment edge) → key <ℤ key_of position → key_of vertex ≤ℤ key_of position
not_between plan key vertex first second edge position event known end following = elim end [
  | inl at_low ↦
      let same = ap (λ (it : Position). key_of it) at_low in
      elim (event.next_low edge known) [ inl before ↦ absurd (omega (arith, zs)) | inr after ↦ omega (arith, zs) ]
  | inr at_high ↦
      let same = ap (λ (it : Position). key_of it) at_high in
      elim (event.next_high edge known) [ inl before ↦ absurd (omega (arith, zs)) | inr after ↦ omega (arith, zs) ]
]

-- neighbours keep their order up to the vertex
pub slab_of_neighbours : (plan : Plan) (key : ℤ) (vertex : Position) (first second lower upper : ℕ) → IsPlan plan → IsEvent plan key vertex first second → IsActive plan key lower
    → IsActive plan key upper → Tested plan lower upper → After plan key lower upper → IsSlab plan key vertex lower upper
slab_of_neighbours plan key vertex first second lower upper is_plan event active_lower active_upper tested after =
    let known_lower : lower < plan.count = active_lower.known in
    let known_upper : upper < plan.count = active_upper.known in
    let rising_lower : IsRising (plan.segment lower) = is_plan.rising lower known_lower in
    let rising_upper : IsRising (plan.segment upper) = is_plan.rising upper known_upper in
    let reach_lower : Reaches key (pos 1) (plan.segment lower) × Reaches (key_of vertex) (pos 1) (plan.segment lower) = reaches_next plan key vertex first second lower is_plan event active_lower in
    let reach_upper : Reaches key (pos 1) (plan.segment upper) × Reaches (key_of vertex) (pos 1) (plan.segment upper) = reaches_next plan key vertex first second upper is_plan event active_upper in
    let meeting : gap (plan.segment lower) (plan.segment upper) (key_of vertex) (pos 1) ≡ pos 0 → (position : Position) × (plan.shared lower upper ≡ Some position) × (key_of position ≡ key_of vertex) = λ tied.
    shared_where_no_gap (plan.shared lower upper) (plan.segment lower) (plan.segment upper) (key_of vertex) rising_lower rising_upper reach_lower.1 reach_upper.1 tested tied in
    record {
      below = below_up_to (plan.shared lower upper) (plan.segment lower) (plan.segment upper) key (key_of vertex) rising_lower rising_upper event.later reach_lower.0 reach_upper.0 reach_lower.1
          reach_upper.1 tested (λ position shared following. not_between plan key vertex first second lower position event known_lower (is_plan.on_first lower upper position known_lower known_upper shared)
          following) after;
      tied_first = λ tied.
          let there = meeting tied in
          end_here plan key vertex first second lower there.0 event known_lower (is_plan.on_first lower upper there.0 known_lower known_upper there.1) there.2;
      tied_second = λ tied.
          let there = meeting tied in
          end_here plan key vertex first second upper there.0 event known_upper (is_plan.on_second lower upper there.0 known_lower known_upper there.1) there.2;
    }

-- that order is transitive
pub slab_trans : (plan : Plan) (key : ℤ) (vertex : Position) (one other third : ℕ) → IsPlan plan → one < plan.count → other < plan.count → third < plan.count
    → IsSlab plan key vertex one other → IsSlab plan key vertex other third → IsSlab plan key vertex one third
slab_trans plan key vertex one other third is_plan known_one known_other known_third lower upper =
    let rising_one : IsRising (plan.segment one) = is_plan.rising one known_one in
    let rising_other : IsRising (plan.segment other) = is_plan.rising other known_other in
    let rising_third : IsRising (plan.segment third) = is_plan.rising third known_third in
    let ties : gap (plan.segment one) (plan.segment third) (key_of vertex) (pos 1) ≡ pos 0 → (gap (plan.segment one) (plan.segment other) (key_of vertex) (pos 1) ≡ pos 0) × (gap (plan.segment other) (plan.segment third) (key_of vertex) (pos 1) ≡ pos 0) = λ tied. no_gap_within (plan.segment one) (plan.segment other) (plan.segment third) (key_of vertex) (pos 1) rising_one rising_other rising_third lower.below.at_right upper.below.at_right tied in
    record {
      below = below_trans key (key_of vertex) (plan.segment one) (plan.segment other) (plan.segment third) rising_one rising_other rising_third lower.below upper.below;
      tied_first = λ tied. lower.tied_first (ties tied).0;
      tied_second = λ tied. upper.tied_second (ties tied).1;
    }

-- so all edges keep it
pub slab_of_all : (plan : Plan) (key : ℤ) (vertex : Position) (first second : ℕ) (edges : List ℕ) → IsPlan plan → IsSwept plan key edges → IsEvent plan key vertex first second
    → Ordered (IsSlab plan key vertex) edges
slab_of_all plan key vertex first second edges is_plan swept event =
    ordered_by_chain (IsSlab plan key vertex) edges
    (λ one other third is_one is_other is_third.
    slab_trans plan key vertex one other third is_plan (swept.active one is_one).known (swept.active other is_other).known (swept.active third is_third).known)
    (chain_map (λ (lower upper : ℕ). Tested plan lower upper × After plan key lower upper) (IsSlab plan key vertex) edges
    (λ lower upper is_lower is_upper both.
    slab_of_neighbours plan key vertex first second lower upper is_plan event (swept.active lower is_lower) (swept.active upper is_upper) both.0 both.1)
    (chain_both (Tested plan) (After plan key) edges swept.tested swept.after))

-- no edge of it occurs twice
pub swept_differ : (plan : Plan) (key : ℤ) (edges : List ℕ) → IsPlan plan → IsSwept plan key edges → Ordered (λ (one other : ℕ). one ≢ other) edges
swept_differ plan key edges is_plan swept =
    ordered_map (After plan key) (λ (one other : ℕ). one ≢ other) edges
    (λ one other is_one is_other after same. after_apart key (plan.segment one) (subst (After plan key one) (sym same) after))
    (ordered_by_chain (After plan key) edges
    (λ one other third is_one is_other is_third.
    after_trans key (plan.segment one) (plan.segment other) (plan.segment third) (is_plan.rising one (swept.active one is_one).known)
    (is_plan.rising other (swept.active other is_other).known) (is_plan.rising third (swept.active third is_third).known))
    swept.after)

-- an order in which a test fails after each at which it fails has the split
split_ordered : (P : ℕ → Type 0) (edges : List ℕ) → ((edge : ℕ) → P edge ⊎ ¬ P edge) → Ordered (λ (one other : ℕ). P other → P one) edges
    → (front : List ℕ) × (rest : List ℕ) × (edges ≡ front ++ rest) × EachOne P front × EachOne (λ (edge : ℕ). ¬ P edge) rest
split_ordered P [] test ordered = ([], [], refl, tt, tt)
split_ordered P (edge ∷ following) test ordered = elim (test edge) [
  | inl is ↦
      let parts = split_ordered P following test ordered.1 in
      (edge ∷ parts.0, parts.1, ap (λ (edges : List ℕ). edge ∷ edges) parts.2, (is, parts.3), parts.4)
  | inr isn't ↦
      ([], edge ∷ following, refl, tt, (isn't, each_by_has (λ (it : ℕ). ¬ P it) following (λ it has at_it. isn't (each_has (λ (other : ℕ). P other → P edge) following it ordered.0 has at_it))))
]

-- the sign of one orientation by that of another and the gap
under_by_gap : (gap one other reach_one reach_other : ℤ) → pos 0 ≤ℤ gap → gap ≡ pos (2 ^ 32) *ℤ (one *ℤ reach_other -ℤ other *ℤ reach_one) → pos 0 <ℤ reach_one → pos 0 <ℤ reach_other
    → pos 0 <ℤ other → pos 0 <ℤ one
under_by_gap gap one other reach_one reach_other some is forward_one forward_other under =
    let difference : pos 0 ≤ℤ (one *ℤ reach_other -ℤ other *ℤ reach_one) =
    factor_nonneg (pos (2 ^ 32)) (one *ℤ reach_other -ℤ other *ℤ reach_one) (omega (arith, zs)) (subst (λ (z : ℤ). pos 0 ≤ℤ z) is some) in
    let product = mul_pos under forward_one in
    factor_pos reach_other one (omega (arith, zs)) (omega (arith, zs, *ℤ_comm one reach_other))

-- what is below an edge that is below the vertex is so too
under_of_slab : (plan : Plan) (key : ℤ) (vertex : Position) (lower upper : ℕ) → IsPlan plan → lower < plan.count → upper < plan.count → IsSlab plan key vertex lower upper
    → IsUnder plan vertex upper → IsUnder plan vertex lower
under_of_slab plan key vertex lower upper is_plan known_lower known_upper slab under =
    under_by_gap (gap (plan.segment lower) (plan.segment upper) (key_of vertex) (pos 1)) (orientation (plan.segment lower).low (plan.segment lower).high vertex)
    (orientation (plan.segment upper).low (plan.segment upper).high vertex) (reach (plan.segment lower)) (reach (plan.segment upper)) slab.below.at_right
    (gap_by_orientation (plan.segment lower) (plan.segment upper) vertex) (reach_positive (plan.segment lower) (is_plan.rising lower known_lower))
    (reach_positive (plan.segment upper) (is_plan.rising upper known_upper)) under

-- the edges below the vertex come before the others
pub split : (plan : Plan) (key : ℤ) (vertex : Position) (first second : ℕ) (edges : List ℕ) → IsPlan plan → IsSwept plan key edges → IsEvent plan key vertex first second
    → (front : List ℕ) × (rest : List ℕ) × IsCut plan vertex edges front rest
split plan key vertex first second edges is_plan swept event =
    let test : (edge : ℕ) → IsUnder plan vertex edge ⊎ ¬ IsUnder plan vertex edge = λ edge. elim (le_or_lt (orientation (plan.segment edge).low (plan.segment edge).high vertex) (pos 0)) [ inl isn't ↦ inr (λ is. never isn't is) | inr is ↦ inl is ] in
    let in_order : Ordered (λ (one other : ℕ). IsUnder plan vertex other → IsUnder plan vertex one) edges = ordered_map (IsSlab plan key vertex) (λ (one other : ℕ). IsUnder plan vertex other → IsUnder plan vertex one) edges
    (λ one other is_one is_other slab. under_of_slab plan key vertex one other is_plan (swept.active one is_one).known (swept.active other is_other).known slab)
    (slab_of_all plan key vertex first second edges is_plan swept event) in
    let parts = split_ordered (IsUnder plan vertex) edges test in_order in
    (parts.0, parts.1, record { whole = parts.2; below = parts.3; others = parts.4 })

-- those that were below and above stay so after the vertex, where they go on
pub after_slab : (plan : Plan) (key : ℤ) (vertex : Position) (first second lower upper : ℕ) → IsPlan plan → IsEvent plan key vertex first second → IsActive plan key lower
    → IsActive plan key upper → IsActive plan (key_of vertex) lower → IsActive plan (key_of vertex) upper → IsSlab plan key vertex lower upper → After plan (key_of vertex) lower upper
after_slab plan key vertex first second lower upper is_plan event before_lower before_upper after_lower after_upper slab =
    let at_vertex : ℤ = gap (plan.segment lower) (plan.segment upper) (key_of vertex) (pos 1) in
    elim (is_zero at_vertex) [
      | yes none ↦ absurd (elim (slab.tied_first none) [
        | inl at_low ↦
            let same = ap (λ (it : Position). key_of it) at_low in
            let begun = before_lower.begun in
            let later = event.later in
            omega (arith, zs)
        | inr at_high ↦
            let same = ap (λ (it : Position). key_of it) at_high in
            let lasts = after_lower.lasts in
            omega (arith, zs)
      ])
      | no some ↦ inl (positive some slab.below.at_right)
    ]

-- ---- a point of an edge with the key of a position

-- a point of an edge, and a position in line with it, that have one key have one x
same_x : (lx ly hx hy vx vy px py w : ℤ) → (hx -ℤ lx) *ℤ (py -ℤ ly *ℤ w) ≡ (hy -ℤ ly) *ℤ (px -ℤ lx *ℤ w) → (hx -ℤ lx) *ℤ (vy -ℤ ly) -ℤ (hy -ℤ ly) *ℤ (vx -ℤ lx) ≡ pos 0
    → px *ℤ pos (2 ^ 32) +ℤ py ≡ (vx *ℤ pos (2 ^ 32) +ℤ vy) *ℤ w
    → (hx *ℤ pos (2 ^ 32) +ℤ hy -ℤ (lx *ℤ pos (2 ^ 32) +ℤ ly)) *ℤ px ≡ (hx *ℤ pos (2 ^ 32) +ℤ hy -ℤ (lx *ℤ pos (2 ^ 32) +ℤ ly)) *ℤ (vx *ℤ w)
same_x lx ly hx hy vx vy px py w on_line in_line same =
    let LX = unknown 0 in
    let LY = unknown 1 in
    let HX = unknown 2 in
    let HY = unknown 3 in
    let VX = unknown 4 in
    let VY = unknown 5 in
    let PX = unknown 6 in
    let PY = unknown 7 in
    let W = unknown 8 in
    let K = constant (pos (2 ^ 32)) in
    ring_from (lx ∷ ly ∷ hx ∷ hy ∷ vx ∷ vy ∷ px ∷ py ∷ w ∷ []) ((HX ⊗ K ⊕ HY ⊖ (LX ⊗ K ⊕ LY)) ⊗ PX) ((HX ⊗ K ⊕ HY ⊖ (LX ⊗ K ⊕ LY)) ⊗ (VX ⊗ W))
    (given (HX ⊖ LX) (PX ⊗ K ⊕ PY) ((VX ⊗ K ⊕ VY) ⊗ W) ∷ given (negated (constant (pos 1))) ((HX ⊖ LX) ⊗ (PY ⊖ LY ⊗ W)) ((HY ⊖ LY) ⊗ (PX ⊖ LX ⊗ W))
    ∷ given W ((HX ⊖ LX) ⊗ (VY ⊖ LY) ⊖ (HY ⊖ LY) ⊗ (VX ⊖ LX)) (constant (pos 0)) ∷ [])
    (same, (on_line, (in_line, tt))) tt

-- and then one y
same_y : (vx vy px py w : ℤ) → px *ℤ pos (2 ^ 32) +ℤ py ≡ (vx *ℤ pos (2 ^ 32) +ℤ vy) *ℤ w → px ≡ vx *ℤ w → py ≡ vy *ℤ w
same_y vx vy px py w same at_x =
    let VX = unknown 0 in
    let VY = unknown 1 in
    let PX = unknown 2 in
    let PY = unknown 3 in
    let W = unknown 4 in
    let K = constant (pos (2 ^ 32)) in
    ring_from (vx ∷ vy ∷ px ∷ py ∷ w ∷ []) PY (VY ⊗ W) (given (constant (pos 1)) (PX ⊗ K ⊕ PY) ((VX ⊗ K ⊕ VY) ⊗ W) ∷ given (negated K) PX (VX ⊗ W) ∷ []) (same, (at_x, tt)) tt

-- so the point is the position
point_in_line : (it : Segment) (point : RationalPoint) (vertex : Position) → IsRising it → LiesOn point (edge_along it) → orientation it.low it.high vertex ≡ pos 0
    → key_at point ≡ key_of vertex *ℤ point.w → IsAt point vertex
point_in_line it point vertex rising lies in_line same =
    let at_x : point.x ≡ vertex.x *ℤ point.w = cancel_eq (reach it) point.x (vertex.x *ℤ point.w) (reach_positive it rising)
    (same_x it.low.x it.low.y it.high.x it.high.y vertex.x vertex.y point.x point.y point.w lies.on_line in_line same) in
    record { x = at_x; y = same_y vertex.x vertex.y point.x point.y point.w same at_x }

-- a point of an edge at an end of it, if it has the key of the end
point_at_end : (it : Segment) (point : RationalPoint) (vertex : Position) → IsRising it → LiesOn point (edge_along it) → IsEndOf vertex it → key_at point ≡ key_of vertex *ℤ point.w
    → IsAt point vertex
point_at_end it point vertex rising lies end same = point_in_line it point vertex rising lies (on_at_end vertex it end) same

-- a position that is a point of an edge is in line with it
in_line_at : (lx ly hx hy vx vy px py w : ℤ) → (hx -ℤ lx) *ℤ (py -ℤ ly *ℤ w) ≡ (hy -ℤ ly) *ℤ (px -ℤ lx *ℤ w) → px ≡ vx *ℤ w → py ≡ vy *ℤ w
    → w *ℤ ((hx -ℤ lx) *ℤ (vy -ℤ ly) -ℤ (hy -ℤ ly) *ℤ (vx -ℤ lx)) ≡ pos 0
in_line_at lx ly hx hy vx vy px py w on_line at_x at_y =
    let LX = unknown 0 in
    let LY = unknown 1 in
    let HX = unknown 2 in
    let HY = unknown 3 in
    let VX = unknown 4 in
    let VY = unknown 5 in
    let PX = unknown 6 in
    let PY = unknown 7 in
    let W = unknown 8 in
    ring_from (lx ∷ ly ∷ hx ∷ hy ∷ vx ∷ vy ∷ px ∷ py ∷ w ∷ []) (W ⊗ ((HX ⊖ LX) ⊗ (VY ⊖ LY) ⊖ (HY ⊖ LY) ⊗ (VX ⊖ LX))) (constant (pos 0))
    (given (constant (pos 1)) ((HX ⊖ LX) ⊗ (PY ⊖ LY ⊗ W)) ((HY ⊖ LY) ⊗ (PX ⊖ LX ⊗ W)) ∷ given (HY ⊖ LY) PX (VX ⊗ W) ∷ given (negated (HX ⊖ LX)) PY (VY ⊗ W) ∷ [])
    (on_line, (at_x, (at_y, tt))) tt

-- the same of an edge
in_line_by_point : (it : Segment) (point : RationalPoint) (vertex : Position) → LiesOn point (edge_along it) → IsAt point vertex → orientation it.low it.high vertex ≡ pos 0
in_line_by_point it point vertex lies at =
    cancel_zero point.w (orientation it.low it.high vertex) (not_zero lies.positive)
    (in_line_at it.low.x it.low.y it.high.x it.high.y vertex.x vertex.y point.x point.y point.w lies.on_line at.x at.y)

-- ---- meetings from one key to the next

-- a common factor goes
less_without : (w a b : ℤ) → pos 1 ≤ℤ w → (a *ℤ w) <ℤ (b *ℤ w) → a <ℤ b
less_without w a b positive less = cancel_lt w a b (omega (arith, zs)) (omega (arith, zs, *ℤ_comm a w, *ℤ_comm b w))

-- also where they may be the same
at_most_without : (w a b : ℤ) → pos 1 ≤ℤ w → (a *ℤ w) ≤ℤ (b *ℤ w) → a ≤ℤ b
at_most_without w a b positive at_most = cancel_le w a b (omega (arith, zs)) (omega (arith, zs, *ℤ_comm a w, *ℤ_comm b w))

-- where there is no gap at a key written as a fraction, there is none at the key
gap_gone : (left right t w at_point at_left at_right : ℤ) → (right -ℤ left) *ℤ at_point ≡ (right *ℤ w -ℤ t) *ℤ at_left +ℤ (t -ℤ left *ℤ w) *ℤ at_right → at_point ≡ pos 0 → t ≡ right *ℤ w
    → (left *ℤ w) <ℤ t → at_right ≡ pos 0
gap_gone left right t w at_point at_left at_right between none same following =
    let L = unknown 0 in
    let R = unknown 1 in
    let T = unknown 2 in
    let W = unknown 3 in
    let P = unknown 4 in
    let A = unknown 5 in
    let B = unknown 6 in
    cancel_zero (t -ℤ left *ℤ w) at_right (λ nothing. omega (arith, zs))
    (ring_from (left ∷ right ∷ t ∷ w ∷ at_point ∷ at_left ∷ at_right ∷ []) ((T ⊖ L ⊗ W) ⊗ B) (constant (pos 0))
    (given (negated (constant (pos 1))) ((R ⊖ L) ⊗ P) ((R ⊗ W ⊖ T) ⊗ A ⊕ (T ⊖ L ⊗ W) ⊗ B) ∷ given (R ⊖ L) P (constant (pos 0)) ∷ given A T (R ⊗ W) ∷ [])
    (between, (none, (same, tt))) tt)

-- an edge with a point from one key to the next goes on after the first, or begins at the second
active_or_begins : (plan : Plan) (key : ℤ) (vertex : Position) (first second edge : ℕ) (point : RationalPoint) → IsPlan plan → IsEvent plan key vertex first second → edge < plan.count
    → LiesOn point (edge_along (plan.segment edge)) → (key *ℤ point.w) <ℤ key_at point → key_at point ≤ℤ (key_of vertex *ℤ point.w)
    → IsActive plan key edge ⊎ (key_of (plan.segment edge).low ≡ key_of vertex)
active_or_begins plan key vertex first second edge point is_plan event known lies following up_to =
    let there : Reaches (key_at point) point.w (plan.segment edge) = reaches_point (plan.segment edge) point (is_plan.rising edge known) lies in
    elim (event.next_low edge known) [
      | inl before ↦ inl (record { known = known; begun = before; lasts = less_without point.w key (key_of (plan.segment edge).high) lies.positive (less_by following there.lasts) })
      | inr after ↦ inr (antisym_ℤ (at_most_without point.w (key_of (plan.segment edge).low) (key_of vertex) lies.positive (at_most_by there.begun up_to)) after)
    ]

-- before the second it goes on after the first
active_before : (plan : Plan) (key : ℤ) (vertex : Position) (first second edge : ℕ) (point : RationalPoint) → IsPlan plan → IsEvent plan key vertex first second → edge < plan.count
    → LiesOn point (edge_along (plan.segment edge)) → (key *ℤ point.w) <ℤ key_at point → key_at point <ℤ (key_of vertex *ℤ point.w) → IsActive plan key edge
active_before plan key vertex first second edge point is_plan event known lies following before =
    elim (active_or_begins plan key vertex first second edge point is_plan event known lies following (weaker before)) [
      | inl active ↦ active
      | inr begins ↦ absurd (never (subst (λ (z : ℤ). (z *ℤ point.w) ≤ℤ key_at point) begins (reaches_point (plan.segment edge) point (is_plan.rising edge known) lies).begun) before)
    ]

-- of two edges that go on one keeps below the other
slab_either : (plan : Plan) (key : ℤ) (vertex : Position) (first second one other : ℕ) (edges : List ℕ) → IsPlan plan → IsSwept plan key edges → IsEvent plan key vertex first second
    → IsActive plan key one → IsActive plan key other → one ≢ other → IsSlab plan key vertex one other ⊎ IsSlab plan key vertex other one
slab_either plan key vertex first second one other edges is_plan swept event active_one active_other apart =
    ordered_either (IsSlab plan key vertex) edges one other (slab_of_all plan key vertex first second edges is_plan swept event) (swept.whole one active_one) (swept.whole other active_other) apart

-- before the vertex they don't meet
none_before : (plan : Plan) (key : ℤ) (vertex : Position) (first second one other : ℕ) (edges : List ℕ) (point : RationalPoint) → IsPlan plan → IsSwept plan key edges
    → IsEvent plan key vertex first second → one < plan.count → other < plan.count → one ≢ other → IsWrong plan point one other → (key *ℤ point.w) <ℤ key_at point
    → key_at point <ℤ (key_of vertex *ℤ point.w) → ⊥
none_before plan key vertex first second one other edges point is_plan swept event known_one known_other apart wrong following before =
    elim (slab_either plan key vertex first second one other edges is_plan swept event
    (active_before plan key vertex first second one point is_plan event known_one wrong.on_first following before)
    (active_before plan key vertex first second other point is_plan event known_other wrong.on_second following before) apart) [
      | inl slab ↦ never (none_common_between (plan.segment one) (plan.segment other) key (key_of vertex) point slab.below wrong.on_first wrong.on_second following) before
      | inr slab ↦ never (none_common_between (plan.segment other) (plan.segment one) key (key_of vertex) point slab.below wrong.on_second wrong.on_first following) before
    ]

-- edges that go on and meet at the key of the vertex have it for an end
ends_of_slab : (plan : Plan) (key : ℤ) (vertex : Position) (lower upper : ℕ) (point : RationalPoint) → IsSlab plan key vertex lower upper → LiesOn point (edge_along (plan.segment lower))
    → LiesOn point (edge_along (plan.segment upper)) → (key *ℤ point.w) <ℤ key_at point → key_at point ≡ key_of vertex *ℤ point.w
    → IsEndOf vertex (plan.segment lower) × IsEndOf vertex (plan.segment upper)
ends_of_slab plan key vertex lower upper point slab on_lower on_upper following same =
    let tied : gap (plan.segment lower) (plan.segment upper) (key_of vertex) (pos 1) ≡ pos 0 = gap_gone key (key_of vertex) (key_at point) point.w (gap (plan.segment lower) (plan.segment upper) (key_at point) point.w)
    (gap (plan.segment lower) (plan.segment upper) key (pos 1)) (gap (plan.segment lower) (plan.segment upper) (key_of vertex) (pos 1))
    (gap_between (plan.segment lower) (plan.segment upper) key (key_of vertex) (key_at point) point.w)
    (common_has_no_gap (plan.segment lower) (plan.segment upper) point on_lower on_upper) same following in
    (slab.tied_first tied, slab.tied_second tied)

-- so has an edge with a point that is the vertex, if those that go on through it have
end_at_point : (plan : Plan) (key : ℤ) (vertex : Position) (first second edge : ℕ) (edges : List ℕ) (point : RationalPoint) → IsSwept plan key edges → IsEvent plan key vertex first second
    → ((it : ℕ) → Has edges it → orientation (plan.segment it).low (plan.segment it).high vertex ≡ pos 0 → IsEndOf vertex (plan.segment it)) → edge < plan.count
    → LiesOn point (edge_along (plan.segment edge)) → IsAt point vertex → IsActive plan key edge ⊎ (key_of (plan.segment edge).low ≡ key_of vertex) → IsEndOf vertex (plan.segment edge)
end_at_point plan key vertex first second edge edges point swept event through known lies at active_or_begin = elim active_or_begin [
  | inl active ↦ through edge (swept.whole edge active) (in_line_by_point (plan.segment edge) point vertex lies at)
  | inr begins ↦ end_here plan key vertex first second edge (plan.segment edge).low event known (inl refl) begins
]

-- two edges that meet at the key of the vertex have it for an end
both_ends : (plan : Plan) (key : ℤ) (vertex : Position) (first second one other : ℕ) (edges : List ℕ) (point : RationalPoint) → IsPlan plan → IsSwept plan key edges
    → IsEvent plan key vertex first second → ((it : ℕ) → Has edges it → orientation (plan.segment it).low (plan.segment it).high vertex ≡ pos 0 → IsEndOf vertex (plan.segment it))
    → one < plan.count → other < plan.count → one ≢ other → IsWrong plan point one other → (key *ℤ point.w) <ℤ key_at point → key_at point ≡ key_of vertex *ℤ point.w
    → IsEndOf vertex (plan.segment one) × IsEndOf vertex (plan.segment other)
both_ends plan key vertex first second one other edges point is_plan swept event through known_one known_other apart wrong following same = by_cases of_one of_other
  where
    of_one : IsActive plan key one ⊎ (key_of (plan.segment one).low ≡ key_of vertex)
    of_one = active_or_begins plan key vertex first second one point is_plan event known_one wrong.on_first following (no_more same)

    of_other : IsActive plan key other ⊎ (key_of (plan.segment other).low ≡ key_of vertex)
    of_other = active_or_begins plan key vertex first second other point is_plan event known_other wrong.on_second following (no_more same)

    by_cases : IsActive plan key one ⊎ (key_of (plan.segment one).low ≡ key_of vertex) → IsActive plan key other ⊎ (key_of (plan.segment other).low ≡ key_of vertex)
        → IsEndOf vertex (plan.segment one) × IsEndOf vertex (plan.segment other)
    by_cases (inl active_one) (inl active_other) = elim (slab_either plan key vertex first second one other edges is_plan swept event active_one active_other apart) [
      | inl slab ↦ ends_of_slab plan key vertex one other point slab wrong.on_first wrong.on_second following same
      | inr slab ↦ let ends = ends_of_slab plan key vertex other one point slab wrong.on_second wrong.on_first following same in (ends.1, ends.0)
    ]
    by_cases (inl active_one) (inr begins) =
        let end = end_here plan key vertex first second other (plan.segment other).low event known_other (inl refl) begins in
        let at = point_at_end (plan.segment other) point vertex (is_plan.rising other known_other) wrong.on_second end same in
        (end_at_point plan key vertex first second one edges point swept event through known_one wrong.on_first at of_one, end)
    by_cases (inr begins) more =
        let end = end_here plan key vertex first second one (plan.segment one).low event known_one (inl refl) begins in
        let at = point_at_end (plan.segment one) point vertex (is_plan.rising one known_one) wrong.on_first end same in
        (end, end_at_point plan key vertex first second other edges point swept event through known_other wrong.on_second at of_other)

-- two edges that have it for an end share it
shared_there : (plan : Plan) (key : ℤ) (vertex : Position) (first second one other : ℕ) → IsPlan plan → IsEvent plan key vertex first second → one < plan.count → other < plan.count
    → one ≢ other → IsEndOf vertex (plan.segment one) → IsEndOf vertex (plan.segment other) → plan.shared one other ≡ Some vertex
shared_there plan key vertex first second one other is_plan event known_one known_other apart end_one end_other =
    by_cases (one_of_two plan key vertex first second one vertex event known_one end_one refl) (one_of_two plan key vertex first second other vertex event known_other end_other refl)
  where
    by_cases : (one ≡ first) ⊎ (one ≡ second) → (other ≡ first) ⊎ (other ≡ second) → plan.shared one other ≡ Some vertex
    by_cases (inl one_is) (inl other_is) = absurd (apart (one_is ∙ sym other_is))
    by_cases (inl one_is) (inr other_is) = ap₂ plan.shared one_is other_is ∙ event.meet
    by_cases (inr one_is) (inl other_is) = ap₂ plan.shared one_is other_is ∙ (event_back plan key vertex first second is_plan event).meet
    by_cases (inr one_is) (inr other_is) = absurd (apart (one_is ∙ sym other_is))

-- No two edges met wrongly up to the vertex, where those that pass through it have it for an end, and those that begin
-- there were tested
pub past_vertex : (plan : Plan) (key : ℤ) (vertex : Position) (first second : ℕ) (edges : List ℕ) → IsPlan plan → IsSwept plan key edges → IsEvent plan key vertex first second
    → ((edge : ℕ) → Has edges edge → orientation (plan.segment edge).low (plan.segment edge).high vertex ≡ pos 0 → IsEndOf vertex (plan.segment edge)) → IsPast plan (key_of vertex)
past_vertex plan key vertex first second edges is_plan swept event through one other point known_one known_other apart wrong =
    let following : (key *ℤ point.w) <ℤ key_at point = swept.past one other point known_one known_other apart wrong in
    elim (compare_ℤ (key_at point) (key_of vertex *ℤ point.w)) [
      | inl before ↦ absurd (none_before plan key vertex first second one other edges point is_plan swept event known_one known_other apart wrong following before)
      | inr more ↦ elim more [
        | inl same ↦
            let ends = both_ends plan key vertex first second one other edges point is_plan swept event through known_one known_other apart wrong following same in
            absurd (wrong.apart vertex (shared_there plan key vertex first second one other is_plan event known_one known_other apart ends.0 ends.1)
            (point_at_end (plan.segment one) point vertex (is_plan.rising one known_one) wrong.on_first ends.0 same))
        | inr after ↦ after
      ]
    ]
