-- Two points of an edge, and another edge that has no point in common with that. Just where one of its ends is between
-- the two points in x and above the first edge, and the other one isn't, it passes over one of the two points and not
-- over the other.
use Rattle.std.proofs.Common.{◌≡◌, ◌⊎◌, inl, inr, Bool, false, [], ◌∷◌, ℤ, pos, ◌*ℤ◌, ◌≤ℤ◌, ◌<ℤ◌, sym, ◌∙◌, ap, ap₂, arith}
use Rattle.std.proofs.Math.Decide.{map_dec}
use Rattle.mvt_plane.specs.Position.{Position}
use Rattle.mvt_plane.specs.Geometry.RationalPoint.{RationalPoint, LiesOn, whole}
use Rattle.mvt_plane.specs.declared.geometry.edge.Edge.{Edge}
use Rattle.mvt_plane.proofs.Insides.EdgeParity.{test, same_test, failed_test, apart_either_way, not_apart}
use Rattle.mvt_plane.proofs.Insides.InsideParity.{apart}
use Rattle.mvt_plane.proofs.Points.MixedPoints.{IsLower, across, across_at, across_lies, AreClear, AreLevel, same_side}
use Rattle.mvt_plane.proofs.Orders.Order.{zs, le_or_lt, le_decide, lt_decide, mono_le_right, mono_lt_right}
use Rattle.mvt_plane.proofs.Insides.PointsUnder.{point_over, over_lies, passes_where_higher, passes_reversed, none_passes, passes_decide}
use Rattle.mvt_plane.proofs.Orders.Polynomials.{◌⊗◌, identity}
use Rattle.mvt_plane.proofs.Points.RationalPoints.{begin_lies_on, end_lies_on, lies_on_reversed, both_decide, times_one}

-- two points of an edge, in the order of their x
pub record IsSpan (edge : Edge) (p q : RationalPoint) : Type 0 where
  pub first : LiesOn p edge
  pub second : LiesOn q edge
  pub order : (p.x *ℤ q.w) ≤ℤ (q.x *ℤ p.w)

-- ---- where a vertex is, in x

-- before both points, between them, or after both; at the x of a point it is before that
data Place (p q : RationalPoint) (vertex : Position) : Type 0 where
  before : (vertex.x *ℤ p.w) ≤ℤ p.x → (vertex.x *ℤ q.w) ≤ℤ q.x → Place p q vertex
  between : p.x <ℤ (vertex.x *ℤ p.w) → (vertex.x *ℤ q.w) ≤ℤ q.x → Place p q vertex
  following : p.x <ℤ (vertex.x *ℤ p.w) → q.x <ℤ (vertex.x *ℤ q.w) → Place p q vertex

-- two factors after a number may change places
factors_swapped : (a m n : ℤ) → a *ℤ m *ℤ n ≡ a *ℤ n *ℤ m
factors_swapped a m n = identity (a ∷ m ∷ n ∷ []) (λ A M N. (A ⊗ M ⊗ N, A ⊗ N ⊗ M)) tt

-- it is at one of these places
place_of : (edge : Edge) (p q : RationalPoint) → IsSpan edge p q → (vertex : Position) → Place p q vertex
place_of edge p q span vertex = by_order (le_or_lt (vertex.x *ℤ p.w) p.x) (le_or_lt (vertex.x *ℤ q.w) q.x)
  where
    by_order : ((vertex.x *ℤ p.w) ≤ℤ p.x) ⊎ (p.x <ℤ (vertex.x *ℤ p.w)) → ((vertex.x *ℤ q.w) ≤ℤ q.x) ⊎ (q.x <ℤ (vertex.x *ℤ q.w)) → Place p q vertex
    by_order (inl at_p) (inl at_q) = before at_p at_q
    by_order (inr past_p) (inl at_q) = between past_p at_q
    by_order (inr past_p) (inr past_q) = following past_p past_q
    by_order (inl at_p) (inr past_q) =
        let p_w = span.first.positive in
        let q_w = span.second.positive in
        let order = span.order in
        let scale : pos 0 <ℤ p.w = omega (arith, zs) in
        let other_scale : pos 0 ≤ℤ q.w = omega (arith, zs) in
        absurd (omega (arith, zs, mono_le_right at_p other_scale, mono_lt_right past_q scale, factors_swapped vertex.x p.w q.w))

-- ---- marks

-- the vertex is between the two points in x, and above their edge
pub record IsMarked (p q : RationalPoint) (vertex : Position) : Type 0 where
  pub after_first : p.x <ℤ (vertex.x *ℤ p.w)
  pub before_second : (vertex.x *ℤ q.w) ≤ℤ q.x
  pub above : IsLower (across p q (whole vertex)) (whole vertex)

-- whether it is
pub mark_decide : (p q : RationalPoint) (vertex : Position) → Dec (IsMarked p q vertex)
mark_decide p q vertex =
    map_dec (λ parts. record { after_first = parts.0; before_second = parts.1.0; above = parts.1.1 }) (λ marked. (marked.after_first, (marked.before_second, marked.above)))
    (both_decide (lt_decide _ _) (both_decide (le_decide _ _) (lt_decide _ _)))

-- one before the first point isn't
unmarked_before : (p q : RationalPoint) (vertex : Position) → (vertex.x *ℤ p.w) ≤ℤ p.x → test (mark_decide p q vertex) ≡ false
unmarked_before p q vertex at_p = failed_test (mark_decide p q vertex) (λ marked. let past = marked.after_first in omega (arith, zs))

-- nor one after the second
unmarked_after : (p q : RationalPoint) (vertex : Position) → q.x <ℤ (vertex.x *ℤ q.w) → test (mark_decide p q vertex) ≡ false
unmarked_after p q vertex past_q = failed_test (mark_decide p q vertex) (λ marked. let at = marked.before_second in omega (arith, zs))

-- ---- points of both edges at one x

-- at a vertex between the two points
level_at_vertex : (edge other : Edge) (p q : RationalPoint) → IsSpan edge p q → (vertex : Position) → p.x <ℤ (vertex.x *ℤ p.w) → (vertex.x *ℤ q.w) ≤ℤ q.x
    → LiesOn (whole vertex) other → AreLevel edge other (across p q (whole vertex)) (whole vertex)
level_at_vertex edge other p q span vertex past_p at_q on_other =
    let p_w = span.first.positive in
    let q_w = span.second.positive in
    let scale : pos 0 ≤ℤ p.w = omega (arith, zs) in
    let other_scale : pos 0 <ℤ q.w = omega (arith, zs) in
    let before_vertex = mono_lt_right past_p other_scale in
    let after_vertex = mono_le_right at_q scale in
    let same = factors_swapped vertex.x p.w q.w in
    let first = times_one p.x in
    let second = times_one q.x in
    record {
      first = across_lies edge p q (whole vertex) (omega (arith, zs)) (omega (arith, zs)) (omega (arith, zs)) (omega (arith, zs)) span.first span.second;
      second = on_other;
      at = sym (across_at p q (whole vertex));
    }

-- at a point that the other edge goes past to the right
level_at_point : (edge : Edge) (z : RationalPoint) → LiesOn z edge → (a b : Position) → (a.x *ℤ z.w) ≤ℤ z.x → z.x <ℤ (b.x *ℤ z.w)
    → AreLevel edge (record { a = a; b = b }) z (point_over a b z)
level_at_point edge z on_edge a b begun ended = record {
  first = on_edge;
  second = over_lies a b z on_edge.positive begun ended;
  at = across_at (whole a) (whole b) z;
}

-- ---- the tests of an edge

-- whether it passes over a point
abbrev pub is_over : (z : RationalPoint) → pos 1 ≤ℤ z.w → Edge → Bool
is_over z positive edge = test (passes_decide z positive edge)

-- whether a vertex is marked
abbrev pub is_marked : RationalPoint → RationalPoint → Position → Bool
is_marked p q vertex = test (mark_decide p q vertex)

-- of the two points the edge passes over just one where just one of its ends is marked
abbrev Balances : (p q : RationalPoint) → pos 1 ≤ℤ p.w → pos 1 ≤ℤ q.w → Edge → Type 0
Balances p q p_w q_w edge = apart (is_over p p_w edge) (is_over q q_w edge) ≡ apart (is_marked p q edge.a) (is_marked p q edge.b)

-- where it passes over neither, and both are marked or neither is
over_neither : {f g m n : Bool} → f ≡ false → g ≡ false → m ≡ n → apart f g ≡ apart m n
over_neither {f} {g} {m} {n} no_f no_g same = ap₂ apart no_f no_g ∙ sym (ap (λ (x : Bool). apart x n) same ∙ not_apart n)

-- where it passes over both or neither, and neither is marked
over_both : {f g m n : Bool} → f ≡ g → m ≡ false → n ≡ false → apart f g ≡ apart m n
over_both {f} {g} {m} {n} same no_m no_n = ap (λ (x : Bool). apart x g) same ∙ not_apart g ∙ sym (ap₂ apart no_m no_n)

-- where it passes over the first just where its second end is marked
over_first : {f g m n : Bool} → f ≡ n → g ≡ false → m ≡ false → apart f g ≡ apart m n
over_first {f} {g} {m} {n} same no_g no_m = ap₂ apart same no_g ∙ apart_either_way n false ∙ sym (ap (λ (x : Bool). apart x n) no_m)

-- where it passes over the second just where its first end is marked
over_second : {f g m n : Bool} → f ≡ false → g ≡ m → n ≡ false → apart f g ≡ apart m n
over_second {f} {g} {m} {n} no_f same no_n = ap₂ apart no_f same ∙ apart_either_way false m ∙ sym (ap (λ (x : Bool). apart m x) no_n)

-- an edge with both ends before a point, or at its x, doesn't pass over it
not_over_after : (z : RationalPoint) (z_w : pos 1 ≤ℤ z.w) (a b : Position) → (a.x *ℤ z.w) ≤ℤ z.x → (b.x *ℤ z.w) ≤ℤ z.x → is_over z z_w (record { a = a; b = b }) ≡ false
not_over_after z z_w a b begins ends = failed_test (passes_decide z z_w _) (none_passes a b z (λ _. ends, λ _. begins))

-- nor one with both ends after it
not_over_before : (z : RationalPoint) (z_w : pos 1 ≤ℤ z.w) (a b : Position) → z.x <ℤ (a.x *ℤ z.w) → z.x <ℤ (b.x *ℤ z.w) → is_over z z_w (record { a = a; b = b }) ≡ false
not_over_before z z_w a b begins ends = failed_test (passes_decide z z_w _) (none_passes a b z (λ it. absurd (omega (arith, zs)), λ it. absurd (omega (arith, zs))))

-- ---- an edge that goes to the right

-- with both ends between the points both are marked or neither
marked_alike : (edge : Edge) (p q : RationalPoint) → IsSpan edge p q → (a b : Position) → AreClear edge (record { a = a; b = b })
    → p.x <ℤ (a.x *ℤ p.w) → (a.x *ℤ q.w) ≤ℤ q.x → p.x <ℤ (b.x *ℤ p.w) → (b.x *ℤ q.w) ≤ℤ q.x → is_marked p q a ≡ is_marked p q b
marked_alike edge p q span a b clear a_past a_at b_past b_at =
    same_test (mark_decide p q a) (mark_decide p q b)
    (λ marked. record { after_first = b_past; before_second = b_at; above = same_side edge other clear _ _ _ _ at_a at_b marked.above })
    (λ marked. record { after_first = a_past; before_second = a_at; above = same_side edge other clear _ _ _ _ at_b at_a marked.above })
  where
    other : Edge
    other = record { a = a; b = b }

    at_a : AreLevel edge (record { a = a; b = b }) (across p q (whole a)) (whole a)
    at_a = level_at_vertex edge (record { a = a; b = b }) p q span a a_past a_at (begin_lies_on (record { a = a; b = b }))

    at_b : AreLevel edge (record { a = a; b = b }) (across p q (whole b)) (whole b)
    at_b = level_at_vertex edge (record { a = a; b = b }) p q span b b_past b_at (end_lies_on (record { a = a; b = b }))

-- past the first point to a vertex between them, it passes over that just where the vertex is marked
first_by_mark : (edge : Edge) (p q : RationalPoint) (p_w : pos 1 ≤ℤ p.w) → IsSpan edge p q → (a b : Position) → AreClear edge (record { a = a; b = b })
    → (a.x *ℤ p.w) ≤ℤ p.x → p.x <ℤ (b.x *ℤ p.w) → (b.x *ℤ q.w) ≤ℤ q.x → is_over p p_w (record { a = a; b = b }) ≡ is_marked p q b
first_by_mark edge p q p_w span a b clear begun past at =
    let other : Edge = record { a = a; b = b } in
    let decides = passes_where_higher a b p p_w begun past in
    let at_p = level_at_point edge p span.first a b begun past in
    let at_b = level_at_vertex edge other p q span b past at (end_lies_on other) in
    same_test (passes_decide p p_w other) (mark_decide p q b)
    (λ passes. record { after_first = past; before_second = at; above = same_side edge other clear _ _ _ _ at_p at_b (decides.1 passes) })
    (λ marked. decides.0 (same_side edge other clear _ _ _ _ at_b at_p marked.above))

-- from a vertex between them past the second point, it passes over that just where the vertex is marked
second_by_mark : (edge : Edge) (p q : RationalPoint) (q_w : pos 1 ≤ℤ q.w) → IsSpan edge p q → (a b : Position) → AreClear edge (record { a = a; b = b })
    → p.x <ℤ (a.x *ℤ p.w) → (a.x *ℤ q.w) ≤ℤ q.x → q.x <ℤ (b.x *ℤ q.w) → is_over q q_w (record { a = a; b = b }) ≡ is_marked p q a
second_by_mark edge p q q_w span a b clear past at ended =
    let other : Edge = record { a = a; b = b } in
    let decides = passes_where_higher a b q q_w at ended in
    let at_q = level_at_point edge q span.second a b at ended in
    let at_a = level_at_vertex edge other p q span a past at (begin_lies_on other) in
    same_test (passes_decide q q_w other) (mark_decide p q a)
    (λ passes. record { after_first = past; before_second = at; above = same_side edge other clear _ _ _ _ at_q at_a (decides.1 passes) })
    (λ marked. decides.0 (same_side edge other clear _ _ _ _ at_a at_q marked.above))

-- past both points, it passes over both or over neither
both_alike : (edge : Edge) (p q : RationalPoint) (p_w : pos 1 ≤ℤ p.w) (q_w : pos 1 ≤ℤ q.w) → IsSpan edge p q → (a b : Position) → AreClear edge (record { a = a; b = b })
    → (a.x *ℤ p.w) ≤ℤ p.x → (a.x *ℤ q.w) ≤ℤ q.x → p.x <ℤ (b.x *ℤ p.w) → q.x <ℤ (b.x *ℤ q.w) → is_over p p_w (record { a = a; b = b }) ≡ is_over q q_w (record { a = a; b = b })
both_alike edge p q p_w q_w span a b clear before_p before_q past_p past_q =
    let other : Edge = record { a = a; b = b } in
    let first = passes_where_higher a b p p_w before_p past_p in
    let second = passes_where_higher a b q q_w before_q past_q in
    let at_p = level_at_point edge p span.first a b before_p past_p in
    let at_q = level_at_point edge q span.second a b before_q past_q in
    same_test (passes_decide p p_w other) (passes_decide q q_w other) (λ passes. second.0 (same_side edge other clear _ _ _ _ at_p at_q (first.1 passes)))
    (λ passes. first.0 (same_side edge other clear _ _ _ _ at_q at_p (second.1 passes)))

-- ---- any edge

-- the edge that goes back has no point in common either
clear_back : (edge : Edge) (a b : Position) → AreClear edge (record { a = a; b = b }) → AreClear edge (record { a = b; b = a })
clear_back edge a b clear point on_edge on_other = clear point on_edge (lies_on_reversed point (record { a = b; b = a }) on_other)

-- where the edge that goes back balances, the edge does
balances_back : (p q : RationalPoint) (p_w : pos 1 ≤ℤ p.w) (q_w : pos 1 ≤ℤ q.w) (a b : Position)
    → Balances p q p_w q_w (record { a = b; b = a }) → Balances p q p_w q_w (record { a = a; b = b })
balances_back p q p_w q_w a b balances =
    ap₂ apart (same p p_w) (same q q_w) ∙ balances ∙ apart_either_way (is_marked p q b) (is_marked p q a)
  where
    same : (z : RationalPoint) (z_w : pos 1 ≤ℤ z.w) → is_over z z_w (record { a = a; b = b }) ≡ is_over z z_w (record { a = b; b = a })
    same z z_w = same_test (passes_decide z z_w _) (passes_decide z z_w _) (passes_reversed a b z) (passes_reversed b a z)

-- an edge without a point in common with that of the two points balances
pub balances : (edge : Edge) (p q : RationalPoint) (p_w : pos 1 ≤ℤ p.w) (q_w : pos 1 ≤ℤ q.w) → IsSpan edge p q → (other : Edge) → AreClear edge other
    → apart (is_over p p_w other) (is_over q q_w other) ≡ apart (is_marked p q other.a) (is_marked p q other.b)
balances edge p q p_w q_w span other clear = at other.a other.b (place_of edge p q span other.a) (place_of edge p q span other.b) clear
  where
    at : (a b : Position) → Place p q a → Place p q b → AreClear edge (record { a = a; b = b })
        → apart (is_over p p_w (record { a = a; b = b })) (is_over q q_w (record { a = a; b = b })) ≡ apart (is_marked p q a) (is_marked p q b)
    at a b (before a_p a_q) (before b_p b_q) clear =
        over_neither (not_over_after p p_w a b a_p b_p) (not_over_after q q_w a b a_q b_q) (unmarked_before p q a a_p ∙ sym (unmarked_before p q b b_p))
    at a b (following a_p a_q) (following b_p b_q) clear =
        over_neither (not_over_before p p_w a b a_p b_p) (not_over_before q q_w a b a_q b_q) (unmarked_after p q a a_q ∙ sym (unmarked_after p q b b_q))
    at a b (between a_p a_q) (between b_p b_q) clear =
        over_neither (not_over_before p p_w a b a_p b_p) (not_over_after q q_w a b a_q b_q) (marked_alike edge p q span a b clear a_p a_q b_p b_q)
    at a b (before a_p a_q) (between b_p b_q) clear =
        over_first (first_by_mark edge p q p_w span a b clear a_p b_p b_q) (not_over_after q q_w a b a_q b_q) (unmarked_before p q a a_p)
    at a b (between a_p a_q) (following b_p b_q) clear =
        over_second (not_over_before p p_w a b a_p b_p) (second_by_mark edge p q q_w span a b clear a_p a_q b_q) (unmarked_after p q b b_q)
    at a b (before a_p a_q) (following b_p b_q) clear =
        over_both (both_alike edge p q p_w q_w span a b clear a_p a_q b_p b_q) (unmarked_before p q a a_p) (unmarked_after p q b b_q)
    at a b (between a_p a_q) (before b_p b_q) clear =
        let back = clear_back edge a b clear in
        balances_back p q p_w q_w a b
        (over_first (first_by_mark edge p q p_w span b a back b_p a_p a_q) (not_over_after q q_w b a b_q a_q) (unmarked_before p q b b_p))
    at a b (following a_p a_q) (between b_p b_q) clear =
        let back = clear_back edge a b clear in
        balances_back p q p_w q_w a b
        (over_second (not_over_before p p_w b a b_p a_p) (second_by_mark edge p q q_w span b a back b_p b_q a_q) (unmarked_after p q a a_q))
    at a b (following a_p a_q) (before b_p b_q) clear =
        let back = clear_back edge a b clear in
        balances_back p q p_w q_w a b
        (over_both (both_alike edge p q p_w q_w span b a back b_p b_q a_p a_q) (unmarked_before p q b b_p) (unmarked_after p q a a_q))
