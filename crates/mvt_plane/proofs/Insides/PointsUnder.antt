-- Which edges pass over a rational point: as over a position, with the point's w.
use Rattle.std.proofs.Common.{◌≡◌, ◌⊎◌, inl, inr, ◌↔◌, [], ◌∷◌, ℤ, pos, ◌-ℤ◌, ◌*ℤ◌, ◌≤ℤ◌, ◌<ℤ◌, arith}
use Rattle.std.proofs.Math.Decide.{map_dec}
use Rattle.std.proofs.Math.IntN.{*ℤ_comm}
use Rattle.mvt_plane.specs.Geometry.Inside.{PassesOver, PassesOverPoint}
use Rattle.mvt_plane.specs.Position.{Position}
use Rattle.mvt_plane.specs.Geometry.RationalPoint.{RationalPoint, LiesOn, whole}
use Rattle.mvt_plane.specs.declared.geometry.edge.Edge.{Edge}
use Rattle.mvt_plane.proofs.Insides.EdgeParity.{differ_together}
use Rattle.mvt_plane.proofs.Insides.InsideEdges.{differ_back, not_differ}
use Rattle.mvt_plane.proofs.Points.Lines.{through}
use Rattle.mvt_plane.proofs.Points.MixedPoints.{AreAtOneX, IsLower, across, across_at, across_lies}
use Rattle.mvt_plane.proofs.Orders.Order.{zs, le_or_lt, lt_decide, mul_pos, cancel_lt, factor_pos}
use Rattle.mvt_plane.proofs.Orders.Polynomials.{◌⊖◌, ◌⊗◌, consequence, given}
use Rattle.mvt_plane.proofs.Points.RationalPoints.{begin_lies_on, end_lies_on, lies_on_reversed, times_one}

-- ---- by sides

-- by how much the line of an edge is above a rational point, times the edge's length in x
abbrev pub above : Edge → RationalPoint → ℤ
above edge p = (edge.b.y -ℤ edge.a.y) *ℤ (p.x -ℤ edge.a.x *ℤ p.w) -ℤ (edge.b.x -ℤ edge.a.x) *ℤ (p.y -ℤ edge.a.y *ℤ p.w)

-- so much is the edge's point at its x
above_by_point : (edge : Edge) (p high : RationalPoint) → LiesOn high edge → AreAtOneX high p
    → (edge.b.x -ℤ edge.a.x) *ℤ (high.y *ℤ p.w -ℤ p.y *ℤ high.w) ≡ high.w *ℤ above edge p
above_by_point edge p high on_edge same_x =
    consequence (edge.a.x ∷ edge.a.y ∷ edge.b.x ∷ edge.b.y ∷ p.x ∷ p.y ∷ p.w ∷ high.x ∷ high.y ∷ high.w ∷ [])
    (λ AX AY BX BY X Y W HX HY HW. (
      (BX ⊖ AX) ⊗ (HY ⊗ W ⊖ Y ⊗ HW),
      HW ⊗ ((BY ⊖ AY) ⊗ (X ⊖ AX ⊗ W) ⊖ (BX ⊖ AX) ⊗ (Y ⊖ AY ⊗ W)),
      through W (BX ⊖ AX) (BY ⊖ AY) AX AY HX HY HW ∷ given (BY ⊖ AY) (HX ⊗ W) (X ⊗ HW) ∷ [],
    )) (on_edge.on_line, (same_x, tt)) tt

-- of an edge that goes to the right, any two points at one x are alike
lower_alike : (edge : Edge) (p high other : RationalPoint) → edge.a.x <ℤ edge.b.x → LiesOn high edge → AreAtOneX high p → LiesOn other edge → AreAtOneX other p
    → IsLower p high → IsLower p other
lower_alike edge p high other order high_on high_at other_on other_at lower =
    let length : pos 0 <ℤ (edge.b.x -ℤ edge.a.x) = omega (arith, zs) in
    let high_w = high_on.positive in
    let other_w = other_on.positive in
    let rise : pos 0 <ℤ (high.y *ℤ p.w -ℤ p.y *ℤ high.w) = omega (arith, zs) in
    let product = mul_pos length rise in
    let same = above_by_point edge p high high_on high_at in
    let sign = factor_pos high.w (above edge p) (omega (arith, zs)) (omega (arith, zs)) in
    let scale : pos 0 <ℤ other.w = omega (arith, zs) in
    let other_product = mul_pos scale sign in
    let other_same = above_by_point edge p other other_on other_at in
    let found = factor_pos (edge.b.x -ℤ edge.a.x) (other.y *ℤ p.w -ℤ p.y *ℤ other.w) (omega (arith, zs)) (omega (arith, zs)) in
    omega (arith, zs)

-- ---- the edge's point at the x of another one

-- of an edge from a to b, at the x of a rational point
abbrev pub point_over : Position → Position → RationalPoint → RationalPoint
point_over a b p = across (whole a) (whole b) p

-- where one number times w is less than another, it is less
less_by_scaled : (a b w x : ℤ) → pos 1 ≤ℤ w → (a *ℤ w) ≤ℤ x → x <ℤ (b *ℤ w) → a <ℤ b
less_by_scaled a b w x positive begun ended = cancel_lt w a b (omega (arith, zs)) (omega (arith, zs, *ℤ_comm w a, *ℤ_comm w b))

-- it is on the edge, where the edge goes to the right past that
pub over_lies : (a b : Position) (p : RationalPoint) → pos 1 ≤ℤ p.w → (a.x *ℤ p.w) ≤ℤ p.x → p.x <ℤ (b.x *ℤ p.w) → LiesOn (point_over a b p) (record { a = a; b = b })
over_lies a b p positive begun ended =
    let edge : Edge = record { a = a; b = b } in
    let order = less_by_scaled a.x b.x p.w p.x positive begun ended in
    let first = times_one a.x in
    let second = times_one b.x in
    let here = times_one p.x in
    across_lies edge (whole a) (whole b) p positive (omega (arith, zs)) (omega (arith, zs)) (omega (arith, zs)) (begin_lies_on edge) (end_lies_on edge)

-- the edge passes over where that is higher
pub passes_where_higher : (a b : Position) (p : RationalPoint) → pos 1 ≤ℤ p.w → (a.x *ℤ p.w) ≤ℤ p.x → p.x <ℤ (b.x *ℤ p.w)
    → IsLower p (point_over a b p) ↔ PassesOverPoint p (record { a = a; b = b })
passes_where_higher a b p positive begun ended =
    let on_edge = over_lies a b p positive begun ended in
    let at = across_at (whole a) (whole b) p in (
      λ lower. record { parted = inl (begun, λ (ends : (b.x *ℤ p.w) ≤ℤ p.x). omega (arith, zs)); higher = point_over a b p; on_edge = on_edge; same_x = at; greater_y = lower },
      λ passes. lower_alike (record { a = a; b = b }) p passes.higher (point_over a b p) (less_by_scaled a.x b.x p.w p.x positive begun ended) passes.on_edge passes.same_x
          on_edge at passes.greater_y,
    )

-- and where its line is above
pub passes_where_above : (a b : Position) (p : RationalPoint) → pos 1 ≤ℤ p.w → (a.x *ℤ p.w) ≤ℤ p.x → p.x <ℤ (b.x *ℤ p.w)
    → (pos 0 <ℤ above (record { a = a; b = b }) p) ↔ PassesOverPoint p (record { a = a; b = b })
passes_where_above a b p positive begun ended =
    let edge : Edge = record { a = a; b = b } in
    let on_edge = over_lies a b p positive begun ended in
    let length : pos 0 <ℤ (b.x -ℤ a.x) = let order = less_by_scaled a.x b.x p.w p.x positive begun ended in omega (arith, zs) in
    let signs = same_sign _ _ _ _ _ length on_edge.positive (above_by_point edge p (point_over a b p) on_edge (across_at (whole a) (whole b) p)) in
    let decides = passes_where_higher a b p positive begun ended in
    (λ up. decides.0 (signs.1 up), λ passes. signs.0 (decides.1 passes))
  where
    same_sign : (far high low w z : ℤ) → pos 0 <ℤ far → pos 1 ≤ℤ w → far *ℤ (high -ℤ low) ≡ w *ℤ z → (low <ℤ high) ↔ (pos 0 <ℤ z)
    same_sign far high low w z far_sign w_sign same = (
      λ order. let product = mul_pos {a = far} {b = high -ℤ low} far_sign (omega (arith, zs)) in factor_pos w z (omega (arith, zs)) (omega (arith, zs)),
      λ sign. let product = mul_pos {a = w} {b = z} (omega (arith, zs)) sign in let rise = factor_pos far (high -ℤ low) (omega (arith, zs)) (omega (arith, zs)) in omega (arith, zs),
    )

-- ---- the edge that goes back

-- it passes over the same points
pub passes_reversed : (a b : Position) (p : RationalPoint) → PassesOverPoint p (record { a = a; b = b }) → PassesOverPoint p (record { a = b; b = a })
passes_reversed a b p passes = record {
  parted = differ_back passes.parted;
  higher = passes.higher;
  on_edge = lies_on_reversed passes.higher (record { a = a; b = b }) passes.on_edge;
  same_x = passes.same_x;
  greater_y = passes.greater_y;
}

-- ---- it is decided

-- an edge with both ends on one side doesn't pass over
pub none_passes : (a b : Position) (p : RationalPoint) → ((a.x *ℤ p.w) ≤ℤ p.x) ↔ ((b.x *ℤ p.w) ≤ℤ p.x) → ¬ PassesOverPoint p (record { a = a; b = b })
none_passes a b p together passes = not_differ together passes.parted

-- whether an edge passes over a rational point
pub passes_decide : (p : RationalPoint) → pos 1 ≤ℤ p.w → (edge : Edge) → Dec (PassesOverPoint p edge)
passes_decide p positive edge = by_ends (le_or_lt (edge.a.x *ℤ p.w) p.x) (le_or_lt (edge.b.x *ℤ p.w) p.x)
  where
    by_ends : ((edge.a.x *ℤ p.w) ≤ℤ p.x) ⊎ (p.x <ℤ (edge.a.x *ℤ p.w)) → ((edge.b.x *ℤ p.w) ≤ℤ p.x) ⊎ (p.x <ℤ (edge.b.x *ℤ p.w)) → Dec (PassesOverPoint p edge)
    by_ends (inl begins) (inl ends) = no (none_passes edge.a edge.b p (λ _. ends, λ _. begins))
    by_ends (inl begins) (inr beyond) =
        let decides = passes_where_higher edge.a edge.b p positive begins beyond in
        map_dec decides.0 decides.1 (lt_decide _ _)
    by_ends (inr beyond) (inl ends) =
        let decides = passes_where_higher edge.b edge.a p positive ends beyond in
        map_dec (λ lower. passes_reversed edge.b edge.a p (decides.0 lower)) (λ passes. decides.1 (passes_reversed edge.a edge.b p passes)) (lt_decide _ _)
    by_ends (inr begins) (inr ends) = no (none_passes edge.a edge.b p (λ it. absurd (omega (arith, zs)), λ it. absurd (omega (arith, zs))))

-- ---- positions

-- an edge passes over a position where it passes over that as a rational point
pub passes_over_whole : (position : Position) (edge : Edge) → PassesOverPoint (whole position) edge ↔ PassesOver position edge
passes_over_whole position edge = (there, back)
  where
    left : (a : ℤ) → ((a *ℤ pos 1) ≤ℤ position.x) ↔ (a ≤ℤ position.x)
    left a = let once = times_one a in (λ scaled. omega (arith, zs), λ plain. omega (arith, zs))

    swapped : {First Second : Type 0} → First ↔ Second → Second ↔ First
    swapped both = (both.1, both.0)

    there : PassesOverPoint (whole position) edge → PassesOver position edge
    there passes =
        let x = times_one passes.higher.x in
        let y = times_one passes.higher.y in
        let same = passes.same_x in
        let greater = passes.greater_y in
        record {
          parted = differ_together (left edge.a.x) (left edge.b.x) passes.parted;
          point = passes.higher;
          on_edge = passes.on_edge;
          same_x = omega (arith, zs);
          greater_y = omega (arith, zs);
        }

    back : PassesOver position edge → PassesOverPoint (whole position) edge
    back passes =
        let x = times_one passes.point.x in
        let y = times_one passes.point.y in
        let same = passes.same_x in
        let greater = passes.greater_y in
        record {
          parted = differ_together (swapped (left edge.a.x)) (swapped (left edge.b.x)) passes.parted;
          higher = passes.point;
          on_edge = passes.on_edge;
          same_x = omega (arith, zs);
          greater_y = omega (arith, zs);
        }
