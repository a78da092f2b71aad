-- Parallel edges with a common point: one of the four ends is a common point
use Rattle.std.proofs.Common.{◌≡◌, ◌⊎◌, inl, inr, [], ◌∷◌, Option, Some, None, ℤ, pos, ◌-ℤ◌, ◌*ℤ◌, ◌≤ℤ◌, refl, sym, ◌∙◌, ap, subst, arith}
use Rattle.std.proofs.Math.IntN.{*ℤ_comm, *ℤ-zero}
use Rattle.std.proofs.lemmas.Option.{none-some, same_Some}
use Rattle.mvt_plane.specs.Geometry.CommonPoint.{IsCommon, NoEndIsCommon, cross_product}
use Rattle.mvt_plane.specs.Position.{Position}
use Rattle.mvt_plane.specs.Geometry.RationalPoint.{RationalPoint, LiesOn, IsAt, IsBetween, whole}
use Rattle.mvt_plane.specs.declared.geometry.edge.Edge.{Edge}
use Rattle.mvt_plane.proofs.Points.CommonPoints.{IsSharedVertex, shared_or_common}
use Rattle.mvt_plane.proofs.Points.Lines.{between_follows, turned_line, position_on_line, same_height}
use Rattle.mvt_plane.proofs.Orders.Order.{zs, le_or_lt, is_zero, cancel_le, cancel_zero}
use Rattle.mvt_plane.proofs.Orders.Polynomials.{constant, negated, once, ◌⊖◌, ◌⊗◌, consequence, given}
use Rattle.mvt_plane.proofs.Points.RationalPoints.{IsSame, same_back, same_point, is_at_same, is_common_same, lies_on_reversed, reversed, begin_lies_on, end_lies_on, times_one, both_decide}
use Rattle.mvt_plane.proofs.Points.PointWeights.{flipped, flipped_edge, flipped_point, flip_lies}

-- ---- parallel edges

-- how far an edge goes in x
abbrev pub run : Edge → ℤ
run edge = edge.b.x -ℤ edge.a.x

-- and in y
abbrev pub rise : Edge → ℤ
rise edge = edge.b.y -ℤ edge.a.y

-- edges are parallel in either order
parallel_swapped : (first second : Edge) → cross_product first second ≡ pos 0 → cross_product second first ≡ pos 0
parallel_swapped first second parallel =
    consequence (run first ∷ rise first ∷ run second ∷ rise second ∷ [])
    (λ U V P Q. (P ⊗ V ⊖ Q ⊗ U, constant (pos 0), given (negated once) (U ⊗ Q ⊖ V ⊗ P) (constant (pos 0)) ∷ [])) (parallel, tt) tt

-- and in either direction
parallel_reversed : (first second : Edge) → cross_product first second ≡ pos 0 → cross_product (reversed first) second ≡ pos 0
parallel_reversed first second parallel =
    consequence (first.a.x ∷ first.b.x ∷ first.a.y ∷ first.b.y ∷ run second ∷ rise second ∷ [])
    (λ A B C D P Q. ((A ⊖ B) ⊗ Q ⊖ (C ⊖ D) ⊗ P, constant (pos 0), given (negated once) ((B ⊖ A) ⊗ Q ⊖ (D ⊖ C) ⊗ P) (constant (pos 0)) ∷ [])) (parallel, tt) tt

-- an edge that isn't vertical is none the other way round either
run_reversed : (edge : Edge) → ¬ (run edge ≡ pos 0) → ¬ (run (reversed edge) ≡ pos 0)
run_reversed edge apart none = apart (omega (arith, zs))

-- ---- ends on the other edge

-- the position is one of the edge's ends
abbrev IsEnd : Edge → Position → Type 0
IsEnd edge position = (position ≡ edge.a) ⊎ (position ≡ edge.b)

-- what holds of both ends
of_end : (P : Position → Type 0) (edge : Edge) (position : Position) → P edge.a → P edge.b → IsEnd edge position → P position
of_end P edge position at_a at_b (inl same) = subst P (sym same) at_a
of_end P edge position at_a at_b (inr same) = subst P (sym same) at_b

-- the position is on the line of an edge
abbrev IsOnLine : Edge → Position → Type 0
IsOnLine edge position = run edge *ℤ (position.y -ℤ edge.a.y *ℤ pos 1) ≡ rise edge *ℤ (position.x -ℤ edge.a.x *ℤ pos 1)

-- parallel edges with a point in common: the beginning of one is on the line of the other
begin_on_line : (first second : Edge) (point : RationalPoint) → ¬ (run first ≡ pos 0) → cross_product first second ≡ pos 0 → LiesOn point first → LiesOn point second → IsOnLine second first.a
begin_on_line first second point apart parallel on_first on_second =
    let through = turned_line (run first) (rise first) (run second) (rise second) first.a.x first.a.y point.x point.y point.w apart parallel on_first.on_line in
    position_on_line (run second) (rise second) first.a.x first.a.y second.a.x second.a.y point.x point.y point.w on_first.positive through on_second.on_line

-- so are both ends
end_on_line : (first second : Edge) (point : RationalPoint) → ¬ (run first ≡ pos 0) → cross_product first second ≡ pos 0 → LiesOn point first → LiesOn point second → (position : Position) → IsEnd first position → IsOnLine second position
end_on_line first second point apart parallel on_first on_second position end =
    let at_a = begin_on_line first second point apart parallel on_first on_second in
    let at_b = begin_on_line (reversed first) second point (run_reversed first apart) (parallel_reversed first second parallel) (lies_on_reversed point first on_first) on_second in
    of_end (IsOnLine second) first position at_a at_b end

-- a position on the line of an edge that isn't vertical, and between its ends in x, lies on it
pub lies_on_flat : (edge : Edge) (position : Position) → ¬ (run edge ≡ pos 0) → IsOnLine edge position → IsBetween (edge.a.x *ℤ pos 1) (edge.b.x *ℤ pos 1) position.x → LiesOn (whole position) edge
lies_on_flat edge position apart on_line between =
    let positive : pos 1 ≤ℤ pos 1 = omega (arith, zs) in
    record {
      positive = positive;
      on_line = on_line;
      x_between = between;
      y_between = between_follows edge.a.x edge.a.y edge.b.x edge.b.y position.x position.y (pos 1) apart positive on_line between;
    }

-- an edge has its ends
pub end_lies : (edge : Edge) (position : Position) → IsEnd edge position → LiesOn (whole position) edge
end_lies edge position end = of_end (λ p. LiesOn (whole p) edge) edge position (begin_lies_on edge) (end_lies_on edge) end

-- ---- which end of an edge is on which side of a point

-- the ends of an edge in the order of x, one on either side of the point
record Span (edge : Edge) (point : RationalPoint) : Type 0 where
  low : Position
  high : Position
  low_end : IsEnd edge low
  high_end : IsEnd edge high
  below : (low.x *ℤ point.w) ≤ℤ point.x
  above : point.x ≤ℤ (high.x *ℤ point.w)
  within : (x : ℤ) → low.x ≤ℤ x → x ≤ℤ high.x → IsBetween (edge.a.x *ℤ pos 1) (edge.b.x *ℤ pos 1) x

-- from what is between the ends
span_of : (edge : Edge) (point : RationalPoint) → IsBetween (edge.a.x *ℤ point.w) (edge.b.x *ℤ point.w) point.x → Span edge point
span_of edge point (inl rising) =
    record {
      low = edge.a;
      high = edge.b;
      low_end = inl refl;
      high_end = inr refl;
      below = rising.0;
      above = rising.1;
      within = λ x low high. inl (omega (arith, zs, times_one edge.a.x), omega (arith, zs, times_one edge.b.x));
    }
span_of edge point (inr falling) =
    record {
      low = edge.b;
      high = edge.a;
      low_end = inr refl;
      high_end = inl refl;
      below = falling.0;
      above = falling.1;
      within = λ x low high. inr (omega (arith, zs, times_one edge.b.x), omega (arith, zs, times_one edge.a.x));
    }

-- a coordinate on the one side of a point isn't beyond one on its other side
ordered : (w low high x : ℤ) → pos 1 ≤ℤ w → (low *ℤ w) ≤ℤ x → x ≤ℤ (high *ℤ w) → low ≤ℤ high
ordered w low high x positive below above = cancel_le w low high (omega (arith, zs)) (omega (arith, zs, *ℤ_comm low w, *ℤ_comm high w))

-- ---- edges that aren't vertical

-- parallel edges that aren't vertical, with a common point, but with no end that is one
record Overlap (shared : Option Position) (first second : Edge) (point : RationalPoint) : Type 0 where
  parallel : cross_product first second ≡ pos 0
  first_flat : ¬ (run first ≡ pos 0)
  second_flat : ¬ (run second ≡ pos 0)
  common : IsCommon shared first second point
  none : NoEndIsCommon shared first second

-- an end of one of the edges that is on both of them
record IsEndOfBoth (shared : Option Position) (first second : Edge) (position : Position) : Type 0 where
  on_first : LiesOn (whole position) first
  it : IsSharedVertex shared (whole position)

-- an end of the first edge between those of the second in x is the shared vertex
first_end_shared : (shared : Option Position) (first second : Edge) (point : RationalPoint) → Overlap shared first second point → (position : Position) → IsEnd first position → IsBetween (second.a.x *ℤ pos 1) (second.b.x *ℤ pos 1) position.x → IsEndOfBoth shared first second position
first_end_shared shared first second point overlap position end between =
    let on_line = end_on_line first second point overlap.first_flat overlap.parallel overlap.common.on_first overlap.common.on_second position end in
    let on_first = end_lies first position end in
    let on_second = lies_on_flat second position overlap.second_flat on_line between in
    let not_common = of_end (λ p. ¬ IsCommon shared first second (whole p)) first position overlap.none.first_a overlap.none.first_b end in
    record { on_first = on_first; it = shared_or_common shared first second (whole position) on_first on_second not_common }

-- so is one of the second edge
second_end_shared : (shared : Option Position) (first second : Edge) (point : RationalPoint) → Overlap shared first second point → (position : Position) → IsEnd second position → IsBetween (first.a.x *ℤ pos 1) (first.b.x *ℤ pos 1) position.x → IsEndOfBoth shared first second position
second_end_shared shared first second point overlap position end between =
    let on_line = end_on_line second first point overlap.second_flat (parallel_swapped first second overlap.parallel) overlap.common.on_second overlap.common.on_first position end in
    let on_second = end_lies second position end in
    let on_first = lies_on_flat first position overlap.first_flat on_line between in
    let not_common = of_end (λ p. ¬ IsCommon shared first second (whole p)) second position overlap.none.second_a overlap.none.second_b end in
    record { on_first = on_first; it = shared_or_common shared first second (whole position) on_first on_second not_common }

-- the shared vertex is an end that isn't right of the point
left_end : (shared : Option Position) (first second : Edge) (point : RationalPoint) → Overlap shared first second point → Span first point → Span second point → (position : Position) × IsEndOfBoth shared first second position × ((position.x *ℤ point.w) ≤ℤ point.x)
left_end shared first second point overlap one other =
    let positive = overlap.common.on_first.positive in
    elim (le_or_lt one.low.x other.low.x) [
      | inl order ↦
          let between = one.within other.low.x order (ordered point.w other.low.x one.high.x point.x positive other.below one.above) in
          (other.low, second_end_shared shared first second point overlap other.low other.low_end between, other.below)
      | inr order ↦
          let between = other.within one.low.x (omega (arith, zs)) (ordered point.w one.low.x other.high.x point.x positive one.below other.above) in
          (one.low, first_end_shared shared first second point overlap one.low one.low_end between, one.below)
    ]

-- and an end that isn't left of it
right_end : (shared : Option Position) (first second : Edge) (point : RationalPoint) → Overlap shared first second point → Span first point → Span second point → (position : Position) × IsEndOfBoth shared first second position × (point.x ≤ℤ (position.x *ℤ point.w))
right_end shared first second point overlap one other =
    let positive = overlap.common.on_first.positive in
    elim (le_or_lt one.high.x other.high.x) [
      | inl order ↦
          let between = other.within one.high.x (ordered point.w other.low.x one.high.x point.x positive other.below one.above) order in
          (one.high, first_end_shared shared first second point overlap one.high one.high_end between, one.above)
      | inr order ↦
          let between = one.within other.high.x (ordered point.w one.low.x other.high.x point.x positive one.below other.above) (omega (arith, zs)) in
          (other.high, second_end_shared shared first second point overlap other.high other.high_end between, other.above)
    ]

-- so the point is the shared vertex, against what was said of it
no_overlap : (shared : Option Position) (first second : Edge) (point : RationalPoint) → ¬ Overlap shared first second point
no_overlap shared first second point overlap =
    let common = overlap.common in
    let one = span_of first point common.on_first.x_between in
    let other = span_of second point common.on_second.x_between in
    let left = left_end shared first second point overlap one other in
    let right = right_end shared first second point overlap one other in
    let same = same_Some left.1.it.vertex right.1.it.vertex (sym left.1.it.there ∙ right.1.it.there) in
    let same_x = alike left.0 right.0 left.1.it.vertex right.1.it.vertex same left.1.it.at right.1.it.at in
    let at_x = meets left.0.x right.0.x point.x point.w same_x left.2 right.2 in
    let at_y = same_height (run first) (rise first) first.a.x first.a.y left.0.x left.0.y point.x point.y point.w overlap.first_flat common.on_first.on_line left.1.on_first.on_line at_x in
    let here : IsAt point left.1.it.vertex = is_at_same (whole left.0) point left.1.it.vertex (same_point left.0 point at_x at_y) (omega (arith, zs)) left.1.it.at in
    common.apart left.1.it.vertex left.1.it.there here
  where
    alike : (one other one_vertex other_vertex : Position) → one_vertex ≡ other_vertex → IsAt (whole one) one_vertex → IsAt (whole other) other_vertex → one.x ≡ other.x
    alike one other one_vertex other_vertex same at at_other = at.x ∙ ap (λ (v : Position). v.x *ℤ pos 1) same ∙ sym at_other.x

    meets : (left right x w : ℤ) → left ≡ right → (left *ℤ w) ≤ℤ x → x ≤ℤ (right *ℤ w) → x ≡ left *ℤ w
    meets left right x w same low high = let scaled = ap (λ (z : ℤ). z *ℤ w) same in omega (arith, zs)

-- an edge that isn't vertical, and a parallel one of some length, have no overlap without a common end
no_flat_overlap : (shared : Option Position) (first second : Edge) (point : RationalPoint) → cross_product first second ≡ pos 0 → IsCommon shared first second point → NoEndIsCommon shared first second → ¬ (run first ≡ pos 0) → ¬ ((run second ≡ pos 0) × (rise second ≡ pos 0)) → ⊥
no_flat_overlap shared first second point parallel common none first_flat long =
    no_overlap shared first second point (record { parallel = parallel; first_flat = first_flat; second_flat = second_flat; common = common; none = none })
  where
    second_flat : ¬ (run second ≡ pos 0)
    second_flat upright = long (upright, cancel_zero (run first) (rise second) first_flat (level (run first) (rise first) (run second) (rise second) upright parallel))
      where
        level : (u v p q : ℤ) → p ≡ pos 0 → u *ℤ q -ℤ v *ℤ p ≡ pos 0 → u *ℤ q ≡ pos 0
        level u v p q upright none = let flat = ap (λ (z : ℤ). v *ℤ z) upright in omega (arith, zs, *ℤ-zero v)

-- ---- x and y exchanged

-- the shared vertex, alike
abbrev flipped_vertex : Option Position → Option Position
flipped_vertex None = None
flipped_vertex (Some vertex) = Some (flipped vertex)

-- what is common still is, where the shared vertices correspond
is_common_flipped : (shared other : Option Position) (first second : Edge) (point : RationalPoint) → ((vertex : Position) → other ≡ Some vertex → shared ≡ Some (flipped vertex)) → IsCommon shared first second point → IsCommon other (flipped_edge first) (flipped_edge second) (flipped_point point)
is_common_flipped shared other first second point back common =
    record {
      on_first = flip_lies point first common.on_first;
      on_second = flip_lies point second common.on_second;
      apart = λ vertex there at. common.apart (flipped vertex) (back vertex there) (record { x = at.y; y = at.x });
    }

-- a vertex corresponds to its flipped one
vertex_there : (shared : Option Position) (vertex : Position) → shared ≡ Some vertex → flipped_vertex shared ≡ Some (flipped vertex)
vertex_there shared vertex same = ap flipped_vertex same

-- and back
vertex_back : (shared : Option Position) (vertex : Position) → flipped_vertex shared ≡ Some vertex → shared ≡ Some (flipped vertex)
vertex_back None vertex same = absurd (none-some vertex same)
vertex_back (Some it) vertex same = ap flipped_vertex same

-- no end is common
no_end_flipped : (shared : Option Position) (first second : Edge) → NoEndIsCommon shared first second → NoEndIsCommon (flipped_vertex shared) (flipped_edge first) (flipped_edge second)
no_end_flipped shared first second none =
    record {
      first_a = λ common. none.first_a (back (whole first.a) common);
      first_b = λ common. none.first_b (back (whole first.b) common);
      second_a = λ common. none.second_a (back (whole second.a) common);
      second_b = λ common. none.second_b (back (whole second.b) common);
    }
  where
    back : (point : RationalPoint) → IsCommon (flipped_vertex shared) (flipped_edge first) (flipped_edge second) (flipped_point point) → IsCommon shared first second point
    back point common = is_common_flipped (flipped_vertex shared) shared (flipped_edge first) (flipped_edge second) (flipped_point point) (vertex_there shared) common

-- parallel edges are so still
parallel_flipped : (first second : Edge) → cross_product first second ≡ pos 0 → cross_product (flipped_edge first) (flipped_edge second) ≡ pos 0
parallel_flipped first second parallel = turned (run first) (rise first) (run second) (rise second) parallel
  where
    turned : (u v p q : ℤ) → u *ℤ q -ℤ v *ℤ p ≡ pos 0 → v *ℤ p -ℤ u *ℤ q ≡ pos 0
    turned u v p q none = omega (arith, zs)

-- ---- edges of no length

-- a number between two that are the same is that one
between_same_ends : (a b w x : ℤ) → b -ℤ a ≡ pos 0 → IsBetween (a *ℤ w) (b *ℤ w) x → x ≡ a *ℤ w
between_same_ends a b w x none between = let same : a *ℤ w ≡ b *ℤ w = ap (λ (z : ℤ). z *ℤ w) (omega (arith, zs)) in omega (arith, zs, same, between)

-- a point on an edge of no length is its beginning
only_its_beginning : (point : RationalPoint) (edge : Edge) → run edge ≡ pos 0 → rise edge ≡ pos 0 → LiesOn point edge → IsSame point (whole edge.a)
only_its_beginning point edge no_run no_rise lies =
    let x = between_same_ends edge.a.x edge.b.x point.w point.x no_run lies.x_between in
    let y = between_same_ends edge.a.y edge.b.y point.w point.y no_rise lies.y_between in
    same_back (whole edge.a) point (same_point edge.a point x y)

-- ---- all of them

-- Parallel edges with a common point have a common point at one of their ends
pub end_is_common : (shared : Option Position) (first second : Edge) (point : RationalPoint) → cross_product first second ≡ pos 0 → IsCommon shared first second point → ¬ NoEndIsCommon shared first second
end_is_common shared first second point parallel common none = by_length (is_zero (run first)) (is_zero (rise first)) (both_decide (is_zero (run second)) (is_zero (rise second)))
  where
    positive : pos 1 ≤ℤ pos 1
    positive = omega (arith, zs)

    by_length : Dec (run first ≡ pos 0) → Dec (rise first ≡ pos 0) → Dec ((run second ≡ pos 0) × (rise second ≡ pos 0)) → ⊥
    by_length (yes no_run) (yes no_rise) second_length =
        none.first_a (is_common_same shared first second point (whole first.a) (only_its_beginning point first no_run no_rise common.on_first) positive common)
    by_length first_run first_rise (yes none_there) =
        none.second_a (is_common_same shared first second point (whole second.a) (only_its_beginning point second none_there.0 none_there.1 common.on_second) positive common)
    by_length (no flat) first_rise (no long) = no_flat_overlap shared first second point parallel common none flat long
    by_length (yes no_run) (no steep) (no long) =
        no_flat_overlap (flipped_vertex shared) (flipped_edge first) (flipped_edge second) (flipped_point point) (parallel_flipped first second parallel)
        (is_common_flipped shared (flipped_vertex shared) first second point (vertex_back shared) common) (no_end_flipped shared first second none) steep (λ both. long (both.1, both.0))
