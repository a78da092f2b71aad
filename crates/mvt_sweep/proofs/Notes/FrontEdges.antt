-- Where two edges begin in a vertex, the edges of the sweep below it are those that pass below it.
use Rattle.std.proofs.Common.{◌≡◌, ◌≢◌, ◌⊎◌, inl, inr, ℕ, ◌<◌, List, ◌++◌, ℤ, pos, ◌<ℤ◌, ◌≤ℤ◌, sym, ◌∙◌, ap, subst, arith}
use Rattle.mvt_plane.specs.Geometry.Below.{IsNotAbove, IsAboveRising, PassesBelow}
use Rattle.mvt_plane.specs.Geometry.EdgeOrder.{Segment, segment, segment_between}
use Rattle.mvt_plane.specs.Geometry.Inside.{Differ}
use Rattle.mvt_plane.specs.Geometry.Measure.{key_of, orientation}
use Rattle.mvt_plane.specs.Position.{Position}
use Rattle.mvt_plane.proofs.Orders.Order.{zs, le_or_lt}
use Rattle.mvt_plane.proofs.Insides.EdgesBelow.{below_back}
use Rattle.mvt_sweep.specs.Calls.Chain.{Has, Ordered}
use Rattle.mvt_sweep.specs.Calls.VertexOrder.{IsNextVertex}
use Rattle.mvt_sweep.specs.Calls.SweepVertices.{sweep_count, edge_at, next_at, plan_of, position_at, previous_at}
use Rattle.mvt_sweep.specs.Calls.FrontEdges.{AreBelow}
use Rattle.mvt_sweep.specs.Calls.Sweep.{Plan, IsPlan, IsSwept, IsEvent, IsActive, IsUnder, IsCut, IsSlab, BeginThere}
use Rattle.mvt_sweep.specs.declared.sweep.vertices.SweepVertices.{SweepVertices}
use Rattle.mvt_sweep.proofs.Chains.ChainParts.{each_has, each_by_has, has_left, has_either, ordered_parts, ordered_map}
use Rattle.mvt_sweep.proofs.Vertices.VertexPlans.{plan_of_vertices}
use Rattle.mvt_sweep.proofs.Vertices.SegmentEnds.{up, down, between_them}
use Rattle.mvt_sweep.proofs.Sweeps.SweepSlabs.{slab_of_all, swept_differ}

-- an edge goes past the key of the vertex, from its lower end on, and is below the vertex
record IsPassing (vertex : Position) (it : Segment) : Type 0 where
  begun : key_of it.low <ℤ key_of vertex
  lasts : key_of vertex ≤ℤ key_of it.high
  under : pos 0 <ℤ orientation it.low it.high vertex

-- an edge that does passes below the vertex
below_by_passing : (vertex one other : Position) → IsPassing vertex (segment one other) → PassesBelow vertex (record { a = one; b = other })
below_by_passing vertex one other it =
    let begun = it.begun in
    let lasts = it.lasts in
    record {
      parted = inl (begun, λ (ends : key_of other <ℤ key_of vertex). omega (arith, zs));
      above = inl (record { rising = omega (arith, zs); above = it.under });
    }

-- and back, where the second end doesn't come before the first by key
passing_by_below : (vertex one other : Position) → key_of one ≤ℤ key_of other → PassesBelow vertex (record { a = one; b = other }) → IsPassing vertex (segment one other)
passing_by_below vertex one other order below = by_parts below.parted below.above
  where
    by_parts : Differ (key_of one <ℤ key_of vertex) (key_of other <ℤ key_of vertex) → IsAboveRising vertex one other ⊎ IsAboveRising vertex other one
        → IsPassing vertex (segment one other)
    by_parts parted (inr turned) = let falls = turned.rising in absurd (omega (arith, zs))
    by_parts (inr (none, ends)) (inl its) = absurd (none (omega (arith, zs)))
    by_parts (inl (begun, none)) (inl its) = record {
      begun = begun;
      lasts = elim (le_or_lt (key_of vertex) (key_of other)) [ inl lasts ↦ lasts | inr ends ↦ absurd (none ends) ];
      under = its.above;
    }

-- so it is with an edge whose ends are in either order
below_between : (vertex one other : Position) → IsPassing vertex (segment_between one other) → PassesBelow vertex (record { a = one; b = other })
below_between vertex one other it =
    elim (between_them one other) [
      | up rises is ↦ below_by_passing vertex one other (subst (IsPassing vertex) is it)
      | down falls is ↦ below_back vertex other one (below_by_passing vertex other one (subst (IsPassing vertex) is it))
    ]

-- and back
passing_between : (vertex one other : Position) → PassesBelow vertex (record { a = one; b = other }) → IsPassing vertex (segment_between one other)
passing_between vertex one other below =
    elim (between_them one other) [
      | up rises is ↦ subst (IsPassing vertex) (sym is) (passing_by_below vertex one other (omega (arith, zs)) below)
      | down falls is ↦ subst (IsPassing vertex) (sym is) (passing_by_below vertex other one falls (below_back vertex one other below))
    ]

-- an edge that goes on up to the next vertex, and is below it, goes past it
passing_active : (plan : Plan) (key : ℤ) (vertex : Position) (first second edge : ℕ) → IsEvent plan key vertex first second → IsActive plan key edge → IsUnder plan vertex edge
    → IsPassing vertex (plan.segment edge)
passing_active plan key vertex first second edge event active under =
    let later = event.later in
    let begun = active.begun in
    let lasts = active.lasts in
    record {
      begun = omega (arith, zs);
      lasts = elim (event.next_high edge active.known) [ inl ended ↦ absurd (omega (arith, zs)) | inr following ↦ following ];
      under = under;
    }

-- an edge that begins in the vertex doesn't go past it
none_begins : (plan : Plan) (vertex : Position) (edge : ℕ) → (plan.segment edge).low ≡ vertex → ¬ IsPassing vertex (plan.segment edge)
none_begins plan vertex edge begins it =
    let same = ap key_of begins in
    let begun = it.begun in
    omega (arith, zs)

-- where both edges of the vertex begin there, one that goes past it went on before
active_passing : (plan : Plan) (key : ℤ) (vertex : Position) (first second edge : ℕ) → IsEvent plan key vertex first second → BeginThere plan vertex first second → edge < plan.count
    → IsPassing vertex (plan.segment edge) → IsActive plan key edge
active_passing plan key vertex first second edge event begin known it =
    let later = event.later in
    let begun = it.begun in
    let lasts = it.lasts in
    record {
      known = known;
      begun = elim (event.next_low edge known) [ inl before ↦ before | inr following ↦ absurd (omega (arith, zs)) ];
      lasts = elim (event.next_high edge known) [
        | inl ended ↦ absurd ((elim (event.only_high edge known (omega (arith, zs))) [
          | inl same ↦ none_begins plan vertex edge (ap (λ (at : ℕ). (plan.segment at).low) same ∙ begin.first_begins) it
          | inr same ↦ none_begins plan vertex edge (ap (λ (at : ℕ). (plan.segment at).low) same ∙ begin.second_begins) it
        ]))
        | inr following ↦ omega (arith, zs)
      ];
    }

-- so it is in the front
in_front : (plan : Plan) (key : ℤ) (vertex : Position) (first second edge : ℕ) (edges front rest : List ℕ) → IsSwept plan key edges → IsEvent plan key vertex first second
    → BeginThere plan vertex first second → IsCut plan vertex edges front rest → edge < plan.count → IsPassing vertex (plan.segment edge) → Has front edge
in_front plan key vertex first second edge edges front rest swept event begin cut known it =
    let there : Has edges edge = swept.whole edge (active_passing plan key vertex first second edge event begin known it) in
    elim (has_either front rest edge (subst (λ (all : List ℕ). Has all edge) cut.whole there)) [
      | inl here ↦ here
      | inr following ↦ absurd (each_has (λ (edge : ℕ). ¬ IsUnder plan vertex edge) rest edge cut.others following it.under)
    ]

-- an edge of the front is one of the sweep
front_active : (plan : Plan) (key : ℤ) (vertex : Position) (edge : ℕ) (edges front rest : List ℕ) → IsSwept plan key edges → IsCut plan vertex edges front rest → Has front edge
    → IsActive plan key edge
front_active plan key vertex edge edges front rest swept cut here =
    swept.active edge (subst (λ (all : List ℕ). Has all edge) (sym cut.whole) (has_left front rest edge here))

-- what is in order stays so where the rest is left out
front_ordered : (R : ℕ → ℕ → Type 0) (edges front rest : List ℕ) → edges ≡ front ++ rest → Ordered R edges → Ordered R front
front_ordered R edges front rest whole ordered = (ordered_parts R front rest (subst (Ordered R) whole ordered)).0

-- the edges of the front pass below the vertex, and no other edges do
pub front_is_below : (vertices : SweepVertices) (number : ℕ) (edges front rest : List ℕ) → number < sweep_count vertices
    → IsNextVertex vertices number (previous_at vertices number) number edges → BeginThere (plan_of vertices) (position_at vertices number) (previous_at vertices number) number
    → IsCut (plan_of vertices) (position_at vertices number) edges front rest → AreBelow vertices (position_at vertices number) front
front_is_below vertices number edges front rest known next begin cut =
    let plan : Plan = plan_of vertices in
    let vertex : Position = position_at vertices number in
    let is_plan : IsPlan (plan_of vertices) = plan_of_vertices vertices in
    let active : (edge : ℕ) → Has front edge → IsActive (plan_of vertices) next.key edge = λ edge here. front_active (plan_of vertices) next.key (position_at vertices number) edge edges front rest next.swept cut here in
    record {
      known = each_by_has (λ (edge : ℕ). edge < sweep_count vertices) front (λ edge here. (active edge here).known);
      once = front_ordered (λ (one other : ℕ). one ≢ other) edges front rest cut.whole (swept_differ plan next.key edges is_plan next.swept);
      below = each_by_has (λ (edge : ℕ). PassesBelow vertex (edge_at vertices edge)) front (λ edge here.
          below_between vertex (position_at vertices edge) (position_at vertices (next_at vertices edge))
          (passing_active plan next.key vertex (previous_at vertices number) number edge next.event (active edge here) (each_has (IsUnder plan vertex) front edge cut.below here)));
      all = λ edge within passes.
          in_front plan next.key vertex (previous_at vertices number) number edge edges front rest next.swept next.event begin cut within
          (passing_between vertex (position_at vertices edge) (position_at vertices (next_at vertices edge)) passes);
      rising = ordered_map (IsSlab plan next.key vertex) (λ (one other : ℕ). IsNotAbove vertex (edge_at vertices one) (edge_at vertices other)) front
          (λ one other here there slab. slab.below.at_right)
          (front_ordered (IsSlab plan next.key vertex) edges front rest cut.whole
          (slab_of_all plan next.key vertex (previous_at vertices number) number edges is_plan next.swept next.event));
    }
