-- The sweep over vertices in their order, from one to the next.
use Rattle.std.proofs.Common.{◌≡◌, ◌≢◌, ◌+◌, ◌<◌, ◌≤◌, ◌⊎◌, inl, inr, ℕ, List, [], length, slice_get, Some, ℤ, pos, ◌^◌, ◌-ℤ◌, ◌<ℤ◌, ◌≤ℤ◌, refl, sym, ◌∙◌, ap, subst, arith}
use Rattle.std.proofs.lemmas.Bool.{cases_order}
use Rattle.std.proofs.lemmas.Int.{ints}
use Rattle.std.proofs.lemmas.Option.{same_Some, slice_get_within}
use Rattle.mvt_plane.specs.Calls.EdgeOrder.{IsEndOf}
use Rattle.mvt_plane.specs.Geometry.Measure.{key_of}
use Rattle.mvt_plane.specs.Position.{Position}
use Rattle.mvt_plane.proofs.Orders.Order.{zs}
use Rattle.mvt_sweep.specs.Calls.VertexOrder.{IsOrder, IsStrict, IsSweptTo, IsNextVertex, IsSweptOver}
use Rattle.mvt_sweep.specs.Calls.SweepVertices.{NoneWrong, sweep_vertex_at, sweep_count, next_at, plan_of, position_at, previous_at}
use Rattle.mvt_sweep.specs.Calls.Sweep.{IsSwept}
use Rattle.mvt_sweep.specs.declared.sweep.vertices.SweepVertices.{SweepVertices}
use Rattle.mvt_sweep.proofs.Vertices.VertexOrders.{nat_le_or_lt}
use Rattle.mvt_sweep.proofs.Vertices.VertexPlans.{plan_of_vertices, when_ahead}
use Rattle.mvt_sweep.proofs.Vertices.SegmentEnds.{end_first, end_second, low_is, high_is}
use Rattle.mvt_sweep.proofs.Sweeps.SweepSteps.{start, finish}

-- The ends of edges are vertices

-- an end of an edge is the vertex that it begins in, as its ring goes, or the next one
record IsSweepVertex (vertices : SweepVertices) (edge : ℕ) (end : Position) : Type 0 where
  vertex : ℕ
  known : vertex < sweep_count vertices
  here : position_at vertices vertex ≡ end
  which : (vertex ≡ edge) ⊎ (vertex ≡ next_at vertices edge)

-- so is an end that is the one position or the other
end_vertex : (vertices : SweepVertices) (edge : ℕ) (end : Position) → edge < sweep_count vertices
    → (end ≡ position_at vertices edge) ⊎ (end ≡ position_at vertices (next_at vertices edge)) → IsSweepVertex vertices edge end
end_vertex vertices edge end within (inl own) = record { vertex = edge; known = within; here = sym own; which = inl refl }
end_vertex vertices edge end within (inr next) =
    record { vertex = next_at vertices edge; known = vertices.linked.next_known edge within; here = sym next; which = inr refl }

-- the lower end
low_vertex : (vertices : SweepVertices) (edge : ℕ) → edge < sweep_count vertices → IsSweepVertex vertices edge ((plan_of vertices).segment edge).low
low_vertex vertices edge within =
    end_vertex vertices edge ((plan_of vertices).segment edge).low within (low_is (position_at vertices edge) (position_at vertices (next_at vertices edge)))

-- the upper end
high_vertex : (vertices : SweepVertices) (edge : ℕ) → edge < sweep_count vertices → IsSweepVertex vertices edge ((plan_of vertices).segment edge).high
high_vertex vertices edge within =
    end_vertex vertices edge ((plan_of vertices).segment edge).high within (high_is (position_at vertices edge) (position_at vertices (next_at vertices edge)))

-- Vertices by their keys

-- a key before all keys
abbrev before_all : ℤ
before_all = pos 0 -ℤ pos (2 ^ 63)

-- it is before that of any vertex
is_before_all : (vertices : SweepVertices) (number : ℕ) → before_all <ℤ key_of (position_at vertices number)
is_before_all vertices number = let is = (sweep_vertex_at vertices number).in_range in omega (arith, ints, is.x, is.y)

-- where no two have one key, a key is that of one vertex
one_sweep_vertex : (vertices : SweepVertices) (order : List ℕ) (number other : ℕ) → IsOrder vertices order → IsStrict vertices order → number < sweep_count vertices → other < sweep_count vertices
    → key_of (position_at vertices number) ≡ key_of (position_at vertices other) → number ≡ other
one_sweep_vertex vertices order number other in_order strict within inside same =
    let here : (at : ℕ) × (slice_get order at ≡ Some number) = in_order.numbering.all number within in
    let there : (at : ℕ) × (slice_get order at ≡ Some other) = in_order.numbering.all other inside in
    elim (cases_order here.0 there.0) [
      | inl alike ↦ same_Some number other (sym here.1 ∙ ap (slice_get order) alike ∙ there.1)
      | inr (inl before) ↦ let less = strict here.0 there.0 number other before here.1 there.1 in absurd (omega (arith, zs))
      | inr (inr following) ↦ let less = strict there.0 here.0 other number following there.1 here.1 in absurd (omega (arith, zs))
    ]

-- an edge with an end at the key of a vertex is one of the vertex's two
its_edge : (vertices : SweepVertices) (order : List ℕ) (number edge : ℕ) (end : Position) → IsOrder vertices order → IsStrict vertices order → number < sweep_count vertices
    → edge < sweep_count vertices → IsSweepVertex vertices edge end → key_of end ≡ key_of (position_at vertices number) → (edge ≡ previous_at vertices number) ⊎ (edge ≡ number)
its_edge vertices order number edge end in_order strict within inside is same =
    let alike : is.vertex ≡ number = one_sweep_vertex vertices order is.vertex number in_order strict is.known within (ap key_of is.here ∙ same) in
    elim is.which [
      | inl own ↦ inr (sym own ∙ alike)
      | inr next ↦ inl (sym (vertices.linked.there_and_back edge inside) ∙ ap (previous_at vertices) (sym next ∙ alike))
    ]

-- no end is strictly between where the line is and the next vertex
none_between : (vertices : SweepVertices) (order : List ℕ) (at number edge : ℕ) (end : Position) (edges : List ℕ) → IsOrder vertices order
    → (swept : IsSweptTo vertices order at edges) → slice_get order at ≡ Some number → IsSweepVertex vertices edge end
    → (key_of end ≤ℤ swept.key) ⊎ (key_of (position_at vertices number) ≤ℤ key_of end)
none_between vertices order at number edge end edges in_order swept there is =
    let place : (at : ℕ) × (slice_get order at ≡ Some is.vertex) = in_order.numbering.all is.vertex is.known in
    elim (nat_le_or_lt at place.0) [
      | inl ahead ↦
          inr (subst (λ (p : Position). key_of (position_at vertices number) ≤ℤ key_of p) is.here (in_order.sorted at place.0 number is.vertex ahead there place.1))
      | inr before ↦ inl (subst (λ (p : Position). key_of p ≤ℤ swept.key) is.here (swept.passed place.0 is.vertex before place.1))
    ]

-- From vertex to vertex

-- before the first vertex the line meets no edge
pub swept_to_first : (vertices : SweepVertices) (order : List ℕ) (edges : List ℕ) → IsOrder vertices order → edges ≡ []
    → IsSweptTo vertices order 0 edges
swept_to_first vertices order edges in_order empty = record {
  key = before_all;
  swept = subst (IsSwept (plan_of vertices) before_all) (sym empty)
      (start (plan_of vertices) before_all (plan_of_vertices vertices)
      (λ edge within.
      let end = low_vertex vertices edge within in
      subst (λ (p : Position). before_all <ℤ key_of p) end.here (is_before_all vertices end.vertex)));
  passed = λ place number before there. absurd (omega arith);
  ahead = λ place number following there. is_before_all vertices number;
}

-- a vertex isn't the one before it
not_previous : (vertices : SweepVertices) (number : ℕ) → number < sweep_count vertices → previous_at vertices number ≢ number
not_previous vertices number within same =
    let round : next_at vertices number ≡ number = ap (next_at vertices) (sym same) ∙ vertices.linked.back_and_there number within in
    vertices.linked.longer number within (ap (next_at vertices) round ∙ round)

-- the vertex at the next place is the next one that the line comes to
pub next_sweep_vertex : (vertices : SweepVertices) (order : List ℕ) (at number : ℕ) (edges : List ℕ) → IsOrder vertices order → IsStrict vertices order
    → IsSweptTo vertices order at edges → slice_get order at ≡ Some number → IsNextVertex vertices number (previous_at vertices number) number edges
next_sweep_vertex vertices order at number edges in_order strict swept there =
    let within = in_order.numbering.known at number there in
    let previous = previous_at vertices number in
    record {
      key = swept.key;
      swept = swept.swept;
      event = record {
        later = swept.ahead at number (omega arith) there;
        first_known = vertices.linked.previous_known number within;
        second_known = within;
        differ = not_previous vertices number within;
        at_first = subst (λ (p : Position). IsEndOf p ((plan_of vertices).segment previous)) (ap (position_at vertices) (vertices.linked.back_and_there number within))
            (end_second (position_at vertices previous) (position_at vertices (next_at vertices previous)));
        at_second = end_first (position_at vertices number) (position_at vertices (next_at vertices number));
        meet = when_ahead vertices previous number (vertices.linked.back_and_there number within);
        only_low = λ edge known same.
            its_edge vertices order number edge ((plan_of vertices).segment edge).low in_order strict within known (low_vertex vertices edge known) same;
        only_high = λ edge known same.
            its_edge vertices order number edge ((plan_of vertices).segment edge).high in_order strict within known (high_vertex vertices edge known) same;
        next_low = λ edge known.
            none_between vertices order at number edge ((plan_of vertices).segment edge).low edges in_order swept there (low_vertex vertices edge known);
        next_high = λ edge known.
            none_between vertices order at number edge ((plan_of vertices).segment edge).high edges in_order swept there (high_vertex vertices edge known);
      };
    }

-- when the line went over it, the place is passed
pub swept_to_next : (vertices : SweepVertices) (order : List ℕ) (at number : ℕ) (edges : List ℕ) → IsOrder vertices order → IsStrict vertices order
    → slice_get order at ≡ Some number → IsSweptOver vertices number edges → IsSweptTo vertices order (at + 1) edges
swept_to_next vertices order at number edges in_order strict there over = record {
  key = key_of (position_at vertices number);
  swept = over;
  passed = λ place other before here. in_order.sorted place at other number (omega arith) here there;
  ahead = λ place other following here. strict at place number other (omega arith) there here;
}

-- the line is at its key then
pub next_key : (vertices : SweepVertices) (order : List ℕ) (at number : ℕ) (edges : List ℕ) (in_order : IsOrder vertices order) (strict : IsStrict vertices order)
    (there : slice_get order at ≡ Some number) (over : IsSweptOver vertices number edges)
    → (swept_to_next vertices order at number edges in_order strict there over).key ≡ key_of (position_at vertices number)
unfolding swept_to_next
next_key vertices order at number edges in_order strict there over = refl

-- after the last vertex no two edges meet wrongly
pub swept_to_last : (vertices : SweepVertices) (order : List ℕ) (at : ℕ) (edges : List ℕ) → IsOrder vertices order
    → IsSweptTo vertices order at edges → length order ≤ at → NoneWrong vertices
swept_to_last vertices order at edges in_order swept last =
    finish (plan_of vertices) swept.key edges (plan_of_vertices vertices) swept.swept
    (λ edge within.
    let end = high_vertex vertices edge within in
    let place = in_order.numbering.all end.vertex end.known in
    let inside = slice_get_within order place.0 end.vertex place.1 in
    subst (λ (p : Position). key_of p ≤ℤ swept.key) end.here (swept.passed place.0 end.vertex (omega arith) place.1))
