-- The sweep over vertices with notes, from one vertex to the next.
use Rattle.std.proofs.Common.{◌≡◌, ◌≤◌, ◌+◌, inl, inr, ℕ, List, [], length, slice_get, Option, Some, ℤ, sym, ap, subst, ◌∙◌, arith}
use Rattle.std.proofs.lemmas.Bool.{cases_order}
use Rattle.std.proofs.lemmas.Int.{ints}
use Rattle.std.proofs.lemmas.Option.{same_Some, slice_get_within}
use Rattle.mvt_plane.specs.Geometry.Measure.{key_of}
use Rattle.mvt_sweep.specs.Calls.VertexOrder.{IsOrder, IsStrict, IsSweptOver, IsSweptTo}
use Rattle.mvt_sweep.specs.Calls.SweepVertices.{position_at}
use Rattle.mvt_sweep.specs.Calls.Steps.{AtFirst, AtLast, HasBegun, IsAhead, IsPassed}
use Rattle.mvt_sweep.specs.declared.sweep.vertices.SweepVertices.{SweepVertices}
use Rattle.mvt_sweep.proofs.Sweeps.VertexSweeps.{swept_to_first, next_sweep_vertex, next_key, swept_to_next}
use Rattle.mvt_status.specs.declared.status.Split.{Split}

-- the line went over the vertices before this place of the order, and this holds where it is
pub record IsSweptNoting (vertices : SweepVertices) (order : List ℕ) (at : ℕ) (edges : List ℕ) (Holds : ℤ → Type 0) : Type 0 where
  pub swept : IsSweptTo vertices order at edges
  pub noted : Holds swept.key

-- before the first vertex
pub noting_first : (vertices : SweepVertices) (order : List ℕ) (edges : List ℕ) (Holds : ℤ → Type 0) → IsOrder vertices order → edges ≡ []
    → AtFirst vertices Holds → IsSweptNoting vertices order 0 edges Holds
noting_first vertices order edges Holds in_order empty first =
    let swept : IsSweptTo vertices order 0 edges = swept_to_first vertices order edges in_order empty in
    record {
      swept = swept;
      noted = first swept.key (λ number within.
          let place = in_order.numbering.all number within in
          swept.ahead place.0 number (omega arith) place.1);
    }

-- no vertex's key is between the line and the next vertex
next_ahead : (vertices : SweepVertices) (order : List ℕ) (at number : ℕ) (edges : List ℕ) → IsOrder vertices order → IsStrict vertices order
    → (swept : IsSweptTo vertices order at edges) → slice_get order at ≡ Some number → IsAhead vertices swept.key number
next_ahead vertices order at number edges in_order strict swept there other inside up =
    let place : (at : ℕ) × (slice_get order at ≡ Some other) = in_order.numbering.all other inside in
    elim (cases_order place.0 at) [
      | inl same ↦ inr (same_Some other number (sym place.1 ∙ ap (slice_get order) same ∙ there))
      | inr (inl before) ↦ inl (swept.passed place.0 other before place.1)
      | inr (inr following) ↦ let less = strict at place.0 number other following there place.1 in absurd (omega (arith, ints, less, up))
    ]

-- over the next vertex
pub passed_next : (vertices : SweepVertices) (order : List ℕ) (at number : ℕ) (edges : List ℕ) (begun : Option Split)
    → IsOrder vertices order → IsStrict vertices order → (swept : IsSweptTo vertices order at edges) → slice_get order at ≡ Some number → HasBegun vertices number edges begun
    → IsPassed vertices swept.key number begun edges
passed_next vertices order at number edges begun in_order strict swept there has_begun = record {
  known = in_order.numbering.known at number there;
  swept = swept.swept;
  next = next_sweep_vertex vertices order at number edges in_order strict swept there;
  ahead = next_ahead vertices order at number edges in_order strict swept there;
  has_begun = has_begun;
}

-- after it
pub noting_next : (vertices : SweepVertices) (order : List ℕ) (at number : ℕ) (edges : List ℕ) (Holds : ℤ → Type 0) → IsOrder vertices order → IsStrict vertices order
    → slice_get order at ≡ Some number → IsSweptOver vertices number edges → Holds (key_of (position_at vertices number)) → IsSweptNoting vertices order (at + 1) edges Holds
noting_next vertices order at number edges Holds in_order strict there over holds = record {
  swept = swept_to_next vertices order at number edges in_order strict there over;
  noted = subst Holds (sym (next_key vertices order at number edges in_order strict there over)) holds;
}

-- after the last vertex
pub noting_last : (vertices : SweepVertices) (order : List ℕ) (at : ℕ) (edges : List ℕ) (Holds : ℤ → Type 0) → IsOrder vertices order → (swept : IsSweptTo vertices order at edges)
    → length order ≤ at → Holds swept.key → AtLast vertices Holds
noting_last vertices order at edges Holds in_order swept last holds = (
  swept.key,
  λ number within.
      let place = in_order.numbering.all number within in
      let early = slice_get_within order place.0 number place.1 in
      swept.passed place.0 number (omega (arith, early, last)) place.1,
  holds,
)
