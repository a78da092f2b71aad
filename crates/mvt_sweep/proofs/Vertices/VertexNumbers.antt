-- Vertices of rings by their numbers: which vertex of which ring has a number.
use Rattle.std.proofs.Common.{◌≡◌, ◌≢◌, ◌+◌, ◌-◌, ◌<◌, ◌≤◌, ltb, cond, ℕ, zero, suc, inl, inr, List, [], ◌∷◌, ◌++◌, length, map, sum, take, slice_get, Some, sym, ◌∙◌, ap, ap₂, subst, arith}
use Rattle.std.proofs.lemmas.Bool.{cases_lt, cases_order}
use Rattle.std.proofs.lemmas.Bool.Decides.{nat_tests}
use Rattle.std.proofs.lemmas.List.{length-append, length-take, take_all, take-map, take-take}
use Rattle.std.proofs.lemmas.List.Sums.{sum_by-append, sum_by-take-le}
use Rattle.std.proofs.lemmas.Option.{same_Some, slice_get_within, slice_get-get_or, none-some}
use Rattle.mvt_rules.specs.Meeting.{ComesBefore}
use Rattle.mvt_fault.specs.declared.ring.RingEdge.{RingEdge}
use Rattle.mvt_plane.specs.Position.{Position}
use Rattle.mvt_plane.specs.Geometry.Ring.{next_round}
use Rattle.mvt_sweep.specs.Calls.SweepVertices.{IsListOf, IsSweepVertexOf, IsNumbered, far_end_of}
use Rattle.mvt_sweep.specs.Work.{vertex_count}
use Rattle.mvt_sweep.specs.Calls.Links.{sweep_vertex_in, next_in, no_sweep_vertex, position_in, previous_in}
use Rattle.mvt_sweep.specs.Rings.{AreProperRings}
use Rattle.mvt_sweep.specs.TurnVertices.{previous_round}
use Rattle.mvt_sweep.specs.declared.sweep.vertex.SweepVertex.{SweepVertex}
use Rattle.mvt_sweep.proofs.Chains.ChainParts.{in_longer, take_there}

-- Going round

-- the number after one is one
pub next_within : (count number : ℕ) → number < count → next_round count number < count
next_within count number within = grind (arith, nat_tests)

-- so is the number before it
pub previous_within : (count number : ℕ) → number < count → previous_round count number < count
previous_within count number within = grind (arith, nat_tests)

-- before the next number is this one
pub next_previous : (count number : ℕ) → number < count → previous_round count (next_round count number) ≡ number
next_previous count number within = grind (arith, nat_tests)

-- and after the previous one
pub previous_next : (count number : ℕ) → number < count → next_round count (previous_round count number) ≡ number
previous_next count number within = grind (arith, nat_tests)

-- of three numbers or more, the next one but one is another
pub next_but_one : (count number : ℕ) → 3 ≤ count → number < count → next_round count (next_round count number) ≢ number
next_but_one count number several within same = grind (arith, nat_tests)

-- the next one is found by the far end, after so many vertices of other rings
next_by_far_end : (count before number : ℕ) → 3 ≤ count → number < count
    → cond (ltb (before + far_end_of count number) (before + number)) (before + far_end_of count number) (before + number + 1) ≡ before + next_round count number
next_by_far_end count before number several within = grind (arith, nat_tests)

-- and so is the previous one
previous_by_far_end : (count before number : ℕ) → 3 ≤ count → number < count
    → cond (ltb (before + number) (before + far_end_of count number)) (before + far_end_of count number) (before + number - 1) ≡ before + previous_round count number
previous_by_far_end count before number several within = grind (arith, nat_tests)

-- How many vertices the first rings have

-- those of one ring before others
pub count_cons : (first : List Position) (rest : List (List Position)) → vertex_count (first ∷ rest) ≡ length first + vertex_count rest
count_cons first rest =
    let split : vertex_count (first ∷ rest) ≡ sum (length first ∷ []) + vertex_count rest = sum_by-append (λ (n : ℕ). n) (length first ∷ []) (map length rest) in
    let one : sum (length first ∷ []) ≡ length first = omega arith in
    omega arith

-- the same of the first rings
pub count_take : (first : List Position) (rest : List (List Position)) (number : ℕ) → vertex_count (take (suc number) (first ∷ rest)) ≡ length first + vertex_count (take number rest)
count_take first rest number = count_cons first (take number rest)

-- one ring more
pub count_step : (rings : List (List Position)) (number : ℕ) (ring : List Position) → slice_get rings number ≡ Some ring
    → vertex_count (take (suc number) rings) ≡ vertex_count (take number rings) + length ring
count_step [] number ring there = absurd (none-some ring there)
count_step (first ∷ rest) zero ring there = omega (arith, ap length (same_Some first ring there), count_take first rest 0)
count_step (first ∷ rest) (suc number) ring there = omega (arith, count_step rest number ring there, count_take first rest number, count_take first rest (suc number))

-- the same, as the code counts rings
pub count_another : (rings : List (List Position)) (number : ℕ) (ring : List Position) → slice_get rings number ≡ Some ring
    → vertex_count (take (number + 1) rings) ≡ vertex_count (take number rings) + length ring
count_another rings number ring there =
    let next : number + 1 ≡ suc number = omega arith in
    ap (λ (n : ℕ). vertex_count (take n rings)) next ∙ count_step rings number ring there

-- all rings have no fewer than the first ones
pub count_all : (rings : List (List Position)) (number : ℕ) → vertex_count (take number rings) ≤ vertex_count rings
count_all rings number =
    subst (λ (counts : List ℕ). sum counts ≤ vertex_count rings) (take-map (λ (ring : List Position). length ring) number rings) (sum_by-take-le (λ (n : ℕ). n) (map length rings) number)

-- nor have more of them
pub count_up : (rings : List (List Position)) (number other : ℕ) → number ≤ other → vertex_count (take number rings) ≤ vertex_count (take other rings)
count_up rings number other up = subst (λ (first : List (List Position)). vertex_count first ≤ vertex_count (take other rings)) (take-take number other rings up) (count_all (take other rings) number)

-- those of all rings are those of the first so many
pub count_whole : (rings : List (List Position)) (number : ℕ) → length rings ≤ number → vertex_count (take number rings) ≡ vertex_count rings
count_whole rings number whole = ap (λ (first : List (List Position)). vertex_count first) (take_all number rings whole)

-- those of the only ring are all
pub count_only : (rings : List (List Position)) (ring : List Position) → length rings ≡ 1 → slice_get rings 0 ≡ Some ring → vertex_count rings ≡ length ring
count_only [] ring one there = absurd (none-some ring there)
count_only (first ∷ []) ring one there = omega (arith, ap length (same_Some first ring there))
count_only (first ∷ (second ∷ rest)) ring one there = absurd (omega (arith, one))

-- the vertices of a ring come before those of a later one
pub count_after : (rings : List (List Position)) (number other : ℕ) (ring : List Position) → slice_get rings number ≡ Some ring → number < other
    → vertex_count (take number rings) + length ring ≤ vertex_count (take other rings)
count_after rings number other ring there before =
    let up : suc number ≤ other = omega arith in
    omega (arith, count_step rings number ring there, count_up rings (suc number) other up)

-- and are among all of them
pub count_within : (rings : List (List Position)) (number : ℕ) (ring : List Position) → slice_get rings number ≡ Some ring
    → vertex_count (take number rings) + length ring ≤ vertex_count rings
count_within rings number ring there = omega (arith, count_step rings number ring there, count_all rings (suc number))

-- The vertex of a number

-- vertices come in the order of their rings, and in a ring in their own
pub in_order : (rings : List (List Position)) (first second : ℕ) (one other : RingEdge) → IsNumbered rings first one → IsNumbered rings second other → first < second
    → ComesBefore one other
in_order rings first second one other is its less =
    elim (cases_order one.ring other.ring) [
      | inl same ↦ let counts = ap (λ (number : ℕ). vertex_count (take number rings)) same in inr (same, omega (arith, counts, is.numbered, its.numbered))
      | inr (inl before) ↦ inl before
      | inr (inr following) ↦ absurd (omega (arith, is.numbered, its.numbered, its.within, count_after rings other.ring one.ring its.ring its.there following))
    ]

-- one number is that of one vertex
pub one_place : (rings : List (List Position)) (number : ℕ) (one other : RingEdge) → IsNumbered rings number one → IsNumbered rings number other → one ≡ other
one_place rings number one other is its =
    elim (cases_order one.ring other.ring) [
      | inl alike ↦
          let counts = ap (λ (number : ℕ). vertex_count (take number rings)) alike in
          let edges : one.edge ≡ other.edge = omega (arith, counts, is.numbered, its.numbered) in
          ap₂ (λ (r e : ℕ). record { ring = r; edge = e }) alike edges
      | inr (inl before) ↦ absurd (omega (arith, is.numbered, its.numbered, is.within, count_after rings one.ring other.ring is.ring is.there before))
      | inr (inr following) ↦ absurd (omega (arith, is.numbered, its.numbered, its.within, count_after rings other.ring one.ring its.ring its.there following))
    ]

-- the vertices that are there are those of rings
pub sweep_vertex_there : (rings : List (List Position)) (vertices : List SweepVertex) (number : ℕ) → IsListOf rings vertices → number < length vertices → IsSweepVertexOf rings number (sweep_vertex_in vertices number)
sweep_vertex_there rings vertices number are within = are.each number (sweep_vertex_in vertices number) (slice_get-get_or vertices number no_sweep_vertex within)

-- each vertex is there
pub numbered_within : (rings : List (List Position)) (vertices : List SweepVertex) (number : ℕ) (place : RingEdge) → IsListOf rings vertices → IsNumbered rings number place
    → number < length vertices
numbered_within rings vertices number place are is = omega (arith, are.count, is.numbered, is.within, count_within rings place.ring is.ring is.there)

-- what the sweep has by this number is that vertex of the ring, and knows those after and before it
pub record IsVertex (rings : List (List Position)) (vertices : List SweepVertex) (number : ℕ) (place : RingEdge) (ring : List Position) : Type 0 where
  pub here : slice_get ring place.edge ≡ Some (position_in vertices number)
  pub far_end : (sweep_vertex_in vertices number).far_end ≡ vertex_count (take place.ring rings) + far_end_of (length ring) place.edge
  pub next : next_in vertices number ≡ vertex_count (take place.ring rings) + next_round (length ring) place.edge
  pub previous : previous_in vertices number ≡ vertex_count (take place.ring rings) + previous_round (length ring) place.edge

-- so do those of proper rings
pub vertex_at : (rings : List (List Position)) (vertices : List SweepVertex) (number : ℕ) (place : RingEdge) → AreProperRings rings → IsListOf rings vertices
    → (is : IsNumbered rings number place)
    → IsVertex rings vertices number place is.ring
vertex_at rings vertices number place proper are is =
    let its = sweep_vertex_there rings vertices number are (numbered_within rings vertices number place are is) in
    let alike : its.place ≡ place = one_place rings number its.place place its.is is in
    let same : its.is.ring ≡ is.ring = same_Some its.is.ring is.ring (sym its.is.there ∙ ap (λ (p : RingEdge). slice_get rings p.ring) alike ∙ is.there) in
    let before = vertex_count (take place.ring rings) in
    let several = proper.several place.ring is.ring is.there in
    let far : (sweep_vertex_in vertices number).far_end ≡ before + far_end_of (length is.ring) place.edge =
    its.far_end ∙ ap₂ (λ (p : RingEdge) (r : List Position). vertex_count (take p.ring rings) + far_end_of (length r) p.edge) alike same in
    record {
      here = ap₂ (λ (r : List Position) (p : RingEdge). slice_get r p.edge) (sym same) (sym alike) ∙ its.here;
      far_end = far;
      next = ap₂ (λ (f n : ℕ). cond (ltb f n) f (n + 1)) far is.numbered ∙ next_by_far_end (length is.ring) before place.edge several is.within;
      previous = ap₂ (λ (f n : ℕ). cond (ltb n f) f (n - 1)) far is.numbered ∙ previous_by_far_end (length is.ring) before place.edge several is.within;
    }

-- The vertices so far

-- so many vertices are there, from the first one on
pub record AreFirst (rings : List (List Position)) (many : ℕ) (vertices : List SweepVertex) : Type 0 where
  pub count : length vertices ≡ many
  pub each : (number : ℕ) (it : SweepVertex) → slice_get vertices number ≡ Some it → IsSweepVertexOf rings number it

-- a vertex of a ring, as the code makes it
pub sweep_vertex_of_ring : (rings : List (List Position)) (number : ℕ) (ring : List Position) (edge before far_end : ℕ) (it : SweepVertex) → slice_get rings number ≡ Some ring
    → edge < length ring → slice_get ring edge ≡ Some it.position → before ≡ vertex_count (take number rings) → far_end ≡ far_end_of (length ring) edge → it.far_end ≡ before + far_end
    → IsSweepVertexOf rings (before + edge) it
sweep_vertex_of_ring rings number ring edge before far_end it there within here count is_far_end is = record {
  place = record { ring = number; edge = edge };
  is = record { ring = ring; there = there; within = within; numbered = ap (λ (n : ℕ). n + edge) count };
  here = here;
  far_end = is ∙ ap₂ (λ (a b : ℕ). a + b) count is_far_end;
}

-- one more is added
pub first_more : (rings : List (List Position)) (many next : ℕ) (vertices items : List SweepVertex) (last : SweepVertex) → items ≡ vertices ++ last ∷ [] → AreFirst rings many vertices
    → IsSweepVertexOf rings many last → next ≡ many + 1 → AreFirst rings next items
first_more rings many next vertices items last pushed are is one_more = record {
  count = omega (arith, ap length pushed, are.count, length-append vertices (last ∷ []));
  each = λ number it there. elim (in_longer vertices last number it (ap (λ (list : List SweepVertex). slice_get list number) (sym pushed) ∙ there)) [
    | inl before ↦ are.each number it before
    | inr same ↦ subst (λ (n : ℕ). IsSweepVertexOf rings n it) (sym (same.0 ∙ are.count)) (subst (IsSweepVertexOf rings many) same.1 is)
  ];
}

-- a vertex of rings is one of others in which the rings before it and its own are the same
vertex_moved : (rings others : List (List Position)) (number : ℕ) (it : SweepVertex) (is : IsSweepVertexOf rings number it) → slice_get others is.place.ring ≡ slice_get rings is.place.ring
    → take is.place.ring others ≡ take is.place.ring rings → IsSweepVertexOf others number it
vertex_moved rings others number it is there before =
    let counts : vertex_count (take is.place.ring rings) ≡ vertex_count (take is.place.ring others) = ap (λ (first : List (List Position)). vertex_count first) (sym before) in
    record {
      place = is.place;
      is = record { ring = is.is.ring; there = there ∙ is.is.there; within = is.is.within; numbered = is.is.numbered ∙ ap (λ (n : ℕ). n + is.place.edge) counts };
      here = is.here;
      far_end = is.far_end ∙ ap (λ (n : ℕ). n + far_end_of (length is.is.ring) is.place.edge) counts;
    }

-- vertices of the first rings are vertices of the rings
pub first_of_whole : (rings : List (List Position)) (many : ℕ) (vertices : List SweepVertex) → IsListOf (take many rings) vertices → AreFirst rings (vertex_count (take many rings)) vertices
first_of_whole rings many vertices are = record {
  count = are.count;
  each = λ number it there.
      let is = are.each number it there in
      let within : is.place.ring < many = omega (arith, slice_get_within (take many rings) is.place.ring is.is.ring is.is.there, length-take many rings) in
      vertex_moved (take many rings) rings number it is (sym (take_there rings many is.place.ring within)) (sym (take-take is.place.ring many rings (omega arith)));
}

-- the same back
pub whole_of_first : (rings : List (List Position)) (many : ℕ) (vertices : List SweepVertex) → AreFirst rings (vertex_count (take many rings)) vertices → IsListOf (take many rings) vertices
whole_of_first rings many vertices are = record {
  count = are.count;
  each = λ number it there.
      let is = are.each number it there in
      let within : is.place.ring < many = elim (cases_lt is.place.ring many) [
        | inl less ↦ less
        | inr more ↦ absurd (omega (arith, are.count, slice_get_within vertices number it there, is.is.numbered, count_up rings many is.place.ring more))
      ] in
      vertex_moved rings (take many rings) number it is (take_there rings many is.place.ring within) (take-take is.place.ring many rings (omega arith));
}
