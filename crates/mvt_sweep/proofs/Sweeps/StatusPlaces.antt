-- The places of a status before and after an edit, and what is next to them.
use Rattle.std.proofs.Common.{◌≡◌, ◌≢◌, ℕ, zero, suc, ◌<◌, ◌≤◌, ◌⊎◌, inl, inr, IfSome, List, [], ◌∷◌, ◌++◌, Option, Some, None, drop, insert, slice_get, length, remove, take, ℤ, ◌<ℤ◌, ◌≤ℤ◌, sym, ap, subst, ◌∙◌, arith}
use Rattle.std.proofs.lemmas.Int.{ints}
use Rattle.std.proofs.Math.Seq.{drop-append_seam, drop-cons, take-append_seam}
use Rattle.std.proofs.lemmas.List.{length-append, length-take-le, length-drop}
use Rattle.std.proofs.lemmas.Option.{slice_get-get_or}
use Rattle.mvt_plane.specs.Geometry.Measure.{key_of}
use Rattle.mvt_plane.specs.Position.{Position}
use Rattle.mvt_sweep.specs.Calls.Chain.{Has, EachOne, Head, Joined}
use Rattle.mvt_status.specs.Split.{before}
use Rattle.mvt_sweep.specs.Calls.Sweep.{Plan, IsPlan, Tested, IsSwept, IsEvent, BothBegin, BothEnd, IsCut}
use Rattle.mvt_sweep.proofs.Chains.ChainParts.{each_by_has, take_drop, joined_last}
use Rattle.mvt_sweep.proofs.Sweeps.SweepSteps.{begin_step, end_found, end_step}
use Rattle.mvt_sweep.proofs.Sweeps.SweepSlabs.{event_back}

-- Beside a place

-- the first from a place on, if there is one
head_after : (R : ℕ → ℕ → Type 0) (edges : List ℕ) (at it : ℕ) (following : Option ℕ) → following ≡ slice_get edges at → IfSome following (R it) → Head R it (drop at edges)
head_after R edges at it following is holds = there edges at (subst (λ (found : Option ℕ). IfSome found (R it)) is holds)
  where
    there : (edges : List ℕ) (at : ℕ) → IfSome (slice_get edges at) (R it) → Head R it (drop at edges)
    there [] zero holds = tt
    there [] (suc at) holds = tt
    there (first ∷ rest) zero holds = holds
    there (first ∷ rest) (suc at) holds = there rest at holds

-- and of the last before the place
pub joined_before_place : (R : ℕ → ℕ → Type 0) (edges back : List ℕ) (at : ℕ) (front : Option ℕ) → at ≤ length edges → front ≡ before edges at
    → IfSome front (λ below. Head R below back) → Joined R (take at edges) back
joined_before_place R edges back at front within is holds = there at within (subst (λ (found : Option ℕ). IfSome found (λ below. Head R below back)) is holds)
  where
    there : (at : ℕ) → at ≤ length edges → IfSome (before edges at) (λ below. Head R below back) → Joined R (take at edges) back
    there zero within holds = tt
    there (suc at) within holds =
        joined_last R edges back at (omega arith) (subst (λ (found : Option ℕ). IfSome found (λ below. Head R below back)) (slice_get-get_or edges at 0 (omega arith)) holds)

-- what is true of each edge is so of the one after a place
pub each_after : (P : ℕ → Type 0) (edges : List ℕ) (at : ℕ) (following : Option ℕ) → EachOne P edges → following ≡ slice_get edges at → IfSome following P
each_after P edges at following all is = subst (λ (found : Option ℕ). IfSome found P) (sym is) (there edges at all)
  where
    there : (edges : List ℕ) (at : ℕ) → EachOne P edges → IfSome (slice_get edges at) P
    there [] at all = tt
    there (first ∷ rest) zero all = all.0
    there (first ∷ rest) (suc at) all = there rest at all.1

-- and of the one before it
pub each_before : (P : ℕ → Type 0) (edges : List ℕ) (at : ℕ) (front : Option ℕ) → EachOne P edges → front ≡ before edges at → IfSome front P
each_before P edges zero front all is = subst (λ (found : Option ℕ). IfSome found P) (sym is) tt
each_before P edges (suc at) front all is = each_after P edges at front all is

-- what follows from what is known of something
pub some_map : {P Q : ℕ → Type 0} (found : Option ℕ) → ((it : ℕ) → P it → Q it) → IfSome found P → IfSome found Q
some_map None follows holds = tt
some_map (Some it) follows holds = follows it holds

-- an edge that was tested with the one before a place
pub tested_before : (plan : Plan) (edges : List ℕ) (at edge : ℕ) (front : Option ℕ) → at ≤ length edges → front ≡ before edges at
    → IfSome front (λ other. Tested plan edge other × Tested plan other edge) → Joined (Tested plan) (take at edges) (edge ∷ [])
tested_before plan edges at edge front within is both =
    joined_before_place (Tested plan) edges (edge ∷ []) at front within is (some_map front (λ it tested. tested.1) both)

-- and with the one after it
pub tested_after : (plan : Plan) (edges : List ℕ) (at edge : ℕ) (following : Option ℕ) → following ≡ slice_get edges at
    → IfSome following (λ other. Tested plan edge other × Tested plan other edge) → Head (Tested plan) edge (drop at edges)
tested_after plan edges at edge following is both = head_after (Tested plan) edges at edge following is (some_map following (λ it tested. tested.0) both)

-- Edges of the status

-- all are edges of the plan
pub all_known : (plan : Plan) (key : ℤ) (edges : List ℕ) → IsSwept plan key edges → EachOne (λ (edge : ℕ). edge < plan.count) edges
all_known plan key edges swept = each_by_has (λ (edge : ℕ). edge < plan.count) edges (λ it has. (swept.active it has).known)

-- and none of them begins in the next vertex
pub others_known : (plan : Plan) (key : ℤ) (vertex : Position) (edges fewer : List ℕ) (beginning : ℕ) → IsSwept plan key edges → key <ℤ key_of vertex → (plan.segment beginning).low ≡ vertex
    → ((it : ℕ) → Has fewer it → Has edges it) → EachOne (λ (other : ℕ). (other < plan.count) × (other ≢ beginning)) fewer
others_known plan key vertex edges fewer beginning swept later begins among =
    let early : key_of (plan.segment beginning).low ≤ℤ key → ⊥ = λ begun.
    let there : key_of vertex ≤ℤ key = subst (λ (low : Position). key_of low ≤ℤ key) begins begun in
    omega (arith, ints) in
    each_by_has (λ (other : ℕ). (other < plan.count) × (other ≢ beginning)) fewer
    (λ it has. ((swept.active it (among it has)).known, (λ same. early (subst (λ (edge : ℕ). key_of (plan.segment edge).low ≤ℤ key) same (swept.active it (among it has)).begun))))

-- Edits

-- where the parts come together, the place is between them
pub parts_at : (front back : List ℕ) (place : ℕ) → length front ≡ place → (take place (front ++ back) ≡ front) × (drop place (front ++ back) ≡ back)
parts_at front back place same =
    (ap (λ (n : ℕ). take n (front ++ back)) (sym same) ∙ take-append_seam front back, ap (λ (n : ℕ). drop n (front ++ back)) (sym same) ∙ drop-append_seam front back)

-- what is after the first of the rest
rest_after : (edges : List ℕ) (place it : ℕ) (back : List ℕ) → place < length edges → drop place edges ≡ it ∷ back → drop (suc place) edges ≡ back
rest_after edges place it back within first = ap (drop 1) (sym (drop-cons edges place 0 within) ∙ first)

-- one taken out at the place
pub record TakesOut (edges fewer : List ℕ) (place it : ℕ) (back : List ℕ) : Type 0 where
  pub within : place < length edges
  pub front : take place fewer ≡ take place edges
  pub rest : drop place fewer ≡ back
  pub fits : place ≤ length fewer

-- what is taken out is the first of the rest
pub takes_out : (edges fewer : List ℕ) (place it : ℕ) (back : List ℕ) → place ≤ length edges → drop place edges ≡ it ∷ back → fewer ≡ remove edges place → TakesOut edges fewer place it back
takes_out edges fewer place it back within first removed =
    let front = take place edges in
    let long : length front ≡ place = length-take-le place edges within in
    let there : place < length edges = omega (arith, length-drop place edges, ap length first) in
    let parted : edges ≡ front ++ it ∷ back = take_drop edges place ∙ ap (λ (list : List ℕ). front ++ list) first in
    let is : fewer ≡ front ++ back = removed ∙ ap (λ (list : List ℕ). front ++ list) (rest_after edges place it back there first) in
    let parts = parts_at front back place long in
    record {
      within = there;
      front = ap (take place) is ∙ parts.0;
      rest = ap (drop place) is ∙ parts.1;
      fits = omega (arith, ap length is, length-append front back);
    }

-- Steps

-- two edges begin at the place
begin_over : (plan : Plan) (key : ℤ) (vertex : Position) (lower upper place : ℕ) (edges more most : List ℕ) → IsPlan plan → IsSwept plan key edges → IsEvent plan key vertex lower upper
    → BothBegin plan vertex lower upper → place ≤ length edges → IsCut plan vertex edges (take place edges) (drop place edges) → Tested plan lower upper
    → Joined (Tested plan) (take place edges) (lower ∷ []) → Head (Tested plan) upper (drop place edges) → more ≡ insert edges place upper → most ≡ insert more place lower
    → IsSwept plan (key_of vertex) most
begin_over plan key vertex lower upper place edges more most is_plan swept event begins within cut tested below above one other =
    let front = take place edges in
    let back = drop place edges in
    let long : length front ≡ place = length-take-le place edges within in
    let parts = parts_at front (upper ∷ back) place long in
    let is : most ≡ front ++ lower ∷ upper ∷ back =
    other ∙ ap (λ (list : List ℕ). take place list ++ lower ∷ drop place list) one
    ∙ ap (λ (list : List ℕ). list ++ lower ∷ drop place (front ++ upper ∷ back)) parts.0 ∙ ap (λ (list : List ℕ). front ++ lower ∷ list) parts.1 in
    subst (IsSwept plan (key_of vertex)) (sym is) (begin_step plan key vertex lower upper edges front back is_plan swept event begins cut tested below above)

-- two edges begin, in one order or the other
pub begin_in_order : (plan : Plan) (key : ℤ) (vertex : Position) (first second : ℕ) (pair : ℕ × ℕ) (place : ℕ) (edges more most : List ℕ) → IsPlan plan → IsSwept plan key edges
    → IsEvent plan key vertex first second → (pair ≡ (first, second)) ⊎ (pair ≡ (second, first)) → BothBegin plan vertex pair.0 pair.1 → place ≤ length edges
    → IsCut plan vertex edges (take place edges) (drop place edges) → Tested plan first second × Tested plan second first → Joined (Tested plan) (take place edges) (pair.0 ∷ [])
    → Head (Tested plan) pair.1 (drop place edges) → more ≡ insert edges place pair.1 → most ≡ insert more place pair.0
    → IsSwept plan (key_of vertex) most
begin_in_order plan key vertex first second pair place edges more most is_plan swept event order begins within cut tested below above one other =
    let told : IsEvent plan key vertex pair.0 pair.1 × Tested plan pair.0 pair.1 = elim order [
      | inl forward ↦ subst (λ (it : ℕ × ℕ). IsEvent plan key vertex it.0 it.1 × Tested plan it.0 it.1) (sym forward) (event, tested.0)
      | inr backward ↦ subst (λ (it : ℕ × ℕ). IsEvent plan key vertex it.0 it.1 × Tested plan it.0 it.1) (sym backward) (event_back plan key vertex first second is_plan event, tested.1)
    ] in
    begin_over plan key vertex pair.0 pair.1 place edges more most is_plan swept told.0 begins within cut told.1 below above one other

-- two edges that end, in the order in which they occur
record EndsInOrder (plan : Plan) (key : ℤ) (vertex : Position) (rest : List ℕ) : Type 0 where
  one : ℕ
  other : ℕ
  back : List ℕ
  first : rest ≡ one ∷ other ∷ back
  event : IsEvent plan key vertex one other
  ends : BothEnd plan vertex one other

-- are the first of those that aren't below the vertex
ends_in_order : (plan : Plan) (key : ℤ) (vertex : Position) (first second : ℕ) (edges front rest : List ℕ) → IsPlan plan → IsSwept plan key edges → IsEvent plan key vertex first second
    → BothEnd plan vertex first second → IsCut plan vertex edges front rest → EndsInOrder plan key vertex rest
ends_in_order plan key vertex first second edges front rest is_plan swept event ends cut =
    let found = end_found plan key vertex first second edges front rest is_plan swept event ends cut in
    elim found.1 [
      | inl forward ↦ record { one = first; other = second; back = found.0; first = forward; event = event; ends = ends }
      | inr backward ↦
          record {
            one = second;
            other = first;
            back = found.0;
            first = backward;
            event = event_back plan key vertex first second is_plan event;
            ends = record { first_ends = ends.second_ends; second_ends = ends.first_ends };
          }
    ]

-- both are taken out, one after the other
pub record AreOut (plan : Plan) (vertex : Position) (place : ℕ) (edges fewer fewest : List ℕ) : Type 0 where
  pub one_there : place < length edges
  pub other_there : place < length fewer
  pub over : Joined (Tested plan) (take place fewest) (drop place fewest) → IsSwept plan (key_of vertex) fewest

-- so the line goes over the vertex, where those that are neighbours then were tested
pub both_out : (plan : Plan) (key : ℤ) (vertex : Position) (first second place : ℕ) (edges fewer fewest : List ℕ) → IsPlan plan → IsSwept plan key edges
    → IsEvent plan key vertex first second → BothEnd plan vertex first second → IsCut plan vertex edges (take place edges) (drop place edges) → place ≤ length edges
    → fewer ≡ remove edges place → fewest ≡ remove fewer place → AreOut plan vertex place edges fewer fewest
both_out plan key vertex first second place edges fewer fewest is_plan swept event ends cut within one_removed other_removed =
    let pair = ends_in_order plan key vertex first second edges (take place edges) (drop place edges) is_plan swept event ends cut in
    let out = takes_out edges fewer place pair.one (pair.other ∷ pair.back) within pair.first one_removed in
    let next = takes_out fewer fewest place pair.other pair.back out.fits out.rest other_removed in
    let front = next.front ∙ out.front in
    let is : fewest ≡ take place edges ++ pair.back = take_drop fewest place ∙ ap (λ (list : List ℕ). list ++ drop place fewest) front ∙ ap (λ (list : List ℕ). take place edges ++ list) next.rest in
    record {
      one_there = out.within;
      other_there = next.within;
      over = λ joined. subst (IsSwept plan (key_of vertex)) (sym is)
          (end_step plan key vertex pair.one pair.other edges (take place edges) pair.back is_plan swept pair.event pair.ends (subst (IsCut plan vertex edges (take place edges)) pair.first cut)
          (subst (Joined (Tested plan) (take place edges)) next.rest (subst (λ (list : List ℕ). Joined (Tested plan) list (drop place fewest)) front joined)));
    }
