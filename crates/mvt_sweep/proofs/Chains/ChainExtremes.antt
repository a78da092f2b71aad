-- What the lowest and the highest chain tell of the place of a vertex, and of two chains that end in one.
use Rattle.std.proofs.Common.{◌≡◌, ◌≢◌, ◌<◌, ◌≤◌, ◌+◌, ◌-◌, ◌⊎◌, inl, inr, ℕ, List, [], ◌∷◌, ◌++◌, drop, length, map, take, Some, None, slice_get, ℤ, refl, sym, ◌∙◌, ap, subst, arith}
use Rattle.std.proofs.lemmas.List.{length-append, length-map}
use Rattle.mvt_plane.specs.Position.{Position}
use Rattle.mvt_sweep.specs.Calls.Chain.{Has, Ordered}
use Rattle.mvt_sweep.specs.Calls.Chains.{AreChains, LeadsBack, LeadsOn, above_of, below_of, edge_of, edges_of, outside_of}
use Rattle.mvt_sweep.specs.Calls.SweepVertices.{plan_of}
use Rattle.mvt_sweep.specs.Calls.Sweep.{Plan, BothEnd, IsCut, IsEvent, IsPlan, IsSwept, IsUnder}
use Rattle.mvt_sweep.specs.declared.sweep.chains.Chains.{Chains}
use Rattle.mvt_sweep.specs.declared.sweep.vertices.SweepVertices.{SweepVertices}
use Rattle.mvt_sweep.proofs.Chains.ChainLinks.{has_last, last_of}
use Rattle.mvt_sweep.proofs.Chains.ChainParts.{each_has, has_right, ordered_parts}
use Rattle.mvt_sweep.proofs.Vertices.VertexPlans.{plan_of_vertices}
use Rattle.mvt_sweep.proofs.Sweeps.StatusPlaces.{parts_at}
use Rattle.mvt_sweep.proofs.Sweeps.SweepSlabs.{split, swept_differ}
use Rattle.mvt_sweep.proofs.Sweeps.SweepSteps.{end_found}
use Rattle.mvt_status.specs.Split.{AreBeside, before}
use Rattle.mvt_status.specs.declared.status.Split.{Split}

-- Lists

-- the last number after a front is the last of what follows
last_append : (first : ℕ) (front : List ℕ) (it : ℕ) (back : List ℕ) → last_of first (front ++ it ∷ back) ≡ last_of it back
last_append first [] it back = refl
last_append first (number ∷ front) it back = last_append number front it back

-- the last edge is that of the last chain
last_map : (f : ℕ → ℕ) (first : ℕ) (list : List ℕ) → last_of (f first) (map f list) ≡ f (last_of first list)
last_map f first [] = refl
last_map f first (number ∷ rest) = last_map f number rest

-- the number previous to what is after a list is its last one
back_last : (previous : ℕ → ℕ) (first : ℕ) (list : List ℕ) (last : ℕ) → LeadsBack previous first list last → previous last ≡ last_of first list
back_last previous first [] last leads = leads
back_last previous first (number ∷ rest) last leads = back_last previous number rest last leads.1

-- one of the edges is the edge of a chain
chain_of : (f : ℕ → ℕ) (list : List ℕ) (edge : ℕ) → Has (map f list) edge → (chain : ℕ) × Has list chain × (f chain ≡ edge)
chain_of f [] edge has = absurd has
chain_of f (first ∷ rest) edge (inl same) = (first, inl refl, same)
chain_of f (first ∷ rest) edge (inr has) = let found = chain_of f rest edge has in (found.0, inr found.1, found.2)

-- Edges of chains

-- the edge of the chain of an edge is the edge itself
edge_again : (vertices : SweepVertices) (chains : Chains) (list : List ℕ) (edge : ℕ) → AreChains vertices chains list → Has (edges_of chains list) edge
    → edge_of chains (edge_of chains edge) ≡ edge
edge_again vertices chains list edge are has =
    let found = chain_of (edge_of chains) list edge has in
    subst (λ (it : ℕ). edge_of chains (edge_of chains it) ≡ it) found.2 (ap (edge_of chains) (are.each found.0 found.1).back)

-- the edge of the lowest chain is the first one
lowest_first : (vertices : SweepVertices) (chains : Chains) (list : List ℕ) (edge : ℕ) → AreChains vertices chains list → Has (edges_of chains list) edge
    → edge_of chains edge ≡ above_of chains (outside_of chains) → (rest : List ℕ) × (edges_of chains list ≡ edge ∷ rest)
lowest_first vertices chains list edge are has lowest = by_list list has are.above
  where
    f : ℕ → ℕ
    f = edge_of chains

    again : f (f edge) ≡ edge
    again = edge_again vertices chains list edge are has

    by_list : (list : List ℕ) → Has (map f list) edge → LeadsOn (above_of chains) (outside_of chains) list (outside_of chains) → (rest : List ℕ) × (map f list ≡ edge ∷ rest)
    by_list [] has leads = absurd has
    by_list (first ∷ rest) has leads =
        let same : f first ≡ edge = ap f (sym leads.0 ∙ sym lowest) ∙ again in
        (map f rest, ap (λ (it : ℕ). it ∷ map f rest) same)

-- the edge of the highest chain is the last one
highest_last : (vertices : SweepVertices) (chains : Chains) (list : List ℕ) (edge : ℕ) → AreChains vertices chains list → Has (edges_of chains list) edge
    → edge_of chains edge ≡ below_of chains (outside_of chains) → (before : ℕ) → last_of before (edges_of chains list) ≡ edge
highest_last vertices chains list edge are has highest before = by_list list has are.below
  where
    f : ℕ → ℕ
    f = edge_of chains

    again : f (f edge) ≡ edge
    again = edge_again vertices chains list edge are has

    by_list : (list : List ℕ) → Has (map f list) edge → LeadsBack (below_of chains) (outside_of chains) list (outside_of chains) → last_of before (map f list) ≡ edge
    by_list [] has leads = absurd has
    by_list (first ∷ rest) has leads =
        last_map f first rest ∙ ap f (sym (back_last (below_of chains) (outside_of chains) (first ∷ rest) (outside_of chains) leads) ∙ sym highest) ∙ again

-- Cuts

-- the place of a vertex among edges
pub record IsPlace (plan : Plan) (vertex : Position) (edges : List ℕ) (place : ℕ) : Type 0 where
  pub within : place ≤ length edges
  pub cut : IsCut plan vertex edges (take place edges) (drop place edges)

-- a cut has a place
place_of_cut : (plan : Plan) (vertex : Position) (edges front rest : List ℕ) (place : ℕ) → IsCut plan vertex edges front rest → length front ≡ place → IsPlace plan vertex edges place
place_of_cut plan vertex edges front rest place cut long =
    let parts = parts_at front rest place long in
    let taken : take place edges ≡ front = ap (take place) cut.whole ∙ parts.0 in
    let dropped : drop place edges ≡ rest = ap (drop place) cut.whole ∙ parts.1 in
    record {
      within = omega (arith, ap length cut.whole, length-append front rest);
      cut = subst (λ (list : List ℕ). IsCut plan vertex edges list (drop place edges)) (sym taken) (subst (IsCut plan vertex edges front) (sym dropped) cut);
    }

-- where the first edge isn't below the vertex, the place is the first one
first_place : (plan : Plan) (vertex : Position) (edges front rest : List ℕ) (edge : ℕ) (back : List ℕ) → IsCut plan vertex edges front rest → Has rest edge → edges ≡ edge ∷ back
    → IsPlace plan vertex edges 0
first_place plan vertex edges [] rest edge back cut has first = place_of_cut plan vertex edges [] rest 0 cut refl
first_place plan vertex edges (head ∷ front) rest edge back cut has first =
    absurd (each_has (λ (it : ℕ). ¬ IsUnder plan vertex it) rest edge cut.others has (subst (IsUnder plan vertex) (same_first (sym cut.whole ∙ first)) cut.below.0))
  where
    same_first : head ∷ front ++ rest ≡ edge ∷ back → head ≡ edge
    same_first is = cc

-- where one of two is the last of all that differ, nothing is after the two
last_of_two : (one other edge : ℕ) (back : List ℕ) → Ordered (λ (m n : ℕ). m ≢ n) (one ∷ other ∷ back) → (edge ≡ one) ⊎ (edge ≡ other) → last_of other back ≡ edge → back ≡ []
last_of_two one other edge [] differ either last = refl
last_of_two one other edge (number ∷ back) differ (inl same) last =
    absurd (each_has (λ (n : ℕ). one ≢ n) (number ∷ back) (last_of number back) differ.0.1 (has_last number back) (sym same ∙ sym last))
last_of_two one other edge (number ∷ back) differ (inr same) last =
    absurd (each_has (λ (n : ℕ). other ≢ n) (number ∷ back) (last_of number back) differ.1.0 (has_last number back) (sym same ∙ sym last))

-- then they are the last two
last_place : (plan : Plan) (vertex : Position) (edges front rest : List ℕ) (one other edge : ℕ) (back : List ℕ) → IsCut plan vertex edges front rest → rest ≡ one ∷ other ∷ back
    → Ordered (λ (m n : ℕ). m ≢ n) edges → (edge ≡ one) ⊎ (edge ≡ other) → last_of 0 edges ≡ edge → IsPlace plan vertex edges (length edges - 2) × (2 ≤ length edges)
last_place plan vertex edges front rest one other edge back cut is differ either last =
    let whole : edges ≡ front ++ one ∷ other ∷ back = cut.whole ∙ ap (λ (list : List ℕ). front ++ list) is in
    let apart = (ordered_parts (λ (m n : ℕ). m ≢ n) front (one ∷ other ∷ back) (subst (Ordered (λ (m n : ℕ). m ≢ n)) whole differ)).1 in
    let ends : last_of other back ≡ edge = sym (last_append 0 front one (other ∷ back)) ∙ ap (last_of 0) (sym whole) ∙ last in
    let none : back ≡ [] = last_of_two one other edge back apart either ends in
    let long : length edges ≡ length front + 2 = ap length whole ∙ length-append front (one ∷ other ∷ back) ∙ ap (λ (list : List ℕ). length front + length (one ∷ other ∷ list)) none in
    (place_of_cut plan vertex edges front rest (length edges - 2) cut (omega (arith, long)), omega (arith, long))

-- The two chains that end

-- one of two edges has this chain
abbrev pub OneIs : Chains → ℕ → ℕ → ℕ → Type 0
OneIs chains first second chain = (edge_of chains first ≡ chain) ⊎ (edge_of chains second ≡ chain)

-- the two edges that end are the first of those that aren't below the vertex
record AreEnding (plan : Plan) (vertex : Position) (edges : List ℕ) (first second : ℕ) : Type 0 where
  front : List ℕ
  rest : List ℕ
  back : List ℕ
  cut : IsCut plan vertex edges front rest
  order : (rest ≡ first ∷ second ∷ back) ⊎ (rest ≡ second ∷ first ∷ back)
  first_there : Has rest first
  second_there : Has rest second

-- as the order of the edges says
ending : (plan : Plan) (key : ℤ) (vertex : Position) (first second : ℕ) (edges : List ℕ) → IsPlan plan → IsSwept plan key edges → IsEvent plan key vertex first second
    → BothEnd plan vertex first second → AreEnding plan vertex edges first second
ending plan key vertex first second edges is_plan swept event ends =
    let parts = split plan key vertex first second edges is_plan swept event in
    let found = end_found plan key vertex first second edges parts.0 parts.1 is_plan swept event ends parts.2 in
    record {
      front = parts.0;
      rest = parts.1;
      back = found.0;
      cut = parts.2;
      order = found.1;
      first_there = elim found.1 [
        | inl forward ↦ subst (λ (list : List ℕ). Has list first) (sym forward) (inl refl)
        | inr backward ↦ subst (λ (list : List ℕ). Has list first) (sym backward) (inr (inl refl))
      ];
      second_there = elim found.1 [
        | inl forward ↦ subst (λ (list : List ℕ). Has list second) (sym forward) (inr (inl refl))
        | inr backward ↦ subst (λ (list : List ℕ). Has list second) (sym backward) (inl refl)
      ];
    }

-- where one of them is the lowest chain, no chain is below them
pub lowest_place : (vertices : SweepVertices) (chains : Chains) (list : List ℕ) (key : ℤ) (vertex : Position) (first second : ℕ) → AreChains vertices chains list
    → IsSwept (plan_of vertices) key (edges_of chains list) → IsEvent (plan_of vertices) key vertex first second → BothEnd (plan_of vertices) vertex first second
    → OneIs chains first second (above_of chains (outside_of chains)) → IsPlace (plan_of vertices) vertex (edges_of chains list) 0
lowest_place vertices chains list key vertex first second are swept event ends either = elim either [
  | inl lowest ↦ at first both.first_there lowest
  | inr lowest ↦ at second both.second_there lowest
]
  where
    plan : Plan
    plan = plan_of vertices

    edges : List ℕ
    edges = edges_of chains list

    both : AreEnding plan vertex edges first second
    both = ending plan key vertex first second edges (plan_of_vertices vertices) swept event ends

    at : (edge : ℕ) → Has both.rest edge → edge_of chains edge ≡ above_of chains (outside_of chains) → IsPlace plan vertex edges 0
    at edge there lowest =
        let has : Has edges edge = subst (λ (l : List ℕ). Has l edge) (sym both.cut.whole) (has_right both.front both.rest edge there) in
        let others = lowest_first vertices chains list edge are has lowest in
        first_place plan vertex edges both.front both.rest edge others.0 both.cut there others.1

-- where one of them is the highest chain, all others are below them
pub highest_place : (vertices : SweepVertices) (chains : Chains) (list : List ℕ) (key : ℤ) (vertex : Position) (first second : ℕ) → AreChains vertices chains list
    → IsSwept (plan_of vertices) key (edges_of chains list) → IsEvent (plan_of vertices) key vertex first second → BothEnd (plan_of vertices) vertex first second
    → OneIs chains first second (below_of chains (outside_of chains)) → IsPlace (plan_of vertices) vertex (edges_of chains list) (length list - 2) × (2 ≤ length list)
highest_place vertices chains list key vertex first second are swept event ends either =
    subst (λ (n : ℕ). IsPlace plan vertex edges (n - 2) × (2 ≤ n)) (length-map {B = ℕ} list (edge_of chains)) (elim either [
      | inl highest ↦ elim both.order [
        | inl forward ↦ at first second first forward both.first_there (inl refl) highest
        | inr backward ↦ at second first first backward both.first_there (inr refl) highest
      ]
      | inr highest ↦ elim both.order [
        | inl forward ↦ at first second second forward both.second_there (inr refl) highest
        | inr backward ↦ at second first second backward both.second_there (inl refl) highest
      ]
    ])
  where
    plan : Plan
    plan = plan_of vertices

    edges : List ℕ
    edges = edges_of chains list

    both : AreEnding plan vertex edges first second
    both = ending plan key vertex first second edges (plan_of_vertices vertices) swept event ends

    at : (one other edge : ℕ) → both.rest ≡ one ∷ other ∷ both.back → Has both.rest edge → (edge ≡ one) ⊎ (edge ≡ other) → edge_of chains edge ≡ below_of chains (outside_of chains)
        → IsPlace plan vertex edges (length edges - 2) × (2 ≤ length edges)
    at one other edge is there either highest =
        let has : Has edges edge = subst (λ (l : List ℕ). Has l edge) (sym both.cut.whole) (has_right both.front both.rest edge there) in
        last_place plan vertex edges both.front both.rest one other edge both.back both.cut is (swept_differ plan key edges (plan_of_vertices vertices) swept) either
        (highest_last vertices chains list edge are has highest 0)

-- there are chains, where two end
pub ending_there : (vertices : SweepVertices) (chains : Chains) (list : List ℕ) (key : ℤ) (vertex : Position) (first second : ℕ) → IsSwept (plan_of vertices) key (edges_of chains list)
    → IsEvent (plan_of vertices) key vertex first second → BothEnd (plan_of vertices) vertex first second → 0 < length list
ending_there vertices chains list key vertex first second swept event ends =
    let plan = plan_of vertices in
    let edges = edges_of chains list in
    let both = ending plan key vertex first second edges (plan_of_vertices vertices) swept event ends in
    let some : 0 < length both.rest = elim both.order [ inl forward ↦ omega (arith, ap length forward) | inr backward ↦ omega (arith, ap length backward) ] in
    omega (arith, some, ap length both.cut.whole, length-append both.front both.rest, length-map {B = ℕ} list (edge_of chains))

-- All above or below

-- the highest chain is the last one
highest_is : (vertices : SweepVertices) (chains : Chains) (list : List ℕ) → AreChains vertices chains list → below_of chains (outside_of chains) ≡ last_of (outside_of chains) list
highest_is vertices chains list are = back_last (below_of chains) (outside_of chains) list (outside_of chains) are.below

pub highest_there : (vertices : SweepVertices) (chains : Chains) (list : List ℕ) → AreChains vertices chains list → 0 < length list → Has list (below_of chains (outside_of chains))
highest_there vertices chains [] are some = absurd (omega (arith, some))
highest_there vertices chains (first ∷ rest) are some = subst (Has (first ∷ rest)) (sym (highest_is vertices chains (first ∷ rest) are)) (has_last first rest)

pub lowest_there : (vertices : SweepVertices) (chains : Chains) (list : List ℕ) → AreChains vertices chains list → 0 < length list → Has list (above_of chains (outside_of chains))
lowest_there vertices chains [] are some = absurd (omega (arith, some))
lowest_there vertices chains (first ∷ rest) are some = inl (sym are.above.0)

-- where the last edge is below the vertex, all are
all_below : (plan : Plan) (vertex : Position) (before : ℕ) (edges front rest : List ℕ) → IsCut plan vertex edges front rest → IsUnder plan vertex (last_of before edges)
    → IsPlace plan vertex edges (length edges)
all_below plan vertex before edges front [] cut under = place_of_cut plan vertex edges front [] (length edges) cut (omega (arith, ap length cut.whole, length-append front []))
all_below plan vertex before edges front (it ∷ back) cut under =
    absurd (each_has (λ (edge : ℕ). ¬ IsUnder plan vertex edge) (it ∷ back) (last_of it back) cut.others (has_last it back)
    (subst (IsUnder plan vertex) (ap (last_of before) cut.whole ∙ last_append before front it back) under))

-- where the first edge isn't, none is
none_below : (plan : Plan) (vertex : Position) (edge : ℕ) (back front rest : List ℕ) → IsCut plan vertex (edge ∷ back) front rest → ¬ IsUnder plan vertex edge
    → IsPlace plan vertex (edge ∷ back) 0
none_below plan vertex edge back [] rest cut other = place_of_cut plan vertex (edge ∷ back) [] rest 0 cut refl
none_below plan vertex edge back (head ∷ front) rest cut other = absurd (other (subst (IsUnder plan vertex) (same_first (sym cut.whole)) cut.below.0))
  where
    same_first : head ∷ front ++ rest ≡ edge ∷ back → head ≡ edge
    same_first is = cc

-- the last one is read at the last place
last_read : (first : ℕ) (rest : List ℕ) → slice_get (first ∷ rest) (length rest) ≡ Some (last_of first rest)
last_read first [] = refl
last_read first (number ∷ rest) = last_read number rest

none_read : (list : List ℕ) → slice_get list (length list) ≡ None
none_read [] = refl
none_read (first ∷ rest) = none_read rest

-- a place among chains, with those beside it
pub record IsPlaceAmong (plan : Plan) (chains : Chains) (vertex : Position) (list : List ℕ) (place : Split) : Type 0 where
  pub within : place.point ≤ length list
  pub cut : IsCut plan vertex (edges_of chains list) (take place.point (edges_of chains list)) (drop place.point (edges_of chains list))
  pub beside : AreBeside list place

-- a vertex above the highest chain is above all
pub above_highest : (vertices : SweepVertices) (chains : Chains) (list : List ℕ) (vertex : Position) (front rest : List ℕ) (highest len : ℕ) → AreChains vertices chains list → 0 < length list
    → IsCut (plan_of vertices) vertex (edges_of chains list) front rest → highest ≡ below_of chains (outside_of chains) → len ≡ length list → IsUnder (plan_of vertices) vertex (edge_of chains highest)
    → IsPlaceAmong (plan_of vertices) chains vertex list (record { point = len; front = Some highest; following = None })
above_highest vertices chains list vertex front rest highest len are some cut is long under = record {
  within = omega (arith, long);
  cut = subst (λ (n : ℕ). IsCut plan vertex edges (take n edges) (drop n edges)) (length-map {B = ℕ} list f ∙ sym long)
      (all_below plan vertex (f outside) edges front rest cut (subst (IsUnder plan vertex) (ap f is_last ∙ sym (last_map f outside list)) under)).cut;
  beside = record {
    front = ap Some is_last ∙ sym (last_before list some) ∙ ap (before list) (sym long);
    following = sym (none_read list) ∙ ap (slice_get list) (sym long);
  };
}
  where
    plan : Plan
    plan = plan_of vertices

    f : ℕ → ℕ
    f = edge_of chains

    outside : ℕ
    outside = outside_of chains

    edges : List ℕ
    edges = edges_of chains list

    is_last : highest ≡ last_of outside list
    is_last = is ∙ highest_is vertices chains list are

    last_before : (list : List ℕ) → 0 < length list → before list (length list) ≡ Some (last_of outside list)
    last_before [] some = absurd (omega (arith, some))
    last_before (first ∷ rest) some = last_read first rest

-- one that isn't above the lowest is above none
pub below_lowest : (vertices : SweepVertices) (chains : Chains) (list : List ℕ) (vertex : Position) (front rest : List ℕ) (lowest : ℕ) → AreChains vertices chains list → 0 < length list
    → IsCut (plan_of vertices) vertex (edges_of chains list) front rest → lowest ≡ above_of chains (outside_of chains) → ¬ IsUnder (plan_of vertices) vertex (edge_of chains lowest)
    → IsPlaceAmong (plan_of vertices) chains vertex list (record { point = 0; front = None; following = Some lowest })
below_lowest vertices chains [] vertex front rest lowest are some cut is other = absurd (omega (arith, some))
below_lowest vertices chains (first ∷ list) vertex front rest lowest are some cut is other =
    let same : lowest ≡ first = is ∙ are.above.0 in
    record {
      within = omega arith;
      cut = (none_below (plan_of vertices) vertex (edge_of chains first) (edges_of chains list) front rest cut
          (subst (λ (n : ℕ). ¬ IsUnder (plan_of vertices) vertex (edge_of chains n)) same other)).cut;
      beside = record { front = refl; following = ap Some same };
    }
