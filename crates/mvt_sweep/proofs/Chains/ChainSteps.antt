-- What becomes of the chains where the line of a sweep goes over a vertex: one goes on with another edge.
use Rattle.std.proofs.Common.{◌≡◌, ◌≢◌, ◌<◌, ◌≤◌, ◌⊎◌, inl, inr, ℕ, List, [], ◌∷◌, ◌++◌, length, map, get_or, set, IfSome, ℤ, ◌<ℤ◌, ◌≤ℤ◌, refl, sym, ◌∙◌, ap, subst, arith}
use Rattle.std.proofs.lemmas.Bool.{cases_eq}
use Rattle.std.proofs.lemmas.List.{get_or-set_other, get_or-set_same, length-map, length-set, map-append}
use Rattle.mvt_plane.specs.Geometry.Measure.{key_of}
use Rattle.mvt_plane.specs.Position.{Position}
use Rattle.mvt_plane.proofs.Orders.Order.{zs}
use Rattle.mvt_sweep.specs.Calls.Chain.{EachOne, Has, Ordered}
use Rattle.mvt_sweep.specs.Calls.Chains.{AreChains, IsChain, LeadsBack, LeadsOn, above_of, below_of, edge_beside, edge_of, edges_of, no_link, outside_of}
use Rattle.mvt_sweep.specs.Calls.SweepVertices.{sweep_count, plan_of}
use Rattle.mvt_sweep.specs.Calls.Sweep.{IsCut, IsEvent, IsSwept, PassesOn, Tested}
use Rattle.mvt_sweep.specs.declared.sweep.chains.Chains.{Chains}
use Rattle.mvt_sweep.specs.declared.sweep.chains.Link.{Link}
use Rattle.mvt_sweep.specs.declared.sweep.vertices.SweepVertices.{SweepVertices}
use Rattle.mvt_sweep.proofs.Chains.ChainEdges.{differ_by_edges, edges_alike, first_holds, first_there, has_edge, head_by_first, joined_by_last, last_holds, parted}
use Rattle.mvt_sweep.proofs.Chains.ChainLinks.{back_alike, back_after, first_of, last_of, leads_alike, leads_after, leads_first}
use Rattle.mvt_sweep.proofs.Chains.ChainParts.{each_by_has, each_has, has_left, has_right, ordered_parts}
use Rattle.mvt_sweep.proofs.Vertices.VertexPlans.{plan_of_vertices}
use Rattle.mvt_sweep.proofs.Sweeps.StatusCounts.{few_swept}
use Rattle.mvt_sweep.proofs.Sweeps.StatusPlaces.{others_known, some_map}
use Rattle.mvt_sweep.proofs.Sweeps.SweepSlabs.{split, swept_differ}
use Rattle.mvt_sweep.proofs.Sweeps.SweepSteps.{pass_found, pass_step}

-- The chains that there are

-- a chain began at the key or before
chain_begun : (vertices : SweepVertices) (chains : Chains) (key : ℤ) (chain : ℕ) → IsChain vertices chains chain → key_of ((plan_of vertices).segment (edge_of chains chain)).low ≤ℤ key
    → key_of ((plan_of vertices).segment chain).low ≤ℤ key
chain_begun vertices chains key chain is begun = elim is.begun [
  | inl same ↦ subst (λ (it : ℕ). key_of ((plan_of vertices).segment it).low ≤ℤ key) same begun
  | inr earlier ↦ omega (arith, zs)
]

-- this number is neither a chain's nor that of an edge of a chain
pub record IsFresh (chains : Chains) (list : List ℕ) (number : ℕ) : Type 0 where
  pub no_chain : (it : ℕ) → Has list it → it ≢ number
  pub no_edge : (it : ℕ) → Has list it → edge_of chains it ≢ number

-- as that of an edge that begins in the next vertex
pub fresh : (vertices : SweepVertices) (chains : Chains) (list : List ℕ) (key : ℤ) (vertex : Position) (number : ℕ) → AreChains vertices chains list
    → IsSwept (plan_of vertices) key (edges_of chains list) → key <ℤ key_of vertex → ((plan_of vertices).segment number).low ≡ vertex → IsFresh chains list number
fresh vertices chains list key vertex number are swept later begins = record {
  no_chain = λ it has. not_begun it (chain_begun vertices chains key it (are.each it has) (begun it has));
  no_edge = λ it has. not_begun (edge_of chains it) (begun it has);
}
  where
    begun : (it : ℕ) → Has list it → key_of ((plan_of vertices).segment (edge_of chains it)).low ≤ℤ key
    begun it has = (swept.active (edge_of chains it) (has_edge (edge_of chains) list it has)).begun

    not_begun : (it : ℕ) → key_of ((plan_of vertices).segment it).low ≤ℤ key → it ≢ number
    not_begun it begun same =
        let there : key_of vertex ≤ℤ key = subst (λ (low : Position). key_of low ≤ℤ key) begins (subst (λ (n : ℕ). key_of ((plan_of vertices).segment n).low ≤ℤ key) same begun) in
        absurd (omega (arith, zs))

-- no two are one
pub chains_differ : (vertices : SweepVertices) (chains : Chains) (list : List ℕ) (key : ℤ) → IsSwept (plan_of vertices) key (edges_of chains list) → Ordered (λ (one other : ℕ). one ≢ other) list
chains_differ vertices chains list key swept = differ_by_edges (edge_of chains) list (swept_differ (plan_of vertices) key (edges_of chains list) (plan_of_vertices vertices) swept)

-- and none is what is outside
pub chains_inside : (vertices : SweepVertices) (chains : Chains) (list : List ℕ) → AreChains vertices chains list → EachOne (λ (it : ℕ). it ≢ outside_of chains) list
chains_inside vertices chains list are = each_by_has (λ (it : ℕ). it ≢ outside_of chains) list (λ it has. apart it (are.each it has).within)
  where
    apart : (it : ℕ) → it < sweep_count vertices → it ≢ outside_of chains
    apart it within same = omega (arith, same, within, are.numbers)

-- they and their edges are known
pub chains_known : (vertices : SweepVertices) (chains : Chains) (list : List ℕ) (key : ℤ) → AreChains vertices chains list → IsSwept (plan_of vertices) key (edges_of chains list)
    → EachOne (λ (chain : ℕ). (chain < outside_of chains) × (edge_of chains chain < sweep_count vertices)) list
chains_known vertices chains list key are swept =
    each_by_has (λ (chain : ℕ). (chain < outside_of chains) × (edge_of chains chain < sweep_count vertices)) list
    (λ it has. (less it (are.each it has).within, (swept.active (edge_of chains it) (has_edge (edge_of chains) list it has)).known))
  where
    less : (it : ℕ) → it < sweep_count vertices → it < outside_of chains
    less it within = omega (arith, are.numbers)

-- and no more than there are edges
pub chains_few : (vertices : SweepVertices) (chains : Chains) (list : List ℕ) (key : ℤ) → IsSwept (plan_of vertices) key (edges_of chains list) → length list ≤ sweep_count vertices
chains_few vertices chains list key swept =
    omega (arith, length-map {B = ℕ} list (edge_of chains), few_swept (plan_of vertices) key (edges_of chains list) (plan_of_vertices vertices) swept)

-- the edge of a chain isn't the number of another one
pub other_edge : (vertices : SweepVertices) (chains : Chains) (one other : ℕ) → IsChain vertices chains one → IsChain vertices chains other → one ≢ other → edge_of chains one ≢ other
other_edge vertices chains one other first second differ same =
    let back : edge_of chains other ≡ one = ap (edge_of chains) (sym same) ∙ first.back in
    elim first.begun [
      | inl its_own ↦ differ (sym its_own ∙ same)
      | inr later ↦ (elim second.begun [
        | inl its_own ↦ differ (sym back ∙ its_own)
        | inr earlier ↦
            let low = λ (it : ℕ). key_of ((plan_of vertices).segment it).low in
            let one_later : low one <ℤ low other = subst (λ (it : ℕ). low one <ℤ low it) same later in
            let other_later : low other <ℤ low one = subst (λ (it : ℕ). low other <ℤ low it) back earlier in
            absurd (omega (arith, zs))
      ])
    ]

-- Where one goes on

-- the chain of the edge that ends, among the others
pub record IsAmong (vertices : SweepVertices) (chains : Chains) (list : List ℕ) (vertex : Position) (ending : ℕ) : Type 0 where
  pub front : List ℕ
  pub chain : ℕ
  pub back : List ℕ
  pub whole : list ≡ front ++ chain ∷ back
  pub has : Has list chain
  pub its_edge : edge_of chains chain ≡ ending
  pub its_chain : edge_of chains ending ≡ chain
  pub cut : IsCut (plan_of vertices) vertex (edges_of chains list) (edges_of chains front) (ending ∷ edges_of chains back)
  pub below : below_of chains chain ≡ last_of (outside_of chains) front
  pub above : above_of chains chain ≡ first_of back (outside_of chains)

pub among : (vertices : SweepVertices) (chains : Chains) (list : List ℕ) (key : ℤ) (vertex : Position) (ending beginning : ℕ) → AreChains vertices chains list
    → IsSwept (plan_of vertices) key (edges_of chains list) → IsEvent (plan_of vertices) key vertex ending beginning → PassesOn (plan_of vertices) vertex ending beginning
    → IsAmong vertices chains list vertex ending
among vertices chains list key vertex ending beginning are swept event passes =
    let plan = plan_of vertices in
    let f = edge_of chains in
    let outside = outside_of chains in
    let is_plan = plan_of_vertices vertices in
    let cut = split plan key vertex ending beginning (edges_of chains list) is_plan swept event in
    let found = pass_found plan key vertex ending beginning (edges_of chains list) cut.0 cut.1 is_plan swept event passes cut.2 in
    let parts = parted f list cut.0 cut.1 cut.2.whole in
    let first = first_there f parts.rest ending found.0 (parts.rest_edges ∙ found.1) in
    let whole : list ≡ parts.front ++ first.chain ∷ first.back = parts.whole ∙ ap (λ (rest : List ℕ). parts.front ++ rest) first.whole in
    let has : Has list first.chain = subst (λ (l : List ℕ). Has l first.chain) (sym whole) (has_right parts.front (first.chain ∷ first.back) first.chain (inl refl)) in
    let rest_edges : map f (first.chain ∷ first.back) ≡ ending ∷ map f first.back = ap (λ (it : ℕ). it ∷ map f first.back) first.its_edge in
    let rest : cut.1 ≡ ending ∷ map f first.back = sym parts.rest_edges ∙ ap (map f) first.whole ∙ rest_edges in
    record {
      front = parts.front;
      chain = first.chain;
      back = first.back;
      whole = whole;
      has = has;
      its_edge = first.its_edge;
      its_chain = ap f (sym first.its_edge) ∙ (are.each first.chain has).back;
      cut = subst (λ (front : List ℕ). IsCut plan vertex (edges_of chains list) front (ending ∷ map f first.back)) (sym parts.front_edges) (subst (IsCut plan vertex (edges_of chains list) cut.0) rest cut.2);
      below = (back_after (below_of chains) outside parts.front (first.chain ∷ first.back) outside
          (subst (λ (l : List ℕ). LeadsBack (below_of chains) outside l outside) whole are.below)).0;
      above = leads_first (above_of chains) first.chain first.back outside
          (leads_after (above_of chains) outside parts.front (first.chain ∷ first.back) outside (subst (λ (l : List ℕ). LeadsOn (above_of chains) outside l outside) whole are.above)).1;
    }

-- what is read where a chain goes on
pub record GoesOn (before after : Chains) (chain edge : ℕ) : Type 0 where
  pub size : length after.twins.items ≡ length before.twins.items
  pub its_edge : edge_of after chain ≡ edge
  pub its_chain : edge_of after edge ≡ chain
  pub others : (it : ℕ) → it ≢ chain → it ≢ edge → edge_of after it ≡ edge_of before it

pub goes_on : (before after : Chains) (chain edge : ℕ) → after.twins.items ≡ set (set before.twins.items chain edge) edge chain → chain < length before.twins.items
    → edge < length before.twins.items → chain ≢ edge → GoesOn before after chain edge
goes_on before after chain edge is chain_known edge_known differ =
    let twins = before.twins.items in
    let once = set twins chain edge in
    let read = λ (it : ℕ). ap (λ (list : List ℕ). get_or list it 0) is in
    record {
      size = ap length is ∙ length-set once edge chain ∙ length-set twins chain edge;
      its_edge = read chain ∙ get_or-set_other once edge chain chain 0 differ ∙ get_or-set_same twins chain edge 0 chain_known;
      its_chain = read edge ∙ get_or-set_same once edge chain 0 (omega (arith, edge_known, length-set twins chain edge));
      others = λ it one other. read it ∙ get_or-set_other once edge it chain 0 other ∙ get_or-set_other twins chain it edge 0 one;
    }

-- the chains after the vertex
pub chains_pass : (vertices : SweepVertices) (before after : Chains) (list : List ℕ) (key : ℤ) (vertex : Position) (ending beginning : ℕ) → AreChains vertices before list
    → IsSwept (plan_of vertices) key (edges_of before list) → key <ℤ key_of vertex → PassesOn (plan_of vertices) vertex ending beginning
    → (it : IsAmong vertices before list vertex ending) → after.links.items ≡ before.links.items → GoesOn before after it.chain beginning → AreChains vertices after list
chains_pass vertices before after list key vertex ending beginning are swept later passes it links on =
    let unused = fresh vertices before list key vertex beginning are swept later passes.begins in
    let has = it.has in
    let size = on.size in
    let plan = plan_of vertices in
    record {
      numbers = size ∙ are.numbers;
      links = ap length links ∙ are.links;
      each = λ chain there. elim (cases_eq chain it.chain) [
        | inl same ↦ rw same (record {
          within = (are.each it.chain has).within;
          back = ap (edge_of after) on.its_edge ∙ on.its_chain;
          begun =
              let begun = chain_begun vertices before key it.chain (are.each it.chain has) (swept.active (edge_of before it.chain) (has_edge (edge_of before) list it.chain has)).begun in
              let ends : key_of (plan.segment beginning).low ≡ key_of vertex = ap key_of passes.begins in
              let earlier : key_of (plan.segment it.chain).low <ℤ key_of (plan.segment beginning).low = omega (arith, zs) in
              inr (subst (λ (edge : ℕ). key_of (plan.segment it.chain).low <ℤ key_of (plan.segment edge).low) (sym on.its_edge) earlier);
        })
        | inr other ↦ old_chain chain there other unused has
      ];
      above = leads_alike (above_of before) (above_of after) (outside_of after) list (outside_of after) (λ n _. ap (λ (l : List Link). (get_or l n no_link).above) links)
          (subst (λ (n : ℕ). LeadsOn (above_of before) n list n) (sym size) are.above);
      below = back_alike (below_of before) (below_of after) (outside_of after) list (outside_of after) (λ n _. ap (λ (l : List Link). (get_or l n no_link).below) links)
          (ap (λ (l : List Link). (get_or l (outside_of after) no_link).below) links) (subst (λ (n : ℕ). LeadsBack (below_of before) n list n) (sym size) are.below);
    }
  where
    old_chain : (chain : ℕ) → Has list chain → chain ≢ it.chain → IsFresh before list beginning → Has list it.chain → IsChain vertices after chain
    old_chain chain there other unused has =
        let was = are.each chain there in
        let its : edge_of after chain ≡ edge_of before chain = on.others chain other (unused.no_chain chain there) in
        let back : edge_of after (edge_of before chain) ≡ edge_of before (edge_of before chain) =
        on.others (edge_of before chain) (other_edge vertices before chain it.chain was (are.each it.chain has) other) (unused.no_edge chain there) in
        record {
          within = was.within;
          back = ap (edge_of after) its ∙ back ∙ was.back;
          begun = subst (λ (edge : ℕ). (edge ≡ chain) ⊎ (key_of ((plan_of vertices).segment chain).low <ℤ key_of ((plan_of vertices).segment edge).low)) (sym its) was.begun;
        }

-- and their edges
pub edges_pass : (vertices : SweepVertices) (before after : Chains) (list : List ℕ) (key : ℤ) (vertex : Position) (ending beginning : ℕ) → AreChains vertices before list
    → IsSwept (plan_of vertices) key (edges_of before list) → IsEvent (plan_of vertices) key vertex ending beginning → PassesOn (plan_of vertices) vertex ending beginning
    → (it : IsAmong vertices before list vertex ending) → GoesOn before after it.chain beginning
    → IfSome (edge_beside before (below_of before it.chain)) (λ other. Tested (plan_of vertices) beginning other × Tested (plan_of vertices) other beginning)
    → IfSome (edge_beside before (above_of before it.chain)) (λ other. Tested (plan_of vertices) beginning other × Tested (plan_of vertices) other beginning)
    → IsSwept (plan_of vertices) (key_of vertex) (edges_of after list)
edges_pass vertices before after list key vertex ending beginning are swept event passes it on below above =
    let plan = plan_of vertices in
    let f = edge_of before in
    let g = edge_of after in
    let outside = outside_of before in
    let unused = fresh vertices before list key vertex beginning are swept event.later passes.begins in
    let in_list = λ (l : List ℕ) (n : ℕ) (has : Has (it.front ++ it.chain ∷ it.back) n). subst (λ (m : List ℕ). Has m n) (sym it.whole) has in
    let differ = ordered_parts (λ (one other : ℕ). one ≢ other) it.front (it.chain ∷ it.back)
    (subst (Ordered (λ (one other : ℕ). one ≢ other)) it.whole (chains_differ vertices before list key swept)) in
    let inside = subst (EachOne (λ (n : ℕ). n ≢ outside)) it.whole (chains_inside vertices before list are) in
    let front : map g it.front ≡ map f it.front = edges_alike f g it.front (λ n has.
    on.others n (differ.2 n it.chain has (inl refl)) (unused.no_chain n (in_list list n (has_left it.front (it.chain ∷ it.back) n has)))) in
    let back : map g it.back ≡ map f it.back = edges_alike f g it.back (λ n has.
    on.others n (λ same. each_has (λ (that : ℕ). it.chain ≢ that) it.back n differ.1.0 has (sym same)) (unused.no_chain n (in_list list n (has_right it.front (it.chain ∷ it.back) n (inr has))))) in
    let is : edges_of after list ≡ map f it.front ++ beginning ∷ map f it.back =
    ap (map g) it.whole ∙ map-append g it.front (it.chain ∷ it.back) ∙ ap (λ (l : List ℕ). l ++ g it.chain ∷ map g it.back) front
    ∙ ap (λ (n : ℕ). map f it.front ++ n ∷ map g it.back) on.its_edge ∙ ap (λ (l : List ℕ). map f it.front ++ beginning ∷ l) back in
    let joined = joined_by_last (Tested plan) before it.front (beginning ∷ []) (each_by_has (λ (n : ℕ). n ≢ outside) it.front (λ n has. each_has (λ (m : ℕ). m ≢ outside) (it.front ++ it.chain ∷ it.back) n inside (has_left it.front (it.chain ∷ it.back) n has)))
    (some_map (edge_beside before (last_of outside it.front)) (λ other tested. tested.1)
    (subst (λ (n : ℕ). IfSome (edge_beside before n) (λ other. Tested plan beginning other × Tested plan other beginning)) it.below below)) in
    let head = head_by_first (Tested plan) before it.back beginning (each_by_has (λ (n : ℕ). n ≢ outside) it.back (λ n has. each_has (λ (m : ℕ). m ≢ outside) (it.front ++ it.chain ∷ it.back) n inside (has_right it.front (it.chain ∷ it.back) n (inr has))))
    (some_map (edge_beside before (first_of it.back outside)) (λ other tested. tested.0)
    (subst (λ (n : ℕ). IfSome (edge_beside before n) (λ other. Tested plan beginning other × Tested plan other beginning)) it.above above)) in
    subst (IsSwept plan (key_of vertex)) (sym is)
    (pass_step plan key vertex ending beginning (edges_of before list) (map f it.front) (map f it.back) (plan_of_vertices vertices) swept event passes it.cut joined head)

-- What is beside the chain

-- no number of these is more
pub last_within : (most first : ℕ) (list : List ℕ) → first ≤ most → EachOne (λ (n : ℕ). n ≤ most) list → last_of first list ≤ most
last_within most first [] within all = within
last_within most first (number ∷ rest) within all = last_within most number rest all.0 all.1

pub first_within : (most : ℕ) (list : List ℕ) → EachOne (λ (n : ℕ). n ≤ most) list → first_of list most ≤ most
first_within most [] all = omega arith
first_within most (number ∷ rest) all = all.0

-- all chains are numbers of the list
pub chains_within : (vertices : SweepVertices) (chains : Chains) (list part : List ℕ) → AreChains vertices chains list → ((it : ℕ) → Has part it → Has list it)
    → EachOne (λ (n : ℕ). n ≤ outside_of chains) part
chains_within vertices chains list part are of_list = each_by_has (λ (n : ℕ). n ≤ outside_of chains) part (λ it has. less it (are.each it (of_list it has)).within)
  where
    less : (it : ℕ) → it < sweep_count vertices → it ≤ outside_of chains
    less it within = omega (arith, are.numbers)

-- the chains on both sides of this one
pub record IsBeside (vertices : SweepVertices) (chains : Chains) (list : List ℕ) (vertex : Position) (ending beginning : ℕ) (it : IsAmong vertices chains list vertex ending) : Type 0 where
  pub within : it.chain < sweep_count vertices
  pub below_within : below_of chains it.chain ≤ outside_of chains
  pub above_within : above_of chains it.chain ≤ outside_of chains
  pub below_known : IfSome (edge_beside chains (below_of chains it.chain)) (λ other. (other < sweep_count vertices) × (other ≢ beginning))
  pub above_known : IfSome (edge_beside chains (above_of chains it.chain)) (λ other. (other < sweep_count vertices) × (other ≢ beginning))

pub beside : (vertices : SweepVertices) (chains : Chains) (list : List ℕ) (key : ℤ) (vertex : Position) (ending beginning : ℕ) → AreChains vertices chains list
    → IsSwept (plan_of vertices) key (edges_of chains list) → key <ℤ key_of vertex → ((plan_of vertices).segment beginning).low ≡ vertex
    → (it : IsAmong vertices chains list vertex ending) → IsBeside vertices chains list vertex ending beginning it
beside vertices chains list key vertex ending beginning are swept later begins it =
    let outside = outside_of chains in
    let of_list = λ (n : ℕ) (has : Has (it.front ++ it.chain ∷ it.back) n). subst (λ (m : List ℕ). Has m n) (sym it.whole) has in
    let front_has = λ (n : ℕ) (has : Has it.front n). of_list n (has_left it.front (it.chain ∷ it.back) n has) in
    let back_has = λ (n : ℕ) (has : Has it.back n). of_list n (has_right it.front (it.chain ∷ it.back) n (inr has)) in
    let inside = chains_inside vertices chains list are in
    let known = λ (part : List ℕ) (among : (n : ℕ) → Has (edges_of chains part) n → Has (edges_of chains list) n).
    others_known (plan_of vertices) key vertex (edges_of chains list) (edges_of chains part) beginning swept later begins among in
    let of_edges = λ (n : ℕ) (has : Has (edges_of chains it.front ++ ending ∷ edges_of chains it.back) n). subst (λ (m : List ℕ). Has m n) (sym it.cut.whole) has in
    record {
      within = (are.each it.chain (of_list it.chain (has_right it.front (it.chain ∷ it.back) it.chain (inl refl)))).within;
      below_within = subst (λ (n : ℕ). n ≤ outside) (sym it.below) (last_within outside outside it.front (omega arith) (chains_within vertices chains list it.front are front_has));
      above_within = subst (λ (n : ℕ). n ≤ outside) (sym it.above) (first_within outside it.back (chains_within vertices chains list it.back are back_has));
      below_known = subst (λ (n : ℕ). IfSome (edge_beside chains n) (λ other. (other < sweep_count vertices) × (other ≢ beginning))) (sym it.below)
          (last_holds (λ (other : ℕ). (other < sweep_count vertices) × (other ≢ beginning)) chains it.front
          (each_by_has (λ (n : ℕ). n ≢ outside) it.front (λ n has. each_has (λ (m : ℕ). m ≢ outside) list n inside (front_has n has)))
          (known it.front (λ n has. of_edges n (has_left (edges_of chains it.front) (ending ∷ edges_of chains it.back) n has))));
      above_known = subst (λ (n : ℕ). IfSome (edge_beside chains n) (λ other. (other < sweep_count vertices) × (other ≢ beginning))) (sym it.above)
          (first_holds (λ (other : ℕ). (other < sweep_count vertices) × (other ≢ beginning)) chains it.back
          (each_by_has (λ (n : ℕ). n ≢ outside) it.back (λ n has. each_has (λ (m : ℕ). m ≢ outside) list n inside (back_has n has)))
          (known it.back (λ n has. of_edges n (has_right (edges_of chains it.front) (ending ∷ edges_of chains it.back) n (inr has)))));
    }
