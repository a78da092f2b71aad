-- What becomes of the chains where two of them end in a vertex.
use Rattle.std.proofs.Common.{◌≡◌, ◌≢◌, ◌<◌, ◌≤◌, ◌+◌, ◌==◌, ◌⊎◌, inl, inr, cond, ℕ, List, [], ◌∷◌, ◌++◌, drop, get_or, length, map, remove, slice_index, take, IfSome, ℤ, ◌<ℤ◌, refl, sym, ◌∙◌, ap, subst, arith}
use Rattle.std.proofs.lemmas.List.{drop-map, length-map, map-append, take-map}
use Rattle.mvt_plane.specs.Geometry.Measure.{key_of}
use Rattle.mvt_plane.specs.Position.{Position}
use Rattle.mvt_sweep.specs.Calls.Chain.{Has, Joined, Ordered}
use Rattle.mvt_sweep.specs.Calls.Chains.{AreChains, IsChain, LeadsBack, LeadsOn, above_of, below_of, edge_beside, edge_of, edges_of, outside_of}
use Rattle.mvt_sweep.specs.Calls.SweepVertices.{sweep_count, plan_of}
use Rattle.mvt_sweep.specs.Calls.Sweep.{BothEnd, IsCut, IsEvent, IsSwept, Tested}
use Rattle.mvt_sweep.specs.declared.sweep.chains.Chains.{Chains}
use Rattle.mvt_sweep.specs.declared.sweep.vertices.SweepVertices.{SweepVertices}
use Rattle.mvt_sweep.proofs.Chains.ChainEdges.{edges_remove, first_holds, head_by_first, joined_by_last, last_holds}
use Rattle.mvt_sweep.proofs.Chains.ChainLinks.{first_of, last_of}
use Rattle.mvt_sweep.proofs.Chains.ChainParts.{drop_first, each_by_has, each_has, has_left, has_right, ordered_parts, take_drop}
use Rattle.mvt_sweep.proofs.Chains.ChainRelinks.{AreLinkedPair, ArePartsInside, linked_pair, next_without, previous_without}
use Rattle.mvt_sweep.proofs.Chains.ChainSteps.{chains_differ, chains_inside, chains_within, first_within, last_within}
use Rattle.mvt_sweep.proofs.Vertices.VertexPlans.{plan_of_vertices}
use Rattle.mvt_sweep.proofs.Sweeps.StatusPlaces.{both_out, some_map, takes_out}
use Rattle.mvt_sweep.proofs.Sweeps.SweepSlabs.{swept_differ}

-- those after the first differ too
ordered_rest : (first : ℕ) (rest : List ℕ) → Ordered (λ (m n : ℕ). m ≢ n) (first ∷ rest) → Ordered (λ (m n : ℕ). m ≢ n) rest
ordered_rest first rest differ = differ.1

-- the chains that end, among the others
pub record AreLeaving (vertices : SweepVertices) (chains : Chains) (list fewest : List ℕ) (vertex : Position) (lower upper : ℕ) : Type 0 where
  pub front : List ℕ
  pub back : List ℕ
  pub whole : list ≡ front ++ lower ∷ upper ∷ back
  pub rest : fewest ≡ front ++ back
  pub lower_known : lower < sweep_count vertices
  pub upper_known : upper < sweep_count vertices
  pub parts : ArePartsInside (outside_of chains) front back
  pub beside : AreLinkedPair (above_of chains) (below_of chains) (outside_of chains) front lower upper back
  pub over : Joined (Tested (plan_of vertices)) (edges_of chains front) (edges_of chains back) → IsSwept (plan_of vertices) (key_of vertex) (edges_of chains fewest)

-- their places in the status
pub record AreThere (list fewer : List ℕ) (place : ℕ) : Type 0 where
  pub one_there : place < length list
  pub other_there : place < length fewer

pub leaving_there : (vertices : SweepVertices) (chains : Chains) (list fewer : List ℕ) (key : ℤ) (vertex : Position) (first second place : ℕ)
    → IsSwept (plan_of vertices) key (edges_of chains list) → IsEvent (plan_of vertices) key vertex first second → BothEnd (plan_of vertices) vertex first second
    → IsCut (plan_of vertices) vertex (edges_of chains list) (take place (edges_of chains list)) (drop place (edges_of chains list)) → place ≤ length list → fewer ≡ remove list place
    → AreThere list fewer place
leaving_there vertices chains list fewer key vertex first second place swept event ends cut within one =
    let edges = edges_of chains list in
    let size = length-map {B = ℕ} list (edge_of chains) in
    let out = both_out (plan_of vertices) key vertex first second place edges (remove edges place) (remove (remove edges place) place) (plan_of_vertices vertices) swept event ends cut (omega (arith, size)) refl refl in
    let same : map (edge_of chains) fewer ≡ remove edges place = ap (map (edge_of chains)) one ∙ edges_remove (edge_of chains) list place in
    record {
      one_there = omega (arith, size, out.one_there);
      other_there = omega (arith, length-map {B = ℕ} fewer (edge_of chains), ap length same, out.other_there);
    }

pub leaving : (vertices : SweepVertices) (chains : Chains) (list fewer fewest : List ℕ) (key : ℤ) (vertex : Position) (first second place lower upper : ℕ) → AreChains vertices chains list
    → IsSwept (plan_of vertices) key (edges_of chains list) → IsEvent (plan_of vertices) key vertex first second → BothEnd (plan_of vertices) vertex first second
    → IsCut (plan_of vertices) vertex (edges_of chains list) (take place (edges_of chains list)) (drop place (edges_of chains list)) → place ≤ length list → fewer ≡ remove list place
    → fewest ≡ remove fewer place → lower ≡ slice_index list place → upper ≡ slice_index fewer place → AreLeaving vertices chains list fewest vertex lower upper
leaving vertices chains list fewer fewest key vertex first second place lower upper are swept event ends cut within one_removed other_removed is_lower is_upper =
    let f = edge_of chains in
    let edges = edges_of chains list in
    let outside = outside_of chains in
    let at = leaving_there vertices chains list fewer key vertex first second place swept event ends cut within one_removed in
    let out = both_out (plan_of vertices) key vertex first second place edges (remove edges place) (remove (remove edges place) place) (plan_of_vertices vertices) swept event ends cut
    (omega (arith, length-map {B = ℕ} list f, within)) refl refl in
    let one = takes_out list fewer place (slice_index list place) (drop (place + 1) list) within (drop_first list place at.one_there) one_removed in
    let other = takes_out fewer fewest place (slice_index fewer place) (drop (place + 1) fewer) one.fits (drop_first fewer place at.other_there) other_removed in
    let front = take place list in
    let back = drop (place + 1) fewer in
    let following : drop (place + 1) list ≡ upper ∷ back =
    sym one.rest ∙ drop_first fewer place at.other_there ∙ ap (λ (n : ℕ). n ∷ back) (sym is_upper) in
    let whole : list ≡ front ++ lower ∷ upper ∷ back =
    take_drop list place ∙ ap (λ (l : List ℕ). front ++ l) (drop_first list place at.one_there ∙ ap (λ (n : ℕ). n ∷ drop (place + 1) list) (sym is_lower) ∙ ap (λ (l : List ℕ). lower ∷ l) following) in
    let rest : fewest ≡ front ++ back =
    take_drop fewest place ∙ ap (λ (l : List ℕ). l ++ drop place fewest) (other.front ∙ one.front) ∙ ap (λ (l : List ℕ). front ++ l) other.rest in
    let of_list = λ (n : ℕ) (has : Has (front ++ lower ∷ upper ∷ back) n). subst (λ (l : List ℕ). Has l n) (sym whole) has in
    let differ = ordered_parts (λ (m n : ℕ). m ≢ n) front (lower ∷ upper ∷ back) (subst (Ordered (λ (m n : ℕ). m ≢ n)) whole (chains_differ vertices chains list key swept)) in
    let inside = chains_inside vertices chains list are in
    let fewest_edges : map f fewest ≡ remove (remove edges place) place =
    ap (map f) other_removed ∙ edges_remove f fewer place ∙ ap (λ (l : List ℕ). remove l place) (ap (map f) one_removed ∙ edges_remove f list place) in
    let taken : take place (remove (remove edges place) place) ≡ map f front =
    ap (take place) (sym fewest_edges) ∙ take-map f place fewest ∙ ap (map f) (other.front ∙ one.front) in
    let dropped : drop place (remove (remove edges place) place) ≡ map f back = ap (drop place) (sym fewest_edges) ∙ drop-map f place fewest ∙ ap (map f) other.rest in
    record {
      front = front;
      back = back;
      whole = whole;
      rest = rest;
      lower_known = (are.each lower (of_list lower (has_right front (lower ∷ upper ∷ back) lower (inl refl)))).within;
      upper_known = (are.each upper (of_list upper (has_right front (lower ∷ upper ∷ back) upper (inr (inl refl))))).within;
      parts = record {
        front_differ = differ.0;
        back_differ = ordered_rest upper back (ordered_rest lower (upper ∷ back) differ.1);
        apart = λ m n has there. differ.2 m n has (inr (inr there));
        front_inside = λ n has. each_has (λ (m : ℕ). m ≢ outside) list n inside (of_list n (has_left front (lower ∷ upper ∷ back) n has));
        back_inside = λ n has. each_has (λ (m : ℕ). m ≢ outside) list n inside (of_list n (has_right front (lower ∷ upper ∷ back) n (inr (inr has))));
      };
      beside = linked_pair (above_of chains) (below_of chains) outside front lower upper back (subst (λ (l : List ℕ). LeadsOn (above_of chains) outside l outside) whole are.above)
          (subst (λ (l : List ℕ). LeadsBack (below_of chains) outside l outside) whole are.below);
      over = λ joined. subst (IsSwept (plan_of vertices) (key_of vertex)) (sym fewest_edges)
          (out.over (subst (λ (l : List ℕ). Joined (Tested (plan_of vertices)) l (drop place (remove (remove edges place) place))) (sym taken)
          (subst (Joined (Tested (plan_of vertices)) (map f front)) (sym dropped) joined)));
    }

-- the chains after the vertex
pub chains_end : (vertices : SweepVertices) (before after : Chains) (list fewest : List ℕ) (vertex : Position) (lower upper : ℕ) → AreChains vertices before list
    → (it : AreLeaving vertices before list fewest vertex lower upper) → after.twins.items ≡ before.twins.items → length after.links.items ≡ length before.links.items
    → ((chain : ℕ) → above_of after chain ≡ cond (chain == below_of before lower) (above_of before upper) (above_of before chain))
    → ((chain : ℕ) → below_of after chain ≡ cond (chain == above_of before upper) (below_of before lower) (below_of before chain)) → AreChains vertices after fewest
chains_end vertices before after list fewest vertex lower upper are it twins size above below =
    let outside = outside_of before in
    let same : outside_of after ≡ outside = ap length twins in
    let on = next_without (above_of before) (above_of after) outside it.front lower upper it.back (below_of before lower) it.parts
    (subst (λ (l : List ℕ). LeadsOn (above_of before) outside l outside) it.whole are.above) it.beside.below above in
    let following = previous_without (below_of before) (below_of after) outside it.front lower upper it.back (above_of before upper) it.parts
    (subst (λ (l : List ℕ). LeadsBack (below_of before) outside l outside) it.whole are.below) it.beside.above it.beside.below below in
    record {
      numbers = same ∙ are.numbers;
      links = size ∙ are.links;
      each = λ chain has. still chain (are.each chain (subst (λ (l : List ℕ). Has l chain) (sym it.whole) (among it.front it.back chain (subst (λ (l : List ℕ). Has l chain) it.rest has))));
      above = subst (λ (n : ℕ). LeadsOn (above_of after) n fewest n) (sym same) (subst (λ (l : List ℕ). LeadsOn (above_of after) outside l outside) (sym it.rest) on);
      below = subst (λ (n : ℕ). LeadsBack (below_of after) n fewest n) (sym same) (subst (λ (l : List ℕ). LeadsBack (below_of after) outside l outside) (sym it.rest) following);
    }
  where
    read : (number : ℕ) → edge_of after number ≡ edge_of before number
    read number = ap (λ (l : List ℕ). get_or l number 0) twins

    still : (chain : ℕ) → IsChain vertices before chain → IsChain vertices after chain
    still chain was = record {
      within = was.within;
      back = ap (edge_of after) (read chain) ∙ read (edge_of before chain) ∙ was.back;
      begun = subst (λ (edge : ℕ). (edge ≡ chain) ⊎ (key_of ((plan_of vertices).segment chain).low <ℤ key_of ((plan_of vertices).segment edge).low)) (sym (read chain)) was.begun;
    }

    among : (front back : List ℕ) (chain : ℕ) → Has (front ++ back) chain → Has (front ++ lower ∷ upper ∷ back) chain
    among [] back chain has = inr (inr has)
    among (first ∷ front) back chain (inl same) = inl same
    among (first ∷ front) back chain (inr has) = inr (among front back chain has)

-- their edges
pub edges_kept : (before after : Chains) (list : List ℕ) → after.twins.items ≡ before.twins.items → edges_of after list ≡ edges_of before list
edges_kept before after list twins = ap (λ (l : List ℕ). map (λ (n : ℕ). get_or l n 0) list) twins

-- What is beside the place

abbrev pub AreTestedAcross : SweepVertices → Chains → ℕ → ℕ → Type 0
AreTestedAcross vertices chains below above = IfSome (edge_beside chains below) (λ edge. IfSome (edge_beside chains above) (λ other. Tested (plan_of vertices) edge other))

-- tested edges on both sides are joined
pub joined_across : (vertices : SweepVertices) (chains : Chains) (list fewest : List ℕ) (vertex : Position) (lower upper : ℕ) → (it : AreLeaving vertices chains list fewest vertex lower upper)
    → AreTestedAcross vertices chains (below_of chains lower) (above_of chains upper) → Joined (Tested (plan_of vertices)) (edges_of chains it.front) (edges_of chains it.back)
joined_across vertices chains list fewest vertex lower upper it tested =
    let outside = outside_of chains in
    let plan = plan_of vertices in
    let now = subst (λ (n : ℕ). AreTestedAcross vertices chains (last_of outside it.front) n) it.beside.above (subst (λ (n : ℕ). AreTestedAcross vertices chains n (above_of chains upper)) it.beside.below tested) in
    joined_by_last (Tested plan) chains it.front (edges_of chains it.back) (each_by_has (λ (n : ℕ). n ≢ outside) it.front it.parts.front_inside)
    (some_map (edge_beside chains (last_of outside it.front))
    (λ edge holds. head_by_first (Tested plan) chains it.back edge (each_by_has (λ (n : ℕ). n ≢ outside) it.back it.parts.back_inside) holds) now)

-- they are known, and differ
pub across_known : (vertices : SweepVertices) (chains : Chains) (list fewest : List ℕ) (key : ℤ) (vertex : Position) (lower upper : ℕ)
    → IsSwept (plan_of vertices) key (edges_of chains list) → (it : AreLeaving vertices chains list fewest vertex lower upper)
    → IfSome (edge_beside chains (below_of chains lower)) (λ edge. (edge < sweep_count vertices) × IfSome (edge_beside chains (above_of chains upper)) (λ other. (other < sweep_count vertices) × (other ≢ edge)))
across_known vertices chains list fewest key vertex lower upper swept it =
    let outside = outside_of chains in
    let f = edge_of chains in
    let plan = plan_of vertices in
    let is : edges_of chains list ≡ map f it.front ++ f lower ∷ f upper ∷ map f it.back = ap (map f) it.whole ∙ map-append f it.front (lower ∷ upper ∷ it.back) in
    let of_edges = λ (n : ℕ) (has : Has (map f it.front ++ f lower ∷ f upper ∷ map f it.back) n). (swept.active n (subst (λ (l : List ℕ). Has l n) (sym is) has)).known in
    let differ = ordered_parts (λ (m n : ℕ). m ≢ n) (map f it.front) (f lower ∷ f upper ∷ map f it.back)
    (subst (Ordered (λ (m n : ℕ). m ≢ n)) is (swept_differ plan key (edges_of chains list) (plan_of_vertices vertices) swept)) in
    let back_inside = each_by_has (λ (n : ℕ). n ≢ outside) it.back it.parts.back_inside in
    let Known = λ (below above : ℕ). IfSome (edge_beside chains below) (λ edge. (edge < sweep_count vertices) × IfSome (edge_beside chains above) (λ other. (other < sweep_count vertices) × (other ≢ edge))) in
    let first = first_of it.back outside in
    let known : Known (last_of outside it.front) first =
    last_holds (λ (edge : ℕ). (edge < sweep_count vertices) × IfSome (edge_beside chains first) (λ other. (other < sweep_count vertices) × (other ≢ edge))) chains it.front
    (each_by_has (λ (n : ℕ). n ≢ outside) it.front it.parts.front_inside)
    (each_by_has (λ (edge : ℕ). (edge < sweep_count vertices) × IfSome (edge_beside chains first) (λ other. (other < sweep_count vertices) × (other ≢ edge))) (map f it.front) (λ edge has. (
      of_edges edge (has_left (map f it.front) (f lower ∷ f upper ∷ map f it.back) edge has),
      first_holds (λ (other : ℕ). (other < sweep_count vertices) × (other ≢ edge)) chains it.back back_inside
          (each_by_has (λ (other : ℕ). (other < sweep_count vertices) × (other ≢ edge)) (map f it.back) (λ other there. (
            of_edges other (has_right (map f it.front) (f lower ∷ f upper ∷ map f it.back) other (inr (inr there))),
            (λ same. differ.2 edge other has (inr (inr there)) (sym same)),
          ))),
    ))) in
    subst (λ (n : ℕ). Known n (above_of chains upper)) (sym it.beside.below) (subst (Known (last_of outside it.front)) (sym it.beside.above) known)

-- and within the list of links
pub across_within : (vertices : SweepVertices) (chains : Chains) (list fewest : List ℕ) (vertex : Position) (lower upper : ℕ) → AreChains vertices chains list
    → (it : AreLeaving vertices chains list fewest vertex lower upper) → (below_of chains lower ≤ outside_of chains) × (above_of chains upper ≤ outside_of chains)
across_within vertices chains list fewest vertex lower upper are it =
    let outside = outside_of chains in
    let of_list = λ (n : ℕ) (has : Has (it.front ++ lower ∷ upper ∷ it.back) n). subst (λ (l : List ℕ). Has l n) (sym it.whole) has in (
      subst (λ (n : ℕ). n ≤ outside) (sym it.beside.below) (last_within outside outside it.front (omega arith)
          (chains_within vertices chains list it.front are (λ n has. of_list n (has_left it.front (lower ∷ upper ∷ it.back) n has)))),
      subst (λ (n : ℕ). n ≤ outside) (sym it.beside.above) (first_within outside it.back
          (chains_within vertices chains list it.back are (λ n has. of_list n (has_right it.front (lower ∷ upper ∷ it.back) n (inr (inr has)))))),
    )
