-- What becomes of the chains where two of them begin in a vertex.
use Rattle.std.proofs.Common.{◌≡◌, ◌≢◌, ◌<◌, ◌≤◌, ◌==◌, ◌⊎◌, inl, inr, cond, ℕ, zero, suc, List, [], ◌∷◌, ◌++◌, drop, get_or, insert, length, map, set, slice_get, take, Option, ℤ, ◌<ℤ◌, refl, sym, ◌∙◌, ap, subst, arith}
use Rattle.std.proofs.lemmas.List.{get_or-set_other, get_or-set_same, length-set, length-take-le}
use Rattle.std.specs.Option.{unwrap_or}
use Rattle.mvt_plane.specs.Geometry.Measure.{key_of}
use Rattle.mvt_plane.specs.Position.{Position}
use Rattle.mvt_sweep.specs.Calls.Chain.{Has, Ordered}
use Rattle.mvt_sweep.specs.Calls.Chains.{AreChains, IsChain, LeadsBack, LeadsOn, above_of, below_of, edge_in, edge_of, edges_of, outside_of}
use Rattle.mvt_sweep.specs.Calls.SweepVertices.{sweep_count, plan_of}
use Rattle.mvt_sweep.specs.Calls.Sweep.{BothBegin, IsSwept}
use Rattle.mvt_sweep.specs.declared.sweep.chains.Chains.{Chains}
use Rattle.mvt_sweep.specs.declared.sweep.vertices.SweepVertices.{SweepVertices}
use Rattle.mvt_sweep.proofs.Chains.ChainEdges.{edges_alike, edges_insert}
use Rattle.mvt_sweep.proofs.Chains.ChainLinks.{first_of, last_of, last_taken, leads_after, leads_first}
use Rattle.mvt_sweep.proofs.Chains.ChainParts.{each_has, has_either, has_left, has_right, ordered_parts, take_drop}
use Rattle.mvt_sweep.proofs.Chains.ChainRelinks.{AreNew, ArePartsInside, next_with, previous_with}
use Rattle.mvt_sweep.proofs.Chains.ChainSteps.{IsFresh, chains_differ, chains_inside, chains_within, first_within, fresh, last_within}
use Rattle.mvt_sweep.proofs.Sweeps.StatusPlaces.{parts_at}
use Rattle.mvt_status.specs.Split.{before}

-- Beside a place

-- the edge of the chain at a place
edge_there : (chains : Chains) (list : List ℕ) (at : ℕ) → edge_in chains (slice_get list at) ≡ slice_get (edges_of chains list) at
edge_there chains [] zero = refl
edge_there chains [] (suc at) = refl
edge_there chains (first ∷ rest) zero = refl
edge_there chains (first ∷ rest) (suc at) = edge_there chains rest at

-- and of the one before it
edge_before : (chains : Chains) (list : List ℕ) (at : ℕ) → edge_in chains (before list at) ≡ before (edges_of chains list) at
edge_before chains list zero = refl
edge_before chains list (suc at) = edge_there chains list at

-- as the code finds them
pub edge_in_front : (chains : Chains) (list : List ℕ) (at : ℕ) (chain edge : Option ℕ) → chain ≡ before list at → edge ≡ edge_in chains chain → edge ≡ before (edges_of chains list) at
edge_in_front chains list at chain edge there its = its ∙ ap (edge_in chains) there ∙ edge_before chains list at

pub edge_after : (chains : Chains) (list : List ℕ) (at : ℕ) (chain edge : Option ℕ) → chain ≡ slice_get list at → edge ≡ edge_in chains chain → edge ≡ slice_get (edges_of chains list) at
edge_after chains list at chain edge there its = its ∙ ap (edge_in chains) there ∙ edge_there chains list at

-- Two more

-- the chains around the place of two new ones
pub record AreComing (vertices : SweepVertices) (chains : Chains) (list : List ℕ) (place lower upper : ℕ) : Type 0 where
  pub within : place ≤ length list
  pub lower_known : lower < sweep_count vertices
  pub upper_known : upper < sweep_count vertices
  pub lower_fresh : IsFresh chains list lower
  pub upper_fresh : IsFresh chains list upper
  pub new : AreNew (outside_of chains) (take place list) (drop place list) lower upper
  pub parts : ArePartsInside (outside_of chains) (take place list) (drop place list)
  pub below : unwrap_or (before list place) (outside_of chains) ≡ last_of (outside_of chains) (take place list)
  pub above : above_of chains (last_of (outside_of chains) (take place list)) ≡ first_of (drop place list) (outside_of chains)

pub coming : (vertices : SweepVertices) (chains : Chains) (list : List ℕ) (key : ℤ) (vertex : Position) (place lower upper : ℕ) → AreChains vertices chains list
    → IsSwept (plan_of vertices) key (edges_of chains list) → key <ℤ key_of vertex → BothBegin (plan_of vertices) vertex lower upper → place ≤ length list → lower < sweep_count vertices
    → upper < sweep_count vertices → lower ≢ upper → AreComing vertices chains list place lower upper
coming vertices chains list key vertex place lower upper are swept later begins within lower_known upper_known apart =
    let outside = outside_of chains in
    let front = take place list in
    let back = drop place list in
    let whole : list ≡ front ++ back = take_drop list place in
    let one = fresh vertices chains list key vertex lower are swept later begins.lower_begins in
    let other = fresh vertices chains list key vertex upper are swept later begins.upper_begins in
    let front_has = λ (n : ℕ) (has : Has front n). subst (λ (l : List ℕ). Has l n) (sym whole) (has_left front back n has) in
    let back_has = λ (n : ℕ) (has : Has back n). subst (λ (l : List ℕ). Has l n) (sym whole) (has_right front back n has) in
    let differ = ordered_parts (λ (m n : ℕ). m ≢ n) front back (subst (Ordered (λ (m n : ℕ). m ≢ n)) whole (chains_differ vertices chains list key swept)) in
    let inside = chains_inside vertices chains list are in
    record {
      within = within;
      lower_known = lower_known;
      upper_known = upper_known;
      lower_fresh = one;
      upper_fresh = other;
      new = record {
        differ = apart;
        lower_front = λ n has. one.no_chain n (front_has n has);
        upper_front = λ n has. other.no_chain n (front_has n has);
        lower_back = λ n has. one.no_chain n (back_has n has);
        upper_back = λ n has. other.no_chain n (back_has n has);
        lower_inside = not_outside lower lower_known;
        upper_inside = not_outside upper upper_known;
      };
      parts = record {
        front_differ = differ.0;
        back_differ = differ.1;
        apart = differ.2;
        front_inside = λ n has. each_has (λ (m : ℕ). m ≢ outside) list n inside (front_has n has);
        back_inside = λ n has. each_has (λ (m : ℕ). m ≢ outside) list n inside (back_has n has);
      };
      below = last_taken list place outside within;
      above = leads_first (above_of chains) (last_of outside front) back outside
          (leads_after (above_of chains) outside front back outside (subst (λ (l : List ℕ). LeadsOn (above_of chains) outside l outside) whole are.above));
    }
  where
    not_outside : (number : ℕ) → number < sweep_count vertices → outside_of chains ≢ number
    not_outside number known same = omega (arith, known, same, are.numbers)

-- what is beside the place is in the list of links
pub coming_within : (vertices : SweepVertices) (chains : Chains) (list : List ℕ) (place lower upper : ℕ) → AreChains vertices chains list → AreComing vertices chains list place lower upper
    → (unwrap_or (before list place) (outside_of chains) ≤ outside_of chains) × (above_of chains (unwrap_or (before list place) (outside_of chains)) ≤ outside_of chains)
coming_within vertices chains list place lower upper are it =
    let outside = outside_of chains in
    let front = take place list in
    let back = drop place list in
    let whole : list ≡ front ++ back = take_drop list place in
    let below : last_of outside front ≤ outside = last_within outside outside front (omega arith)
    (chains_within vertices chains list front are (λ n has. subst (λ (l : List ℕ). Has l n) (sym whole) (has_left front back n has))) in
    let above : first_of back outside ≤ outside = first_within outside back
    (chains_within vertices chains list back are (λ n has. subst (λ (l : List ℕ). Has l n) (sym whole) (has_right front back n has))) in (
      subst (λ (n : ℕ). n ≤ outside) (sym it.below) below,
      subst (λ (n : ℕ). above_of chains n ≤ outside) (sym it.below) (subst (λ (n : ℕ). n ≤ outside) (sym it.above) above),
    )

-- what is read where two begin
pub record BeginTwo (before after : Chains) (lower upper : ℕ) : Type 0 where
  pub size : length after.twins.items ≡ length before.twins.items
  pub lower_own : edge_of after lower ≡ lower
  pub upper_own : edge_of after upper ≡ upper
  pub others : (it : ℕ) → it ≢ lower → it ≢ upper → edge_of after it ≡ edge_of before it

pub two_begin : (before after : Chains) (lower upper : ℕ) → after.twins.items ≡ set (set before.twins.items lower lower) upper upper → lower < length before.twins.items
    → upper < length before.twins.items → lower ≢ upper → BeginTwo before after lower upper
two_begin before after lower upper is lower_known upper_known differ =
    let twins = before.twins.items in
    let once = set twins lower lower in
    let read = λ (it : ℕ). ap (λ (list : List ℕ). get_or list it 0) is in
    record {
      size = ap length is ∙ length-set once upper upper ∙ length-set twins lower lower;
      lower_own = read lower ∙ get_or-set_other once upper lower upper 0 differ ∙ get_or-set_same twins lower lower 0 lower_known;
      upper_own = read upper ∙ get_or-set_same once upper upper 0 (omega (arith, upper_known, length-set twins lower lower));
      others = λ it one other. read it ∙ get_or-set_other once upper it upper 0 other ∙ get_or-set_other twins lower it lower 0 one;
    }

-- the list with two more
more_list : (list : List ℕ) (place lower upper : ℕ) → place ≤ length list → insert (insert list place upper) place lower ≡ take place list ++ lower ∷ upper ∷ drop place list
more_list list place lower upper within =
    let front = take place list in
    let parts = parts_at front (upper ∷ drop place list) place (length-take-le place list within) in
    ap (λ (l : List ℕ). l ++ lower ∷ drop place (front ++ upper ∷ drop place list)) parts.0 ∙ ap (λ (l : List ℕ). front ++ lower ∷ l) parts.1

-- the chains after the vertex
pub chains_begin : (vertices : SweepVertices) (before_it after : Chains) (list fuller : List ℕ) (place lower upper below : ℕ) → AreChains vertices before_it list
    → AreComing vertices before_it list place lower upper → fuller ≡ insert (insert list place upper) place lower → below ≡ unwrap_or (before list place) (outside_of before_it)
    → BeginTwo before_it after lower upper → length after.links.items ≡ length before_it.links.items
    → ((chain : ℕ) → above_of after chain ≡ cond (chain == upper) (above_of before_it below) (cond (chain == lower) upper (cond (chain == below) lower (above_of before_it chain))))
    → ((chain : ℕ) → below_of after chain ≡ cond (chain == above_of before_it below) upper (cond (chain == upper) lower (cond (chain == lower) below (below_of before_it chain))))
    → AreChains vertices after fuller
chains_begin vertices before_it after list fuller place lower upper below are it is is_below begun size above_is below_is =
    let outside = outside_of before_it in
    let front = take place list in
    let back = drop place list in
    let whole : list ≡ front ++ back = take_drop list place in
    let full : fuller ≡ front ++ lower ∷ upper ∷ back = is ∙ more_list list place lower upper it.within in
    let last : below ≡ last_of outside front = is_below ∙ it.below in
    let on = next_with (above_of before_it) (above_of after) outside front back lower upper below it.parts it.new (subst (λ (l : List ℕ). LeadsOn (above_of before_it) outside l outside) whole are.above) last above_is in
    let following = previous_with (below_of before_it) (below_of after) outside front back lower upper below (above_of before_it below) it.parts it.new
    (subst (λ (l : List ℕ). LeadsBack (below_of before_it) outside l outside) whole are.below) last (ap (above_of before_it) last ∙ it.above) below_is in
    record {
      numbers = begun.size ∙ are.numbers;
      links = size ∙ are.links;
      each = λ chain has. each_chain chain (has_either front (lower ∷ upper ∷ back) chain (subst (λ (l : List ℕ). Has l chain) full has));
      above = subst (λ (n : ℕ). LeadsOn (above_of after) n fuller n) (sym begun.size) (subst (λ (l : List ℕ). LeadsOn (above_of after) outside l outside) (sym full) on);
      below = subst (λ (n : ℕ). LeadsBack (below_of after) n fuller n) (sym begun.size) (subst (λ (l : List ℕ). LeadsBack (below_of after) outside l outside) (sym full) following);
    }
  where
    old : (chain : ℕ) → Has list chain → IsChain vertices after chain
    old chain has =
        let was = are.each chain has in
        let its : edge_of after chain ≡ edge_of before_it chain = begun.others chain (it.lower_fresh.no_chain chain has) (it.upper_fresh.no_chain chain has) in
        let back = begun.others (edge_of before_it chain) (it.lower_fresh.no_edge chain has) (it.upper_fresh.no_edge chain has) in
        record {
          within = was.within;
          back = ap (edge_of after) its ∙ back ∙ was.back;
          begun = subst (λ (edge : ℕ). (edge ≡ chain) ⊎ (key_of ((plan_of vertices).segment chain).low <ℤ key_of ((plan_of vertices).segment edge).low)) (sym its) was.begun;
        }

    own : (chain : ℕ) → chain < sweep_count vertices → edge_of after chain ≡ chain → IsChain vertices after chain
    own chain within is = record { within = within; back = ap (edge_of after) is ∙ is; begun = inl is }

    each_chain : (chain : ℕ) → Has (take place list) chain ⊎ Has (lower ∷ upper ∷ drop place list) chain → IsChain vertices after chain
    each_chain chain (inl has) = old chain (subst (λ (l : List ℕ). Has l chain) (sym (take_drop list place)) (has_left (take place list) (drop place list) chain has))
    each_chain chain (inr (inl same)) = subst (IsChain vertices after) same (own lower it.lower_known begun.lower_own)
    each_chain chain (inr (inr (inl same))) = subst (IsChain vertices after) same (own upper it.upper_known begun.upper_own)
    each_chain chain (inr (inr (inr has))) = old chain (subst (λ (l : List ℕ). Has l chain) (sym (take_drop list place)) (has_right (take place list) (drop place list) chain has))

-- and their edges
pub edges_begin : (vertices : SweepVertices) (before_it after : Chains) (list fuller : List ℕ) (place lower upper : ℕ) → AreComing vertices before_it list place lower upper
    → fuller ≡ insert (insert list place upper) place lower → BeginTwo before_it after lower upper
    → edges_of after fuller ≡ insert (insert (edges_of before_it list) place upper) place lower
edges_begin vertices before_it after list fuller place lower upper it is begun =
    let g = edge_of after in
    let kept : map g list ≡ edges_of before_it list = edges_alike (edge_of before_it) g list (λ n has. begun.others n (it.lower_fresh.no_chain n has) (it.upper_fresh.no_chain n has)) in
    ap (map g) is ∙ edges_insert g (insert list place upper) place lower ∙ ap (λ (l : List ℕ). insert l place (g lower)) (edges_insert g list place upper)
    ∙ ap (λ (n : ℕ). insert (insert (map g list) place (g upper)) place n) begun.lower_own ∙ ap (λ (n : ℕ). insert (insert (map g list) place n) place lower) begun.upper_own
    ∙ ap (λ (l : List ℕ). insert (insert l place upper) place lower) kept
