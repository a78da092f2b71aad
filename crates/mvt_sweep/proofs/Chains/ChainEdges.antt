-- The edges of chains, as lists and beside one another.
use Rattle.std.proofs.Common.{◌≡◌, ◌≢◌, ◌<◌, ◌+◌, inl, inr, ℕ, suc, List, [], ◌∷◌, ◌++◌, drop, insert, length, map, remove, replicate, take, get_or, Option, Some, None, IfSome, refl, sym, ◌∙◌, ap, subst, arith}
use Rattle.std.proofs.lemmas.Bool.Decides.{nat_tests}
use Rattle.std.proofs.lemmas.Grind.{common_steps}
use Rattle.std.proofs.lemmas.List.{drop-map, length-replicate, map-append, take-map}
use Rattle.std.proofs.Math.Seq.{drop-append_seam, take-append_seam}
use Rattle.mvt_sweep.specs.Calls.Chain.{EachOne, Has, Head, Joined, Ordered}
use Rattle.mvt_sweep.specs.Calls.Chains.{AreChains, edge_beside, edge_of, edges_of, no_link, outside_of}
use Rattle.mvt_sweep.specs.Calls.SweepVertices.{sweep_count}
use Rattle.mvt_sweep.specs.declared.sweep.chains.Chains.{Chains}
use Rattle.mvt_sweep.specs.declared.sweep.chains.Link.{Link}
use Rattle.mvt_sweep.specs.declared.sweep.vertices.SweepVertices.{SweepVertices}
use Rattle.mvt_sweep.proofs.Chains.ChainLinks.{first_of, last_of}
use Rattle.mvt_sweep.proofs.Chains.ChainParts.{take_drop}

-- no chains at first
pub no_chains : (vertices : SweepVertices) (chains : Chains) (count : ℕ) (none : Link) → length chains.twins.items ≡ sweep_count vertices
    → ◌≡◌ {A = List Link} chains.links.items (replicate count none) → count ≡ sweep_count vertices + 1 → none.below ≡ sweep_count vertices → none.above ≡ sweep_count vertices
    → AreChains vertices chains []
no_chains vertices chains count none numbers links many below above =
    let here : get_or chains.links.items (outside_of chains) no_link ≡ none = ap (λ (list : List Link). get_or list (outside_of chains) no_link) links ∙ there (outside_of chains) (omega (arith, numbers, many)) in
    record {
      numbers = numbers;
      links = ap length links ∙ length-replicate count none ∙ many;
      each = λ chain has. absurd has;
      above = ap (λ (link : Link). link.above) here ∙ above ∙ sym numbers;
      below = ap (λ (link : Link). link.below) here ∙ below ∙ sym numbers;
    }
  where
    there : (at : ℕ) → at < count → ◌≡◌ {A = Link} (get_or (replicate count none) at no_link) none
    there at within = grind (arith, common_steps)

-- Members

-- what is true of each edge is so of each chain's
pub each_of_map : (P : ℕ → Type 0) (f : ℕ → ℕ) (list : List ℕ) → EachOne P (map f list) → EachOne (λ (it : ℕ). P (f it)) list
each_of_map P f [] all = all
each_of_map P f (first ∷ rest) all = (all.0, each_of_map P f rest all.1)

pub each_map : (P : ℕ → Type 0) (f : ℕ → ℕ) (list : List ℕ) → EachOne (λ (it : ℕ). P (f it)) list → EachOne P (map f list)
each_map P f [] all = all
each_map P f (first ∷ rest) all = (all.0, each_map P f rest all.1)

-- a chain's edge is one of the edges
pub has_edge : (f : ℕ → ℕ) (list : List ℕ) (it : ℕ) → Has list it → Has (map f list) (f it)
has_edge f [] it has = has
has_edge f (first ∷ rest) it (inl same) = inl (ap f same)
has_edge f (first ∷ rest) it (inr has) = inr (has_edge f rest it has)

-- chains whose edges differ do so too
pub differ_by_edges : (f : ℕ → ℕ) (list : List ℕ) → Ordered (λ (one other : ℕ). one ≢ other) (map f list) → Ordered (λ (one other : ℕ). one ≢ other) list
differ_by_edges f [] differ = differ
differ_by_edges f (first ∷ rest) differ = (others rest differ.0, differ_by_edges f rest differ.1)
  where
    others : (rest : List ℕ) → EachOne (λ (that : ℕ). f first ≢ that) (map f rest) → EachOne (λ (that : ℕ). first ≢ that) rest
    others [] all = all
    others (that ∷ rest) all = ((λ same. all.0 (ap f same)), others rest all.1)

-- where two have the same edges for all chains of a list
pub edges_alike : (f g : ℕ → ℕ) (list : List ℕ) → ((it : ℕ) → Has list it → g it ≡ f it) → map g list ≡ map f list
edges_alike f g [] alike = refl
edges_alike f g (first ∷ rest) alike =
    ap (λ (it : ℕ). it ∷ map g rest) (alike first (inl refl)) ∙ ap (λ (list : List ℕ). f first ∷ list) (edges_alike f g rest (λ it has. alike it (inr has)))

-- Parts

-- where the edges are parted, so are the chains
pub record AreParted (f : ℕ → ℕ) (list first last : List ℕ) : Type 0 where
  pub front : List ℕ
  pub rest : List ℕ
  pub whole : list ≡ front ++ rest
  pub front_edges : map f front ≡ first
  pub rest_edges : map f rest ≡ last

pub parted : (f : ℕ → ℕ) (list front rest : List ℕ) → map f list ≡ front ++ rest → AreParted f list front rest
parted f list front rest is = record {
  front = take (length front) list;
  rest = drop (length front) list;
  whole = take_drop list (length front);
  front_edges = sym (take-map f (length front) list) ∙ ap (take (length front)) is ∙ take-append_seam front rest;
  rest_edges = sym (drop-map f (length front) list) ∙ ap (drop (length front)) is ∙ drop-append_seam front rest;
}

-- the chain of a first edge
pub record IsFirst (f : ℕ → ℕ) (list : List ℕ) (edge : ℕ) (edges : List ℕ) : Type 0 where
  pub chain : ℕ
  pub back : List ℕ
  pub whole : list ≡ chain ∷ back
  pub its_edge : f chain ≡ edge

pub first_there : (f : ℕ → ℕ) (list : List ℕ) (edge : ℕ) (edges : List ℕ) → map f list ≡ edge ∷ edges → IsFirst f list edge edges
first_there f [] edge edges is = absurd (none_some is)
  where
    none_some : ¬ ([] ≡ edge ∷ edges)
    none_some is = absurd (cc)
first_there f (chain ∷ back) edge edges is = record { chain = chain; back = back; whole = refl; its_edge = same_first is }
  where
    same_first : f chain ∷ map f back ≡ edge ∷ edges → f chain ≡ edge
    same_first is = cc

-- with one put in at a place
pub edges_insert : (f : ℕ → ℕ) (list : List ℕ) (at it : ℕ) → map f (insert list at it) ≡ insert (map f list) at (f it)
edges_insert f list at it =
    map-append f (take at list) (it ∷ drop at list) ∙ ap (λ (front : List ℕ). front ++ f it ∷ map f (drop at list)) (sym (take-map f at list))
    ∙ ap (λ (rest : List ℕ). take at (map f list) ++ f it ∷ rest) (sym (drop-map f at list))

-- and with one taken out
pub edges_remove : (f : ℕ → ℕ) (list : List ℕ) (at : ℕ) → map f (remove list at) ≡ remove (map f list) at
edges_remove f list at =
    map-append f (take at list) (drop (suc at) list) ∙ ap (λ (front : List ℕ). front ++ map f (drop (suc at) list)) (sym (take-map f at list))
    ∙ ap (λ (rest : List ℕ). take at (map f list) ++ rest) (sym (drop-map f (suc at) list))

-- Beside one another

-- a chain isn't what is outside
beside_there : (chains : Chains) (chain : ℕ) → chain ≢ outside_of chains → edge_beside chains chain ≡ Some (edge_of chains chain)
beside_there chains chain inside = grind (arith, nat_tests)

beside_none : (chains : Chains) → edge_beside chains (outside_of chains) ≡ None
beside_none chains = grind (arith, nat_tests)

-- the last one of a front was tested
pub joined_by_last : (R : ℕ → ℕ → Type 0) (chains : Chains) (front back : List ℕ) → EachOne (λ (it : ℕ). it ≢ outside_of chains) front
    → IfSome (edge_beside chains (last_of (outside_of chains) front)) (λ below. Head R below back) → Joined R (edges_of chains front) back
joined_by_last R chains [] back inside holds = tt
joined_by_last R chains (chain ∷ []) back inside holds = subst (λ (edge : Option ℕ). IfSome edge (λ below. Head R below back)) (beside_there chains chain inside.0) holds
joined_by_last R chains (chain ∷ next ∷ rest) back inside holds = joined_by_last R chains (next ∷ rest) back inside.1 holds

-- and the first one of a back
pub head_by_first : (R : ℕ → ℕ → Type 0) (chains : Chains) (back : List ℕ) (it : ℕ) → EachOne (λ (it : ℕ). it ≢ outside_of chains) back
    → IfSome (edge_beside chains (first_of back (outside_of chains))) (R it) → Head R it (edges_of chains back)
head_by_first R chains [] it inside holds = tt
head_by_first R chains (chain ∷ rest) it inside holds = subst (λ (edge : Option ℕ). IfSome edge (R it)) (beside_there chains chain inside.0) holds

-- what is true of each edge is so of the last one
pub last_holds : (P : ℕ → Type 0) (chains : Chains) (front : List ℕ) → EachOne (λ (it : ℕ). it ≢ outside_of chains) front → EachOne P (edges_of chains front)
    → IfSome (edge_beside chains (last_of (outside_of chains) front)) P
last_holds P chains [] inside all = subst (λ (edge : Option ℕ). IfSome edge P) (sym (beside_none chains)) tt
last_holds P chains (chain ∷ []) inside all = subst (λ (edge : Option ℕ). IfSome edge P) (sym (beside_there chains chain inside.0)) all.0
last_holds P chains (chain ∷ next ∷ rest) inside all = last_holds P chains (next ∷ rest) inside.1 all.1

-- and of the first one
pub first_holds : (P : ℕ → Type 0) (chains : Chains) (back : List ℕ) → EachOne (λ (it : ℕ). it ≢ outside_of chains) back → EachOne P (edges_of chains back)
    → IfSome (edge_beside chains (first_of back (outside_of chains))) P
first_holds P chains [] inside all = subst (λ (edge : Option ℕ). IfSome edge P) (sym (beside_none chains)) tt
first_holds P chains (chain ∷ rest) inside all = subst (λ (edge : Option ℕ). IfSome edge P) (sym (beside_there chains chain inside.0)) all.0
