use Rattle.std.proofs.Common.{◌≡◌, ◌↔◌, ℕ, IsTrue, Bool, true, false, true≢false, List, ◌++◌, drop, length, map, take, pos, refl, sym, subst, arith}
use Rattle.std.proofs.lemmas.Int.{ints, by_lt_z}
use Rattle.std.proofs.lemmas.List.{take-map, drop-map}
use Rattle.mvt_plane.specs.Geometry.Measure.{orientation}
use Rattle.mvt_plane.specs.Position.{Position}
use Rattle.mvt_sweep.specs.Calls.Chain.{EachOne}
use Rattle.mvt_sweep.specs.Calls.Chains.{edge_of}
use Rattle.mvt_sweep.specs.Calls.SweepVertices.{sweep_count}
use Rattle.mvt_sweep.specs.Calls.Sweep.{Plan, IsUnder, IsCut}
use Rattle.mvt_sweep.proofs.Chains.ChainEdges.{each_map, each_of_map, parted}
use Rattle.mvt_sweep.proofs.Chains.ChainParts.{split_of_parts, parts_of_split, take_drop}
use Rattle.mvt_sweep.proofs.Sweeps.StatusCounts.{work_of_split}
use Rattle.mvt_status.specs.Split.{IsSplit}
use Rattle.mvt_sweep.proofs.sweep.place.place_of.Goals as goal

-- the answers are those to whether an edge is under the position
abbrev Answers : Plan → Position → ℕ → Bool → Type 0
Answers plan vertex edge answer = IsTrue answer ↔ IsUnder plan vertex edge

-- what isn't true is false
is_false : (answer : Bool) → ¬ (answer ≡ true) → answer ≡ false
is_false true not_true = absurd (not_true refl)
is_false false not_true = refl

-- each edge has an answer
answered : (plan : Plan) (vertex : Position) (edge : ℕ) → (answer : Bool) × Answers plan vertex edge answer × (answer ≡ true → IsUnder plan vertex edge) × (answer ≡ false → ¬ IsUnder plan vertex edge)
answered plan vertex edge = by_lt_z (pos 0) (orientation (plan.segment edge).low (plan.segment edge).high vertex)
    (λ under. (true, ((λ yes. under), (λ it. refl)), (λ yes. under), (λ no. absurd (true≢false no))))
    (λ other. (false, ((λ yes. absurd (true≢false (sym yes))), (λ it. absurd (omega (arith, ints)))), (λ yes. absurd (true≢false (sym yes))), (λ no it. omega (arith, ints))))

-- a cut of the edges is a split of the answers for the chains
splits : (plan : Plan) (here there : Position) (f : ℕ → ℕ) (list : List ℕ) → here ≡ there → (front : List ℕ) × (rest : List ℕ) × IsCut plan there (map f list) front rest
    → (point : ℕ) × IsSplit (λ (chain : ℕ) (answer : Bool). Answers plan here (f chain) answer) list point
splits plan here there f list same (front, rest, cut) =
    let parts = parted f list front rest cut.whole in (
      length parts.front,
      subst (λ (chains : List ℕ). IsSplit (λ (chain : ℕ) (answer : Bool). Answers plan here (f chain) answer) chains (length parts.front)) (sym parts.whole)
          (subst (λ (position : Position). IsSplit (λ (chain : ℕ) (answer : Bool). Answers plan position (f chain) answer) (parts.front ++ parts.rest) (length parts.front)) (sym same)
          (split_of_parts (λ (chain : ℕ). IsUnder plan there (f chain)) (λ (chain : ℕ) (answer : Bool). Answers plan there (f chain) answer) parts.front parts.rest
          (λ it answer is under. is.1 under) (λ it answer is other. is_false answer (λ yes. other (is.0 yes)))
          (each_of_map (IsUnder plan there) f parts.front (subst (EachOne (IsUnder plan there)) (sym parts.front_edges) cut.below))
          (each_of_map (λ (edge : ℕ). ¬ IsUnder plan there edge) f parts.rest (subst (EachOne (λ (edge : ℕ). ¬ IsUnder plan there edge)) (sym parts.rest_edges) cut.others)))),
    )

-- and the other way round
cut_of : (plan : Plan) (here there : Position) (f : ℕ → ℕ) (list : List ℕ) (point : ℕ) → here ≡ there → IsSplit (λ (chain : ℕ) (answer : Bool). Answers plan here (f chain) answer) list point
    → IsCut plan there (map f list) (take point (map f list)) (drop point (map f list))
cut_of plan here there f list point same split =
    let parts = parts_of_split (λ (chain : ℕ). IsUnder plan there (f chain)) (λ (chain : ℕ) (answer : Bool). Answers plan there (f chain) answer) list point (λ it has. answered plan there (f it))
    (subst (λ (position : Position). IsSplit (λ (chain : ℕ) (answer : Bool). Answers plan position (f chain) answer) list point) same split) in
    record {
      whole = take_drop (map f list) point;
      below = subst (EachOne (IsUnder plan there)) (sym (take-map f point list)) (each_map (IsUnder plan there) f (take point list) parts.0);
      others = subst (EachOne (λ (edge : ℕ). ¬ IsUnder plan there edge)) (sym (drop-map f point list)) (each_map (λ (edge : ℕ). ¬ IsUnder plan there edge) f (drop point list) parts.1);
    }

pub split_around-requires-clause-splits : goal.split_around-requires-clause-splits
split_around-requires-clause-splits g c =
    splits _ c.position.result.now _ (edge_of c.args.chains.now) (g.S.Status.edges c.args.status.now) c.position.ensures c.requires.cut

pub returns-clause-cut : goal.returns-clause-cut
returns-clause-cut g c =
    cut_of _ c.position.result.now _ (edge_of c.args.chains.now) (g.S.Status.edges c.args.status.now) c.split_around.result.point c.position.ensures c.split_around.ensures.split

pub returns-clause-counted : goal.returns-clause-counted
returns-clause-counted g c = work_of_split (length (g.S.Status.edges c.args.status.now)) (sweep_count c.args.vertices.now) c.requires.few c.split_around.ensures.counted

pub returns-clause-fewer : goal.returns-clause-fewer
returns-clause-fewer g c = work_of_split (length (g.S.Status.edges c.args.status.now)) (length (g.S.Status.edges c.args.status.now)) (omega arith) c.split_around.ensures.counted
