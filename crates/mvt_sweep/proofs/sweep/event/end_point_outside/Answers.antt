use Rattle.std.proofs.Common.{◌≡◌, ◌≤◌, ◌-◌, ◌⊎◌, inl, inr, ℕ, sym, ◌∙◌, ap}
use Rattle.mvt_sweep.specs.Calls.Chains.{edge_of, edges_of}
use Rattle.mvt_sweep.specs.Calls.SweepVertices.{plan_of, position_at, previous_at}
use Rattle.mvt_sweep.proofs.Chains.ChainExtremes.{IsPlace, highest_place, lowest_place}
use Rattle.mvt_sweep.proofs.sweep.event.end_point_outside.Given as given
use Rattle.mvt_sweep.proofs.sweep.event.end_point_outside.Goals as goal
use Rattle.mvt_sweep.proofs.sweep.event.end_point_outside.Goals.{After-len}

-- the chain that the code compares is that of one of the two edges
one_is : {Apart : Type 0} {one other it its other_its chain : ℕ} → one ≡ its → other ≡ other_its → it ≡ chain → (one ≡ it) ⊎ (Apart × (other ≡ it)) → (its ≡ chain) ⊎ (other_its ≡ chain)
one_is first second same (inl is) = inl (sym first ∙ is ∙ same)
one_is first second same (inr is) = inr (sym second ∙ is.1 ∙ same)

-- the place of the two above all others
place : (g : given.Over) (c : After-len g)
    → IsPlace (plan_of c.args.vertices.now) (position_at c.args.vertices.now c.args.number) (edges_of c.args.chains.now (g.S.Status.edges c.args.status.now)) (c.len.result - 2) × (2 ≤ c.len.result)
place g c =
    let chains = c.args.chains.now in
    let previous = previous_at c.args.vertices.now c.args.number in
    rw (c.len.ensures)
    (highest_place c.args.vertices.now chains (g.S.Status.edges c.args.status.now) c.requires.next.key (position_at c.args.vertices.now c.args.number) previous c.args.number
    c.requires.chains c.requires.next.swept c.requires.next.event c.requires.ends
    (one_is (c.twin-one.ensures ∙ ap (edge_of chains) c.previous.ensures.value) c.twin-other.ensures c.highest-highest.ensures c.if-other-highest.either))

pub overflow_sub-result : goal.overflow_sub-result
overflow_sub-result g c = (place g c).1

pub returns-then-other-lowest-clause-cut : goal.returns-then-other-lowest-clause-cut
returns-then-other-lowest-clause-cut g c =
    let chains = c.args.chains.now in
    let previous = previous_at c.args.vertices.now c.args.number in
    (lowest_place c.args.vertices.now chains (g.S.Status.edges c.args.status.now) c.requires.next.key (position_at c.args.vertices.now c.args.number) previous c.args.number
    c.requires.chains c.requires.next.swept c.requires.next.event c.requires.ends
    (one_is (c.twin-one.ensures ∙ ap (edge_of chains) c.previous.ensures.value) c.twin-other.ensures c.lowest-lowest.ensures c.if-other-lowest.either)).cut

pub returns-then-other-highest-clause-cut : goal.returns-then-other-highest-clause-cut
returns-then-other-highest-clause-cut g c = (place g c).0.cut
