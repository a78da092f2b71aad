use Rattle.std.proofs.Common.{◌<◌, ℕ, Some, None, true≢false, sym, ◌∙◌, subst}
use Rattle.mvt_plane.specs.Position.{Position}
use Rattle.mvt_sweep.specs.Calls.Chains.{edge_of, outside_of}
use Rattle.mvt_sweep.specs.Calls.SweepVertices.{sweep_count, plan_of, position_at}
use Rattle.mvt_sweep.specs.Calls.Sweep.{IsUnder}
use Rattle.mvt_sweep.proofs.Chains.ChainExtremes.{IsPlaceAmong, above_highest, below_lowest, highest_there, lowest_there}
use Rattle.mvt_sweep.proofs.Chains.ChainParts.{each_has}
use Rattle.mvt_sweep.proofs.sweep.place.place_outside.Given as given
use Rattle.mvt_sweep.proofs.sweep.place.place_outside.Goals as goal
use Rattle.mvt_sweep.proofs.sweep.place.place_outside.Goals.{After-highest-highest, After-len, After-lowest-lowest, Then-not-is_below}

-- the highest chain is known
highest_known : (g : given.Over) (c : After-highest-highest g)
    → (c.highest-highest.result < outside_of c.args.chains.now) × (edge_of c.args.chains.now c.highest-highest.result < sweep_count c.args.vertices.now)
highest_known g c =
    let chains = c.args.chains.now in
    let list = g.S.Status.edges c.args.status.now in
    let known = λ (chain : ℕ). (chain < outside_of chains) × (edge_of chains chain < sweep_count c.args.vertices.now) in
    subst known (sym c.highest-highest.ensures) (each_has known list _ c.requires.known (highest_there c.args.vertices.now chains list c.requires.chains c.requires.some))

-- and the lowest one
lowest_known : (g : given.Over) (c : After-lowest-lowest g)
    → (c.lowest-lowest.result < outside_of c.args.chains.now) × (edge_of c.args.chains.now c.lowest-lowest.result < sweep_count c.args.vertices.now)
lowest_known g c =
    let chains = c.args.chains.now in
    let list = g.S.Status.edges c.args.status.now in
    let known = λ (chain : ℕ). (chain < outside_of chains) × (edge_of chains chain < sweep_count c.args.vertices.now) in
    subst known (sym c.lowest-lowest.ensures) (each_has known list _ c.requires.known (lowest_there c.args.vertices.now chains list c.requires.chains c.requires.some))

pub twin-requires : goal.twin-requires
twin-requires g c = (highest_known g (goal.at.twin-requires g c).After-highest-highest).0

pub is_below-requires : goal.is_below-requires
is_below-requires g c =
    record { edge = subst (λ (n : ℕ). n < sweep_count c.args.vertices.now) (sym c.twin.ensures) (highest_known g (goal.at.is_below-requires g c).After-highest-highest).1 }

-- the place above all
above : (g : given.Over) (c : After-len g)
    → IsPlaceAmong (plan_of c.args.vertices.now) c.args.chains.now (position_at c.args.vertices.now c.args.number) (g.S.Status.edges c.args.status.now)
    (record { point = c.len.result; front = Some c.highest-highest.result; following = None })
above g c =
    let vertices = c.args.vertices.now in
    let under = c.is_below.ensures.0 c.if-is_below.true in
    above_highest vertices c.args.chains.now (g.S.Status.edges c.args.status.now) (position_at vertices c.args.number) c.requires.cut.0 c.requires.cut.1 c.highest-highest.result c.len.result
    c.requires.chains c.requires.some c.requires.cut.2 c.highest-highest.ensures c.len.ensures
    (subst (IsUnder (plan_of vertices) (position_at vertices c.args.number)) c.twin.ensures
    (subst (λ (position : Position). IsUnder (plan_of vertices) position c.twin.result) c.position-position.ensures under))

pub returns-then-is_below-clause-cut : goal.returns-then-is_below-clause-cut
returns-then-is_below-clause-cut g c = (above g (goal.at.returns-then-is_below-clause-cut g c).After-len).cut

pub returns-then-is_below-clause-beside : goal.returns-then-is_below-clause-beside
returns-then-is_below-clause-beside g c = (above g (goal.at.returns-then-is_below-clause-beside g c).After-len).beside

pub twin-requires-2 : goal.twin-requires-2
twin-requires-2 g c = (lowest_known g (goal.at.twin-requires-2 g c).After-lowest-lowest).0

pub is_below-requires-2 : goal.is_below-requires-2
is_below-requires-2 g c =
    record { edge = subst (λ (n : ℕ). n < sweep_count c.args.vertices.now) (sym c.twin-2.ensures) (lowest_known g (goal.at.is_below-requires-2 g c).After-lowest-lowest).1 }

-- and the one below all
below : (g : given.Over) (c : Then-not-is_below g)
    → IsPlaceAmong (plan_of c.args.vertices.now) c.args.chains.now (position_at c.args.vertices.now c.args.number) (g.S.Status.edges c.args.status.now)
    (record { point = 0; front = None; following = Some c.lowest-lowest.result })
below g c =
    let vertices = c.args.vertices.now in
    let vertex = position_at vertices c.args.number in
    below_lowest vertices c.args.chains.now (g.S.Status.edges c.args.status.now) vertex c.requires.cut.0 c.requires.cut.1 c.lowest-lowest.result
    c.requires.chains c.requires.some c.requires.cut.2 c.lowest-lowest.ensures
    (λ under. true≢false (sym (c.is_below-2.ensures.1 (subst (λ (position : Position). IsUnder (plan_of vertices) position c.twin-2.result) (sym c.position-position.ensures)
    (subst (IsUnder (plan_of vertices) vertex) (sym c.twin-2.ensures) under))) ∙ c.if-not-is_below.true))

pub returns-then-not-is_below-clause-cut : goal.returns-then-not-is_below-clause-cut
returns-then-not-is_below-clause-cut g c = (below g c).cut

pub returns-then-not-is_below-clause-beside : goal.returns-then-not-is_below-clause-beside
returns-then-not-is_below-clause-beside g c = (below g c).beside
