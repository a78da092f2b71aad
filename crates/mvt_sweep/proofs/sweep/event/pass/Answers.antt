use Rattle.std.proofs.Common.{◌≡◌, ◌≢◌, ◌<◌, ◌≤◌, ◌∙◌, ℕ, Option, IfSome, set, sym, subst, arith}
use Rattle.mvt_sweep.specs.Calls.Chains.{above_of, below_of, edge_beside, outside_of}
use Rattle.mvt_sweep.specs.Calls.SweepVertices.{sweep_count, plan_of, position_at}
use Rattle.mvt_sweep.specs.Calls.Sweep.{Tested}
use Rattle.mvt_sweep.proofs.Chains.ChainSteps.{IsAmong, IsBeside, among, beside, chains_pass, edges_pass, fresh, goes_on}
use Rattle.mvt_sweep.proofs.sweep.event.pass.Given as given
use Rattle.mvt_sweep.proofs.sweep.event.pass.Goals as goal
use Rattle.mvt_sweep.proofs.sweep.event.pass.Goals.{After-twin-chain}

-- the chain of the edge that ends, among the others
there : (g : given.Over) (c : After-twin-chain g) → IsAmong c.args.vertices.now c.args.chains.now (g.S.Status.edges c.args.status.now) (position_at c.args.vertices.now c.args.number) c.args.ending
there g c =
    among c.args.vertices.now c.args.chains.now (g.S.Status.edges c.args.status.now) c.requires.next.key (position_at c.args.vertices.now c.args.number) c.args.ending c.args.beginning
    c.requires.chains c.requires.next.swept c.requires.next.event c.requires.passes

-- what is beside it
sides : (g : given.Over) (c : After-twin-chain g)
    → IsBeside c.args.vertices.now c.args.chains.now (g.S.Status.edges c.args.status.now) (position_at c.args.vertices.now c.args.number) c.args.ending c.args.beginning (there g c)
sides g c =
    beside c.args.vertices.now c.args.chains.now (g.S.Status.edges c.args.status.now) c.requires.next.key (position_at c.args.vertices.now c.args.number) c.args.ending c.args.beginning
    c.requires.chains c.requires.next.swept c.requires.next.event.later c.requires.passes.begins (there g c)

-- it is the one that the code reads
same : (g : given.Over) (c : After-twin-chain g) → c.twin-chain.result ≡ (there g c).chain
same g c = c.twin-chain.ensures ∙ (there g c).its_chain

pub edge_below-requires-clause-within : goal.edge_below-requires-clause-within
edge_below-requires-clause-within g c =
    let at = (goal.at.edge_below-requires-clause-within g c).After-twin-chain in
    omega (arith, same g at, (sides g at).within, c.requires.chains.links)

pub edge_below-requires-clause-known : goal.edge_below-requires-clause-known
edge_below-requires-clause-known g c =
    let at = (goal.at.edge_below-requires-clause-known g c).After-twin-chain in
    subst (λ (chain : ℕ). below_of c.args.chains.now chain ≤ outside_of c.args.chains.now) (sym (same g at)) (sides g at).below_within

pub meeting_with-requires-clause-known : goal.meeting_with-requires-clause-known
meeting_with-requires-clause-known g c =
    let at = (goal.at.meeting_with-requires-clause-known g c).After-twin-chain in
    let chains = c.args.chains.now in
    rw c.edge_below.ensures (subst (λ (chain : ℕ). IfSome (edge_beside chains (below_of chains chain)) (λ other. (other < sweep_count c.args.vertices.now) × (other ≢ c.args.beginning))) (sym (same g at)) (sides g at).below_known)

pub edge_above-requires-clause-within : goal.edge_above-requires-clause-within
edge_above-requires-clause-within g c =
    let at = (goal.at.edge_above-requires-clause-within g c).After-twin-chain in
    omega (arith, same g at, (sides g at).within, c.requires.chains.links)

pub edge_above-requires-clause-known : goal.edge_above-requires-clause-known
edge_above-requires-clause-known g c =
    let at = (goal.at.edge_above-requires-clause-known g c).After-twin-chain in
    subst (λ (chain : ℕ). above_of c.args.chains.now chain ≤ outside_of c.args.chains.now) (sym (same g at)) (sides g at).above_within

pub meeting_with-requires-2-clause-known : goal.meeting_with-requires-2-clause-known
meeting_with-requires-2-clause-known g c =
    let at = (goal.at.meeting_with-requires-2-clause-known g c).After-twin-chain in
    let chains = c.args.chains.now in
    rw c.edge_above.ensures (subst (λ (chain : ℕ). IfSome (edge_beside chains (above_of chains chain)) (λ other. (other < sweep_count c.args.vertices.now) × (other ≢ c.args.beginning))) (sym (same g at)) (sides g at).above_known)

pub go_on-requires-clause-chain : goal.go_on-requires-clause-chain
go_on-requires-clause-chain g c =
    let at = (goal.at.go_on-requires-clause-chain g c).After-twin-chain in
    omega (arith, same g at, (sides g at).within, c.requires.chains.numbers)

pub returns-clause-none : goal.returns-clause-none
returns-clause-none g c =
    let at = (goal.at.returns-clause-none g c).After-twin-chain in
    let vertices = c.args.vertices.now in
    let before = c.args.chains.now in
    let after = c.go_on.new.self in
    let list = g.S.Status.edges c.args.status.now in
    let key = c.requires.next.key in
    let vertex = position_at vertices c.args.number in
    let it = there g at in
    let differ = (fresh vertices before list key vertex c.args.beginning c.requires.chains c.requires.next.swept c.requires.next.event.later c.requires.passes.begins).no_chain it.chain it.has in
    let twins = subst (λ (chain : ℕ). after.twins.items ≡ set (set before.twins.items chain c.args.beginning) c.args.beginning chain) (same g at) c.go_on.ensures.twins in
    let on = goes_on before after it.chain c.args.beginning twins (omega (arith, (sides g at).within, c.requires.chains.numbers))
    (omega (arith, c.requires.next.event.second_known, c.requires.chains.numbers)) differ in
    let tested = λ (beside : Option ℕ). IfSome beside (λ other. Tested (plan_of vertices) c.args.beginning other × Tested (plan_of vertices) other c.args.beginning) in
    let below = subst (λ (chain : ℕ). tested (edge_beside before (below_of before chain))) (same g at) (subst tested c.edge_below.ensures c.in_default.ensures.none) in
    let above = subst (λ (chain : ℕ). tested (edge_beside before (above_of before chain))) (same g at) (subst tested c.edge_above.ensures c.in_default-meeting_with.ensures.none) in (
      edges_pass vertices before after list key vertex c.args.ending c.args.beginning c.requires.chains c.requires.next.swept c.requires.next.event c.requires.passes it on below above,
      chains_pass vertices before after list key vertex c.args.ending c.args.beginning c.requires.chains c.requires.next.swept c.requires.next.event.later c.requires.passes it
          c.go_on.ensures.links on,
    )
