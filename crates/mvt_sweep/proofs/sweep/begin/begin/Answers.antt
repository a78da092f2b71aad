use Rattle.std.proofs.Common.{◌≡◌, ◌≢◌, ◌<◌, ◌≤◌, inl, inr, ◌∙◌, ℕ, List, Option, drop, insert, length, slice_get, take, refl, sym, ap, subst, arith}
use Rattle.std.specs.Option.{unwrap_or}
use Rattle.std.proofs.lemmas.List.{length-map}
use Rattle.mvt_plane.specs.Geometry.Measure.{key_of}
use Rattle.mvt_status.specs.Split.{before}
use Rattle.mvt_sweep.specs.Calls.Chains.{above_of, edge_of, edges_of, outside_of}
use Rattle.mvt_sweep.specs.Calls.VertexOrder.{AddsStep}
use Rattle.mvt_sweep.specs.Calls.SweepVertices.{sweep_count, plan_of, position_at, previous_at}
use Rattle.mvt_sweep.specs.Calls.Sweep.{IsCut, IsSwept}
use Rattle.mvt_sweep.proofs.Chains.ChainBegins.{AreComing, BeginTwo, chains_begin, coming, coming_within, edge_after, edge_in_front, edges_begin, two_begin}
use Rattle.mvt_sweep.proofs.Chains.ChainSteps.{chains_few, chains_known}
use Rattle.mvt_sweep.proofs.Vertices.VertexPlans.{plan_of_vertices}
use Rattle.mvt_sweep.proofs.Sweeps.StatusPlaces.{others_known, each_before, each_after, some_map, tested_before, tested_after, begin_in_order}
use Rattle.mvt_sweep.proofs.Sweeps.StatusSteps.{few_between, work_of_begin}
use Rattle.mvt_sweep.proofs.Sweeps.SweepSlabs.{split}
use Rattle.mvt_sweep.proofs.sweep.begin.begin.Given as given
use Rattle.mvt_sweep.proofs.sweep.begin.begin.Goals as goal
use Rattle.mvt_sweep.proofs.sweep.begin.begin.Goals.{After-place_from_outside-place, After-insert_two, After-unwrap_or, After-begin_two}

pub place_from_outside-place-requires-clause-known : goal.place_from_outside-place-requires-clause-known
place_from_outside-place-requires-clause-known g c = chains_known c.args.vertices.now c.args.chains.now (g.S.Status.edges c.args.status.now) c.requires.next.key c.requires.chains c.requires.next.swept

pub place_from_outside-place-requires-clause-few : goal.place_from_outside-place-requires-clause-few
place_from_outside-place-requires-clause-few g c = chains_few c.args.vertices.now c.args.chains.now (g.S.Status.edges c.args.status.now) c.requires.next.key c.requires.next.swept

pub place_from_outside-place-requires-clause-cut : goal.place_from_outside-place-requires-clause-cut
place_from_outside-place-requires-clause-cut g c =
    split (plan_of c.args.vertices.now) c.requires.next.key (position_at c.args.vertices.now c.args.number) (previous_at c.args.vertices.now c.args.number) c.args.number
    (edges_of c.args.chains.now (g.S.Status.edges c.args.status.now)) (plan_of_vertices c.args.vertices.now) c.requires.next.swept c.requires.next.event

pub with_edges-edges-requires-clause-front : goal.with_edges-edges-requires-clause-front
with_edges-edges-requires-clause-front g c =
    some_map c.place_from_outside-place.result.front (λ chain known. known.0)
    (each_before (λ (chain : ℕ). (chain < outside_of c.args.chains.now) × (edge_of c.args.chains.now chain < sweep_count c.args.vertices.now)) (g.S.Status.edges c.args.status.now)
    c.place_from_outside-place.result.point c.place_from_outside-place.result.front
    (chains_known c.args.vertices.now c.args.chains.now (g.S.Status.edges c.args.status.now) c.requires.next.key c.requires.chains c.requires.next.swept) c.place_from_outside-place.ensures.beside.front)

pub with_edges-edges-requires-clause-following : goal.with_edges-edges-requires-clause-following
with_edges-edges-requires-clause-following g c =
    some_map c.place_from_outside-place.result.following (λ chain known. known.0)
    (each_after (λ (chain : ℕ). (chain < outside_of c.args.chains.now) × (edge_of c.args.chains.now chain < sweep_count c.args.vertices.now)) (g.S.Status.edges c.args.status.now)
    c.place_from_outside-place.result.point c.place_from_outside-place.result.following
    (chains_known c.args.vertices.now c.args.chains.now (g.S.Status.edges c.args.status.now) c.requires.next.key c.requires.chains c.requires.next.swept) c.place_from_outside-place.ensures.beside.following)

pub meeting_with-requires-clause-known : goal.meeting_with-requires-clause-known
meeting_with-requires-clause-known g c =
    let edges = edges_of c.args.chains.now (g.S.Status.edges c.args.status.now) in
    each_before (λ (other : ℕ). (other < sweep_count c.args.vertices.now) × (other ≢ c.in_order-lower.result.0)) edges c.place_from_outside-place.result.point c.with_edges-edges.result.front
    (others_known (plan_of c.args.vertices.now) c.requires.next.key (position_at c.args.vertices.now c.args.number) edges edges c.in_order-lower.result.0
    c.requires.next.swept c.requires.next.event.later c.in_order-lower.ensures.begin.lower_begins (λ it has. has))
    (edge_in_front c.args.chains.now (g.S.Status.edges c.args.status.now) c.place_from_outside-place.result.point c.place_from_outside-place.result.front c.with_edges-edges.result.front
    c.place_from_outside-place.ensures.beside.front c.with_edges-edges.ensures.front)

pub meeting_with-requires-2-clause-known : goal.meeting_with-requires-2-clause-known
meeting_with-requires-2-clause-known g c =
    let edges = edges_of c.args.chains.now (g.S.Status.edges c.args.status.now) in
    each_after (λ (other : ℕ). (other < sweep_count c.args.vertices.now) × (other ≢ c.in_order-lower.result.1)) edges c.place_from_outside-place.result.point c.with_edges-edges.result.following
    (others_known (plan_of c.args.vertices.now) c.requires.next.key (position_at c.args.vertices.now c.args.number) edges edges c.in_order-lower.result.1
    c.requires.next.swept c.requires.next.event.later c.in_order-lower.ensures.begin.upper_begins (λ it has. has))
    (edge_after c.args.chains.now (g.S.Status.edges c.args.status.now) c.place_from_outside-place.result.point c.place_from_outside-place.result.following c.with_edges-edges.result.following
    c.place_from_outside-place.ensures.beside.following c.with_edges-edges.ensures.following)

-- the two that begin, among the others
two : (g : given.Over) (c : After-place_from_outside-place g)
    → AreComing c.args.vertices.now c.args.chains.now (g.S.Status.edges c.args.status.now) c.place_from_outside-place.result.point c.in_order-lower.result.0 c.in_order-lower.result.1
two g c =
    let event = c.requires.next.event in
    let pair = c.in_order-lower.result in
    let known : (pair.0 < sweep_count c.args.vertices.now) × (pair.1 < sweep_count c.args.vertices.now) × (pair.0 ≢ pair.1) = elim c.in_order-lower.ensures.pair [
      | inl forward ↦ rw forward (event.first_known, event.second_known, event.differ)
      | inr backward ↦ rw backward (event.second_known, event.first_known, (λ same. event.differ (sym same)))
    ] in
    coming c.args.vertices.now c.args.chains.now (g.S.Status.edges c.args.status.now) c.requires.next.key (position_at c.args.vertices.now c.args.number) c.place_from_outside-place.result.point
    pair.0 pair.1 c.requires.chains c.requires.next.swept event.later c.in_order-lower.ensures.begin c.place_from_outside-place.ensures.within known.0 known.1 known.2

-- the chain below the place that the code reads
below_is : (g : given.Over) (c : After-unwrap_or g) → c.unwrap_or.result ≡ unwrap_or (before (g.S.Status.edges c.args.status.now) c.place_from_outside-place.result.point) (outside_of c.args.chains.now)
below_is g c = c.unwrap_or.ensures ∙ ap (unwrap_or c.place_from_outside-place.result.front) c.outside.ensures ∙ ap (λ (chain : Option ℕ). unwrap_or chain (outside_of c.args.chains.now)) c.place_from_outside-place.ensures.beside.front

pub begin_two-requires-clause-below : goal.begin_two-requires-clause-below
begin_two-requires-clause-below g c =
    subst (λ (n : ℕ). n ≤ outside_of c.args.chains.now) (sym (below_is g (goal.at.begin_two-requires-clause-below g c).After-unwrap_or))
    (coming_within c.args.vertices.now c.args.chains.now (g.S.Status.edges c.args.status.now) c.place_from_outside-place.result.point c.in_order-lower.result.0 c.in_order-lower.result.1 c.requires.chains
    (two g (goal.at.begin_two-requires-clause-below g c).After-place_from_outside-place)).0

pub begin_two-requires-clause-above : goal.begin_two-requires-clause-above
begin_two-requires-clause-above g c =
    subst (λ (n : ℕ). above_of c.args.chains.now n ≤ outside_of c.args.chains.now) (sym (below_is g (goal.at.begin_two-requires-clause-above g c).After-unwrap_or))
    (coming_within c.args.vertices.now c.args.chains.now (g.S.Status.edges c.args.status.now) c.place_from_outside-place.result.point c.in_order-lower.result.0 c.in_order-lower.result.1 c.requires.chains
    (two g (goal.at.begin_two-requires-clause-above g c).After-place_from_outside-place)).1

-- with both edges among the others the line is after the vertex
over : (g : given.Over) (c : After-insert_two g) (most : List ℕ)
    → most ≡ insert (insert (edges_of c.args.chains.now (g.S.Status.edges c.args.status.now)) c.place_from_outside-place.result.point c.in_order-lower.result.1) c.place_from_outside-place.result.point c.in_order-lower.result.0
    → IsSwept (plan_of c.args.vertices.now) (key_of (position_at c.args.vertices.now c.args.number)) most
over g c most is =
    let vertices = c.args.vertices.now in
    let plan = plan_of vertices in
    let list = g.S.Status.edges c.args.status.now in
    let edges = edges_of c.args.chains.now list in
    let place = c.place_from_outside-place in
    let within : place.result.point ≤ length edges = omega (arith, place.ensures.within, length-map {B = ℕ} list (edge_of c.args.chains.now)) in
    let below = tested_before plan edges place.result.point c.in_order-lower.result.0 c.with_edges-edges.result.front within
    (edge_in_front c.args.chains.now list place.result.point place.result.front c.with_edges-edges.result.front place.ensures.beside.front c.with_edges-edges.ensures.front)
    c.in_default-meeting_with.ensures.none in
    let above = tested_after plan edges place.result.point c.in_order-lower.result.1 c.with_edges-edges.result.following
    (edge_after c.args.chains.now list place.result.point place.result.following c.with_edges-edges.result.following place.ensures.beside.following c.with_edges-edges.ensures.following)
    c.in_default-meeting_with-2.ensures.none in
    begin_in_order plan c.requires.next.key (position_at vertices c.args.number) (previous_at vertices c.args.number) c.args.number c.in_order-lower.result place.result.point edges _ most
    (plan_of_vertices vertices) c.requires.next.swept c.requires.next.event c.in_order-lower.ensures.pair c.in_order-lower.ensures.begin
    within place.ensures.cut c.in_default.ensures.none below above refl is

-- the work of all
work : (g : given.Over) (c : After-insert_two g) → AddsStep 2 1 (sweep_count c.args.vertices.now) c.args.count.now c.insert_two.new.count
work g c =
    let vertices = c.args.vertices.now in
    let list = g.S.Status.edges c.args.status.now in
    let size = length-map {B = ℕ} list (edge_of c.args.chains.now) in
    let few = few_between (plan_of vertices) (key_of (position_at vertices c.args.number)) c.place_from_outside-place.result.point c.in_order-lower.result.0 c.in_order-lower.result.1
    (edges_of c.args.chains.now list) (plan_of_vertices vertices) (omega (arith, size, c.place_from_outside-place.ensures.within)) (over g c _ refl) in
    work_of_begin (length list) (sweep_count vertices) c.args.count.now c.turn-turn.new.count c.meeting_of_both.new.count c.place_from_outside-place.new.count c.meeting_with.new.count
    c.meeting_with-2.new.count c.insert_two.new.count (omega (arith, few, size)) c.turn-turn.ensures.counted c.in_default.ensures.untested c.place_from_outside-place.ensures.counted
    c.meeting_with.ensures.counted c.meeting_with-2.ensures.counted c.insert_two.ensures.counted

pub returns-in_err-insert_two-clause-counted : goal.returns-in_err-insert_two-clause-counted
returns-in_err-insert_two-clause-counted g c = work g (goal.at.returns-in_err-insert_two-clause-counted g c).After-insert_two

pub returns-clause-counted : goal.returns-clause-counted
returns-clause-counted g c = work g (goal.at.returns-clause-counted g c).After-insert_two

-- what is read of the two chains
begun : (g : given.Over) (c : After-begin_two g) (it : AreComing c.args.vertices.now c.args.chains.now (g.S.Status.edges c.args.status.now) c.place_from_outside-place.result.point c.in_order-lower.result.0 c.in_order-lower.result.1)
    → BeginTwo c.args.chains.now c.begin_two.new.self c.in_order-lower.result.0 c.in_order-lower.result.1
begun g c it =
    two_begin c.args.chains.now c.begin_two.new.self c.in_order-lower.result.0 c.in_order-lower.result.1 c.begin_two.ensures.twins (omega (arith, it.lower_known, c.requires.chains.numbers))
    (omega (arith, it.upper_known, c.requires.chains.numbers)) it.new.differ

pub returns-clause-step : goal.returns-clause-step
returns-clause-step g c =
    let at = goal.at.returns-clause-step g c in
    let it = two g at.After-place_from_outside-place in
    let chains = c.args.chains.now in
    let list = g.S.Status.edges c.args.status.now in
    let place = c.place_from_outside-place in
    let edges = c.with_edges-edges in
    let same = edges.ensures.point in
    let size = length-map {B = ℕ} list (edge_of chains) in
    let done = over g at.After-insert_two (edges_of c.begin_two.new.self (g.S.Status.edges c.insert_two.new.self))
    (edges_begin c.args.vertices.now chains c.begin_two.new.self list (g.S.Status.edges c.insert_two.new.self) place.result.point c.in_order-lower.result.0 c.in_order-lower.result.1 it
    c.in_ok-insert_two.ensures.list (begun g at.After-begin_two it)) in (
      done,
      record {
        begin = c.requires.begin;
        within = omega (arith, same, size, place.ensures.within);
        cut = subst (λ (at : ℕ). IsCut (plan_of c.args.vertices.now) (position_at c.args.vertices.now c.args.number) (edges_of chains list) (take at (edges_of chains list)) (drop at (edges_of chains list)))
            (sym same) place.ensures.cut;
        beside = record {
          front = subst (λ (at : ℕ). edges.result.front ≡ before (edges_of chains list) at) (sym same)
              (edge_in_front chains list place.result.point place.result.front edges.result.front place.ensures.beside.front edges.ensures.front);
          following = subst (λ (at : ℕ). edges.result.following ≡ slice_get (edges_of chains list) at) (sym same)
              (edge_after chains list place.result.point place.result.following edges.result.following place.ensures.beside.following edges.ensures.following);
        };
      },
    )

pub returns-clause-chains : goal.returns-clause-chains
returns-clause-chains g c =
    let at = goal.at.returns-clause-chains g c in
    let it = two g at.After-place_from_outside-place in
    chains_begin c.args.vertices.now c.args.chains.now c.begin_two.new.self (g.S.Status.edges c.args.status.now) (g.S.Status.edges c.insert_two.new.self) c.place_from_outside-place.result.point
    c.in_order-lower.result.0 c.in_order-lower.result.1 c.unwrap_or.result c.requires.chains it c.in_ok-insert_two.ensures.list (below_is g at.After-unwrap_or)
    (begun g at.After-begin_two it) c.begin_two.ensures.size c.begin_two.ensures.above c.begin_two.ensures.below

pub returns-clause-least : goal.returns-clause-least
returns-clause-least g c =
    omega (
      arith,
      c.turn-turn.ensures.probed,
      c.meeting_of_both.ensures.counted.no_fewer_probes,
      c.place_from_outside-place.ensures.counted.no_fewer_probes,
      c.meeting_with.ensures.counted.no_fewer_probes,
      c.meeting_with-2.ensures.counted.no_fewer_probes,
      c.insert_two.ensures.counted.no_fewer_probes,
    )
