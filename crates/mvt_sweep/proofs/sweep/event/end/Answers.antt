use Rattle.std.proofs.Common.{◌≡◌, ◌≤◌, ℕ, List, length, remove, refl, sym, subst, ◌∙◌, arith}
use Rattle.std.proofs.lemmas.List.Edits.{length-remove}
use Rattle.mvt_plane.specs.Geometry.Measure.{key_of}
use Rattle.mvt_sweep.specs.Calls.Chains.{above_of, below_of, outside_of}
use Rattle.mvt_sweep.specs.Calls.SweepVertices.{sweep_count, plan_of, position_at, previous_at}
use Rattle.mvt_sweep.specs.Calls.Sweep.{IsSwept}
use Rattle.mvt_sweep.proofs.Sweeps.LeastWork.{counted_by}
use Rattle.mvt_sweep.proofs.Chains.ChainEnds.{AreLeaving, AreThere, across_known, across_within, chains_end, edges_kept, joined_across, leaving, leaving_there}
use Rattle.mvt_sweep.proofs.Chains.ChainSteps.{chains_few}
use Rattle.mvt_sweep.proofs.Sweeps.NoMeetings.{none_map}
use Rattle.mvt_sweep.proofs.Sweeps.StatusCounts.{work_then, work_within, work_of_edits}
use Rattle.mvt_status.proofs.Removals.{next_out}
use Rattle.mvt_sweep.proofs.sweep.event.end.Given as given
use Rattle.mvt_sweep.proofs.sweep.event.end.Goals as goal
use Rattle.mvt_sweep.proofs.sweep.event.end.Goals.{After-end_point-point, After-remove_two-lower}

-- the list of the status
abbrev list_of : (g : given.Over) → After-end_point-point g → List ℕ
list_of g c = g.S.Status.edges c.args.status.now

-- the places of the chains that end
there : (g : given.Over) (c : After-end_point-point g) (fewer : List ℕ) → fewer ≡ remove (list_of g c) c.end_point-point.result → AreThere (list_of g c) fewer c.end_point-point.result
there g c fewer removed =
    leaving_there c.args.vertices.now c.args.chains.now (list_of g c) fewer c.requires.next.key (position_at c.args.vertices.now c.args.number) (previous_at c.args.vertices.now c.args.number)
    c.args.number c.end_point-point.result c.requires.next.swept c.requires.next.event c.requires.ends c.end_point-point.ensures.cut c.end_point-point.ensures.within removed

pub remove_two-lower-requires : goal.remove_two-lower-requires
remove_two-lower-requires g c =
    let at = (goal.at.remove_two-lower-requires g c).After-end_point-point in
    let places = there g at _ refl in
    omega (arith, places.other_there, length-remove (list_of g at) c.end_point-point.result places.one_there)

-- the chains that end, among the others
gone : (g : given.Over) (c : After-remove_two-lower g)
    → AreLeaving c.args.vertices.now c.args.chains.now (g.S.Status.edges c.args.status.now) (g.S.Status.edges c.remove_two-lower.new.self) (position_at c.args.vertices.now c.args.number)
    c.remove_two-lower.result.0 c.remove_two-lower.result.1
gone g c =
    leaving c.args.vertices.now c.args.chains.now (g.S.Status.edges c.args.status.now) (remove (g.S.Status.edges c.args.status.now) c.end_point-point.result) (g.S.Status.edges c.remove_two-lower.new.self) c.requires.next.key
    (position_at c.args.vertices.now c.args.number) (previous_at c.args.vertices.now c.args.number) c.args.number c.end_point-point.result c.remove_two-lower.result.0 c.remove_two-lower.result.1
    c.requires.chains c.requires.next.swept c.requires.next.event c.requires.ends c.end_point-point.ensures.cut c.end_point-point.ensures.within refl
    c.remove_two-lower.ensures.list c.remove_two-lower.ensures.lower (c.remove_two-lower.ensures.upper ∙ sym (next_out (g.S.Status.edges c.args.status.now) c.end_point-point.result))

-- what is beside them is in the list of links
within : (g : given.Over) (c : After-remove_two-lower g)
    → (below_of c.args.chains.now c.remove_two-lower.result.0 ≤ outside_of c.args.chains.now) × (above_of c.args.chains.now c.remove_two-lower.result.1 ≤ outside_of c.args.chains.now)
within g c =
    across_within c.args.vertices.now c.args.chains.now (g.S.Status.edges c.args.status.now) (g.S.Status.edges c.remove_two-lower.new.self) (position_at c.args.vertices.now c.args.number)
    c.remove_two-lower.result.0 c.remove_two-lower.result.1 c.requires.chains (gone g c)

pub edge_below-below-requires-clause-within : goal.edge_below-below-requires-clause-within
edge_below-below-requires-clause-within g c =
    omega (arith, (gone g (goal.at.edge_below-below-requires-clause-within g c).After-remove_two-lower).lower_known, c.requires.chains.links)

pub edge_below-below-requires-clause-known : goal.edge_below-below-requires-clause-known
edge_below-below-requires-clause-known g c = (within g (goal.at.edge_below-below-requires-clause-known g c).After-remove_two-lower).0

pub edge_above-above-requires-clause-within : goal.edge_above-above-requires-clause-within
edge_above-above-requires-clause-within g c =
    omega (arith, (gone g (goal.at.edge_above-above-requires-clause-within g c).After-remove_two-lower).upper_known, c.requires.chains.links)

pub edge_above-above-requires-clause-known : goal.edge_above-above-requires-clause-known
edge_above-above-requires-clause-known g c = (within g (goal.at.edge_above-above-requires-clause-known g c).After-remove_two-lower).1

pub end_two-requires-clause-lower : goal.end_two-requires-clause-lower
end_two-requires-clause-lower g c = omega (arith, (gone g (goal.at.end_two-requires-clause-lower g c).After-remove_two-lower).lower_known, c.requires.chains.links)

pub end_two-requires-clause-upper : goal.end_two-requires-clause-upper
end_two-requires-clause-upper g c = omega (arith, (gone g (goal.at.end_two-requires-clause-upper g c).After-remove_two-lower).upper_known, c.requires.chains.links)

pub end_two-requires-clause-below : goal.end_two-requires-clause-below
end_two-requires-clause-below g c =
    omega (arith, (within g (goal.at.end_two-requires-clause-below g c).After-remove_two-lower).0, c.requires.chains.links, c.requires.chains.numbers)

pub end_two-requires-clause-above : goal.end_two-requires-clause-above
end_two-requires-clause-above g c =
    omega (arith, (within g (goal.at.end_two-requires-clause-above g c).After-remove_two-lower).1, c.requires.chains.links, c.requires.chains.numbers)

pub meeting_across-requires : goal.meeting_across-requires
meeting_across-requires g c =
    let at = (goal.at.meeting_across-requires g c).After-remove_two-lower in
    rw (c.edge_below-below.ensures, c.edge_above-above.ensures)
    (across_known c.args.vertices.now c.args.chains.now (g.S.Status.edges c.args.status.now) (g.S.Status.edges c.remove_two-lower.new.self) c.requires.next.key
    (position_at c.args.vertices.now c.args.number) c.remove_two-lower.result.0 c.remove_two-lower.result.1 c.requires.next.swept (gone g at))

pub returns-clause-none : goal.returns-clause-none
returns-clause-none g c =
    let at = (goal.at.returns-clause-none g c).After-remove_two-lower in
    let vertices = c.args.vertices.now in
    let before = c.args.chains.now in
    let after = c.end_two.new.self in
    let vertex = position_at vertices c.args.number in
    let list = g.S.Status.edges c.args.status.now in
    let fewest = g.S.Status.edges c.remove_two-lower.new.self in
    let it = gone g at in
    let chains = chains_end vertices before after list fewest vertex c.remove_two-lower.result.0 c.remove_two-lower.result.1 c.requires.chains it c.end_two.ensures.twins c.end_two.ensures.size
    c.end_two.ensures.above c.end_two.ensures.below in
    let tested = rw (c.edge_below-below.ensures, c.edge_above-above.ensures) at c.meeting_across.ensures.none in
    none_map c.meeting_across.result (λ across. (
      subst (IsSwept (plan_of vertices) (key_of vertex)) (sym (edges_kept before after fewest c.end_two.ensures.twins))
          (it.over (joined_across vertices before list fewest vertex c.remove_two-lower.result.0 c.remove_two-lower.result.1 it across)),
      chains,
    )) tested

pub returns-clause-counted : goal.returns-clause-counted
returns-clause-counted g c =
    let at = (goal.at.returns-clause-counted g c).After-end_point-point in
    let few = chains_few c.args.vertices.now c.args.chains.now (list_of g at) c.requires.next.key c.requires.next.swept in
    let out = work_of_edits 6 (length (list_of g at)) (sweep_count c.args.vertices.now) few c.remove_two-lower.ensures.counted in
    work_within (omega arith) (omega arith) (omega arith) (work_then c.end_point-point.ensures.counted (work_then out c.meeting_across.ensures.counted))

pub returns-clause-least : goal.returns-clause-least
returns-clause-least g c =
    let at = (goal.at.returns-clause-least g c).After-end_point-point in
    counted_by 1 c.args.count.now c.remove_two-lower.new.count c.meeting_across.new.count c.meeting_across.result
    (omega (arith, c.end_point-point.ensures.counted.no_fewer_tests, c.remove_two-lower.ensures.counted.tests))
    (omega (
      arith,
      c.end_point-point.ensures.probed,
      c.remove_two-lower.ensures.counted.no_fewer_probes,
      c.meeting_across.ensures.counted.no_fewer_probes,
    ))
    c.meeting_across.ensures.tested
