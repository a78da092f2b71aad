use Rattle.std.proofs.Common.{◌+◌, ◌*◌, ◌≤◌, ℤ, List}
use Rattle.mvt_plane.specs.Position.{Position}
use Rattle.mvt_status.specs.Counts.{bits, raised}
use Rattle.mvt_sweep.specs.Calls.Chains.{AreChains, edges_of}
use Rattle.mvt_sweep.specs.Work.{AddsWork}
use Rattle.mvt_sweep.specs.Calls.SweepVertices.{sweep_count}
use Rattle.mvt_sweep.specs.Calls.Steps.{AtFirst}
use Rattle.mvt_sweep.proofs.Vertices.TurnCounts.{turns_before}
use Rattle.mvt_sweep.proofs.Notes.SweepNotes.{IsSweptNoting}
use Rattle.mvt_sweep.proofs.sweep.sweep.Given as goal

-- the line went over the vertices so far, with the chains that it meets, with what is noted right up to it, with the work of one step for each, and with
-- a probe for each at least
abbrev pub invariant-loop-at : goal.invariant-loop-at
invariant-loop-at g l = record {
  swept : IsSweptNoting l.vertices l.order l.at (edges_of l.chains (g.S.Status.edges l.status))
      (λ (key : ℤ). (rings : List (List Position)) → AtFirst l.vertices (λ (key : ℤ). g.N.Notes.are_noted rings l.vertices key l.fn.notes) → g.N.Notes.are_noted rings l.vertices key l.notes);
  chains : AreChains l.vertices l.chains (g.S.Status.edges l.status);
  counted : AddsWork (2 * l.at) (l.at + turns_before l.vertices l.order l.at * (2 * bits (sweep_count l.vertices))) (turns_before l.vertices l.order l.at * (12 * bits (sweep_count l.vertices))) l.fn.count l.count;
  least : raised l.at l.fn.count.probes ≤ l.count.probes;
}
