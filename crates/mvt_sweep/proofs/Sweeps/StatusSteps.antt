-- Two edges that begin in one vertex: how many the status has then, and the work of it.
use Rattle.std.proofs.Common.{◌≡◌, ◌≤◌, ℕ, suc, ◌+◌, ◌*◌, List, insert, length, ℤ, sym, subst, arith}
use Rattle.std.proofs.lemmas.List.Edits.{length-insert}
use Rattle.mvt_plane.specs.Counted.{Counted}
use Rattle.mvt_sweep.specs.Calls.VertexOrder.{AddsStep}
use Rattle.mvt_sweep.specs.Work.{AddsWork}
use Rattle.mvt_sweep.specs.Calls.Sweep.{Plan, IsPlan, IsSwept}
use Rattle.mvt_sweep.proofs.Sweeps.StatusCounts.{few_swept, work_then, work_within, work_of_edits}
use Rattle.mvt_status.specs.Counts.{AddsAtMost, bits}

-- with the first of two edges in it the status still has no more edges than there are: both fit
pub few_between : (plan : Plan) (key : ℤ) (place lower upper : ℕ) (edges : List ℕ) → IsPlan plan → place ≤ length edges → IsSwept plan key (insert (insert edges place upper) place lower)
    → suc (length edges) ≤ plan.count
few_between plan key place lower upper edges is_plan within swept =
    let most = few_swept plan key (insert (insert edges place upper) place lower) is_plan swept in
    let longer = length-insert edges place upper within in
    omega (arith, length-insert (insert edges place upper) place lower (omega arith))

-- the work of all: a turn, a probe's worth of a place, two tests beside it, and two edges put in
pub work_of_begin : (edges vertices : ℕ) (start turned untested placed under over done : Counted) → suc edges ≤ vertices → AddsWork 0 1 0 start turned → untested ≡ turned
    → AddsWork 0 (2 * bits vertices) (6 * bits vertices) untested placed → AddsWork 1 0 0 placed under → AddsWork 1 0 0 under over
    → AddsAtMost 0 (6 * bits (suc edges)) over done → AddsWork 2 (1 + 1 * (2 * bits vertices)) (1 * (12 * bits vertices)) start done
work_of_begin edges vertices start turned untested placed under over done few one same three four five six =
    work_within (omega arith) (omega arith) (omega arith)
    (work_then (subst (AddsWork 0 1 0 start) (sym same) one) (work_then three (work_then four (work_then five (work_of_edits 6 (suc edges) vertices few six)))))

-- the work of a step where an edge goes on is within that of a step
pub work_of_pass : (turns vertices : ℕ) {before after : Counted} → AddsWork 2 1 0 before after → AddsStep 2 turns vertices before after
work_of_pass turns vertices work = work_within (omega arith) (omega arith) (omega arith) work

-- so is that of a step over a turn vertex, with no more tests
pub work_of_turn : (tests turns vertices : ℕ) {before after : Counted} → tests ≤ 2 → turns ≡ 1 → AddsStep tests 1 vertices before after → AddsStep 2 turns vertices before after
work_of_turn tests turns vertices few one work = rw one (work_within few (omega arith) (omega arith) work)
