use Rattle.std.proofs.Common.{◌<◌, ◌≤◌, ◌*◌, ℕ, length, subst, arith}
use Rattle.mvt_plane.specs.Counted.{Counted}
use Rattle.mvt_sweep.specs.Work.{AddsWork}
use Rattle.mvt_sweep.specs.Calls.SweepVertices.{sweep_count}
use Rattle.mvt_sweep.proofs.Sweeps.StatusCounts.{work_then, work_within}
use Rattle.mvt_status.specs.Counts.{bits}
use Rattle.mvt_status.proofs.BinaryDigits.{digits_of_half, lesser_exponent, within_digits}
use Rattle.mvt_sweep.proofs.sweep.place.place_from_outside.Goals as goal
use Rattle.mvt_sweep.proofs.sweep.place.place_from_outside.Goals.{then-len-gt-FEW_CHAINS+then-len+in_default, else-len-gt-FEW_CHAINS}

-- two probes more than to search half as many chains or fewer are no more than are promised
work_of_both : (edges vertices : ℕ) {before between after : Counted} → 0 < edges → edges * 2 ≤ vertices → AddsWork 0 2 0 before between → AddsWork 0 (2 * bits edges) (6 * bits edges) between after
    → AddsWork 0 (2 * bits vertices) (6 * bits vertices) before after
work_of_both edges vertices some few first second =
    let digits = digits_of_half edges vertices (omega (arith, some, few)) few in
    work_within (omega arith) (omega (arith, digits)) (omega (arith, digits)) (work_then first second)

pub returns-in-Some-clause-counted : goal.returns-in-Some-clause-counted
returns-in-Some-clause-counted g c =
    let vertices = sweep_count c.args.vertices.now in
    let some : 1 ≤ bits vertices = lesser_exponent 0 (bits vertices) (omega (arith, within_digits vertices, c.requires.number)) in
    work_within (omega arith) (omega (arith, some)) (omega arith) c.place_outside.ensures.counted

pub returns-clause-counted : goal.returns-clause-counted
returns-clause-counted g c = elim c.if-len-gt-FEW_CHAINS.branch [
  | then-len-gt-FEW_CHAINS+then-len+in_default w ↦
      let edges = length (g.S.Status.edges c.args.status.now) in
      let vertices = sweep_count c.args.vertices.now in
      work_of_both edges vertices (omega (arith, w.if-len-gt-FEW_CHAINS.true, c.len-len.ensures)) (omega (arith, w.if-len.true, w.len.ensures, c.len-len.ensures))
      w.place_outside.ensures.counted
      (subst (λ (count : Counted). AddsWork 0 (2 * bits edges) (6 * bits edges) count c.place_of.new.count) w.count-is c.place_of.ensures.fewer)
  | else-len-gt-FEW_CHAINS w ↦
      let vertices = sweep_count c.args.vertices.now in
      subst (λ (count : Counted). AddsWork 0 (2 * bits vertices) (6 * bits vertices) count c.place_of.new.count) w.count-is c.place_of.ensures.counted
]
