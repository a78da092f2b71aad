use Rattle.std.proofs.Common.{rules, ◌≡◌, arith}
use Rattle.mvt_sweep.specs.Calls.SweepVertices.{sweep_count}
use Rattle.mvt_sweep.specs.Work.{vertex_count}
use Rattle.mvt_sweep.specs.Rings.{rings_of}
use Rattle.mvt_sweep.proofs.Notes.NotesBegun.{ok_then, swept_answer}
use Rattle.mvt_sweep.proofs.sweep.swept.sweep_rings.Goals as goal

pub returns-clause-answer : goal.returns-clause-answer
returns-clause-answer c =
    let vertices = c.new-vertices.result in
    let count : sweep_count vertices ≡ vertex_count (rings_of c.args.rings.now) = search rules in
    ok_then _ _ c.sweep_over.result
    (λ swept is. swept_answer (rings_of c.args.rings.now) vertices swept (omega (arith, count, vertices.few)) is)
    c.sweep_over.ensures.swept
