use Rattle.std.proofs.Common.{rules, ℕ, [], refl}
use Rattle.std.proofs.lemmas.List.Elements.{All-nil}
use Rattle.mvt_sweep.specs.Calls.Sweep.{Tested}
use Rattle.mvt_sweep.specs.Calls.SweepVertices.{AreSweepVertices, plan_of}
use Rattle.mvt_sweep.proofs.Vertices.PairsEnough.{none_by_pairs}
use Rattle.mvt_sweep.proofs.Vertices.VertexPlans.{none_of_rings}
use Rattle.mvt_sweep.specs.Rings.{rings_of}
use Rattle.mvt_sweep.proofs.meeting.self_intersection.Goals as goal

pub returns-then-are_convex_four-clause-none : goal.returns-then-are_convex_four-clause-none
returns-then-are_convex_four-clause-none c =
    let vertices = c.new-vertices.result in
    let are : AreSweepVertices (rings_of c.args.rings.now) vertices = search rules in
    none_of_rings (rings_of c.args.rings.now) vertices c.requires.proper are (none_by_pairs vertices [] (c.if-are_convex_four.ensures.enough refl) (All-nil (λ (pair : ℕ × ℕ). Tested (plan_of vertices) pair.0 pair.1)))
