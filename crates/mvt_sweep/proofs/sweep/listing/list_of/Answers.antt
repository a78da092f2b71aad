use Rattle.std.proofs.Common.{◌≡◌, ◌<◌, ◌^◌, ℕ, suc, ◌+◌, List, take, Option, IfSome, subst, arith}
use Rattle.std.proofs.lemmas.List.{take_all}
use Rattle.mvt_plane.specs.Position.{Position}
use Rattle.mvt_sweep.specs.Calls.SweepVertices.{IsListOf}
use Rattle.mvt_sweep.specs.Rings.{rings_of}
use Rattle.mvt_sweep.specs.Work.{vertex_count}
use Rattle.mvt_sweep.proofs.Vertices.RingReads.{count_of_rings}
use Rattle.mvt_sweep.proofs.Vertices.VertexPlans.{linked_vertices}
use Rattle.mvt_sweep.proofs.sweep.listing.list_of.Goals as goal

pub returns-clause-list : goal.returns-clause-list
returns-clause-list c =
    let rings = rings_of c.args.rings.now in
    let whole = take_all c.loop-ring.ring rings (omega (arith, count_of_rings c.args.rings.now, c.loop-ring-test.false)) in
    subst (λ (first : List (List Position)). IsListOf first c.loop-ring.list.items) whole c.loop-ring.invariant

pub returns-clause-linked : goal.returns-clause-linked
returns-clause-linked c = linked_vertices (rings_of c.args.rings.now) c.loop-ring.list.items c.requires (returns-clause-list c)

pub returns-clause-few : goal.returns-clause-few
returns-clause-few c =
    let few = subst (λ (found : Option ℕ). IfSome found (λ count. count < 2 ^ 32)) c.in_ok-count.ensures.ok_part c.count_of.ensures.few in
    let count = subst (λ (found : Option ℕ). IfSome found (λ count. count ≡ vertex_count (rings_of c.args.rings.now))) c.in_ok-count.ensures.ok_part c.count_of.ensures.value in
    omega (arith, few, count, (returns-clause-list c).count)

pub add_vertices-requires-clause-count : goal.add_vertices-requires-clause-count
add_vertices-requires-clause-count c =
    let few = subst (λ (found : Option ℕ). IfSome found (λ count. count < 2 ^ 32)) c.in_ok-count.ensures.ok_part c.count_of.ensures.few in
    let count = subst (λ (found : Option ℕ). IfSome found (λ count. count ≡ vertex_count (rings_of c.args.rings.now))) c.in_ok-count.ensures.ok_part c.count_of.ensures.value in
    omega (arith, few, count)

pub loop-ring-preserved : goal.loop-ring-preserved
loop-ring-preserved c =
    let next : suc c.loop-ring.ring ≡ c.loop-ring.ring + 1 = omega arith in
    subst (λ (count : ℕ). IsListOf (take count (rings_of c.args.rings.now)) c.add_vertices.new.list.items) next c.in_ok-add_vertices.ensures
