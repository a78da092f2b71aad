use Rattle.std.proofs.Common.{Bool, subst, arith}
use Rattle.mvt_confirm.proofs.Shapes.CrossingWalks.{IsAmidCrossings, crossings_begun, crossings_more, crossings_go_on, crossings_decided}
use Rattle.mvt_confirm.proofs.Drawing.RingWalks.{some_left}
use Rattle.mvt_confirm.proofs.apart.is_in_next_ring.Goals as goal

pub returns-in_default : goal.returns-in_default
returns-in_default c = λ ring rest left. let none = c.in_default.ensures.end _ left in absurd (cc (none))

pub vertices-init : goal.vertices-init
vertices-init c =
    let given = c.in-Some.ensures.vertex in
    record {
      amid = λ ring rest left.
          let first = given.first _ left in
          crossings_begun c.args.position ring rest first.0 c.next_vertex.new.self c.in-Some.vertex.point c.in-Some.vertex.is_last c.new-crossings.result first.1 first.2 (c.new-crossings.ensures c.args.position);
      over = given.last;
    }

pub returns-in_default-next_vertex : goal.returns-in_default-next_vertex
returns-in_default-next_vertex c = λ ring rest left.
    let amid = subst (λ (over : Bool). IsAmidCrossings c.args.position ring rest c.vertices.vertices c.in-Some.vertex.point c.vertices.last over c.vertices.crossings) c.vertices-test.true
    (c.vertices.invariant.amid ring rest left) in
    absurd (crossings_go_on c.args.position ring rest c.vertices.vertices c.in-Some.vertex.point c.vertices.last c.vertices.crossings amid c.in_default-next_vertex.ensures.end)

pub vertices-smaller : goal.vertices-smaller
vertices-smaller c =
    let some = some_left c.vertices.is_over c.vertices.vertices.left c.vertices.invariant.over c.vertices-test.true in
    let less = c.in-Some-next_vertex.ensures.vertex.counts.less some in
    omega arith

pub vertices-preserved : goal.vertices-preserved
vertices-preserved c =
    let given = c.in-Some-next_vertex.ensures.vertex in
    let first = c.in-Some.vertex.point in
    record {
      amid = λ ring rest left.
          let amid = subst (λ (over : Bool). IsAmidCrossings c.args.position ring rest c.vertices.vertices first c.vertices.last over c.vertices.crossings) c.vertices-test.true
          (c.vertices.invariant.amid ring rest left) in
          let next = given.first _ amid.left in
          crossings_more c.args.position ring rest next.0 c.vertices.vertices c.next_vertex-in-vertices.new.self first c.vertices.last c.in-Some-next_vertex.vertex.point
          c.in-Some-next_vertex.vertex.is_last c.vertices.crossings c.pass.new.self amid next.1 next.2 c.pass.ensures;
      over = given.last;
    }

pub returns : goal.returns
returns c = λ ring rest left.
    let first = c.in-Some.vertex.point in
    let amid = subst (λ (over : Bool). IsAmidCrossings c.args.position ring rest c.vertices.vertices first c.vertices.last over c.vertices.crossings) c.vertices-test.false
    (c.vertices.invariant.amid ring rest left) in
    crossings_decided c.args.position ring rest c.vertices.vertices first c.vertices.last c.vertices.crossings c.pass-2.new.self c.is_odd.result amid c.pass-2.ensures c.is_odd.ensures
