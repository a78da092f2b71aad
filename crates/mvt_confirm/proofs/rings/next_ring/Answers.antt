use Rattle.std.proofs.Common.{◌≡◌, ◌∷◌, ℤ, ◌+ℤ◌, to_z, Bool, subst, arith}
use Rattle.std.specs.Int.{w128}
use Rattle.mvt_confirm.proofs.Drawing.RingWalks.{IsAmidRing, amid_ring_goes_on, at_first_vertex, at_next_vertex, ring_decided, some_left}
use Rattle.mvt_plane.proofs.Points.Bounds.{fitting}
use Rattle.mvt_plane.specs.Geometry.Ring.{edge_area}
use Rattle.mvt_confirm.proofs.rings.next_ring.Goals as goal

pub vertices-init : goal.vertices-init
vertices-init c =
    let given = c.in_ok-vertex.ensures.vertex in
    let few = given.counts.few in
    record {
      amid = λ rings left. let first = given.first rings left in at_first_vertex rings first.0 c.next_vertex.new.self c.in_ok-vertex.vertex.point c.in_ok-vertex.vertex.is_last first.1 first.2;
      over = given.last;
      few = few;
      bound = (omega (arith, fitting), omega (arith, fitting));
      fewer = given.fewer;
    }

pub returns-in_err-vertex-2-clause-end : goal.returns-in_err-vertex-2-clause-end
returns-in_err-vertex-2-clause-end c =
    let area = to_z w128 c.vertices.area-bits in
    rw c.from_residual-in_err-vertex-2.ensures (λ rings left.
    let amid = subst (λ (over : Bool). IsAmidRing rings c.vertices.vertices c.in_ok-vertex.vertex.point c.vertices.last over area) c.vertices-test.true (c.vertices.invariant.amid rings left) in
    absurd (amid_ring_goes_on rings c.vertices.vertices c.in_ok-vertex.vertex.point c.vertices.last area amid c.in_err-vertex-2.ensures.end))

pub overflow_add-area : goal.overflow_add-area
overflow_add-area c =
    let few = c.vertices.invariant.few in
    let bound = c.vertices.invariant.bound in
    let edge = c.area_part.ensures.bound in
    omega (arith, fitting)

pub vertices-smaller : goal.vertices-smaller
vertices-smaller c =
    let some = some_left c.vertices.is_over c.vertices.vertices.left c.vertices.invariant.over c.vertices-test.true in
    let less = c.in_ok-vertex-2.ensures.vertex.counts.less some in
    omega arith

pub vertices-preserved : goal.vertices-preserved
vertices-preserved c =
    let given = c.in_ok-vertex-2.ensures.vertex in
    let some = some_left c.vertices.is_over c.vertices.vertices.left c.vertices.invariant.over c.vertices-test.true in
    let less = given.counts.less some in
    let few = c.vertices.invariant.few in
    let bound = c.vertices.invariant.bound in
    let edge = c.area_part.ensures.bound in
    let first = c.in_ok-vertex.vertex.point in
    let at = c.in_ok-vertex-2.vertex.point in
    let area = to_z w128 c.vertices.area-bits in
    record {
      amid = λ rings left.
          let amid = subst (λ (over : Bool). IsAmidRing rings c.vertices.vertices first c.vertices.last over area) c.vertices-test.true (c.vertices.invariant.amid rings left) in
          let sum : area +ℤ edge_area (record { a = c.vertices.last; b = at }) ≡ _ = omega (arith, fitting) in
          let next = given.first (amid.more ∷ amid.further) amid.left in
          subst (λ (it : ℤ). IsAmidRing rings c.next_vertex-in-vertices.new.self first at c.in_ok-vertex-2.vertex.is_last it) sum
          (at_next_vertex rings next.0 c.vertices.vertices c.next_vertex-in-vertices.new.self first c.vertices.last at c.in_ok-vertex-2.vertex.is_last area amid next.1 next.2);
      over = given.last;
      few = given.counts.few;
      bound = (omega (arith, fitting), omega (arith, fitting));
      fewer = omega (arith, given.fewer, c.vertices.invariant.fewer);
    }

pub overflow_add-result : goal.overflow_add-result
overflow_add-result c =
    let few = c.vertices.invariant.few in
    let bound = c.vertices.invariant.bound in
    let edge = c.area_part-2.ensures.bound in
    omega (arith, fitting)

pub returns-clause-ring : goal.returns-clause-ring
returns-clause-ring c = λ rings left.
    let first = c.in_ok-vertex.vertex.point in
    let area = to_z w128 c.vertices.area-bits in
    let few = c.vertices.invariant.few in
    let bound = c.vertices.invariant.bound in
    let edge = c.area_part-2.ensures.bound in
    let amid = subst (λ (over : Bool). IsAmidRing rings c.vertices.vertices first c.vertices.last over area) c.vertices-test.false (c.vertices.invariant.amid rings left) in
    ring_decided rings c.vertices.vertices first c.vertices.last area _ c.is_same.result amid (omega (arith, fitting)) c.is_same.ensures
