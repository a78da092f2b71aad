use Rattle.std.proofs.Common.{rules, ◌≡◌, ◌+◌, true≢false, FitsSigned, sym, ◌∙◌, subst, arith}
use Rattle.std.specs.Int.{w128}
use Rattle.mvt_confirm.specs.Calls.Polygons.{IsPlaceOf}
use Rattle.mvt_confirm.proofs.Shapes.RingCounts.{none_passed, next_passed, all_passed}
use Rattle.mvt_confirm.proofs.Shapes.RingPlaces.{none_counted, exterior_by_bits, given_within, exterior_counted, hole_counted, counted_as, exterior_place, hole_place, hole_after_none}
use Rattle.mvt_wire.proofs.NothingFound.{IfNone-any}
use Rattle.mvt_confirm.proofs.polygons.place_of_ring.Goals.{then-branch-gt0, else-branch-gt0}
use Rattle.mvt_confirm.proofs.polygons.place_of_ring.Goals as goal

pub rings-init : goal.rings-init
rings-init c = record {
  few = omega arith;
  passed = λ rings left. none_passed rings c.args.vertices left;
  counted = λ rings left. none_counted rings 0;
}

pub returns-in_err-next_ring-clause-none : goal.returns-in_err-next_ring-clause-none
returns-in_err-next_ring-clause-none c = IfNone-any c.from_residual.result (λ rings left able.
    let size = all_passed rings c.rings.vertices c.rings.number (c.rings.invariant.passed rings left) c.in_err-next_ring.ensures.end in
    let before = c.rings-test.true in
    omega arith)

pub overflow_add-exteriors : goal.overflow_add-exteriors
overflow_add-exteriors c =
    let few = c.rings.invariant.few in
    let before = c.rings-test.true in
    omega arith

pub rings-preserved : goal.rings-preserved
rings-preserved c =
    let measure = c.in_ok-next_ring.field-0 in
    let fits : FitsSigned w128 measure.doubled_area = search rules in
    let few = c.rings.invariant.few in
    record {
      few = elim c.if-branch-gt0.branch [
        | then-branch-gt0 w ↦ omega (arith, w.exteriors-is)
        | else-branch-gt0 w ↦ omega (arith, w.exteriors-is)
      ];
      passed = λ rings left. (next_passed rings c.rings.vertices c.next_ring.new.vertices c.rings.number measure (c.rings.invariant.passed rings left) c.in_ok-next_ring.ensures.ring).1;
      counted = λ rings left.
          let so_far = c.rings.invariant.counted rings left in
          let decided = exterior_by_bits rings c.rings.vertices c.next_ring.new.vertices c.rings.number measure (c.rings.invariant.passed rings left) c.in_ok-next_ring.ensures.ring fits in
          elim c.if-branch-gt0.branch [
            | then-branch-gt0 w ↦
                counted_as rings _ _ _ c.if-branch-gt0.exteriors c.if-branch-gt0.last w.exteriors-is w.last-is
                (exterior_counted rings c.rings.number c.rings.exteriors c.rings.last so_far (decided.0 w.if-branch-gt0.true))
            | else-branch-gt0 w ↦
                counted_as rings _ _ _ c.if-branch-gt0.exteriors c.if-branch-gt0.last w.exteriors-is w.last-is
                (hole_counted rings c.rings.number c.rings.exteriors c.rings.last so_far (λ exterior. true≢false (sym (decided.1 exterior) ∙ w.if-branch-gt0.false)))
          ];
    }

pub returns-in_err-next_ring-2-clause-none : goal.returns-in_err-next_ring-2-clause-none
returns-in_err-next_ring-2-clause-none c = IfNone-any c.from_residual-in_err-next_ring-2.result (λ rings left able.
    let size = all_passed rings c.rings.vertices c.rings.number (c.rings.invariant.passed rings left) c.in_err-next_ring-2.ensures.end in
    omega arith)

pub returns-then-branch-gt0-2-clause-there : goal.returns-then-branch-gt0-2-clause-there
returns-then-branch-gt0-2-clause-there c = λ rings left able.
    let measure = c.in_ok-next_ring-2.field-0 in
    let fits : FitsSigned w128 measure.doubled_area = search rules in
    let decided = exterior_by_bits rings c.rings.vertices c.next_ring-2.new.vertices c.rings.number measure (c.rings.invariant.passed rings left) c.in_ok-next_ring-2.ensures.ring fits in
    let over : c.rings.number ≡ c.args.ring = omega arith in
    subst (λ it. IsPlaceOf rings it (record { polygon = c.rings.exteriors; exterior = it })) over
    (exterior_place rings c.rings.number c.rings.exteriors c.rings.last able (c.rings.invariant.counted rings left) (decided.0 c.if-branch-gt0-2.true))

pub returns-in_err-checked_sub-clause-none : goal.returns-in_err-checked_sub-clause-none
returns-in_err-checked_sub-clause-none c = IfNone-any c.from_residual-in_err-checked_sub.result (λ rings left able.
    let measure = c.in_ok-next_ring-2.field-0 in
    let fits : FitsSigned w128 measure.doubled_area = search rules in
    let so_far = c.rings.invariant.passed rings left in
    let decided = exterior_by_bits rings c.rings.vertices c.next_ring-2.new.vertices c.rings.number measure so_far c.in_ok-next_ring-2.ensures.ring fits in
    let within = given_within rings c.rings.vertices c.next_ring-2.new.vertices c.rings.number measure so_far c.in_ok-next_ring-2.ensures.ring in
    absurd (hole_after_none rings c.rings.number c.rings.exteriors c.rings.last able within (c.rings.invariant.counted rings left)
    (λ exterior. true≢false (sym (decided.1 exterior) ∙ c.if-branch-gt0-2.false)) (omega (arith, c.in_err-checked_sub.ensures))))

pub returns-clause-there : goal.returns-clause-there
returns-clause-there c = λ rings left able.
    let measure = c.in_ok-next_ring-2.field-0 in
    let fits : FitsSigned w128 measure.doubled_area = search rules in
    let so_far = c.rings.invariant.passed rings left in
    let decided = exterior_by_bits rings c.rings.vertices c.next_ring-2.new.vertices c.rings.number measure so_far c.in_ok-next_ring-2.ensures.ring fits in
    let within = given_within rings c.rings.vertices c.next_ring-2.new.vertices c.rings.number measure so_far c.in_ok-next_ring-2.ensures.ring in
    let over : c.rings.number ≡ c.args.ring = omega arith in
    let polygon = c.in_ok-checked_sub.field-0 in
    let count : c.rings.exteriors ≡ polygon + 1 = omega (arith, c.in_ok-checked_sub.ensures) in
    subst (λ it. IsPlaceOf rings it (record { polygon = polygon; exterior = c.rings.last })) over
    (hole_place rings c.rings.number c.rings.exteriors polygon c.rings.last able within (c.rings.invariant.counted rings left)
    (λ exterior. true≢false (sym (decided.1 exterior) ∙ c.if-branch-gt0-2.false)) count)
