use Rattle.std.proofs.Common.{rules, true≢false, false, FitsSigned, refl, sym, ◌∙◌}
use Rattle.std.proofs.lemmas.Bool.Decides.{not_from_Decides}
use Rattle.std.specs.Int.{w128}
use Rattle.mvt_confirm.proofs.Shapes.PolygonMembers.{test_fails}
use Rattle.mvt_confirm.proofs.Shapes.PolygonWalks.{before_holes, hole_ahead, in_this_hole, none_at_end, none_at_exterior, one_more_outside}
use Rattle.mvt_confirm.proofs.Shapes.RingPlaces.{exterior_by_bits}
use Rattle.mvt_confirm.proofs.apart.is_in_holes.Goals as goal

pub holes-init : goal.holes-init
holes-init c = λ rings polygon its is ahead_left left. before_holes rings polygon its c.args.position c.args.ahead c.args.vertices is ahead_left left

pub returns-then-measure-gt0 : goal.returns-then-measure-gt0
returns-then-measure-gt0 c = λ rings polygon its is ahead_left left.
    let amid = c.holes.invariant rings polygon its is ahead_left left in
    let fits : FitsSigned w128 c.in-Some.measure.doubled_area = search rules in
    let decided = exterior_by_bits rings c.holes.ahead c.next_ring.new.vertices amid.number c.in-Some.measure amid.ahead_passed c.in-Some.ensures.ring fits in
    test_fails false refl (none_at_exterior rings polygon its c.args.position c.holes.ahead c.next_ring.new.vertices c.holes.vertices c.in-Some.measure is amid c.in-Some.ensures.ring (decided.0 c.if-measure-gt0.true))

pub returns-then-is_in_next_ring : goal.returns-then-is_in_next_ring
returns-then-is_in_next_ring c = λ rings polygon its is ahead_left left.
    let amid = c.holes.invariant rings polygon its is ahead_left left in
    let fits : FitsSigned w128 c.in-Some.measure.doubled_area = search rules in
    let decided = exterior_by_bits rings c.holes.ahead c.next_ring.new.vertices amid.number c.in-Some.measure amid.ahead_passed c.in-Some.ensures.ring fits in
    let tested = c.is_in_next_ring.ensures _ _ (hole_ahead rings polygon its c.args.position c.holes.ahead c.next_ring.new.vertices c.holes.vertices c.in-Some.measure is amid c.in-Some.ensures.ring) in (
      λ holds. in_this_hole rings polygon its c.args.position c.holes.ahead c.next_ring.new.vertices c.holes.vertices c.in-Some.measure is amid c.in-Some.ensures.ring
          (λ exterior. true≢false (sym (decided.1 exterior) ∙ c.if-measure-gt0.false)) (tested.0.0 c.if-is_in_next_ring.true),
      λ round. refl,
    )

pub holes-preserved : goal.holes-preserved
holes-preserved c = λ rings polygon its is ahead_left left.
    let amid = c.holes.invariant rings polygon its is ahead_left left in
    let fits : FitsSigned w128 c.in-Some.measure.doubled_area = search rules in
    let decided = exterior_by_bits rings c.holes.ahead c.next_ring.new.vertices amid.number c.in-Some.measure amid.ahead_passed c.in-Some.ensures.ring fits in
    let tested = c.is_in_next_ring.ensures _ _ (hole_ahead rings polygon its c.args.position c.holes.ahead c.next_ring.new.vertices c.holes.vertices c.in-Some.measure is amid c.in-Some.ensures.ring) in
    one_more_outside rings polygon its c.args.position c.holes.ahead c.next_ring.new.vertices c.holes.vertices c.in-Some.measure is amid c.in-Some.ensures.ring c.is_in_next_ring.new.vertices
    (λ exterior. true≢false (sym (decided.1 exterior) ∙ c.if-measure-gt0.false)) tested.1 (not_from_Decides c.is_in_next_ring.result tested.0 c.if-is_in_next_ring.false)

pub returns : goal.returns
returns c = λ rings polygon its is ahead_left left.
    test_fails false refl (none_at_end rings polygon its c.args.position c.holes.ahead c.holes.vertices is (c.holes.invariant rings polygon its is ahead_left left) c.in_default.ensures.end)
