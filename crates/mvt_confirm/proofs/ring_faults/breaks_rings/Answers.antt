use Rattle.std.proofs.Common.{rules, FitsSigned, ap, arith}
use Rattle.std.specs.Int.{w128}
use Rattle.mvt_confirm.proofs.Shapes.RingCounts.{ends_decided, area_decided, hole_decided, broken_within, of_501, of_502, of_503, flat_by_bits, negative_by_bits}
use Rattle.mvt_confirm.proofs.Wire.FieldWalks.{one_with}
use Rattle.mvt_fault.specs.Code.{ring_code}
use Rattle.mvt_confirm.proofs.ring_faults.breaks_rings.Goals as goal

pub returns-in_default : goal.returns-in_default
returns-in_default c = λ rings left. (
  λ holds. absurd (cc holds),
  λ broken.
      let within = broken_within rings (ring_code c.args.code) c.args.ring broken in
      let few = c.in_default.ensures.none rings left in
      absurd (omega arith),
)

pub returns-in-EndsAtItsBeginning : goal.returns-in-EndsAtItsBeginning
returns-in-EndsAtItsBeginning c = λ rings left.
    let there = c.in-Some.ensures.there rings left in
    one_with (ends_decided rings c.args.ring c.in-Some.measure (record { ring = there.0; there = there.1; decided = there.2 }))
    (of_501 rings (ring_code c.args.code) c.args.ring (ap ring_code c.in-EndsAtItsBeginning.is))

pub returns-in-NoArea : goal.returns-in-NoArea
returns-in-NoArea c = λ rings left.
    let there = c.in-Some.ensures.there rings left in
    let fits : FitsSigned w128 c.in-Some.measure.doubled_area = search rules in
    one_with (one_with (flat_by_bits c.in-Some.measure.doubled_area fits)
    (area_decided rings c.args.ring c.in-Some.measure (record { ring = there.0; there = there.1; decided = there.2 })))
    (of_502 rings (ring_code c.args.code) c.args.ring (ap ring_code c.in-NoArea.is))

pub returns-then-ring-eq0 : goal.returns-then-ring-eq0
returns-then-ring-eq0 c = λ rings left.
    let there = c.in-Some.ensures.there rings left in
    let fits : FitsSigned w128 c.in-Some.measure.doubled_area = search rules in
    one_with (one_with (negative_by_bits c.in-Some.measure.doubled_area fits)
    (hole_decided rings c.args.ring c.in-Some.measure (record { ring = there.0; there = there.1; decided = there.2 }) c.if-ring-eq0.true))
    (of_503 rings (ring_code c.args.code) c.args.ring (ap ring_code c.in-BeginsWithHole.is))
