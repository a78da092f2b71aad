use Rattle.std.proofs.Common.{Some, ◌∙◌, sym, refl, ap}
use Rattle.mvt_plane.specs.Geometry.CommonPoint.{NoEndIsCommon, none, first_a, first_b, second_a, second_b, crossing}
use Rattle.mvt_plane.proofs.Points.Crossings.{side}
use Rattle.mvt_plane.proofs.Points.CommonPointChoice.{apart_by_sides, opposite_by_sides, common_by_first_a, common_by_first_b, common_by_second_a, common_by_second_b, first_not_common, second_not_common, no_end_beside, none_by_shared}
use Rattle.mvt_plane.proofs.Orders.Sides.{zero_by_side}
use Rattle.mvt_plane.proofs.Points.TouchingLines.{IsTouching, none_by_ends}
use Rattle.mvt_plane.proofs.Points.TouchingLines as touching
use Rattle.mvt_plane.proofs.geometry.crossing.common.Goals as goal
use Rattle.mvt_plane.proofs.geometry.crossing.common.Goals.{then-is_eq-via-then-is_eq, then-is_eq-via-else-is_eq+then-is_eq-2, then-is_eq-via-else-is_eq+else-is_eq-2+then-is_eq-3, then-is_eq-via-else-is_eq+else-is_eq-2+else-is_eq-3+then-is_eq-4}

pub returns-then-are_on_one_side-clause-point : goal.returns-then-are_on_one_side-clause-point
returns-then-are_on_one_side-clause-point c =
    let e = c.args.e in
    let f = c.args.f in
    let both = c.are_on_one_side.ensures.0 c.if-are_on_one_side.true in
    none refl (λ point common. apart_by_sides e f c.side-a_side.result c.side-b_side.result c.side-a_side.ensures c.side-b_side.ensures both.0 both.1 point common.on_first common.on_second)

pub returns-then-are_on_one_side-2-clause-point : goal.returns-then-are_on_one_side-2-clause-point
returns-then-are_on_one_side-2-clause-point c =
    let e = c.args.e in
    let f = c.args.f in
    let both = c.are_on_one_side-2.ensures.0 c.if-are_on_one_side-2.true in
    none refl (λ point common. apart_by_sides f e c.side-c_side.result c.side-d_side.result c.side-c_side.ensures c.side-d_side.ensures both.0 both.1 point common.on_second common.on_first)

pub returns-then-touches-clause-point : goal.returns-then-touches-clause-point
returns-then-touches-clause-point c =
    let e = c.args.e in
    let f = c.args.f in
    first_a (ap Some c.at.ensures.value) (common_by_first_a c.args.shared e f c.touches.result c.touches.ensures c.if-touches.true)

pub returns-then-touches-2-clause-point : goal.returns-then-touches-2-clause-point
returns-then-touches-2-clause-point c =
    let e = c.args.e in
    let f = c.args.f in
    let a = first_not_common c.args.shared e f c.touches.result e.a c.touches.ensures c.if-touches.false in
    first_b (ap Some c.at-then-touches-2.ensures.value) (common_by_first_b c.args.shared e f c.touches-2.result c.touches-2.ensures c.if-touches-2.true) a

pub returns-then-touches-3-clause-point : goal.returns-then-touches-3-clause-point
returns-then-touches-3-clause-point c =
    let e = c.args.e in
    let f = c.args.f in
    let a = first_not_common c.args.shared e f c.touches.result e.a c.touches.ensures c.if-touches.false in
    let b = first_not_common c.args.shared e f c.touches-2.result e.b c.touches-2.ensures c.if-touches-2.false in
    second_a (ap Some c.at-then-touches-3.ensures.value) (common_by_second_a c.args.shared e f c.touches-3.result c.touches-3.ensures c.if-touches-3.true) a b

pub returns-then-touches-4-clause-point : goal.returns-then-touches-4-clause-point
returns-then-touches-4-clause-point c =
    let e = c.args.e in
    let f = c.args.f in
    let a = first_not_common c.args.shared e f c.touches.result e.a c.touches.ensures c.if-touches.false in
    let b = first_not_common c.args.shared e f c.touches-2.result e.b c.touches-2.ensures c.if-touches-2.false in
    let a' = second_not_common c.args.shared e f c.touches-3.result f.a c.touches-3.ensures c.if-touches-3.false in
    second_b (ap Some c.at-then-touches-4.ensures.value) (common_by_second_b c.args.shared e f c.touches-4.result c.touches-4.ensures c.if-touches-4.true) a b a'

pub returns-then-is_eq-clause-point : goal.returns-then-is_eq-clause-point
returns-then-is_eq-clause-point c =
    let e = c.args.e in
    let f = c.args.f in
    let ends : NoEndIsCommon c.args.shared e f = record {
      first_a = first_not_common c.args.shared e f c.touches.result e.a c.touches.ensures c.if-touches.false;
      first_b = first_not_common c.args.shared e f c.touches-2.result e.b c.touches-2.ensures c.if-touches-2.false;
      second_a = second_not_common c.args.shared e f c.touches-3.result f.a c.touches-3.ensures c.if-touches-3.false;
      second_b = second_not_common c.args.shared e f c.touches-4.result f.b c.touches-4.ensures c.if-touches-4.false;
    } in
    let on_line : IsTouching e f = elim c.then-is_eq.branch [
      | then-is_eq-via-then-is_eq w ↦
          touching.first_a (zero_by_side (side f e.a) c.side-a_side.result c.side-a_side.ensures (sym c.is_eq.ensures ∙ w.if-is_eq.true))
      | then-is_eq-via-else-is_eq+then-is_eq-2 w ↦
          touching.first_b (zero_by_side (side f e.b) c.side-b_side.result c.side-b_side.ensures (sym w.is_eq-else-is_eq.ensures ∙ w.if-is_eq-2.true))
      | then-is_eq-via-else-is_eq+else-is_eq-2+then-is_eq-3 w ↦
          touching.second_a (zero_by_side (side e f.a) c.side-c_side.result c.side-c_side.ensures (sym w.is_eq-else-is_eq-2.ensures ∙ w.if-is_eq-3.true))
      | then-is_eq-via-else-is_eq+else-is_eq-2+else-is_eq-3+then-is_eq-4 w ↦
          touching.second_b (zero_by_side (side e f.b) c.side-d_side.result c.side-d_side.ensures (sym w.is_eq-else-is_eq-3.ensures ∙ w.if-is_eq-4.true))
    ] in
    none refl (none_by_ends c.args.shared e f on_line ends)

pub crossing-point-requires-clause-first : goal.crossing-point-requires-clause-first
crossing-point-requires-clause-first c =
    let e = c.args.e in
    let f = c.args.f in
    opposite_by_sides (side f e.a) (side f e.b) c.side-a_side.result c.side-b_side.result c.side-a_side.ensures c.side-b_side.ensures
    (sym c.is_eq.ensures ∙ c.if-is_eq.false) (sym c.is_eq-else-is_eq.ensures ∙ c.if-is_eq-2.false) (λ both. let one = c.are_on_one_side.ensures.1 both in let other = c.if-are_on_one_side.false in cc)

pub crossing-point-requires-clause-second : goal.crossing-point-requires-clause-second
crossing-point-requires-clause-second c =
    let e = c.args.e in
    let f = c.args.f in
    opposite_by_sides (side e f.a) (side e f.b) c.side-c_side.result c.side-d_side.result c.side-c_side.ensures c.side-d_side.ensures
    (sym c.is_eq-else-is_eq-2.ensures ∙ c.if-is_eq-3.false) (sym c.is_eq-else-is_eq-3.ensures ∙ c.if-is_eq-4.false) (λ both. let one = c.are_on_one_side-2.ensures.1 both in let other = c.if-are_on_one_side-2.false in cc)

pub returns-then-is_apart-clause-point : goal.returns-then-is_apart-clause-point
returns-then-is_apart-clause-point c =
    let e = c.args.e in
    let f = c.args.f in
    let opposite = opposite_by_sides (side f e.a) (side f e.b) c.side-a_side.result c.side-b_side.result c.side-a_side.ensures c.side-b_side.ensures
    (sym c.is_eq.ensures ∙ c.if-is_eq.false) (sym c.is_eq-else-is_eq.ensures ∙ c.if-is_eq-2.false) (λ both. let one = c.are_on_one_side.ensures.1 both in let other = c.if-are_on_one_side.false in cc) in
    let other = opposite_by_sides (side e f.a) (side e f.b) c.side-c_side.result c.side-d_side.result c.side-c_side.ensures c.side-d_side.ensures
    (sym c.is_eq-else-is_eq-2.ensures ∙ c.if-is_eq-3.false) (sym c.is_eq-else-is_eq-3.ensures ∙ c.if-is_eq-4.false) (λ both. let one = c.are_on_one_side-2.ensures.1 both in let other = c.if-are_on_one_side-2.false in cc) in
    let point = c.crossing-point.result in
    crossing point refl (no_end_beside c.args.shared e f opposite other)
    (record { on_first = c.crossing-point.ensures.on_first; on_second = c.crossing-point.ensures.on_second; apart = c.is_apart.ensures.0 c.if-is_apart.true })
    c.crossing-point.ensures.size

pub returns-else-is_apart-clause-point : goal.returns-else-is_apart-clause-point
returns-else-is_apart-clause-point c =
    let e = c.args.e in
    let f = c.args.f in
    let opposite = opposite_by_sides (side f e.a) (side f e.b) c.side-a_side.result c.side-b_side.result c.side-a_side.ensures c.side-b_side.ensures
    (sym c.is_eq.ensures ∙ c.if-is_eq.false) (sym c.is_eq-else-is_eq.ensures ∙ c.if-is_eq-2.false) (λ both. let one = c.are_on_one_side.ensures.1 both in let other = c.if-are_on_one_side.false in cc) in
    none refl (none_by_shared c.args.shared e f c.crossing-point.result opposite c.crossing-point.ensures.on_first c.crossing-point.ensures.on_second
    (λ apart. let one = c.is_apart.ensures.1 apart in let other = c.if-is_apart.false in cc))
