use Rattle.std.proofs.Common.{rules, ◌+◌, true≢false, IsTrue, pos, FitsSigned, to_z, of_z, refl, sym, ◌∙◌}
use Rattle.std.specs.Int.{w128}
use lib.Signed.{lt_z}
use Rattle.mvt_confirm.proofs.Shapes.SoundRings.{none_sound, one_more_sound, ends_or_flat, first_hole, all_sound}
use Rattle.mvt_confirm.proofs.polygons.are_polygon_rings.Goals.{else-is_first-via-then-is_first+else-measure-lt0, else-is_first-via-else-is_first}
use Rattle.mvt_confirm.proofs.polygons.are_polygon_rings.Goals as goal

pub rings-init : goal.rings-init
rings-init c = λ rings left. (0, none_sound rings c.args.vertices left)

pub returns-then-measure : goal.returns-then-measure
returns-then-measure c = λ rings left.
    let so_far = c.rings.invariant rings left in
    let fits : FitsSigned w128 c.in-Some.measure.doubled_area = search rules in (
      λ holds. absurd (true≢false (sym holds)),
      λ able. absurd (ends_or_flat rings c.rings.vertices c.next_ring.new.vertices c.rings.is_first so_far.0 c.in-Some.measure so_far.1 c.in-Some.ensures.ring fits c.then-measure.either able),
    )

pub returns-then-measure-lt0 : goal.returns-then-measure-lt0
returns-then-measure-lt0 c = λ rings left.
    let so_far = c.rings.invariant rings left in
    let fits : FitsSigned w128 c.in-Some.measure.doubled_area = search rules in (
      λ holds. absurd (true≢false (sym holds)),
      λ able. absurd (first_hole rings c.rings.vertices c.next_ring.new.vertices c.rings.is_first so_far.0 c.in-Some.measure so_far.1 c.in-Some.ensures.ring fits
          c.if-is_first.true c.if-measure-lt0.true able),
    )

pub rings-preserved : goal.rings-preserved
rings-preserved c = λ rings left.
    let so_far = c.rings.invariant rings left in
    let fits : FitsSigned w128 c.in-Some.measure.doubled_area = search rules in
    let no_hole : ¬ (IsTrue c.rings.is_first × IsTrue (lt_z (to_z w128 (of_z w128 c.in-Some.measure.doubled_area)) (pos 0))) =
    elim c.else-is_first.branch [
      | else-is_first-via-then-is_first+else-measure-lt0 w ↦ λ both. true≢false (sym both.1 ∙ w.if-measure-lt0.false)
      | else-is_first-via-else-is_first w ↦ λ both. true≢false (sym both.0 ∙ w.if-is_first.false)
    ] in (
      so_far.0 + 1,
      one_more_sound rings c.rings.vertices c.next_ring.new.vertices c.rings.is_first so_far.0 c.in-Some.measure so_far.1 c.in-Some.ensures.ring fits
          c.if-measure.false c.if-measure-eq0.false no_hole,
    )

pub returns : goal.returns
returns c = λ rings left.
    let so_far = c.rings.invariant rings left in
    (λ holds. all_sound rings c.rings.vertices c.rings.is_first so_far.0 so_far.1 c.in_default.ensures.end, λ able. refl)
