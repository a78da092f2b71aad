use Rattle.std.proofs.Common.{SFits, rules}
use Rattle.std.proofs.lemmas.Int.{to_z-of_z}
use Rattle.std.specs.Int.{w128}
use Rattle.mvt_mender.proofs.ReportTexts.{mended_pushed}
use Rattle.mvt_mender.proofs.report.push_mended.Goals as goal

pub returns : goal.returns
returns c =
    let before : SFits w128 c.args.mended.now.before.doubled_area = search rules in
    let after : SFits w128 c.args.mended.now.after.doubled_area = search rules in
    mended_pushed c.push_str-4.result c.args.layer c.args.feature c.args.mended.now _ _ _ _ _ _ _ _ _ _ c.in_ok-push_str.ensures.bytes
    (rw (to_z-of_z w128 c.args.mended.now.before.doubled_area before, to_z-of_z w128 c.args.mended.now.after.doubled_area after) at c.in_ok-push_areas.ensures)
    c.in_ok-push_work.ensures c.in_ok-push_ordinals.ensures c.in_ok-push_str-2.ensures.bytes c.in_ok-push_pair.ensures c.in_ok-push_str-3.ensures.bytes c.in_ok-push_pair-2.ensures c.push_str-4.ensures.bytes
