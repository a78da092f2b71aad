use Rattle.std.proofs.Common.{rules}
use Rattle.mvt_mender.proofs.MendingLaws.{valid_stays}
use Rattle.mvtgate_c.proofs.MendedRooms.{hands_mended, wants_mended}
use Rattle.mvtgate_c.proofs.mend.mend_by.Goals as goal

pub returns-in-Ok-Mended-clause-mended : goal.returns-in-Ok-Mended-clause-mended
returns-in-Ok-Mended-clause-mended c =
    let is = (rw c.in-Ok-Mended.field-0-is at c.in-Ok-Mended.ensures) in
    let its = hands_mended c.args.by c.args.drop_unmended c.args.tile.now c.in-Ok-Mended.mended c.args.out.now c.hand_mended.new.out c.hand_mended.new.out_length c.args.report.now c.hand_mended.new.report c.hand_mended.new.report_length is in
    search (rules, its)

pub returns-in-Ok-Mended-clause-no_room : goal.returns-in-Ok-Mended-clause-no_room
returns-in-Ok-Mended-clause-no_room c =
    let is = (rw c.in-Ok-Mended.field-0-is at c.in-Ok-Mended.ensures) in
    let its = wants_mended c.args.by c.args.drop_unmended c.args.tile.now c.in-Ok-Mended.mended c.args.out.now c.hand_mended.new.out_length c.args.report.now c.hand_mended.new.report_length is in
    search (rules, its)

pub returns-in-Ok-Refused-clause-valid_alone : goal.returns-in-Ok-Refused-clause-valid_alone
returns-in-Ok-Refused-clause-valid_alone c = λ valid.
    let stays = valid_stays c.args.by c.args.drop_unmended c.args.tile.now c.in-Ok-Refused.field-0 c.in-Ok-Refused.ensures valid in
    let refused = c.in-Ok-Refused.field-0-is in
    absurd (cc (stays, refused))
