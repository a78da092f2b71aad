use Rattle.std.proofs.Common.{sym}
use Rattle.std.proofs.lemmas.Bool.{both_ways}
use Rattle.mvt_tile.proofs.WireFaults.FieldFaults.{MayOccur}
use Rattle.mvt_tile.proofs.wire.field.field_fault.Goals as goal
use Rattle.mvt_tile.proofs.wire.field.field_fault.Goals.{else-occurred-via-then-occurred+else-is_singular, else-occurred-via-else-occurred}

pub returns : goal.returns
returns c = c.payload_fault.ensures c.args.occurred
    (elim c.else-occurred.branch as (λ w. MayOccur c.args.rule c.args.occurred) [
      | else-occurred-via-then-occurred+else-is_singular w ↦ λ singular occurred. both_ways _ (sym w.if-is_singular.ensures) singular
      | else-occurred-via-else-occurred w ↦ λ singular occurred. both_ways _ w.if-occurred.false occurred
    ])
