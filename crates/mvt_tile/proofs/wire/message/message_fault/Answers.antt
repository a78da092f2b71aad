use Rattle.std.proofs.Common.{[], refl, ◌∙◌, arith}
use Rattle.std.proofs.lemmas.List.{length-take-le}
use Rattle.mvt_tile.proofs.WireFaults.Walking.{IsScanning-whole, MessageWalk-more, MessageWalk-unchanged}
use Rattle.mvt_tile.proofs.wire.message.message_fault.Goals as goal

pub walk-init : goal.walk-init
walk-init g c =
    let size = length-take-le c.args.part.to c.args.part.bytes.now c.args.part.within in
    record { within = omega arith; entries = []; scanning = record { passed = refl; passes = c.new-scan.ensures c.args.message } }

pub walk-preserved : goal.walk-preserved
walk-preserved g c = MessageWalk-more c.walk.invariant (rw c.in-Ok-Some.field-0-is at c.in-Ok-Some.ensures.passed)

pub returns-in-Err : goal.returns-in-Err
returns-in-Err g c = let so_far = c.walk.invariant in c.in-Err.ensures.fault c.args.part.from so_far.entries so_far.scanning.passed so_far.scanning.passes

pub returns-in-Ok-None : goal.returns-in-Ok-None
returns-in-Ok-None g c =
    let part = c.args.part in
    let so_far = MessageWalk-unchanged c.walk.invariant (rw c.in-Ok-None.field-0-is at c.in-Ok-None.ensures.end).1 in
    IsScanning-whole part.bytes.now part.to c.end_fault.result part.within ((rw c.in-Ok-None.field-0-is at c.in-Ok-None.ensures.end).0 ∙ length-take-le part.to part.bytes.now part.within) so_far.scanning c.end_fault.ensures
