use Rattle.mvt_tile.proofs.WireFaults.Known.{passed_none}
use Rattle.mvt_tile.proofs.wire.wire_fault.Goals as goal

pub wire_fault_after-requires : goal.wire_fault_after-requires
wire_fault_after-requires c = passed_none c.args.bytes.now
