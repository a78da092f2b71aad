use Rattle.mvt_tile.proofs.WireFaults.Tiles.{is_tile}
use Rattle.mvt_tile.proofs.read.read_tile.Goals as goal

pub read_layers-requires : goal.read_layers-requires
read_layers-requires c = is_tile c.args.bytes.now c.in_default.ensures.none

pub returns-in-Err-clause-fault : goal.returns-in-Err-clause-fault
returns-in-Err-clause-fault c = is_tile c.args.bytes.now c.in_default.ensures.none

pub returns-in-Some-clause-fault : goal.returns-in-Some-clause-fault
returns-in-Some-clause-fault c = c.in-Some.ensures.least
