use Rattle.mvt_wire.proofs.Encoding.Zigzags.{zigzag_back64}
use Rattle.mvt_wire.proofs.zigzag.unzigzag64.Goals as goal

pub returns : goal.returns
returns c = zigzag_back64 c.args.number c.ranges.number.fits
