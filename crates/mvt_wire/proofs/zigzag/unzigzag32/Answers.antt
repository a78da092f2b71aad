use Rattle.mvt_wire.proofs.Encoding.Zigzags.{zigzag_back32}
use Rattle.mvt_wire.proofs.zigzag.unzigzag32.Goals as goal

pub returns : goal.returns
returns c = zigzag_back32 c.args.number c.ranges.number.fits
