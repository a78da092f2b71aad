use Rattle.mvt_mend.proofs.CloseEnds.{close_to_begin}
use Rattle.mvt_mend.proofs.near.close.is_begin.Goals as goal

pub returns : goal.returns
returns c = λ same. close_to_begin c.args.edge.now c.args.position (c.is_same_position.ensures.0 same)
