use Rattle.std.proofs.Common.{◌∙◌, ap, arith}
use Rattle.std.proofs.lemmas.Int.{ints}
use Rattle.mvt_plane.specs.Commands.Figure.{zigzag}
use Rattle.mvt_draw.proofs.spelling.parameter.Goals as goal

pub returns-clause-parameter : goal.returns-clause-parameter
returns-clause-parameter c = ((omega (arith, ints), omega (arith, ints)), c.zigzagged.ensures ∙ ap zigzag (omega (arith, ints)))
