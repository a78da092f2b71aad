use Rattle.std.proofs.Common.{◌++◌, List, ap, ◌∙◌}
use Rattle.mvt_plane.specs.Position.{Position}
use Rattle.mvt_draw.proofs.drawing.draw_points.Goals as goal

pub returns : goal.returns
returns c = λ positions run. c.in_ok-read_points.ensures.drawn tt c.args.numbers.now c.new.ensures.all positions run ∙ ap (λ (it : List Position). it ++ positions) c.new-points.ensures.items
