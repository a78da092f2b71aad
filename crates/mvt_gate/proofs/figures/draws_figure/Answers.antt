use Rattle.std.proofs.Common.{subst, sym, ap}
use Rattle.mvt_plane.specs.FeatureGeometry.{HasFigure}
use Rattle.mvt_tile.specs.View.{kind_number}
use Rattle.mvt_gate.proofs.figures.draws_figure.Goals as goal

pub returns-in-Point : goal.returns-in-Point
returns-in-Point c = λ draws it encodes. subst (λ n. HasFigure n it.geometry) (sym (ap kind_number c.in-Point.is)) (c.draws_points.ensures draws it.geometry (c.geometry.ensures.all it encodes))

pub returns-in-LineString : goal.returns-in-LineString
returns-in-LineString c = λ draws it encodes. subst (λ n. HasFigure n it.geometry) (sym (ap kind_number c.in-LineString.is)) (c.draws_lines.ensures draws it.geometry (c.geometry-in-LineString.ensures.all it encodes))
