use Rattle.std.proofs.Common.{ap}
use Rattle.std.proofs.lemmas.Result.{IfOk-weaker}
use Rattle.mvt_plane.proofs.Spelling.Geometries.{whole_figure}
use Rattle.mvt_plane.specs.Commands.Figure.{point, line_string, polygon}
use Rattle.mvt_tile.specs.View.{kind_number}
use Rattle.mvt_draw.proofs.checking.read.Goals as goal

pub returns-in-Point-clause-figure : goal.returns-in-Point-clause-figure
returns-in-Point-clause-figure g c = IfOk-weaker c.read_points.result _ _ (λ _ whole given left. whole_figure point (kind_number c.args.kind) given (ap kind_number c.in-Point.is) (whole given left)) c.read_points.ensures.whole

pub returns-in-LineString-clause-figure : goal.returns-in-LineString-clause-figure
returns-in-LineString-clause-figure g c = IfOk-weaker c.read_paths.result _ _ (λ _ whole given left. whole_figure line_string (kind_number c.args.kind) given (ap kind_number c.in-LineString.is) (whole given left)) c.read_paths.ensures.whole

pub returns-in-Polygon-clause-figure : goal.returns-in-Polygon-clause-figure
returns-in-Polygon-clause-figure g c = IfOk-weaker c.read_paths-in-Polygon.result _ _ (λ _ whole given left. whole_figure polygon (kind_number c.args.kind) given (ap kind_number c.in-Polygon.is) (whole given left)) c.read_paths-in-Polygon.ensures.whole
