use Rattle.std.proofs.Common.{List, ap, sym, ◌∙◌, Some}
use Rattle.mvt_plane.specs.Commands.Figure.{point, line_string, polygon, points, lines, rings}
use Rattle.mvt_plane.specs.Position.{Position}
use Rattle.mvt_tile.specs.View.{kind_number}
use Rattle.mvt_draw.specs.Geometry.{drawn}
use Rattle.mvt_plane.proofs.Spelling.FigurePaths.{points_run, lines_ahead, rings_ahead}
use Rattle.mvt_draw.proofs.drawing.draw_figure.Goals as goal

pub returns-in_ok-draw_points-in-Point : goal.returns-in_ok-draw_points-in-Point
returns-in_ok-draw_points-in-Point c =
    let there = c.requires point (ap kind_number c.in-Point.is) in
    let run = points_run there.0 c.args.numbers.now there.1 in
    drawn point there.0 (ap kind_number c.in-Point.is)
    (ap (λ (it : List Position). Some (points it)) (c.in_ok-draw_points-in-Point.ensures run.0 run.2) ∙ ap Some (sym run.1)) there.1

pub returns-in_ok-draw_paths-in-LineString : goal.returns-in_ok-draw_paths-in-LineString
returns-in_ok-draw_paths-in-LineString c =
    let there = c.requires line_string (ap kind_number c.in-LineString.is) in
    let paths = lines_ahead there.0 c.args.numbers.now there.1 in
    drawn line_string there.0 (ap kind_number c.in-LineString.is)
    (ap (λ (it : List (List Position)). Some (lines it)) (c.in_ok-draw_paths-in-LineString.ensures paths.0 paths.2) ∙ ap Some (sym paths.1)) there.1

pub returns-in_ok-draw_paths-in-Polygon : goal.returns-in_ok-draw_paths-in-Polygon
returns-in_ok-draw_paths-in-Polygon c =
    let there = c.requires polygon (ap kind_number c.in-Polygon.is) in
    let paths = rings_ahead there.0 c.args.numbers.now there.1 in
    drawn polygon there.0 (ap kind_number c.in-Polygon.is)
    (ap (λ (it : List (List Position)). Some (rings it)) (c.in_ok-draw_paths-in-Polygon.ensures paths.0 paths.2) ∙ ap Some (sym paths.1)) there.1
