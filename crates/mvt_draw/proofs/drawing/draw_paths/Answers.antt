use Rattle.std.proofs.Common.{◌≡◌, ℕ, List, [], ◌∷◌, ◌++◌, length, map, drop, ap, ◌∙◌, arith}
use Rattle.std.proofs.lemmas.List.{map-append}
use Rattle.mvt_plane.specs.Position.{Position}
use Rattle.mvt_draw.specs.Calls.Cursor.{course_of}
use Rattle.mvt_draw.proofs.Paths.{IsAmidPaths-next, IsAmidPaths-over}
use Rattle.mvt_draw.proofs.Sources.{some_left, number_left}
use Rattle.mvt_draw.proofs.drawing.draw_paths.Goals as goal

pub paths-preserved : goal.paths-preserved
paths-preserved c =
    let numbers = c.args.numbers.now in
    let given = number_left _ numbers c.paths.cursor.at c.in-Some.first (c.in-Some.ensures.number _ c.paths.invariant.left) in
    record {
      fewer = omega (arith, c.in_ok-read_path.ensures.fewer, c.in-Some.ensures.fewer);
      left = c.in_ok-read_path.ensures.left numbers given;
      drawn = λ parts ahead.
          let points = c.read_path.new.sink in
          let pushed = ap (λ drawn. map (λ part. part.items) drawn) c.in_ok-push.ensures.items ∙ map-append (λ part. part.items) c.paths.parts.items (points ∷ []) in
          IsAmidPaths-next c.args.closed parts _ _ (course_of numbers c.paths.cursor)
          (course_of numbers c.read_path.new.cursor) (c.paths.invariant.drawn parts ahead) (some_left numbers c.paths.cursor.at given.0.0)
          (λ part rest path.
          let told = c.in_ok-read_path.ensures.drawn tt numbers given part rest path in
          let drawn = told.0 ∙ ap (λ (it : List Position). it ++ part) c.new-points.ensures.items in
          (pushed ∙ ap (λ (it : List Position). map (λ part. part.items) c.paths.parts.items ++ it ∷ []) drawn, told.1));
    }

pub returns : goal.returns
returns c = λ parts ahead.
    let numbers = c.args.numbers.now in
    let none : length (drop c.paths.cursor.at numbers) ≡ 0 = ap (λ (it : List ℕ). length it) (c.in_default.ensures.end (drop c.paths.cursor.at numbers) c.paths.invariant.left) in
    IsAmidPaths-over c.args.closed parts _ (course_of numbers c.paths.cursor) (c.paths.invariant.drawn parts ahead) none
