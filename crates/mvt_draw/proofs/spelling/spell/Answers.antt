use Rattle.std.proofs.Common.{map}
use Rattle.mvt_plane.specs.Commands.Figure.{points, lines, rings}
use Rattle.mvt_draw.proofs.SpellingFigures.{spelled_alone}
use Rattle.mvt_draw.proofs.spelling.spell.Goals as goal
use Rattle.mvt_draw.proofs.spelling.spell.Goals.{in-Points+in_ok-spell_points-in-Points, in-Lines+in_ok-spell_lines-in-Lines, in-Rings+in_ok-spell_rings-in-Rings}

pub returns-clause-numbers : goal.returns-clause-numbers
returns-clause-numbers c =
    elim c.match-figure.branch [
      | in-Points+in_ok-spell_points-in-Points w ↦
          rw (w.numbers-is)
          (spelled_alone c.args.figure.now (points w.deref.result.now) c.new-numbers.result.items w.spell_points.new.numbers.items
          (rw (w.in-Points.is, w.deref.ensures.value)) w.in_ok-spell_points-in-Points.ensures.spelled c.new-numbers.ensures.items)
      | in-Lines+in_ok-spell_lines-in-Lines w ↦
          rw (w.numbers-is)
          (spelled_alone c.args.figure.now (lines (map (λ line. line.items) w.deref-in-Lines.result.now)) c.new-numbers.result.items w.spell_lines.new.numbers.items
          (rw (w.in-Lines.is, w.deref-in-Lines.ensures.value)) w.in_ok-spell_lines-in-Lines.ensures.spelled c.new-numbers.ensures.items)
      | in-Rings+in_ok-spell_rings-in-Rings w ↦
          rw (w.numbers-is)
          (spelled_alone c.args.figure.now (rings (map (λ ring. ring.items) w.deref-in-Rings.result.now)) c.new-numbers.result.items w.spell_rings.new.numbers.items
          (rw (w.in-Rings.is, w.deref-in-Rings.ensures.value)) w.in_ok-spell_rings-in-Rings.ensures.spelled c.new-numbers.ensures.items)
    ]
