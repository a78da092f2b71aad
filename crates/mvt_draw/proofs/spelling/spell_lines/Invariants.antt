use Rattle.std.proofs.Common.{[], drop, map}
use Rattle.mvt_plane.specs.Position.{origin}
use Rattle.mvt_draw.proofs.SpellingPaths.{ArePathsTo}
use Rattle.mvt_draw.proofs.spelling.spell_lines.Given as goal

-- the lines so far are spelled
abbrev pub invariant-walk : goal.invariant-walk
invariant-walk l = ArePathsTo 1 [] l.fn.numbers.items origin (map (λ line. line.items) l.lines) l.numbers.items l.cursor (map (λ line. line.items) (drop l.line-index l.lines))
