use Rattle.std.proofs.Common.{[], ◌∷◌, drop, map}
use Rattle.mvt_plane.specs.Commands.Figure.{close_path, command_integer}
use Rattle.mvt_plane.specs.Position.{origin}
use Rattle.mvt_draw.proofs.SpellingPaths.{ArePathsTo}
use Rattle.mvt_draw.proofs.spelling.spell_rings.Given as goal

-- the rings so far are spelled
abbrev pub invariant-walk : goal.invariant-walk
invariant-walk l =
    ArePathsTo 2 (command_integer close_path 1 ∷ []) l.fn.numbers.items origin (map (λ ring. ring.items) l.rings) l.numbers.items l.cursor (map (λ ring. ring.items) (drop l.ring-index l.rings))
