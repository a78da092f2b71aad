-- What is ahead of a pen in front of a figure's numbers.
use Rattle.std.proofs.Common.{◌≡◌, ℕ, List, [], ◌∷◌, length, ap, sym, ◌∙◌, refl, append-nil, true, false, arith}
use Rattle.mvt_plane.specs.Commands.Figure.{point, line_string, polygon, Figure, points, lines, rings, steps, command_integer, move_to, Spells}
use Rattle.mvt_plane.specs.Position.{Position, origin}
use Rattle.mvt_plane.specs.Commands.Course.{IsRunAhead, ArePathsAhead}

-- points are one run
pub points_run : (figure : Figure) (numbers : List ℕ) → Spells point figure numbers
    → (positions : List Position) × (figure ≡ points positions) × IsRunAhead (record { here = origin; left = numbers }) positions []
points_run (points positions) numbers spells = (
  positions,
  refl,
  record {
    id = move_to;
    is_id = omega arith;
    able = spells.able.0;
    stands = spells.spelled ∙ ap (λ (it : List ℕ). command_integer move_to (length positions) ∷ it) (sym (append-nil (steps origin positions)));
  },
)
points_run (lines parts) numbers spells = absurd (cc)
points_run (rings parts) numbers spells = absurd (cc)

-- lines are paths
pub lines_ahead : (figure : Figure) (numbers : List ℕ) → Spells line_string figure numbers
    → (parts : List (List Position)) × (figure ≡ lines parts) × ArePathsAhead (record { here = origin; left = numbers }) false parts
lines_ahead (points positions) numbers spells = absurd (cc)
lines_ahead (lines parts) numbers spells = (parts, refl, record { least = 1; able = spells.able.0; stands = spells.spelled })
lines_ahead (rings parts) numbers spells = absurd (cc)

-- rings are paths that are closed
pub rings_ahead : (figure : Figure) (numbers : List ℕ) → Spells polygon figure numbers
    → (parts : List (List Position)) × (figure ≡ rings parts) × ArePathsAhead (record { here = origin; left = numbers }) true parts
rings_ahead (points positions) numbers spells = absurd (cc)
rings_ahead (lines parts) numbers spells = absurd (cc)
rings_ahead (rings parts) numbers spells = (parts, refl, record { least = 2; able = spells.able.0; stands = spells.spelled })
