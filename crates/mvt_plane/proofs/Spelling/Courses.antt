-- What is ahead of a pen that goes over the numbers of a figure.
use Rattle.std.proofs.Common.{◌≡◌, ℕ, ◌<◌, Bool, List, [], ◌∷◌, ◌++◌, length, ap, refl, length-append, arith}
use Rattle.mvt_plane.specs.Commands.Course.{Course, IsStepAhead, IsPathAhead, ArePathsAhead, ending_of, AreTwoRuns, IsNextPath}
use Rattle.mvt_plane.specs.Commands.Figure.{steps, path, paths, cursor, command_integer, move_to, line_to, AreSteps, IsPath}
use Rattle.mvt_plane.specs.Position.{Position}

-- while a step of a run is left, a step is ahead
pub step_ahead : (now : Course) (ahead : List Position) (rest : List ℕ) → AreSteps now.here ahead → now.left ≡ steps now.here ahead ++ rest → 0 < length ahead
    → (to : Position) × (more : List ℕ) × IsStepAhead now to more
step_ahead now [] rest able stands some = absurd (omega arith)
step_ahead now (to ∷ ahead) rest able stands some = (to, steps to ahead ++ rest, record { able = able.0; stands = stands })

-- a path is two runs
pub two_runs : (course : Course) (part : List Position) (rest : List ℕ) → IsPathAhead course part rest → AreTwoRuns course part rest
two_runs course part rest ahead = from part ahead.able ahead.stands
  where
    from : (part : List Position) → IsPath ahead.least course.here part → course.left ≡ path course.here part ++ rest → AreTwoRuns course part rest
    from [] able stands = absurd able
    from (first ∷ more) able stands =
        record {
          first = first;
          more = more;
          whole = refl;
          between = record { here = first; left = command_integer line_to (length more) ∷ (steps first more ++ rest) };
          following = refl;
          one = record { id = move_to; is_id = omega arith; able = (able.0, tt); stands = stands };
          further = record { id = line_to; is_id = omega arith; able = able.1; stands = refl };
        }

-- while numbers are left, a path is ahead
pub next_path : (course : Course) (closed : Bool) (parts : List (List Position)) → ArePathsAhead course closed parts → 0 < length course.left → IsNextPath course closed parts
next_path course closed [] ahead some = absurd (omega (arith, ap (length {A = ℕ}) ahead.stands))
next_path course closed (part ∷ more) ahead some =
    record {
      part = part;
      more = more;
      whole = refl;
      left = paths (ending_of closed) (cursor course.here part) more;
      first = record { least = ahead.least; able = ahead.able.0; stands = ahead.stands };
      further = record { least = ahead.least; able = ahead.able.1; stands = refl };
    }

-- where no number is left, none is
pub no_path : (course : Course) (closed : Bool) (parts : List (List Position)) → ArePathsAhead course closed parts → length course.left ≡ 0 → parts ≡ []
no_path course closed [] ahead none = refl
no_path course closed ([] ∷ more) ahead none = absurd ahead.able.0
no_path course closed ((first ∷ further) ∷ more) ahead none = absurd (omega (arith, ap (length {A = ℕ}) ahead.stands))

-- a path has numbers
pub path_takes : (course : Course) (part : List Position) (rest : List ℕ) → IsPathAhead course part rest → length rest < length course.left
path_takes course part rest ahead = from part ahead.able ahead.stands
  where
    from : (part : List Position) → IsPath ahead.least course.here part → course.left ≡ path course.here part ++ rest → length rest < length course.left
    from [] able stands = absurd able
    from (first ∷ more) able stands = omega (arith, ap (length {A = ℕ}) stands, length-append (steps first more) rest)
