-- How a reader gets on that draws what it reads: what it read is what was ahead of it.
use Rattle.std.proofs.Common.{◌≡◌, ℕ, ◌+◌, ◌<◌, List, [], ◌∷◌, ◌++◌, length, drop, get_or, ◌+ℤ◌, ◌-ℤ◌, ap, sym, ◌∙◌, subst, arith}
use Rattle.std.proofs.lemmas.Int.{ints}
use Rattle.mvt_plane.proofs.Spelling.Courses.{two_runs}
use Rattle.mvt_plane.proofs.Spelling.Parameters.{unzigzag-zigzag}
use Rattle.mvt_plane.specs.Commands.Course.{Course, IsStepAhead, IsPathAhead}
use Rattle.mvt_plane.specs.Calls.Course.{course_at, AreStepsAhead}
use Rattle.mvt_plane.specs.Commands.Drawing.{unzigzag}
use Rattle.mvt_plane.specs.Commands.Figure.{zigzag, steps, line_to, command_integer, AreSteps}
use Rattle.mvt_plane.specs.Position.{Position}
use Rattle.mvt_draw.proofs.Courses.{one_ahead, two_ahead}
use Rattle.mvt_draw.proofs.Parameters.{same_position}

-- the parameters of the step that was ahead lead where it goes
pub step_drawn : (numbers : List ℕ) (at : ℕ) (from new to : Position) (rest : List ℕ) → IsStepAhead (course_at numbers at from) to rest
    → new.x ≡ from.x +ℤ unzigzag (get_or numbers at 0) → new.y ≡ from.y +ℤ unzigzag (get_or numbers (at + 1) 0)
    → course_at numbers (at + 2) new ≡ record { here = to; left = rest }
step_drawn numbers at from new to rest ahead x y =
    let there = two_ahead at numbers (zigzag (to.x -ℤ from.x)) (zigzag (to.y -ℤ from.y)) rest ahead.stands in
    let step_x : unzigzag (get_or numbers at 0) ≡ to.x -ℤ from.x = ap unzigzag there.0 ∙ unzigzag-zigzag (to.x -ℤ from.x) in
    let step_y : unzigzag (get_or numbers (at + 1) 0) ≡ to.y -ℤ from.y = ap unzigzag there.1 ∙ unzigzag-zigzag (to.y -ℤ from.y) in
    let same : new ≡ to = same_position to new.x new.y (omega (arith, ints)) (omega (arith, ints)) in
    λ i. record { here = same i; left = there.2 i }

-- after the first position of the line or ring that was ahead, its further positions are
pub path_started : (numbers : List ℕ) (start place count : ℕ) (from first : Position) (part : List Position) (rest : List ℕ) → IsPathAhead (course_at numbers start from) part rest
    → ((to : Position) (more : List ℕ) → IsStepAhead (course_at numbers (start + 1) from) to more → course_at numbers place first ≡ record { here = to; left = more })
    → get_or numbers place 0 ≡ command_integer line_to count
    → (further : List Position) × (first ∷ further ≡ part) × AreStepsAhead (course_at numbers (place + 1) first) count further rest
path_started numbers start place count from first part rest ahead step number =
    let runs = two_runs (course_at numbers start from) part rest ahead in
    let following = one_ahead start numbers (command_integer runs.one.id 1) (steps from (runs.first ∷ []) ++ runs.between.left) runs.one.stands in
    let told = step runs.first runs.between.left (record { able = runs.one.able.0; stands = following.1 }) in
    let here : first ≡ runs.first = ap (λ (it : Course). it.here) told in
    let from_first : runs.between.here ≡ first = ap (λ (it : Course). it.here) runs.following ∙ sym here in
    let left : drop place numbers ≡ runs.between.left = ap (λ (it : Course). it.left) told in
    let line = one_ahead place numbers (command_integer runs.further.id (length runs.more)) (steps runs.between.here runs.more ++ rest) (left ∙ runs.further.stands) in
    let counted : command_integer runs.further.id (length runs.more) ≡ command_integer line_to count = sym line.0 ∙ number in
    let small : runs.further.id < 8 = runs.further.is_id in
    let so_many : length runs.more ≡ count = omega arith in (
      runs.more,
      ap (λ (it : Position). it ∷ runs.more) here ∙ runs.whole,
      record {
        able = subst (λ (it : Position). AreSteps it runs.more) from_first runs.further.able;
        stands = line.1 ∙ ap (λ (it : Position). steps it runs.more ++ rest) from_first;
        so_many = so_many;
      },
    )
