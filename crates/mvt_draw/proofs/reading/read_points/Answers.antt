use Rattle.std.proofs.Common.{◌≡◌, ◌<◌, ℕ, [], List, length, drop, get_or, refl, ap, sym, ◌∙◌, subst, arith}
use Rattle.std.proofs.lemmas.Result.{err_from_is_err_and}
use Rattle.mvt_plane.specs.Commands.Drawing.{points_command, all_drawn, not_due}
use Rattle.mvt_plane.specs.Commands.Figure.{point, command_integer, move_to}
use Rattle.mvt_plane.specs.Calls.Reading.{StandsAt}
use Rattle.mvt_plane.specs.Commands.Reading.{of_points}
use Rattle.mvt_plane.proofs.Spelling.Readers.{points_left, blamed_there, whole_there}
use Rattle.mvt_wire.proofs.FieldNumbers.Sources.{at_end}
use Rattle.mvt_draw.proofs.Sources.{number_left, given_there}
use Rattle.mvt_draw.proofs.reading.read_points.Goals as goal

pub returns-in_err-count-clause-fault : goal.returns-in_err-count-clause-fault
returns-in_err-count-clause-fault g c =
    let p = err_from_is_err_and c.from_residual.result c.from_residual.ensures.1 in
    rw (p.1, p.2) (λ numbers left.
    let one = given_there _ _ c.next_number.result c.next_number.ensures.end c.next_number.ensures.number numbers 0 left in
    c.in_err-count.ensures.fault numbers one.0 point points_command of_points (λ end more. more) refl)

pub returns-in-Some-clause-fault : goal.returns-in-Some-clause-fault
returns-in-Some-clause-fault g c = λ numbers left.
    let end = c.read_steps.new.cursor.at in
    let one = given_there _ _ c.next_number.result c.next_number.ensures.end c.next_number.ensures.number numbers 0 left in
    let following = (one.1 _ c.in_ok-count.ensures.number).1 in
    blamed_there point points_command numbers end all_drawn 401
    (c.in_ok-read_steps.ensures.goes numbers following point
    (subst (λ state. StandsAt point numbers 1 state) (points_left point c.in_ok-count.count c.in_ok-count.ensures.count.0)
    (c.in_ok-count.ensures.goes numbers one.0 point points_command of_points refl)))
    (number_left _ numbers end _ (c.in-Some.ensures.number _ (c.in_ok-read_steps.ensures.left numbers following))).0.0 (λ allowed. allowed) (not_due refl refl)

pub returns-in-None-clause-whole : goal.returns-in-None-clause-whole
returns-in-None-clause-whole g c = λ numbers left.
    let end = c.read_steps.new.cursor.at in
    let one = given_there _ _ c.next_number.result c.next_number.ensures.end c.next_number.ensures.number numbers 0 left in
    let following = (one.1 _ c.in_ok-count.ensures.number).1 in
    whole_there point points_command numbers end all_drawn
    (c.in_ok-read_steps.ensures.goes numbers following point
    (subst (λ state. StandsAt point numbers 1 state) (points_left point c.in_ok-count.count c.in_ok-count.ensures.count.0)
    (c.in_ok-count.ensures.goes numbers one.0 point points_command of_points refl)))
    (at_end numbers end (c.in-None.ensures.end _ (c.in_ok-read_steps.ensures.left numbers following))) tt

pub returns-in-None-clause-drawn : goal.returns-in-None-clause-drawn
returns-in-None-clause-drawn g c = λ keeps numbers left positions run.
    let one = given_there _ _ c.next_number.result c.next_number.ensures.end c.next_number.ensures.number numbers 0 left in
    let counted : command_integer move_to c.in_ok-count.count ≡ command_integer run.id (length positions) =
    sym (one.1 _ c.in_ok-count.ensures.number).0.1 ∙ ap (λ (it : List ℕ). get_or it 0 0) run.stands in
    let small : run.id < 8 = run.is_id in
    let so_many : length positions ≡ c.in_ok-count.count = omega arith in
    (c.in_ok-read_steps.ensures.drawn keeps numbers (one.1 _ c.in_ok-count.ensures.number).1 positions []
    (record { able = run.able; stands = ap (λ (it : List ℕ). drop 1 it) run.stands; so_many = so_many })).0
