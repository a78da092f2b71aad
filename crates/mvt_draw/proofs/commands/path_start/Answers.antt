use Rattle.std.proofs.Common.{◌+◌, ◌≤◌, ℕ, refl, sym, subst, arith}
use Rattle.std.proofs.lemmas.Result.{err_from_is_err_and}
use Rattle.mvt_plane.specs.Commands.Drawing.{State, path_command, line_command, to_first}
use Rattle.mvt_plane.specs.Commands.Figure.{line_to}
use Rattle.mvt_plane.specs.Calls.Reading.{StandsAt}
use Rattle.mvt_plane.specs.Commands.Reading.{AsksCommand, of_path, of_line, greatest_count, path_type}
use Rattle.mvt_draw.specs.Calls.Cursor.{position_of}
use Rattle.mvt_plane.proofs.Spelling.Figures.{one_after}
use Rattle.mvt_plane.proofs.Spelling.Readers.{line_left}
use Rattle.mvt_draw.proofs.Sources.{given_there}
use Rattle.mvt_draw.proofs.StepsAhead.{path_started}
use Rattle.mvt_draw.proofs.commands.path_start.Goals as goal

pub returns-in_err-command-clause-fault : goal.returns-in_err-command-clause-fault
returns-in_err-command-clause-fault g c =
    let kind = path_type c.args.closed in
    let from = position_of c.args.cursor.now in
    let p = err_from_is_err_and c.from_residual.result c.from_residual.ensures.1 in
    rw (p.1, p.2) (λ numbers given drawn leads.
    c.in_err-command.ensures.fault numbers given.0 kind (path_command drawn from) (of_path drawn from) (λ none. cc) leads)

pub returns-in_err-step-clause-fault : goal.returns-in_err-step-clause-fault
returns-in_err-step-clause-fault g c =
    let kind = path_type c.args.closed in
    let from = position_of c.args.cursor.now in
    let p = err_from_is_err_and c.from_residual-in_err-step.result c.from_residual-in_err-step.ensures.1 in
    rw (p.1, p.2) (λ numbers given drawn leads.
    let moving = c.in_ok-command.ensures.goes numbers given.0 kind (path_command drawn from) (of_path drawn from) leads in
    c.in_err-step.ensures.fault numbers given.1 kind to_first refl moving)

pub returns-in_err-count-clause-fault : goal.returns-in_err-count-clause-fault
returns-in_err-count-clause-fault g c =
    let kind = path_type c.args.closed in
    let place = c.step.new.cursor.at in
    let from = position_of c.args.cursor.now in
    let p = err_from_is_err_and c.from_residual-in_err-count.result c.from_residual-in_err-count.ensures.1 in
    rw (p.1, p.2) (λ numbers given drawn leads.
    let moving = c.in_ok-command.ensures.goes numbers given.0 kind (path_command drawn from) (of_path drawn from) leads in
    let first = position_of c.step.new.cursor in
    let asks = subst (λ (fewest : ℕ). AsksCommand kind (line_command first) line_to fewest greatest_count) (sym c.fewest_further-fewest.ensures) (of_line first) in
    let drawing = c.in_ok-step.ensures.goes numbers given.1 kind to_first refl moving in
    let left = c.in_ok-step.ensures.left numbers given.1 in
    let next = given_there _ _ c.next_number.result c.next_number.ensures.end c.next_number.ensures.number numbers place left in
    c.in_err-count.ensures.fault numbers next.0 kind (line_command first) asks (λ end may. may) drawing)

pub returns-clause-left : goal.returns-clause-left
returns-clause-left g c = λ numbers given.
    let place = c.step.new.cursor.at in
    let left = c.in_ok-step.ensures.left numbers given.1 in
    let next = given_there _ _ c.next_number.result c.next_number.ensures.end c.next_number.ensures.number numbers place left in
    (next.1 _ c.in_ok-count.ensures.number).1

pub returns-clause-goes : goal.returns-clause-goes
returns-clause-goes g c =
    let kind = path_type c.args.closed in
    let place = c.step.new.cursor.at in
    let from = position_of c.args.cursor.now in
    λ numbers given drawn leads.
    let moving = c.in_ok-command.ensures.goes numbers given.0 kind (path_command drawn from) (of_path drawn from) leads in
    let first = position_of c.step.new.cursor in
    let asks = subst (λ (fewest : ℕ). AsksCommand kind (line_command first) line_to fewest greatest_count) (sym c.fewest_further-fewest.ensures) (of_line first) in
    let drawing = c.in_ok-step.ensures.goes numbers given.1 kind to_first refl moving in
    let left = c.in_ok-step.ensures.left numbers given.1 in
    let next = given_there _ _ c.next_number.result c.next_number.ensures.end c.next_number.ensures.number numbers place left in
    let some : 1 ≤ c.in_ok-count.count = omega (arith, c.in_ok-count.ensures.count, one_after kind) in
    subst (λ (state : State). StandsAt kind numbers (place + 1) state) (line_left kind first c.in_ok-count.count some)
    (c.in_ok-count.ensures.goes numbers next.0 kind (line_command first) asks drawing)

pub returns-clause-drawn : goal.returns-clause-drawn
returns-clause-drawn g c = λ numbers given part rest ahead.
    let place = c.step.new.cursor.at in
    let left = c.in_ok-step.ensures.left numbers given.1 in
    let next = given_there _ _ c.next_number.result c.next_number.ensures.end c.next_number.ensures.number numbers place left in
    path_started numbers c.args.cursor.now.at place c.in_ok-count.count (position_of c.args.cursor.now) (position_of c.step.new.cursor) part rest ahead (c.in_ok-step.ensures.drawn numbers given.1)
    (next.1 _ c.in_ok-count.ensures.number).0.1
