use Rattle.std.proofs.Common.{◌≡◌, ◌∷◌, [], ◌++◌, List, Bool, ap, ◌∙◌, subst, append_assoc}
use Rattle.std.proofs.lemmas.Result.{err_from_is_err_and}
use Rattle.mvt_plane.specs.Commands.Drawing.{State, close_command}
use Rattle.mvt_plane.specs.Calls.Reading.{StandsAt}
use Rattle.mvt_plane.specs.Commands.Reading.{of_close, path_type}
use Rattle.mvt_plane.specs.Commands.Course.{Course, IsPathAhead, ending_of}
use Rattle.mvt_plane.specs.Commands.Figure.{cursor}
use Rattle.mvt_plane.specs.Position.{Position}
use Rattle.mvt_draw.specs.Calls.Cursor.{position_of, course_of}
use Rattle.mvt_plane.proofs.Spelling.Readers.{after_ring}
use Rattle.mvt_draw.proofs.Courses.{one_ahead}
use Rattle.mvt_draw.proofs.Sources.{given_there}
use Rattle.mvt_draw.proofs.reading.read_path.Goals as goal

-- after what was kept before, the first position and then the further ones are the whole
all_kept : (before kept after further whole : List Position) (first : Position) → after ≡ kept ++ further → kept ≡ before ++ first ∷ [] → first ∷ further ≡ whole → after ≡ before ++ whole
all_kept before kept after further whole first is_after is_kept is_whole = cc (append_assoc before (first ∷ []) further)

pub returns-in_err-command-clause-fault : goal.returns-in_err-command-clause-fault
returns-in_err-command-clause-fault g c =
    let kind = path_type c.args.closed in
    let end = c.read_steps.new.cursor.at in
    let p = err_from_is_err_and c.from_residual-in_err-command.result c.from_residual-in_err-command.ensures.1 in
    rw (p.1, p.2) (λ numbers given drawn leads.
    let last = position_of c.read_steps.new.cursor in
    let left = c.in_ok-count.ensures.left numbers given in
    let next = given_there _ _ c.next_number.result c.next_number.ensures.end c.next_number.ensures.number numbers end (c.in_ok-read_steps.ensures.left numbers left) in
    let following = c.in_ok-read_steps.ensures.goes numbers left kind (c.in_ok-count.ensures.goes numbers given drawn leads) in
    c.in_err-command.ensures.fault numbers next.0 kind (close_command last) (of_close last) (λ end may. may)
    (subst (λ (state : State). StandsAt kind numbers end state) (after_ring c.args.closed last c.if-not-closed.false) following))

pub returns-clause-left : goal.returns-clause-left
returns-clause-left g c = λ numbers given.
    let end = c.read_steps.new.cursor.at in
    let left = c.in_ok-count.ensures.left numbers given in
    let next = given_there _ _ c.next_number.result c.next_number.ensures.end c.next_number.ensures.number numbers end (c.in_ok-read_steps.ensures.left numbers left) in
    (next.1 _ c.in_ok-command.ensures.number).1

pub returns-clause-goes : goal.returns-clause-goes
returns-clause-goes g c = λ numbers given drawn leads.
    let kind = path_type c.args.closed in
    let end = c.read_steps.new.cursor.at in
    let last = position_of c.read_steps.new.cursor in
    let left = c.in_ok-count.ensures.left numbers given in
    let next = given_there _ _ c.next_number.result c.next_number.ensures.end c.next_number.ensures.number numbers end (c.in_ok-read_steps.ensures.left numbers left) in
    let following = c.in_ok-read_steps.ensures.goes numbers left kind (c.in_ok-count.ensures.goes numbers given drawn leads) in
    c.in_ok-command.ensures.goes numbers next.0 kind (close_command last) (of_close last)
    (subst (λ (state : State). StandsAt kind numbers end state) (after_ring c.args.closed last c.if-not-closed.false) following)

pub returns-clause-drawn : goal.returns-clause-drawn
returns-clause-drawn g c = λ keeps numbers given part rest ahead.
    let end = c.read_steps.new.cursor.at in
    let before = g.S.PositionSink.kept c.args.sink.now in
    let from = position_of c.args.cursor.now in
    let path = subst (λ (it : Bool). IsPathAhead (course_of numbers c.args.cursor.now) part (ending_of it ++ rest)) c.if-not-closed.false ahead in
    let started = c.in_ok-count.ensures.drawn numbers given part (15 ∷ rest) path in
    let told = c.in_ok-read_steps.ensures.drawn keeps numbers (c.in_ok-count.ensures.left numbers given) started.0 (15 ∷ rest) started.2 in
    let here = ap (λ (it : Course). it.here) told.1 ∙ ap (λ (it : List Position). cursor from it) started.1 in
    let left = (one_ahead end numbers 15 rest (ap (λ (it : Course). it.left) told.1)).1 in (
      all_kept before _ _ started.0 part (position_of c.path_start.new.cursor) told.0 (c.in_ok-take.ensures.kept keeps) started.1,
      λ i. record { here = here i; left = left i },
    )

pub returns-then-not-closed-clause-drawn : goal.returns-then-not-closed-clause-drawn
returns-then-not-closed-clause-drawn g c = λ keeps numbers given part rest ahead.
    let before = g.S.PositionSink.kept c.args.sink.now in
    let from = position_of c.args.cursor.now in
    let path = subst (λ (it : Bool). IsPathAhead (course_of numbers c.args.cursor.now) part (ending_of it ++ rest)) c.if-not-closed.true ahead in
    let started = c.in_ok-count.ensures.drawn numbers given part rest path in
    let told = c.in_ok-read_steps.ensures.drawn keeps numbers (c.in_ok-count.ensures.left numbers given) started.0 rest started.2 in
    let here = ap (λ (it : Course). it.here) told.1 ∙ ap (λ (it : List Position). cursor from it) started.1 in
    let left = ap (λ (it : Course). it.left) told.1 in (
      all_kept before _ _ started.0 part (position_of c.path_start.new.cursor) told.0 (c.in_ok-take.ensures.kept keeps) started.1,
      λ i. record { here = here i; left = left i },
    )
