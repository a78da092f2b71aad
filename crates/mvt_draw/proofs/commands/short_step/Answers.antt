use Rattle.std.proofs.Common.{◌+◌, ℤ, true≢false, sym, ◌∙◌, subst, get_or, w32, SFits, rules, arith}
use Rattle.std.proofs.lemmas.Int.{ints, to_z-of_z}
use Rattle.std.proofs.lemmas.Result.{err_from_is_err_and}
use Rattle.mvt_plane.specs.Commands.Drawing.{start, step_x, step_y}
use Rattle.mvt_plane.specs.Commands.Reading.{AsksCoordinate, of_x, of_y}
use Rattle.mvt_draw.specs.Calls.Cursor.{position_of}
use Rattle.mvt_plane.proofs.Spelling.Readers.{leads_on, step_leads, no_step_there}
use Rattle.mvt_draw.proofs.Steps.{same_position, there_move}
use Rattle.mvt_draw.proofs.StepsAhead.{step_drawn}
use Rattle.mvt_draw.proofs.commands.short_step.Goals as goal
use Rattle.mvt_draw.proofs.commands.short_step.Goals.{else-line-via-then-line+then-x-eq0+else-y-eq0, else-line-via-then-line+else-x-eq0, else-line-via-else-line}

pub returns-in_err-to_x-clause-fault : goal.returns-in_err-to_x-clause-fault
returns-in_err-to_x-clause-fault c =
    let p = err_from_is_err_and c.from_residual.result c.from_residual.ensures.1 in
    let fits_x : SFits w32 c.args.cursor.now.x = search rules in
    let from = position_of c.args.cursor.now in
    rw (p.1, p.2) (λ numbers pair geometry_type leg line leads.
    c.in_err-to_x.ensures.fault numbers (omega (arith, pair.0), pair.1) geometry_type (step_x leg from)
    (subst (λ (z : ℤ). AsksCoordinate (step_x leg from) z) (sym (to_z-of_z w32 c.args.cursor.now.x fits_x)) (of_x leg from)) leads)

pub returns-in_err-to_y-clause-fault : goal.returns-in_err-to_y-clause-fault
returns-in_err-to_y-clause-fault c =
    let p = err_from_is_err_and c.from_residual-in_err-to_y.result c.from_residual-in_err-to_y.ensures.1 in
    let fits_y : SFits w32 c.args.cursor.now.y = search rules in
    let from = position_of c.args.cursor.now in
    rw (p.1, p.2) (λ numbers pair geometry_type leg line leads.
    let at_x = get_or numbers c.args.cursor.now.at 0 in
    let x = there_move from.x c.in_ok-to_x.to_x c.args.x at_x (search rules) pair.1 c.in_ok-to_x.ensures.moves in
    c.in_err-to_y.ensures.fault numbers (pair.0, pair.2) geometry_type (step_y leg from at_x)
    (subst (λ (z : ℤ). AsksCoordinate (step_y leg from at_x) z) (sym (to_z-of_z w32 c.args.cursor.now.y fits_y)) (of_y leg from at_x))
    (leads_on geometry_type (start geometry_type) numbers c.args.cursor.now.at (step_x leg from) leads (omega (arith, pair.0)) x.0))

pub returns-then-y-eq0-clause-fault : goal.returns-then-y-eq0-clause-fault
returns-then-y-eq0-clause-fault c = λ numbers pair geometry_type leg line leads.
    let from = c.args.cursor.now in
    let x = there_move from.x c.in_ok-to_x.to_x c.args.x (get_or numbers from.at 0) (search rules) pair.1 c.in_ok-to_x.ensures.moves in
    let y = there_move from.y c.in_ok-to_y.to_y c.args.y (get_or numbers (from.at + 1) 0) (search rules) pair.2 c.in_ok-to_y.ensures.moves in
    no_step_there geometry_type (start geometry_type) numbers from.at leg (position_of from) (line ∙ c.if-line.true) leads pair.0 x.0 y.0 (pair.1 ∙ c.if-x-eq0.true) (pair.2 ∙ c.if-y-eq0.true)

pub returns-clause-goes : goal.returns-clause-goes
returns-clause-goes c = λ numbers pair geometry_type leg line leads.
    let from = c.args.cursor.now in
    let x = there_move from.x c.in_ok-to_x.to_x c.args.x (get_or numbers from.at 0) (search rules) pair.1 c.in_ok-to_x.ensures.moves in
    let y = there_move from.y c.in_ok-to_y.to_y c.args.y (get_or numbers (from.at + 1) 0) (search rules) pair.2 c.in_ok-to_y.ensures.moves in
    step_leads geometry_type (start geometry_type) numbers from.at leg (position_of from) _ leads pair.0 x.0 y.0
    (λ is none_x none_y. elim c.else-line.branch [
      | else-line-via-then-line+then-x-eq0+else-y-eq0 w ↦ w.if-y-eq0.false (sym pair.2 ∙ none_y)
      | else-line-via-then-line+else-x-eq0 w ↦ w.if-x-eq0.false (sym pair.1 ∙ none_x)
      | else-line-via-else-line w ↦ true≢false (sym is ∙ line ∙ w.if-line.false)
    ])
    (same_position _ _ _ _ (omega (arith, ints, x.0.there, x.1)) (omega (arith, ints, y.0.there, y.1)))

pub returns-clause-drawn : goal.returns-clause-drawn
returns-clause-drawn c = λ numbers pair to rest ahead.
    let from = c.args.cursor.now in
    let x = there_move from.x c.in_ok-to_x.to_x c.args.x (get_or numbers from.at 0) (search rules) pair.1 c.in_ok-to_x.ensures.moves in
    let y = there_move from.y c.in_ok-to_y.to_y c.args.y (get_or numbers (from.at + 1) 0) (search rules) pair.2 c.in_ok-to_y.ensures.moves in
    step_drawn numbers from.at (position_of from) _ to rest ahead (omega (arith, ints, x.0.there, x.1)) (omega (arith, ints, y.0.there, y.1))
