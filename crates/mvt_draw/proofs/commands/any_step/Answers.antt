use Rattle.std.proofs.Common.{◌≡◌, ◌+◌, ℤ, true≢false, ap, sym, ◌∙◌, subst, get_or, w32, SFits, to_z, of_z, rules, arith}
use Rattle.std.proofs.lemmas.Int.{ints, to_z-of_z}
use Rattle.std.proofs.lemmas.Result.{err_from_is_err_and}
use Rattle.mvt_plane.specs.Commands.Drawing.{start, step_x, step_y}
use Rattle.mvt_plane.specs.Commands.Reading.{AsksCoordinate, of_x, of_y}
use Rattle.mvt_draw.specs.Calls.Cursor.{position_of}
use Rattle.mvt_plane.proofs.Spelling.Readers.{leads_on, step_leads, no_step_there, zero_parameter}
use Rattle.mvt_draw.proofs.Steps.{stays, same_position, passed_move}
use Rattle.mvt_draw.proofs.StepsAhead.{step_drawn}
use Rattle.mvt_draw.proofs.commands.any_step.Goals as goal
use Rattle.mvt_draw.proofs.commands.any_step.Goals.{else-line-via-then-line+then-x-cursor+else-y-cursor, else-line-via-then-line+else-x-cursor, else-line-via-else-line}

-- coordinates of the same bits
same_bits : (x from : ℤ) → SFits w32 x → SFits w32 from → of_z w32 x ≡ of_z w32 from → x ≡ from
same_bits x from fits fits' same = sym (to_z-of_z w32 x fits) ∙ ap (to_z w32) same ∙ to_z-of_z w32 from fits'

pub returns-in_err-x-clause-fault : goal.returns-in_err-x-clause-fault
returns-in_err-x-clause-fault g c =
    let p = err_from_is_err_and c.from_residual.result c.from_residual.ensures.1 in
    let fits_x : SFits w32 c.args.cursor.now.x = search rules in
    let from = position_of c.args.cursor.now in
    rw (p.1, p.2) (λ numbers left geometry_type leg line leads.
    c.in_err-x.ensures.fault numbers left geometry_type (step_x leg from)
    (subst (λ (z : ℤ). AsksCoordinate (step_x leg from) z) (sym (to_z-of_z w32 c.args.cursor.now.x fits_x)) (of_x leg from)) leads)

pub returns-in_err-y-clause-fault : goal.returns-in_err-y-clause-fault
returns-in_err-y-clause-fault g c =
    let p = err_from_is_err_and c.from_residual-in_err-y.result c.from_residual-in_err-y.ensures.1 in
    let fits_y : SFits w32 c.args.cursor.now.y = search rules in
    let from = position_of c.args.cursor.now in
    rw (p.1, p.2) (λ numbers left geometry_type leg line leads.
    let at_x = get_or numbers c.args.cursor.now.at 0 in
    let following = c.in_ok-x.ensures.left numbers left in
    let x = passed_move from.x c.in_ok-x.x at_x (search rules) (c.in_ok-x.ensures.moves numbers left) in
    c.in_err-y.ensures.fault numbers following.1 geometry_type (step_y leg from at_x)
    (subst (λ (z : ℤ). AsksCoordinate (step_y leg from at_x) z) (sym (to_z-of_z w32 c.args.cursor.now.y fits_y)) (of_y leg from at_x))
    (leads_on geometry_type (start geometry_type) numbers c.args.cursor.now.at (step_x leg from) leads following.0 x.0))

pub returns-then-y-cursor-clause-fault : goal.returns-then-y-cursor-clause-fault
returns-then-y-cursor-clause-fault g c = λ numbers left geometry_type leg line leads.
    let from = c.args.cursor.now in
    let at_x = get_or numbers from.at 0 in
    let at_y = get_or numbers (from.at + 1) 0 in
    let following = c.in_ok-x.ensures.left numbers left in
    let x = passed_move from.x c.in_ok-x.x at_x (search rules) (c.in_ok-x.ensures.moves numbers left) in
    let y = passed_move from.y c.in_ok-y.y at_y (search rules) (c.in_ok-y.ensures.moves numbers following.1) in
    no_step_there geometry_type (start geometry_type) numbers from.at leg (position_of from) (line ∙ c.if-line.true) leads (c.in_ok-y.ensures.left numbers following.1).0 x.0 y.0
    (zero_parameter from.x at_x (sym x.1 ∙ same_bits c.in_ok-x.x from.x (search rules) (search rules) c.if-x-cursor.true))
    (zero_parameter from.y at_y (sym y.1 ∙ same_bits c.in_ok-y.y from.y (search rules) (search rules) c.if-y-cursor.true))

pub returns-clause-left : goal.returns-clause-left
returns-clause-left g c = λ numbers left.
    let place : c.args.cursor.now.at + 1 + 1 ≡ c.args.cursor.now.at + 2 = omega arith in
    rw (← place) (c.in_ok-y.ensures.left numbers (c.in_ok-x.ensures.left numbers left).1).1

pub returns-clause-goes : goal.returns-clause-goes
returns-clause-goes g c = λ numbers left geometry_type leg line leads.
    let from = c.args.cursor.now in
    let at_x = get_or numbers from.at 0 in
    let at_y = get_or numbers (from.at + 1) 0 in
    let following = c.in_ok-x.ensures.left numbers left in
    let x = passed_move from.x c.in_ok-x.x at_x (search rules) (c.in_ok-x.ensures.moves numbers left) in
    let y = passed_move from.y c.in_ok-y.y at_y (search rules) (c.in_ok-y.ensures.moves numbers following.1) in
    step_leads geometry_type (start geometry_type) numbers from.at leg (position_of from) _ leads (c.in_ok-y.ensures.left numbers following.1).0 x.0 y.0
    (λ is none_x none_y. elim c.else-line.branch [
      | else-line-via-then-line+then-x-cursor+else-y-cursor w ↦ w.if-y-cursor.false (ap (of_z w32) (y.1 ∙ stays from.y at_y none_y))
      | else-line-via-then-line+else-x-cursor w ↦ w.if-x-cursor.false (ap (of_z w32) (x.1 ∙ stays from.x at_x none_x))
      | else-line-via-else-line w ↦ true≢false (sym is ∙ line ∙ w.if-line.false)
    ])
    (same_position _ _ _ _ (omega (arith, ints, x.0.there, x.1)) (omega (arith, ints, y.0.there, y.1)))

pub returns-clause-drawn : goal.returns-clause-drawn
returns-clause-drawn g c = λ numbers left to rest ahead.
    let from = c.args.cursor.now in
    let at_x = get_or numbers from.at 0 in
    let at_y = get_or numbers (from.at + 1) 0 in
    let x = passed_move from.x c.in_ok-x.x at_x (search rules) (c.in_ok-x.ensures.moves numbers left) in
    let y = passed_move from.y c.in_ok-y.y at_y (search rules) (c.in_ok-y.ensures.moves numbers (c.in_ok-x.ensures.left numbers left).1) in
    step_drawn numbers from.at (position_of from) _ to rest ahead (omega (arith, ints, x.0.there, x.1)) (omega (arith, ints, y.0.there, y.1))
