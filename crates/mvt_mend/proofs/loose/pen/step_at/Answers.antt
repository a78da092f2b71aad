use Rattle.std.proofs.Common.{◌≡◌, ℤ, ◌+◌, ◌-ℤ◌, to_z, of_z, get_or, sym, ap, subst, arith}
use mir.Syntax.{w32}
use Rattle.mvt_plane.specs.Commands.Figure.{zigzag}
use Rattle.mvt_plane.specs.Position.{Position, IsPosition}
use Rattle.mvt_plane.proofs.Points.Bounds.{fitting}
use Rattle.mvt_mend.proofs.DrawnSteps.{step_read}
use Rattle.mvt_mend.proofs.loose.pen.step_at.Goals as goal

pub returns-in-Some-new : goal.returns-in-Some-new
returns-in-Some-new c =
    let numbers = c.args.numbers.now in
    let at = c.args.at in
    let to = c.in-Some-new.to in
    let is = c.in-Some-new.ensures.point in
    let x_range = c.in-Some.ensures.in_range in
    let y_range = c.in-Some-coordinate.ensures.in_range in
    let at_x = ap (λ (position : Position). position.x) is in
    let at_y = ap (λ (position : Position). position.y) is in
    let to_x : to.x ≡ c.in-Some.x = omega (arith, fitting, at_x) in
    let to_y : to.y ≡ c.in-Some-coordinate.y = omega (arith, fitting, at_y) in
    let from_range = c.x.ensures.in_range in
    let from_x : to_z w32 (of_z w32 c.x.result) ≡ c.args.from.x = omega (arith, fitting, c.x.ensures.value) in
    let from_y : to_z w32 (of_z w32 c.y.result) ≡ c.args.from.y = omega (arith, fitting, c.y.ensures.value) in
    let of_x = subst (λ (from : ℤ). get_or numbers at 0 ≡ zigzag (c.in-Some.x -ℤ from)) from_x c.in-Some.ensures.parameter in
    let of_y = subst (λ (from : ℤ). get_or numbers (at + 1) 0 ≡ zigzag (c.in-Some-coordinate.y -ℤ from)) from_y c.in-Some-coordinate.ensures.parameter in
    step_read numbers at c.args.from to c.in-Some.x c.in-Some-coordinate.y (omega (arith, c.if-at-numbers.false, c.if-numbers-at-lt2.false)) to_x to_y (subst IsPosition (sym is) c.in-Some-new.ensures.in_range) of_x of_y
