use Rattle.std.proofs.Common.{◌≡◌, Some, ◌∙◌}
use Rattle.mvt_confirm.proofs.Drawing.MovedPositions.{moved_from_beside, moved_there}
use Rattle.mvt_confirm.proofs.moves.moved_by.Goals as goal

pub returns : goal.returns
returns c = λ to able x_is y_is.
    let from = c.args.from in
    let x_there : c.ok.result ≡ Some (record { x = to.x; y = from.y }) =
    c.ok.ensures.value ∙ moved_there (λ x. record { x = x; y = from.y }) from.x to.x c.args.x c.moved_x.result able.x able.there.x x_is c.moved_x.ensures.there c.moved_x.ensures.fault in
    let beside : c.in_ok-beside.beside ≡ record { x = to.x; y = from.y } = cc (x_there, c.in_ok-beside.was) in
    c.ok-2.ensures.value ∙ moved_from_beside from to c.in_ok-beside.beside c.args.y c.moved_y.result able beside y_is c.moved_y.ensures.there c.moved_y.ensures.fault
