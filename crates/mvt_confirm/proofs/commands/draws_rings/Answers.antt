use Rattle.std.proofs.Common.{◌+◌, sym, true≢false}
use Rattle.std.proofs.lemmas.Result.{IfOk-at_ok, IfErr-at_err}
use Rattle.mvt_confirm.specs.Calls.Commands.{plane_state}
use Rattle.mvt_confirm.proofs.Drawing.CommandWalks.{amid_start, amid_more, amid_whole_message, amid_fault, faulty_rings, rings_where_ended}
use Rattle.mvt_fault.specs.Code.{command_code}
use Rattle.mvt_plane.specs.Commands.Figure.{polygon}
use Rattle.mvt_confirm.proofs.commands.draws_rings.Goals as goal

pub numbers-init : goal.numbers-init
numbers-init c = λ geometry left. (0, amid_start polygon geometry c.args.numbers (plane_state c.start-state.result) left c.start-state.ensures)

pub returns-in_default-item : goal.returns-in_default-item
returns-in_default-item c = λ geometry left.
    let amid = c.numbers.invariant geometry left in
    absurd (amid_whole_message polygon geometry _ _ (plane_state c.numbers.state) amid.0 _ amid.1 (IfErr-at_err _ c.in_default-item.is c.in-Some.ensures.fault))

pub returns-in_default-next : goal.returns-in_default-next
returns-in_default-next c = λ geometry left.
    let amid = c.numbers.invariant geometry left in
    let given = IfOk-at_ok _ c.in-Ok.is c.in-Some.ensures.number in
    let code = c.in_default-next.field-0 in
    let fault = amid_fault polygon geometry _ _ (plane_state c.numbers.state) amid.0 c.in-Ok.number code amid.1 given c.in_default-next.ensures.fault in
    (λ none. absurd (true≢false (sym none)), λ drawn. absurd (faulty_rings geometry (command_code code) amid.0 fault drawn))

pub numbers-preserved : goal.numbers-preserved
numbers-preserved c = λ geometry left.
    let amid = c.numbers.invariant geometry left in
    let given = IfOk-at_ok _ c.in-Ok.is c.in-Some.ensures.number in (
      amid.0 + 1,
      amid_more polygon geometry _ _ (plane_state c.numbers.state) (plane_state c.in-Ok-next.next) amid.0 c.in-Ok.number amid.1 given c.in-Ok-next.ensures.goes,
    )

pub returns : goal.returns
returns c = λ geometry left.
    let amid = c.numbers.invariant geometry left in
    rings_where_ended geometry _ _ (plane_state c.numbers.state) amid.0 c.may_end.result amid.1 c.in_default.ensures.end c.may_end.ensures
