use Rattle.std.proofs.Common.{◌+◌, refl, sym, true≢false, zero-add}
use Rattle.std.proofs.lemmas.Result.{IfOk-at_ok, IfErr-at_err}
use Rattle.mvt_confirm.specs.Calls.Commands.{plane_state, plane_type}
use Rattle.mvt_confirm.proofs.Drawing.CommandWalks.{amid_start, amid_more, amid_whole_message, amid_fault, amid_unfinished, amid_figure, is_asked}
use Rattle.mvt_fault.specs.Code.{command_code}
use Rattle.mvt_confirm.proofs.commands.has_fault.Goals as goal

pub numbers-init : goal.numbers-init
numbers-init c = λ geometry left. (0, amid_start (plane_type c.args.geometry_type) geometry c.args.numbers (plane_state c.start-state.result) left c.start-state.ensures, zero-add c.args.index)

pub returns-in_default-item : goal.returns-in_default-item
returns-in_default-item c = λ geometry left.
    let amid = c.numbers.invariant geometry left in
    absurd (amid_whole_message (plane_type c.args.geometry_type) geometry _ _ (plane_state c.numbers.state) amid.0 _ amid.1 (IfErr-at_err _ c.in_default-item.is c.in-Some.ensures.fault))

pub returns-in-Err : goal.returns-in-Err
returns-in-Err c = λ geometry left.
    let kind = plane_type c.args.geometry_type in
    let amid = c.numbers.invariant geometry left in
    let given = IfOk-at_ok _ c.in-Ok.is c.in-Some.ensures.number in
    is_asked kind geometry c.numbers.before amid.0 c.args.index (command_code c.in-Err.fault) (command_code c.args.code) c.is_this.result amid.2
    (amid_fault kind geometry _ _ (plane_state c.numbers.state) amid.0 c.in-Ok.number c.in-Err.fault amid.1 given c.in-Err.ensures.fault) c.is_this.ensures

pub numbers-preserved : goal.numbers-preserved
numbers-preserved c = λ geometry left.
    let kind = plane_type c.args.geometry_type in
    let amid = c.numbers.invariant geometry left in
    let given = IfOk-at_ok _ c.in-Ok.is c.in-Some.ensures.number in (
      amid.0 + 1,
      amid_more kind geometry _ _ (plane_state c.numbers.state) (plane_state c.in-Ok-next.next) amid.0 c.in-Ok.number amid.1 given c.in-Ok-next.ensures.goes,
      c.one_less-before.ensures amid.0 c.args.index amid.2,
    )

pub returns-then-not-may_end : goal.returns-then-not-may_end
returns-then-not-may_end c = λ geometry left.
    let kind = plane_type c.args.geometry_type in
    let amid = c.numbers.invariant geometry left in
    let decided = amid_unfinished kind geometry _ _ (plane_state c.numbers.state) amid.0 amid.1 c.in_default.ensures.end (λ end. true≢false (sym (c.if-not-may_end.ensures.1 end))) in
    is_asked kind geometry c.numbers.before amid.0 c.args.index 403 (command_code c.args.code) c.is_this-then-not-may_end.result amid.2 decided c.is_this-then-not-may_end.ensures

pub returns-else-not-may_end : goal.returns-else-not-may_end
returns-else-not-may_end c = λ geometry left.
    let kind = plane_type c.args.geometry_type in
    let amid = c.numbers.invariant geometry left in
    let figure = amid_figure kind geometry _ _ (plane_state c.numbers.state) amid.0 amid.1 c.in_default.ensures.end (c.if-not-may_end.ensures.0 refl) in
    rw c.if-not-may_end.false (λ none. absurd (true≢false (sym none)), λ asked. absurd (asked.unspelled figure.0 figure.1))
