use Rattle.std.proofs.Common.{◌∙◌, get_or, rules, Result, Ok, Err, OnOk}
use Rattle.std.proofs.lemmas.Result.{IfOk-weaker}
use Rattle.mvt_plane.specs.Commands.Drawing.{start}
use Rattle.mvt_plane.proofs.Spelling.Readers.{unfinished_coordinate, greatest_there}
use Rattle.mvt_wire.proofs.FieldNumbers.Sources.{at_end}
use Rattle.mvt_draw.proofs.Sources.{number_left}
use Rattle.mvt_draw.proofs.Steps.{there_move}
use Rattle.mvt_draw.proofs.commands.coordinate.Goals as goal

-- what holds anyhow
on_ok : {X E : Type 0} (result : Result X E) (P : Type 0) → P → OnOk result P
on_ok (Ok x) P holds = holds
on_ok (Err e) P holds = tt

pub returns-in_default-clause-fault : goal.returns-in_default-clause-fault
returns-in_default-clause-fault g c = λ numbers left geometry_type state asks leads.
    unfinished_coordinate geometry_type (start geometry_type) state numbers c.args.at c.args.from asks leads (at_end numbers c.args.at (c.in_default.ensures.end _ left))

pub returns-then-number-clause-fault : goal.returns-then-number-clause-fault
returns-then-number-clause-fault g c = λ numbers left geometry_type state asks leads.
    let there = (number_left _ numbers c.args.at c.in-Some.number (c.in-Some.ensures.number _ left)).0 in
    greatest_there geometry_type (start geometry_type) state numbers c.args.at c.args.from asks leads there.0 (there.1 ∙ c.if-number.true)

pub returns-clause-left : goal.returns-clause-left
returns-clause-left g c =
    on_ok c.moved.result _ (λ numbers left.
    let given = number_left _ numbers c.args.at c.in-Some.number (c.in-Some.ensures.number _ left) in
    (given.0.0, given.1))

pub returns-clause-moves : goal.returns-clause-moves
returns-clause-moves g c =
    IfOk-weaker c.moved.result _ _ (λ to move numbers left.
    let there = (number_left _ numbers c.args.at c.in-Some.number (c.in-Some.ensures.number _ left)).0 in
    there_move c.args.from to c.in-Some.number (get_or numbers c.args.at 0) (search rules) there.1 move) c.moved.ensures.moves
