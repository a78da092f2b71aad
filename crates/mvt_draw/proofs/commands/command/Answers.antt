use Rattle.std.proofs.Common.{arith}
use Rattle.mvt_plane.specs.Commands.Drawing.{start}
use Rattle.mvt_plane.proofs.Spelling.Readers.{unfinished_there, other_command_there, other_count_there, command_leads}
use Rattle.mvt_draw.proofs.commands.command.Goals as goal
use Rattle.mvt_draw.proofs.commands.command.Goals.{then-count-fewest-via-then-count-fewest, then-count-fewest-via-else-count-fewest+then-count-most}

pub returns-in_default-clause-fault : goal.returns-in_default-clause-fault
returns-in_default-clause-fault c = λ numbers same geometry_type state asks more leads.
    unfinished_there geometry_type (start geometry_type) numbers c.args.at state leads (rw c.in_default.is at same) (more c.in_default.is)

pub returns-then-number-id-clause-fault : goal.returns-then-number-id-clause-fault
returns-then-number-id-clause-fault c = λ numbers same geometry_type state asks more leads.
    let there = rw c.in-Some.is at same in
    other_command_there geometry_type (start geometry_type) numbers c.args.at state c.args.id c.args.fewest c.args.most asks leads there.0 (rw there.1 c.if-number-id.true)

pub returns-then-count-fewest-clause-fault : goal.returns-then-count-fewest-clause-fault
returns-then-count-fewest-clause-fault c = λ numbers same geometry_type state asks more leads.
    let there = rw c.in-Some.is at same in
    other_count_there geometry_type (start geometry_type) numbers c.args.at state c.args.id c.args.fewest c.args.most asks leads there.0 (rw there.1 c.if-number-id.false)
    (λ enough few. elim c.then-count-fewest.branch [
      | then-count-fewest-via-then-count-fewest w ↦ omega arith
      | then-count-fewest-via-else-count-fewest+then-count-most w ↦ omega arith
    ])

pub returns-clause-goes : goal.returns-clause-goes
returns-clause-goes c = λ numbers same geometry_type state asks leads.
    let there = rw c.in-Some.is at same in
    rw (← there.1) (command_leads geometry_type (start geometry_type) numbers c.args.at state c.args.id c.args.fewest c.args.most asks leads there.0
    (rw there.1 c.if-number-id.false) (rw there.1 c.if-count-fewest.false) (rw there.1 c.if-count-most.false))
