use Rattle.std.proofs.Common.{arith}
use Rattle.std.proofs.lemmas.Int.{ints}
use Rattle.mvt_plane.specs.Commands.Drawing.{start}
use Rattle.mvt_plane.proofs.Spelling.Readers.{outside_there, is_parameter}
use Rattle.mvt_draw.proofs.Parameters.{unzigzag_wire}
use Rattle.mvt_draw.proofs.commands.moved.Goals as goal
use Rattle.mvt_draw.proofs.commands.moved.Goals.{then-to-greatest-via-then-to-greatest, then-to-greatest-via-else-to-greatest+then-to-greatest-2}

pub returns-then-to-greatest-clause-fault : goal.returns-then-to-greatest-clause-fault
returns-then-to-greatest-clause-fault c = λ numbers there geometry_type state asks leads.
    outside_there geometry_type (start geometry_type) state numbers c.args.at c.args.from asks leads there.0 (rw there.1 (omega arith))
    (rw there.1 (λ inside.
    let step = unzigzag_wire c.unzigzag32.result c.args.number c.unzigzag32.ensures in
    elim c.then-to-greatest.branch [
      | then-to-greatest-via-then-to-greatest w ↦ omega (arith, ints)
      | then-to-greatest-via-else-to-greatest+then-to-greatest-2 w ↦ omega (arith, ints)
    ]))

pub returns-clause-moves : goal.returns-clause-moves
returns-clause-moves c =
    let step = unzigzag_wire c.unzigzag32.result c.args.number c.unzigzag32.ensures in (
      record {
        parameter = is_parameter c.args.number (omega arith) (omega arith);
        there = (omega (arith, ints), omega (arith, ints));
      },
      omega (arith, ints),
    )

pub returns-clause-inside : goal.returns-clause-inside
returns-clause-inside c = (omega (arith, ints), omega (arith, ints))
