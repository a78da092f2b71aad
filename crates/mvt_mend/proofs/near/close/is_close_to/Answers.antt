use Rattle.std.proofs.Common.{arith}
use Rattle.mvt_plane.proofs.Points.Bounds.{fitting}
use Rattle.mvt_mend.proofs.near.close.is_close_to.Goals as goal

pub returns-then-is_few : goal.returns-then-is_few
returns-then-is_few c = λ few.
    let x = c.is_few.ensures c.if-is_few.true in
    let y = c.is_few-then-is_few.ensures few in
    let x_value = c.x_offset.ensures.value in
    let y_value = c.y_offset.ensures.value in
    record {
      x = (omega (arith, fitting), omega (arith, fitting));
      y = (omega (arith, fitting), omega (arith, fitting));
    }
