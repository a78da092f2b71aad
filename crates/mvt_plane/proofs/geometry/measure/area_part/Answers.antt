use Rattle.std.proofs.Common.{arith}
use Rattle.mvt_plane.proofs.Points.Bounds.{fitting}
use Rattle.mvt_plane.proofs.geometry.measure.area_part.Goals as goal

pub overflow_sub-result : goal.overflow_sub-result
overflow_sub-result c = omega (arith, fitting)

pub returns-clause-value : goal.returns-clause-value
returns-clause-value c = omega (arith, fitting)

pub returns-clause-bound : goal.returns-clause-bound
returns-clause-bound c = (omega (arith, fitting), omega (arith, fitting))
