use Rattle.std.proofs.Common.{refl, arith}
use Rattle.mvt_sweep.proofs.Vertices.SideLanes.{zeros_fit}
use Rattle.mvt_sweep.proofs.edge_bounds.EdgeBounds.new.Goals as goal

pub invariant_of-result : goal.invariant_of-result
invariant_of-result c = record {
  lefts = record { count = refl; fit = zeros_fit };
  lows = record { count = refl; fit = zeros_fit };
  rights = record { count = refl; fit = zeros_fit };
  highs = record { count = refl; fit = zeros_fit };
  few = omega arith;
}
