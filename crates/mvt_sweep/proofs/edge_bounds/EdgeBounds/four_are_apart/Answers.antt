use Rattle.std.proofs.Common.{rules}
use Rattle.mvt_sweep.proofs.Vertices.SideLanes.{four_apart}
use Rattle.mvt_sweep.proofs.edge_bounds.EdgeBounds.four_are_apart.Goals as goal

pub returns : goal.returns
returns c all = four_apart c.args.self.now c.args.from c.args.other.now (record { left = search rules; low = search rules; right = search rules; high = search rules }) c.requires all
