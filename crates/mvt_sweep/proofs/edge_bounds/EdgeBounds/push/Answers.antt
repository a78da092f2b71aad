use Rattle.std.proofs.Common.{rules, arith}
use Rattle.mvt_sweep.proofs.Vertices.SideLanes.{sides_set}
use Rattle.mvt_sweep.proofs.edge_bounds.EdgeBounds.push.Goals as goal

pub invariant_of-self : goal.invariant_of-self
invariant_of-self c =
    let own = c.args.self.now in
    record {
      lefts = sides_set own.left own.count _ own.lefts (search rules);
      lows = sides_set own.low own.count _ own.lows (search rules);
      rights = sides_set own.right own.count _ own.rights (search rules);
      highs = sides_set own.high own.count _ own.highs (search rules);
      few = omega (arith, c.requires.room);
    }
