use Rattle.std.proofs.Common.{suc}
use Rattle.mvt_sweep.specs.Rings.{rings_of}
use Rattle.mvt_rules.specs.Polygon.{NoExterior}
use Rattle.mvt_polygon.proofs.polygons.polygon_end.Given as goal

-- the rings so far are holes
abbrev pub invariant-loop-ring : goal.invariant-loop-ring
invariant-loop-ring l = NoExterior (rings_of l.rings) (suc l.exterior) l.ring
