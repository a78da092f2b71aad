use Rattle.std.proofs.Common.{rules}
use Rattle.mvt_plane.proofs.geometry.point.Point.new.Goals as goal

pub invariant_of-result : goal.invariant_of-result
invariant_of-result c = search rules

pub returns-then-contains-2-clause-in_range : goal.returns-then-contains-2-clause-in_range
returns-then-contains-2-clause-in_range c = search rules
