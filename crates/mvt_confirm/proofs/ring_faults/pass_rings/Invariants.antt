use Rattle.std.proofs.Common.{List}
use Rattle.mvt_confirm.specs.Calls.Vertices.{RingsLeft}
use Rattle.mvt_confirm.proofs.Shapes.RingCounts.{HavePassed}
use Rattle.mvt_plane.specs.Position.{Position}
use Rattle.mvt_confirm.proofs.ring_faults.pass_rings.Given as goal

-- as many rings were passed as there were steps
abbrev pub invariant-rings : goal.invariant-rings
invariant-rings l = (rings : List (List Position)) → RingsLeft l.fn.vertices rings → HavePassed rings l.vertices l.counter
