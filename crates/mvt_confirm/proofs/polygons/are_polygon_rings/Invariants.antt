use Rattle.std.proofs.Common.{ℕ, List}
use Rattle.mvt_confirm.specs.Calls.Vertices.{RingsLeft}
use Rattle.mvt_confirm.proofs.Shapes.SoundRings.{AreSound}
use Rattle.mvt_plane.specs.Position.{Position}
use Rattle.mvt_wire.specs.Numbers.{most_left}
use Rattle.mvt_confirm.proofs.polygons.are_polygon_rings.Given as goal

-- whichever rings they are, those that were passed have no fault
abbrev pub invariant-rings : goal.invariant-rings
invariant-rings l = (rings : List (List Position)) → RingsLeft l.fn.vertices rings → (passed : ℕ) × AreSound rings l.vertices l.is_first passed

abbrev pub decreases-rings : goal.decreases-rings
decreases-rings l = most_left l.vertices.numbers
