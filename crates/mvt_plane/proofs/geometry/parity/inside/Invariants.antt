use Rattle.std.proofs.Common.{drop}
use Rattle.mvt_plane.specs.Geometry.Inside.{IsInside}
use Rattle.mvt_plane.proofs.Insides.InsideParity.{Completes, OddToCome}
use Rattle.mvt_plane.proofs.geometry.parity.inside.Given as goal

-- with that of the edges still to come, the parity so far says whether the position is inside
abbrev pub invariant-loop-to : goal.invariant-loop-to
invariant-loop-to l = Completes l.is_odd (OddToCome l.point l.first l.from (drop l.to-index l.rest)) (IsInside l.point l.ring)
