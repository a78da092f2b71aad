use Rattle.std.proofs.Common.{◌+◌}
use Rattle.mvt_sweep.specs.Rings.{rings_of}
use Rattle.mvt_sweep.proofs.Vertices.VertexNumbers.{AreFirst}
use Rattle.mvt_sweep.proofs.sweep.listing.add_vertices.Given as goal

-- the vertices of the ring so far are added
abbrev pub invariant-loop-edge : goal.invariant-loop-edge
invariant-loop-edge l = AreFirst (rings_of l.rings) (l.before + l.edge) l.list.items
