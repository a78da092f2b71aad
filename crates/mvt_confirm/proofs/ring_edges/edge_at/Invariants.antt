use Rattle.mvt_confirm.proofs.Shapes.EdgeWalks.{HasPassedEdges}
use Rattle.mvt_confirm.proofs.ring_edges.edge_at.Given as goal

-- as many edges were passed as there were steps
abbrev pub invariant-edges : goal.invariant-edges
invariant-edges l = HasPassedEdges l.fn.walk l.walk l.counter
