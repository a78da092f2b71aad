use Rattle.mvt_confirm.specs.Calls.RingEdges.{count_ahead}
use Rattle.mvt_confirm.proofs.Shapes.EdgeWalks.{IsParityPassed}
use Rattle.mvt_confirm.proofs.ring_edges.odd_number_over.Given as goal

-- the parity is that of the edges that were passed, and the others are left
abbrev pub invariant-edges : goal.invariant-edges
invariant-edges l = IsParityPassed l.fn.walk l.walk l.crossings l.position

abbrev pub decreases-edges : goal.decreases-edges
decreases-edges l = count_ahead l.walk
