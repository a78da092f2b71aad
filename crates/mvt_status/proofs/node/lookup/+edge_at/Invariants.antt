use Rattle.mvt_status.specs.Calls.Tree.{height_of}
use Rattle.mvt_status.proofs.node.lookup.+edge_at.Given as goal

-- levels that are left
abbrev pub decreases-edge_at : goal.decreases-edge_at
decreases-edge_at l = height_of l.side.now
