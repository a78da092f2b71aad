use Rattle.mvt_status.specs.Calls.Tree.{height_of}
use Rattle.mvt_status.proofs.node.remove.+take_first.Given as goal

-- levels that are left
abbrev pub decreases-take_first : goal.decreases-take_first
decreases-take_first l = height_of l.side.now
