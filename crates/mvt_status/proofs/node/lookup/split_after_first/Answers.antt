use Rattle.mvt_status.proofs.NodeSplits.{with_first, without_first}
use Rattle.mvt_status.proofs.node.lookup.split_after_first.Goals as goal

pub split_in-requires-clause-splits : goal.split_in-requires-clause-splits
split_in-requires-clause-splits g c = without_first (goal.F-post g c.args.below.now) _ c.requires.splits

pub returns-clause-split : goal.returns-clause-split
returns-clause-split g c = with_first (goal.F-post g c.args.below.now) _ _ c.requires.splits c.split_in.ensures.split
