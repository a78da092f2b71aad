use Rattle.mvt_plane.proofs.Orders.Gaps.{gap_back, gaps_join, slopes_join}
use Rattle.mvt_plane.proofs.laws.geometry.order.gaps_join.Goals as goal

pub returns-clause-gaps : goal.returns-clause-gaps
returns-clause-gaps c = gaps_join

pub returns-clause-slopes : goal.returns-clause-slopes
returns-clause-slopes c = slopes_join

pub returns-clause-back : goal.returns-clause-back
returns-clause-back c = gap_back
