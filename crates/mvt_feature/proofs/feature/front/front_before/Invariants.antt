use Rattle.std.proofs.Common.{◌≡◌, ◌⊎◌, ◌-◌, ◌<◌, ◌≤◌, ℕ, Some, take}
use Rattle.mvt_plane.specs.Counted.{ticked}
use Rattle.mvt_feature.specs.Calls.FeatureParts.{AreHalves, listed_at}
use Rattle.mvt_sweep.specs.Rings.{rings_of}
use Rattle.mvt_sweep.specs.Work.{vertex_count}
use Rattle.mvt_status.specs.Counts.{raised}
use Rattle.mvt_feature.proofs.Features.FrontHalves.{IsHalved}
use Rattle.mvt_feature.proofs.feature.front.front_before.Given as goal

-- what is known of the polygons so far, over which a sweep was counted, and a test of another meeting; and what was counted
-- of each half
abbrev pub invariant-halves : goal.invariant-halves
invariant-halves l = record {
  halved : IsHalved (rings_of l.rings) l.polygons l.front l.meets l.fn.count l.count;
  probed : raised (vertex_count (take l.front.rings (rings_of l.rings))) l.fn.count.probes ≤ l.count.probes;
  tested : (l.front.meeting ≡ Some l.fn.meeting) ⊎ (ticked l.fn.count.tests ≤ l.count.tests);
  last : ℕ;
  up_to : l.fn.meeting.second_ring < (listed_at l.polygons last).after;
  halves : AreHalves (rings_of l.rings) l.polygons last l.fn.count l.front.polygons l.meets l.count;
}

-- polygons that are left
abbrev pub decreases-halves : goal.decreases-halves
decreases-halves l = l.meets - l.front.polygons
