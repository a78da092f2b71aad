use Rattle.std.proofs.Common.{◌≤◌, length}
use Rattle.mvt_sweep.specs.Rings.{rings_of}
use Rattle.mvt_feature.proofs.Features.LaterPolygons.{IsFoundFrom}
use Rattle.mvt_feature.proofs.feature.later.vertex_in_later.Given as goal

-- what is found is the first fault with the polygons from this place on
abbrev pub invariant-back : goal.invariant-back
invariant-back l = record {
  within : l.at ≤ length l.spread.order.items;
  found : IsFoundFrom (rings_of l.rings) l.later l.polygon l.spread.order.items l.at l.found;
}

-- places that are left
abbrev pub decreases-back : goal.decreases-back
decreases-back l = l.at
