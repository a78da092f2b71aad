use Rattle.mvt_fault.proofs.Candidates.{ring_only}
use Rattle.mvt_fault.proofs.reading.polygons.ring_candidate.Goals as goal

pub returns : goal.returns
returns c =
    let made = rw c.code.ensures at c.in_ok-ring_object.ensures in
    record {
      only = ring_only _ _ c.args.code _ _ _ c.requires c.ordinal_at-layer.ensures c.ordinal_at-feature.ensures c.ordinal_at-ring.ensures made;
      fault = (made, tt);
    }
