use Rattle.mvt_fault.proofs.Candidates.{meeting_only}
use Rattle.mvt_fault.proofs.reading.polygons.meeting_candidate.Goals as goal

pub returns : goal.returns
returns c =
    let made = c.in_ok-written_meeting_object.ensures in
    record {
      only = meeting_only _ _ _ _ _ _ _ _ _ _ c.requires (record {
        layer_told = c.polygon_of-id.ensures.layer;
        feature_told = c.polygon_of-id.ensures.feature;
        polygon_told = c.polygon_of-id.ensures.polygon;
        first_told = c.edge_at-first.ensures;
        second_told = c.edge_at-second.ensures;
        x_told = c.decimal_at.ensures.found;
        y_told = c.decimal_at-2.ensures.found;
        w_told = c.decimal_at-3.ensures.found;
      }) made;
      fault = c.meeting_fault_in_range.ensures _ made;
    }
