use Rattle.serde_json.proofs.Views.{view-Object}
use Rattle.mvt_fault.proofs.text.polygons.written_meeting_object.Goals as goal

pub returns : goal.returns
returns c =
    rw (view-Object, c.in_ok-add_text-3.ensures, c.in_ok-add_text-2.ensures, c.in_ok-add_text.ensures, c.in_ok-add_edge-2.ensures, c.in_ok-add_edge.ensures, c.in_ok-map.ensures, c.from.ensures)
