use Rattle.serde_json.proofs.Views.{view-Object}
use Rattle.mvt_fault.proofs.text.polygons.in_polygon_object.Goals as goal

pub returns : goal.returns
returns c = rw (view-Object, c.in_ok-members_of.ensures, c.from.ensures)
