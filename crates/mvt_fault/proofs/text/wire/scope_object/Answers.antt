use Rattle.serde_json.proofs.Views.{view-Object}
use Rattle.mvt_fault.proofs.text.wire.scope_object.Goals as goal

pub returns : goal.returns
returns c = rw (view-Object, c.in_ok-add_text.ensures, c.in_ok-map.ensures)
