use Rattle.serde_json.specs.View.{view}
use Rattle.mvt_fault.proofs.Candidates.{edge_told}
use Rattle.mvt_fault.proofs.reading.polygons.edge_at.Goals as goal

pub returns-in-Some : goal.returns-in-Some
returns-in-Some c = λ it is.
    edge_told (view c.args.value.now) c.args.key.now _ _ _ it c.in-Some.ensures is c.ordinal_at-in-Some.ensures c.ordinal_at.ensures
