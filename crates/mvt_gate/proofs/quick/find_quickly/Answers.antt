use Rattle.std.proofs.lemmas.Result.{IfOk-weaker}
use Rattle.mvt_gate.specs.Verdict.{verdict_of}
use Rattle.mvt_gate.proofs.QuickVerdicts.{quick_verdict_by_polygon}
use Rattle.mvt_gate.proofs.quick.find_quickly.Goals as goal

pub returns-in-Polygon : goal.returns-in-Polygon
returns-in-Polygon c =
    rw c.in-Polygon.is
    (IfOk-weaker c.find_fault.result _ _ (λ _ verdict. quick_verdict_by_polygon c.args.bytes.now (verdict_of c.find_fault.new.found) verdict) (rw c.in-Polygon.is at c.find_fault.ensures))

pub returns-in-Feature : goal.returns-in-Feature
returns-in-Feature c = rw c.in-Feature.is c.find_in_features.ensures
