use Rattle.serde_json.specs.View.{view}
use Rattle.mvt_fault.proofs.FaultTexts.{IsAnswerTo-same}
use Rattle.mvt_fault.proofs.reading.fault_of.Goals as goal

pub returns : goal.returns
returns c =
    let value_text = c.in_ok-to_string.field-0 in
    let object_text = c.in_ok-to_string-2.field-0 in
    IsAnswerTo-same (view c.args.value.now) c.in-Some-2.candidate _ _ value_text object_text
    c.in_ok-candidate.ensures c.in-Some-2.is c.ok_or.ensures.value c.requires
    c.in_ok-to_string.ensures.reads_back c.in_ok-to_string-2.ensures.reads_back c.if-ne.ensures
