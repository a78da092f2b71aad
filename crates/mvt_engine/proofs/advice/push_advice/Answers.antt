use Rattle.serde_json.proofs.OnLiterals.{serde_json_on_literals}
use Rattle.mvt_engine.proofs.DumpTexts.{braced}
use Rattle.mvt_engine.proofs.advice.push_advice.Goals as goal

pub returns : goal.returns
unfolding serde_json_on_literals
returns c =
    braced c.push_str-2.result _ _ _ _ _ _ c.in_ok-push_str.ensures.bytes c.in_ok-push_list.ensures c.push_str-2.ensures.bytes
