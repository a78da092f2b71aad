use Rattle.std.proofs.Common.{codes, string_bytes}
use Rattle.serde_json.proofs.OnLiterals.{serde_json_on_literals}
use Rattle.mvt_engine.proofs.AdviceTexts.{pushed}
use Rattle.mvt_engine.proofs.advice.AdvicePart.push_to.Goals as goal

pub returns-in-NoLayer : goal.returns-in-NoLayer
unfolding serde_json_on_literals
returns-in-NoLayer c =
    rw c.in-NoLayer.is
    (pushed c.push_str.result (string_bytes c.args.text.now) (string_bytes c.push_str.new.self) (codes "{\"kind\":\"no_layer\"}") c.push_str.ensures.bytes)

pub returns-in-NoFeature : goal.returns-in-NoFeature
unfolding serde_json_on_literals
returns-in-NoFeature c = rw c.in-NoFeature.is c.write.ensures.bytes

pub returns-in-EqualKey : goal.returns-in-EqualKey
unfolding serde_json_on_literals
returns-in-EqualKey c = rw c.in-EqualKey.is c.write-in-EqualKey.ensures.bytes

pub returns-in-EqualId : goal.returns-in-EqualId
unfolding serde_json_on_literals
returns-in-EqualId c = rw c.in-EqualId.is c.write-in-EqualId.ensures.bytes
