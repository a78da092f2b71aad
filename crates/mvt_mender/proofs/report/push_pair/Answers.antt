use Rattle.serde_json.proofs.OnLiterals.{serde_json_on_literals}
use Rattle.mvt_mender.proofs.report.push_pair.Goals as goal

pub returns : goal.returns
unfolding serde_json_on_literals
returns c = c.write.ensures.bytes
