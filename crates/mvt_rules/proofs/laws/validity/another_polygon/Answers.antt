use Rattle.mvt_rules.proofs.Validity.TrueFaults.{another_polygon}
use Rattle.mvt_rules.proofs.laws.validity.another_polygon.Goals as goal

pub returns : goal.returns
returns c profile bytes layer feature polygon vertex other shown = another_polygon profile shown.3.0 polygon vertex other shown.3.2
