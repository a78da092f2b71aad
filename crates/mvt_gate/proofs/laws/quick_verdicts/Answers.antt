use Rattle.mvt_rules.specs.Shows.{ShowsBy}
use Rattle.mvt_tile.proofs.RuleFaults.FreeFaults.{none_earlier}
use Rattle.mvt_gate.specs.Quick.{IsFreeBy}
use Rattle.mvt_gate.proofs.QuickVerdicts.{first_where_apart, quick_is_shown, quick_verdict_by_polygon, verdict_by_polygon}
use Rattle.mvt_gate.proofs.laws.quick_verdicts.Goals as goal

pub returns-clause-shown : goal.returns-clause-shown
returns-clause-shown c = quick_is_shown

pub returns-clause-none_earlier : goal.returns-clause-none_earlier
returns-clause-none_earlier c = λ profile bytes fault other quick shown. none_earlier (IsFreeBy profile) (ShowsBy profile bytes) fault quick other shown

pub returns-clause-by_polygon : goal.returns-clause-by_polygon
returns-clause-by_polygon c bytes verdict = (verdict_by_polygon bytes verdict, quick_verdict_by_polygon bytes verdict)

pub returns-clause-where_apart : goal.returns-clause-where_apart
returns-clause-where_apart c = first_where_apart
