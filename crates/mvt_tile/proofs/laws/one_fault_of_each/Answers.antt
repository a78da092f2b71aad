use Rattle.mvt_tile.specs.FirstFaults.{IsFaultOfLayer}
use Rattle.mvt_tile.specs.RuleFaults.{IsFaultOfFeature}
use Rattle.mvt_tile.proofs.RuleFaults.FirstFaults.{one_first}
use Rattle.mvt_tile.proofs.laws.one_fault_of_each.Goals as goal

pub returns-clause-layer : goal.returns-clause-layer
returns-clause-layer over c = λ tile faults are layer. one_first over.R.FeatureRule.IsFree over.R.FeatureRule.IsBroken over.R.FeatureRule.IsKept tile faults are (IsFaultOfLayer tile layer)

pub returns-clause-feature : goal.returns-clause-feature
returns-clause-feature over c = λ tile faults are layer feature at other layer_record feature_record.
    one_first over.R.FeatureRule.IsFree over.R.FeatureRule.IsBroken over.R.FeatureRule.IsKept tile faults are (IsFaultOfFeature over.R.FeatureRule.IsBroken layer_record feature_record layer feature) at other
