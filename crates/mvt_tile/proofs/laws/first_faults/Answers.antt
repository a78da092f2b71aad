use Rattle.mvt_tile.proofs.RuleFaults.FirstFaults.{first_is_fault, first_of_all, none_listed, none_broken, rules_kept, none_where_kept}
use Rattle.mvt_tile.proofs.laws.first_faults.Goals as goal

pub returns-clause-each : goal.returns-clause-each
returns-clause-each over c = λ tile faults are at fault there. first_is_fault over.R.FeatureRule.IsFree over.R.FeatureRule.IsBroken over.R.FeatureRule.IsKept tile fault (are.each at fault there)

pub returns-clause-first : goal.returns-clause-first
returns-clause-first over c = λ tile faults are after_tags. first_of_all over.R.FeatureRule.IsFree over.R.FeatureRule.IsBroken over.R.FeatureRule.IsKept tile after_tags faults are

pub returns-clause-none : goal.returns-clause-none
returns-clause-none over c = λ tile faults are. (none_broken over.R.FeatureRule.IsFree over.R.FeatureRule.IsBroken over.R.FeatureRule.IsKept tile faults are, none_listed over.R.FeatureRule.IsFree over.R.FeatureRule.IsBroken over.R.FeatureRule.IsKept tile faults are)

pub returns-clause-kept : goal.returns-clause-kept
returns-clause-kept over c = λ tile are. rules_kept over.R.FeatureRule.IsFree over.R.FeatureRule.IsBroken over.R.FeatureRule.IsKept tile are

pub returns-clause-none_where_kept : goal.returns-clause-none_where_kept
returns-clause-none_where_kept over c = λ tile faults are. none_where_kept over.R.FeatureRule.IsFree over.R.FeatureRule.IsBroken over.R.FeatureRule.IsKept tile faults are
