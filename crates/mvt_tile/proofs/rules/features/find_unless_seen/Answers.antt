use Rattle.std.proofs.Common.{Result, Ok, Err, IfOk}
use Rattle.mvt_tile.proofs.rules.features.find_unless_seen.Goals as goal

-- what holds of a result holds by what follows from it
of_result : {R E : Type 0} (r : Result R E) (P Q : R → Type 0) → ((x : R) → P x → Q x) → IfOk r P → IfOk r Q
of_result (Ok x) P Q follows holds = follows x holds
of_result (Err e) P Q follows holds = tt

pub returns-clause-finds : goal.returns-clause-finds
returns-clause-finds over c =
    of_result c.find_in_feature.result _ _ (λ x finds layer_record it is like. finds layer_record it (c.new-feature.ensures it is) like) c.find_in_feature.ensures.finds
