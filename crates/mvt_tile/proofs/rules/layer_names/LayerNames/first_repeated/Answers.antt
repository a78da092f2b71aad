use Rattle.std.proofs.Common.{IfNone, List, ℕ, subst}
use Rattle.mvt_tile.specs.Calls.Names.{IsRepeated}
use Rattle.mvt_tile.proofs.rules.layer_names.LayerNames.first_repeated.Goals as goal

pub returns-in-None-clause-none : goal.returns-in-None-clause-none
returns-in-None-clause-none c =
    subst (λ (names : List (List ℕ)). IfNone c.first_repeated.result ((first second : ℕ) → ¬ IsRepeated names first second)) (rw c.in-None.is at c.self.view_is) c.first_repeated.ensures.none
