use Rattle.std.proofs.Common.{true≢false, eqb-true, eq-eqb, sym, ◌∙◌}
use Rattle.mvt_confirm.proofs.tags.is_key.Goals as goal

pub returns-then-is_even : goal.returns-then-is_even
returns-then-is_even c = (λ same. (c.is_even.ensures.0 c.if-is_even.true, eqb-true _ _ same), λ both. eq-eqb _ _ both.1)

pub returns-else-is_even : goal.returns-else-is_even
returns-else-is_even c = (λ holds. absurd (true≢false (sym holds ∙ c.if-is_even.false)), λ both. c.is_even.ensures.1 both.0)
