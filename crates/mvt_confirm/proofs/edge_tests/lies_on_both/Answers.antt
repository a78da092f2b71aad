use Rattle.std.proofs.Common.{true≢false, sym, ◌∙◌}
use Rattle.mvt_confirm.proofs.edge_tests.lies_on_both.Goals as goal

pub returns-then-on_edge : goal.returns-then-on_edge
returns-then-on_edge c = (λ holds. (c.on_edge.ensures.0 c.if-on_edge.true, c.on_edge-then-on_edge.ensures.0 holds), λ both. c.on_edge-then-on_edge.ensures.1 both.1)

pub returns-else-on_edge : goal.returns-else-on_edge
returns-else-on_edge c = (λ holds. absurd (true≢false (sym holds ∙ c.if-on_edge.false)), λ both. c.on_edge.ensures.1 both.0)
