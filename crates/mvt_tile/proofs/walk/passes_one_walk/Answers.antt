use Rattle.std.proofs.lemmas.Bool.{not-true}
use Rattle.mvt_tile.proofs.walk.passes_one_walk.Goals as goal

pub returns-clause-wire : goal.returns-clause-wire
returns-clause-wire over c = λ passes. (c.in_ok-walk_layers.ensures.right c.if-not-branch.false).wire

pub returns-clause-rules : goal.returns-clause-rules
returns-clause-rules over c = λ passes. (c.in_ok-walk_layers.ensures.right c.if-not-branch.false).keeps (c.has_fault.ensures (not-true c.has_fault.result passes))
