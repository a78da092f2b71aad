use Rattle.mvt_rules.proofs.Examples.ExampleNesting.{hole_outside, hole_within, hole_in_other}
use Rattle.mvt_rules.proofs.laws.examples.rings.nested_rings.Goals as goal

pub returns-clause-outside : goal.returns-clause-outside
returns-clause-outside c = hole_outside

pub returns-clause-within : goal.returns-clause-within
returns-clause-within c = hole_within

pub returns-clause-in_hole : goal.returns-clause-in_hole
returns-clause-in_hole c = hole_in_other
