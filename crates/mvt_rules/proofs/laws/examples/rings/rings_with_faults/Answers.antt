use Rattle.mvt_rules.proofs.Examples.ExampleRings.{ends_at_its_beginning, has_no_area, begins_with_hole}
use Rattle.mvt_rules.proofs.laws.examples.rings.rings_with_faults.Goals as goal

pub returns-clause-closed_twice : goal.returns-clause-closed_twice
returns-clause-closed_twice c = ends_at_its_beginning

pub returns-clause-flat : goal.returns-clause-flat
returns-clause-flat c = has_no_area

pub returns-clause-hole : goal.returns-clause-hole
returns-clause-hole c = begins_with_hole
