use Rattle.mvt_rules.proofs.Examples.ExampleSquares.{two_polygons_valid, squares_valid}
use Rattle.mvt_rules.proofs.Examples.ExampleValid.{triangle_valid, crossed_invalid, beside_invalid, in_hole_invalid, flat_invalid}
use Rattle.mvt_rules.proofs.laws.examples.faults.valid_rings.Goals as goal

pub returns-clause-standard : goal.returns-clause-standard
returns-clause-standard c = triangle_valid

pub returns-clause-with_hole : goal.returns-clause-with_hole
returns-clause-with_hole c = two_polygons_valid

pub returns-clause-twice : goal.returns-clause-twice
returns-clause-twice c = squares_valid

pub returns-clause-crossed : goal.returns-clause-crossed
returns-clause-crossed c = crossed_invalid

pub returns-clause-beside : goal.returns-clause-beside
returns-clause-beside c = beside_invalid

pub returns-clause-in_hole : goal.returns-clause-in_hole
returns-clause-in_hole c = in_hole_invalid

pub returns-clause-flat : goal.returns-clause-flat
returns-clause-flat c = flat_invalid
