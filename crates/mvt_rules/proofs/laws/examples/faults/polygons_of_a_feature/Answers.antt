use Rattle.mvt_rules.proofs.Examples.ExampleFeatures.{squares_meet, squares_invalid, stone_on_frame, island_in_hole, island_in_no_polygon, square_alone}
use Rattle.mvt_rules.proofs.laws.examples.faults.polygons_of_a_feature.Goals as goal

pub returns-clause-twice : goal.returns-clause-twice
returns-clause-twice c = squares_meet

pub returns-clause-invalid : goal.returns-clause-invalid
returns-clause-invalid c = squares_invalid

pub returns-clause-on_frame : goal.returns-clause-on_frame
returns-clause-on_frame c = stone_on_frame

pub returns-clause-in_hole : goal.returns-clause-in_hole
returns-clause-in_hole c = island_in_hole

pub returns-clause-in_hole_of_feature : goal.returns-clause-in_hole_of_feature
returns-clause-in_hole_of_feature c = island_in_no_polygon

pub returns-clause-alone : goal.returns-clause-alone
returns-clause-alone c = square_alone
