use Rattle.mvt_plane.proofs.Examples.ExamplePositions.{inside_square, left_of_square, below_square, low_on_square}
use Rattle.mvt_plane.proofs.laws.geometry.examples.positions_inside.Goals as goal

pub returns-clause-inside : goal.returns-clause-inside
returns-clause-inside c = inside_square

pub returns-clause-of_lesser_y : goal.returns-clause-of_lesser_y
returns-clause-of_lesser_y c = below_square

pub returns-clause-on_the_left : goal.returns-clause-on_the_left
returns-clause-on_the_left c = left_of_square

pub returns-clause-on_the_lower_side : goal.returns-clause-on_the_lower_side
returns-clause-on_the_lower_side c = low_on_square
