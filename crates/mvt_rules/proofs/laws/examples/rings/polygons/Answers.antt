use Rattle.mvt_rules.proofs.Examples.ExampleRings.{first_polygon, second_polygon, polygon_with_two_holes, island_polygon}
use Rattle.mvt_rules.proofs.laws.examples.rings.polygons.Goals as goal

pub returns-clause-first : goal.returns-clause-first
returns-clause-first c = first_polygon

pub returns-clause-second : goal.returns-clause-second
returns-clause-second c = second_polygon

pub returns-clause-with_two_holes : goal.returns-clause-with_two_holes
returns-clause-with_two_holes c = polygon_with_two_holes

pub returns-clause-island : goal.returns-clause-island
returns-clause-island c = island_polygon
