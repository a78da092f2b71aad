use Rattle.std.proofs.Common.{refl}
use Rattle.mvt_rules.proofs.Examples.ExampleRings as rings
use Rattle.mvt_rules.specs.Ring.{ends_at_its_beginning, no_area, begins_with_hole}
use Rattle.mvt_rules.proofs.Examples.ExampleFaults.{flat_ring}
use Rattle.mvt_rules.proofs.laws.examples.faults.wrong_rings.Goals as goal

pub returns-clause-closed_twice : goal.returns-clause-closed_twice
returns-clause-closed_twice c = ends_at_its_beginning refl rings.ends_at_its_beginning

pub returns-clause-no_area : goal.returns-clause-no_area
returns-clause-no_area c = no_area refl flat_ring

pub returns-clause-hole_first : goal.returns-clause-hole_first
returns-clause-hole_first c = begins_with_hole refl rings.begins_with_hole
