use Rattle.mvt_fault.specs.declared.profile.Profile.TheVariants.{Polygon, Feature}
use Rattle.mvt_gate.proofs.ValidGeometries.{after_tags}
use Rattle.mvt_gate.proofs.verdict.find_polygon_fault.Goals as goal

pub polygon_fault-requires-clause-others : goal.polygon_fault-requires-clause-others
polygon_fault-requires-clause-others c = rw c.in-Polygon.is at c.requires.others

pub polygon_fault-requires-in-Feature-clause-others : goal.polygon_fault-requires-in-Feature-clause-others
polygon_fault-requires-in-Feature-clause-others c = rw c.in-Feature.is at c.requires.others

pub polygon_fault-requires-clause-after_tags : goal.polygon_fault-requires-clause-after_tags
polygon_fault-requires-clause-after_tags c = after_tags Polygon

pub polygon_fault-requires-in-Feature-clause-after_tags : goal.polygon_fault-requires-in-Feature-clause-after_tags
polygon_fault-requires-in-Feature-clause-after_tags c = after_tags Feature

pub returns-in-Polygon-clause-least : goal.returns-in-Polygon-clause-least
returns-in-Polygon-clause-least c = rw c.in-Polygon.is (c.polygon_fault.ensures.least (λ fault free. free))

pub returns-in-Feature-clause-least : goal.returns-in-Feature-clause-least
returns-in-Feature-clause-least c = rw c.in-Feature.is (c.polygon_fault-in-Feature.ensures.least (λ fault free. free))
