use Rattle.mvt_fault.specs.declared.profile.Profile.TheVariants.{Polygon, Feature}
use Rattle.mvt_gate.proofs.ValidGeometries.{after_tags}
use Rattle.mvt_gate.proofs.verdict.find_rule_fault.Goals as goal

pub rule_fault_after-requires-clause-after_tags : goal.rule_fault_after-requires-clause-after_tags
rule_fault_after-requires-clause-after_tags c = after_tags Polygon

pub rule_fault_after-requires-in-Feature-clause-after_tags : goal.rule_fault_after-requires-in-Feature-clause-after_tags
rule_fault_after-requires-in-Feature-clause-after_tags c = after_tags Feature

pub returns-in-Polygon-clause-least : goal.returns-in-Polygon-clause-least
returns-in-Polygon-clause-least c = rw c.in-Polygon.is (c.rule_fault_after.ensures.least (λ fault free. free))

pub returns-in-Feature-clause-least : goal.returns-in-Feature-clause-least
returns-in-Feature-clause-least c = rw c.in-Feature.is (c.rule_fault_after-in-Feature.ensures.least (λ fault free. free))

pub rule_fault_after-requires-clause-sound : goal.rule_fault_after-requires-clause-sound
rule_fault_after-requires-clause-sound c = rw c.in-Polygon.is at c.requires.sound

pub rule_fault_after-requires-in-Feature-clause-sound : goal.rule_fault_after-requires-in-Feature-clause-sound
rule_fault_after-requires-in-Feature-clause-sound c = rw c.in-Feature.is at c.requires.sound
