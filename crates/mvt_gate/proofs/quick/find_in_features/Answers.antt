use Rattle.std.proofs.Common.{Option, sym, subst}
use Rattle.mvt_fault.specs.declared.fault.Fault.{Fault}
use Rattle.mvt_fault.specs.declared.profile.Profile.TheVariants.{Feature}
use Rattle.mvt_tile.proofs.WireFaults.Tiles.{is_tile}
use Rattle.mvt_tile.specs.FreeFaults.{of_least}
use Rattle.mvt_gate.specs.Verdict.{IsQuickVerdictBy, verdict_of}
use Rattle.mvt_gate.proofs.ValidGeometries.{after_tags}
use Rattle.mvt_gate.proofs.Verdicts.{least_of_wire, quick_found}
use Rattle.mvt_gate.proofs.quick.find_in_features.Goals as goal

pub returns-in-Valid : goal.returns-in-Valid
returns-in-Valid c =
    let walk = rw c.in-Valid.is at c.in_ok-first_walk.ensures in
    subst (λ (found : Option Fault). IsQuickVerdictBy Feature c.args.bytes.now (verdict_of found)) (sym walk.0) (walk.1 Feature)

pub returns-in-Faulty : goal.returns-in-Faulty
returns-in-Faulty c =
    let walk = rw c.in-Faulty.is at c.in_ok-first_walk.ensures in
    subst (λ (found : Option Fault). IsQuickVerdictBy Feature c.args.bytes.now (verdict_of found)) (sym walk.1) (of_least (least_of_wire Feature c.args.bytes.now walk.0 walk.2))

pub rule_fault_after-requires-clause-nothing : goal.rule_fault_after-requires-clause-nothing
rule_fault_after-requires-clause-nothing c = (rw c.in-Whole.is at c.in_ok-first_walk.ensures).0

pub rule_fault_after-requires-clause-tile : goal.rule_fault_after-requires-clause-tile
rule_fault_after-requires-clause-tile c = is_tile c.args.bytes.now (rw c.in-Whole.is at c.in_ok-first_walk.ensures).1.0

pub rule_fault_after-requires-clause-sound : goal.rule_fault_after-requires-clause-sound
rule_fault_after-requires-clause-sound c = (rw c.in-Whole.is at c.in_ok-first_walk.ensures).1.1 Feature

pub rule_fault_after-requires-clause-after_tags : goal.rule_fault_after-requires-clause-after_tags
rule_fault_after-requires-clause-after_tags c = after_tags Feature

pub returns-in-Whole : goal.returns-in-Whole
returns-in-Whole c =
    quick_found Feature c.args.bytes.now c.rule_fault_after.result c.rule_fault_after.new.found (rw c.in-Whole.is at c.in_ok-first_walk.ensures).1.0 c.rule_fault_after.ensures.none c.rule_fault_after.ensures.found

pub polygon_fault-requires-clause-nothing : goal.polygon_fault-requires-clause-nothing
polygon_fault-requires-clause-nothing c = (rw c.in-ButPolygons.is at c.in_ok-first_walk.ensures).0

pub polygon_fault-requires-clause-tile : goal.polygon_fault-requires-clause-tile
polygon_fault-requires-clause-tile c = is_tile c.args.bytes.now (rw c.in-ButPolygons.is at c.in_ok-first_walk.ensures).1.0

pub polygon_fault-requires-clause-others : goal.polygon_fault-requires-clause-others
polygon_fault-requires-clause-others c = (rw c.in-ButPolygons.is at c.in_ok-first_walk.ensures).1.1 Feature

pub polygon_fault-requires-clause-after_tags : goal.polygon_fault-requires-clause-after_tags
polygon_fault-requires-clause-after_tags c = after_tags Feature

pub returns-in-ButPolygons : goal.returns-in-ButPolygons
returns-in-ButPolygons c =
    quick_found Feature c.args.bytes.now c.polygon_fault.result c.polygon_fault.new.found (rw c.in-ButPolygons.is at c.in_ok-first_walk.ensures).1.0 c.polygon_fault.ensures.none c.polygon_fault.ensures.found
