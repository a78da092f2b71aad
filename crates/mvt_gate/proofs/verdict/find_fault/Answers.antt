use Rattle.std.proofs.Common.{Option, sym, subst}
use Rattle.mvt_fault.specs.declared.fault.Fault.{Fault}
use Rattle.mvt_tile.proofs.WireFaults.Tiles.{is_tile}
use Rattle.mvt_gate.specs.Verdict.{IsVerdictBy, verdict_of}
use Rattle.mvt_gate.proofs.Verdicts.{least_of_wire, verdict_found}
use Rattle.mvt_gate.proofs.verdict.find_fault.Goals as goal

pub returns-in-Valid : goal.returns-in-Valid
returns-in-Valid c =
    let walk = rw c.in-Valid.is at c.in_ok-first_walk.ensures in
    subst (λ (found : Option Fault). IsVerdictBy c.args.profile c.args.bytes.now (verdict_of found)) (sym walk.0) (walk.1 c.args.profile)

pub returns-in-Faulty : goal.returns-in-Faulty
returns-in-Faulty c =
    let walk = rw c.in-Faulty.is at c.in_ok-first_walk.ensures in
    subst (λ (found : Option Fault). IsVerdictBy c.args.profile c.args.bytes.now (verdict_of found)) (sym walk.1) (least_of_wire c.args.profile c.args.bytes.now walk.0 walk.2)

pub find_rule_fault-requires-clause-nothing : goal.find_rule_fault-requires-clause-nothing
find_rule_fault-requires-clause-nothing c = (rw c.in-Whole.is at c.in_ok-first_walk.ensures).0

pub find_rule_fault-requires-clause-tile : goal.find_rule_fault-requires-clause-tile
find_rule_fault-requires-clause-tile c = is_tile c.args.bytes.now (rw c.in-Whole.is at c.in_ok-first_walk.ensures).1.0

pub find_rule_fault-requires-clause-sound : goal.find_rule_fault-requires-clause-sound
find_rule_fault-requires-clause-sound c = (rw c.in-Whole.is at c.in_ok-first_walk.ensures).1.1 c.args.profile

pub returns-in-Whole : goal.returns-in-Whole
returns-in-Whole c =
    verdict_found c.args.profile c.args.bytes.now c.find_rule_fault.result c.find_rule_fault.new.found (rw c.in-Whole.is at c.in_ok-first_walk.ensures).1.0 c.find_rule_fault.ensures.none c.find_rule_fault.ensures.least

pub find_polygon_fault-requires-clause-nothing : goal.find_polygon_fault-requires-clause-nothing
find_polygon_fault-requires-clause-nothing c = (rw c.in-ButPolygons.is at c.in_ok-first_walk.ensures).0

pub find_polygon_fault-requires-clause-tile : goal.find_polygon_fault-requires-clause-tile
find_polygon_fault-requires-clause-tile c = is_tile c.args.bytes.now (rw c.in-ButPolygons.is at c.in_ok-first_walk.ensures).1.0

pub find_polygon_fault-requires-clause-others : goal.find_polygon_fault-requires-clause-others
find_polygon_fault-requires-clause-others c = (rw c.in-ButPolygons.is at c.in_ok-first_walk.ensures).1.1 c.args.profile

pub returns-in-ButPolygons : goal.returns-in-ButPolygons
returns-in-ButPolygons c =
    verdict_found c.args.profile c.args.bytes.now c.find_polygon_fault.result c.find_polygon_fault.new.found (rw c.in-ButPolygons.is at c.in_ok-first_walk.ensures).1.0 c.find_polygon_fault.ensures.none c.find_polygon_fault.ensures.least
