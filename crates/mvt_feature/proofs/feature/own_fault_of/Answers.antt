use Rattle.std.proofs.Common.{◌≤◌, IfNone, IfSome, Option, slice_range, sym, subst, arith}
use Rattle.mvt_rules.specs.Polygon.{PolygonRings}
use Rattle.mvt_feature.specs.Calls.Alone.{IsOwnAnswer, own_fault}
use Rattle.mvt_sweep.specs.Work.{vertex_count}
use Rattle.mvt_feature.specs.Feature.{IsCountedFault}
use Rattle.mvt_sweep.specs.Rings.{rings_of}
use Rattle.mvt_feature.specs.declared.feature.FeatureFault.{FeatureFault}
use Rattle.mvt_status.specs.Counts.{raised}
use Rattle.mvt_feature.proofs.Features.CountedFaults.{counted_own}
use Rattle.mvt_feature.proofs.Features.OwnFaults.{own_answer, own_least}
use Rattle.mvt_sweep.proofs.Vertices.RingReads.{count_of_rings}
use Rattle.mvt_feature.proofs.Features.SweepShares.{one_sweep}
use Rattle.mvt_feature.proofs.feature.own_fault_of.Goals as goal

pub returns-in_err-found-clause-counted : goal.returns-in_err-found-clause-counted
returns-in_err-found-clause-counted c =
    one_sweep (vertex_count (slice_range (rings_of c.args.rings.now) c.args.exterior c.args.after)) c.args.count.now c.check_polygon.new.count c.check_polygon.ensures.counted

pub returns-clause-answer : goal.returns-clause-answer
returns-clause-answer c =
    let it : PolygonRings = record { exterior = c.args.exterior; after = c.args.after } in
    let count = count_of_rings c.args.rings.now in
    subst (IsOwnAnswer (rings_of c.args.rings.now) c.args.polygon it) (sym c.own_fault.ensures)
    (own_answer (rings_of c.args.rings.now) c.args.polygon it c.in_ok-found.found c.requires.in_order (omega arith) c.in_ok-found.ensures.answer)

pub returns-clause-counted : goal.returns-clause-counted
returns-clause-counted c =
    one_sweep (vertex_count (slice_range (rings_of c.args.rings.now) c.args.exterior c.args.after)) c.args.count.now c.check_polygon.new.count c.check_polygon.ensures.counted

pub returns-clause-least : goal.returns-clause-least
returns-clause-least c =
    let it : PolygonRings = record { exterior = c.args.exterior; after = c.args.after } in
    let before = c.args.count.now in
    let after = c.check_polygon.new.count in
    let vertices = vertex_count (slice_range (rings_of c.args.rings.now) it.exterior it.after) in
    subst (λ (found : Option FeatureFault). IfNone found (raised vertices before.probes ≤ after.probes)) (sym c.own_fault.ensures)
    (own_least vertices before after c.in_ok-found.found (own_fault c.args.polygon it) c.in_ok-found.ensures.least)

pub returns-clause-found : goal.returns-clause-found
returns-clause-found c =
    let it : PolygonRings = record { exterior = c.args.exterior; after = c.args.after } in
    let rings = rings_of c.args.rings.now in
    let before = c.args.count.now in
    let after = c.check_polygon.new.count in
    subst (λ (found : Option FeatureFault). IfSome found (IsCountedFault rings before after)) (sym c.own_fault.ensures)
    (counted_own c.args.polygon it rings before after c.in_ok-found.found c.in_ok-found.ensures.least)
