use Rattle.std.proofs.Common.{◌*◌, List, Option, sym, subst, arith}
use Rattle.mvt_plane.specs.Position.{Position}
use Rattle.mvt_rules.specs.Parts.Rings.{part_of}
use Rattle.mvt_rules.specs.Polygon.{PolygonRings}
use Rattle.mvt_status.specs.Counts.{bits}
use Rattle.mvt_sweep.specs.SweepWork.{AddsSweep, AddsTurns}
use Rattle.mvt_sweep.specs.Work.{IsCounted, vertex_count}
use Rattle.mvt_sweep.specs.Rings.{rings_of, AreProperRings}
use Rattle.mvt_sweep.specs.TurnVertices.{turn_count}
use Rattle.mvt_sweep.proofs.Sweeps.MeetingsFound.{work_of_vertices}
use Rattle.mvt_sweep.proofs.Vertices.RingReads.{count_of_rings}
use Rattle.mvt_sweep.proofs.Vertices.TurnCounts.{turns_among_vertices}
use Rattle.mvt_polygon.specs.PolygonFault.{IsAnswerAlone, IsPolygonAnswer, meeting_in}
use Rattle.mvt_polygon.specs.declared.polygon.PolygonFault.{PolygonFault}
use Rattle.mvt_polygon.proofs.PolygonSlices.{answer_in_feature, counted_in_feature, part_read, proper_part, rings_known}
use Rattle.mvt_polygon.proofs.polygon.check_polygon.Goals as goal
use Rattle.mvt_polygon.proofs.polygon.check_polygon.Goals.{After-check_alone}

pub check_alone-requires : goal.check_alone-requires
check_alone-requires c =
    let it : PolygonRings = record { exterior = c.args.exterior; after = c.args.after } in
    let count = count_of_rings c.args.rings.now in
    subst AreProperRings (sym (part_read c.args.rings.now it)) (proper_part (rings_of c.args.rings.now) it (omega arith) c.requires.drawn)

-- the work, by turn vertices
turns : (c : After-check_alone) → let own = part_of (rings_of c.args.rings.now) (record { exterior = c.args.exterior; after = c.args.after }) in
    AddsTurns (9 * vertex_count own) own c.args.count.now c.check_alone.new.count
turns c =
    let it : PolygonRings = record { exterior = c.args.exterior; after = c.args.after } in
    subst (λ (own : List (List Position)). AddsTurns (9 * vertex_count own) own c.args.count.now c.check_alone.new.count) (part_read c.args.rings.now it) c.check_alone.ensures.counted

-- and by vertices
counted : (c : After-check_alone) → let own = part_of (rings_of c.args.rings.now) (record { exterior = c.args.exterior; after = c.args.after }) in
    AddsSweep 10 (vertex_count own) c.args.count.now c.check_alone.new.count
counted c =
    let own = part_of (rings_of c.args.rings.now) (record { exterior = c.args.exterior; after = c.args.after }) in
    work_of_vertices (vertex_count own) (turn_count own) (bits (vertex_count own)) (9 * vertex_count own) 10 c.args.count.now c.check_alone.new.count (turns_among_vertices own) (omega arith) (turns c)

pub returns-in_err-found-clause-turns : goal.returns-in_err-found-clause-turns
returns-in_err-found-clause-turns c = turns (goal.at.returns-in_err-found-clause-turns c).After-check_alone

pub returns-in_err-found-clause-counted : goal.returns-in_err-found-clause-counted
returns-in_err-found-clause-counted c = counted (goal.at.returns-in_err-found-clause-counted c).After-check_alone

pub returns-clause-turns : goal.returns-clause-turns
returns-clause-turns c = turns (goal.at.returns-clause-turns c).After-check_alone

pub returns-clause-counted : goal.returns-clause-counted
returns-clause-counted c = counted (goal.at.returns-clause-counted c).After-check_alone

pub fault_in_feature-requires : goal.fault_in_feature-requires
fault_in_feature-requires c =
    let it : PolygonRings = record { exterior = c.args.exterior; after = c.args.after } in
    let count = count_of_rings c.args.rings.now in
    rings_known (rings_of c.args.rings.now) it c.in_ok-found.found (omega arith) (omega (arith, c.ranges.after.fits))
    (subst (λ (own : List (List Position)). IsAnswerAlone own c.in_ok-found.found) (part_read c.args.rings.now it) c.in_ok-found.ensures.answer)

pub returns-clause-answer : goal.returns-clause-answer
returns-clause-answer c =
    let it : PolygonRings = record { exterior = c.args.exterior; after = c.args.after } in
    subst (IsPolygonAnswer (rings_of c.args.rings.now) it) (sym c.fault_in_feature.ensures)
    (answer_in_feature (rings_of c.args.rings.now) it c.in_ok-found.found
    (subst (λ (own : List (List Position)). IsAnswerAlone own c.in_ok-found.found) (part_read c.args.rings.now it) c.in_ok-found.ensures.answer))

pub returns-clause-least : goal.returns-clause-least
returns-clause-least c =
    let it : PolygonRings = record { exterior = c.args.exterior; after = c.args.after } in
    let own = part_of (rings_of c.args.rings.now) it in
    let before = c.args.count.now in
    let after = c.check_alone.new.count in
    subst (λ (answer : Option PolygonFault). IsCounted (vertex_count own) before after (meeting_in answer)) (sym c.fault_in_feature.ensures)
    (counted_in_feature (vertex_count own) c.args.exterior before after c.in_ok-found.found
    (subst (λ (own : List (List Position)). IsCounted (vertex_count own) before after (meeting_in c.in_ok-found.found)) (part_read c.args.rings.now it) c.in_ok-found.ensures.least))
