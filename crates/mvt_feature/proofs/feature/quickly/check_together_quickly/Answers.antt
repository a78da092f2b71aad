use Rattle.std.proofs.Common.{Some, sym, subst, arith}
use Rattle.mvt_feature.specs.Calls.QuickParts.{IsTogetherAnswer}
use Rattle.mvt_sweep.specs.Swept.{IsNotedClear, IsSweptAnswer, met_in}
use Rattle.mvt_sweep.specs.Meeting.{IsMeetingOf}
use Rattle.mvt_polygon.specs.Polygons.{ArePolygons}
use Rattle.mvt_sweep.specs.Rings.{rings_of}
use Rattle.mvt_sweep.specs.Work.{IsCounted, vertex_count}
use Rattle.mvt_feature.specs.declared.feature.FeatureFault.{FeatureFault}
use Rattle.mvt_sweep.specs.declared.sweep.notes.RingNotes.{RingNotes}
use Rattle.mvt_sweep.specs.declared.sweep.swept.Swept.{Swept}
use Rattle.mvt_feature.proofs.Features.CountedFaults.{counted_where_clear}
use Rattle.mvt_feature.proofs.Features.FirstPolygons.{of_listed}
use Rattle.mvt_feature.proofs.Features.FirstMeetings.{second_within}
use Rattle.mvt_feature.proofs.Features.SweepsAdded.{one_sweep}
use Rattle.mvt_feature.proofs.Features.QuickAnswers.{meeting_of_polygon, placed_result}
use Rattle.mvt_feature.proofs.feature.quickly.check_together_quickly.Goals as goal

pub returns-in-Clear-clause-answer : goal.returns-in-Clear-clause-answer
returns-in-Clear-clause-answer c =
    let rings = rings_of c.args.rings.now in
    let noted : IsNotedClear rings c.in-Clear.notes = subst (IsSweptAnswer rings) c.in-Clear.is c.in_ok-notes.ensures.answer in
    placed_result rings c.in_ok-polygons.polygons.items c.first_misplaced.result c.in_ok-polygons.ensures noted.clear c.first_misplaced.ensures.none c.first_misplaced.ensures.first

pub returns-in-Clear-clause-by_answer : goal.returns-in-Clear-clause-by_answer
returns-in-Clear-clause-by_answer c =
    let rings = rings_of c.args.rings.now in
    let start = c.args.count.now in
    let between = c.sweep_rings.new.count in
    let least = subst (λ (swept : Swept RingNotes). IsCounted (vertex_count rings) start between (met_in swept)) c.in-Clear.is c.in_ok-notes.ensures.least in
    counted_where_clear rings start between c.first_misplaced.new.count c.first_misplaced.result
    (one_sweep (vertex_count rings) (vertex_count rings) start between (omega arith) c.sweep_rings.ensures.counted) least
    c.first_misplaced.ensures.counted.no_fewer_probes c.first_misplaced.ensures.unswept c.first_misplaced.ensures.first

pub fault_of_second-requires : goal.fault_of_second-requires
fault_of_second-requires c =
    let rings = rings_of c.args.rings.now in
    let polygons = c.deref-in-Meets.result.now in
    let meeting = c.in-Meets.meeting in
    let listed = subst (ArePolygons rings) (sym c.deref-in-Meets.ensures.value) c.in_ok-polygons.ensures in
    let meets : IsMeetingOf rings meeting = subst (IsSweptAnswer rings) c.in-Meets.is c.in_ok-notes.ensures.answer in
    let home = of_listed rings polygons meeting.second_ring c.requires.sound listed (second_within rings meeting meets) in
    (home.polygon, home.within, home.of)

pub returns-clause-answer : goal.returns-clause-answer
returns-clause-answer c =
    let rings = rings_of c.args.rings.now in
    let polygons = c.deref-in-Meets.result.now in
    let meeting = c.in-Meets.meeting in
    let listed = subst (ArePolygons rings) (sym c.deref-in-Meets.ensures.value) c.in_ok-polygons.ensures in
    let meets : IsMeetingOf rings meeting = subst (IsSweptAnswer rings) c.in-Meets.is c.in_ok-notes.ensures.answer in
    let found = c.fault_of_second.ensures in
    subst (λ (fault : FeatureFault). IsTogetherAnswer rings (Some fault)) (sym found.is)
    (meeting_of_polygon rings polygons c.fault_of_second.result.polygon meeting c.requires.sound listed found.within found.of found.first meets)

pub first_misplaced-requires-clause-listed : goal.first_misplaced-requires-clause-listed
first_misplaced-requires-clause-listed c =
    subst (ArePolygons (rings_of c.args.rings.now)) (sym c.deref.ensures.value) c.in_ok-polygons.ensures

pub first_misplaced-requires-clause-noted : goal.first_misplaced-requires-clause-noted
first_misplaced-requires-clause-noted c =
    subst (IsSweptAnswer (rings_of c.args.rings.now)) c.in-Clear.is c.in_ok-notes.ensures.answer
