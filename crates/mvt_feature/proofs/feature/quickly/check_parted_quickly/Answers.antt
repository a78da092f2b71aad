use Rattle.std.proofs.Common.{◌≡◌, ◌≤◌, length, ◌∙◌, ap, arith}
use Rattle.mvt_sweep.specs.Work.{vertex_count}
use Rattle.mvt_feature.specs.Feature.{AddsSweeps}
use Rattle.mvt_feature.specs.Calls.Gathered.{gathered_rings}
use Rattle.mvt_sweep.specs.Rings.{rings_of}
use Rattle.mvt_status.specs.Counts.{raised}
use Rattle.mvt_feature.proofs.Features.PartedAnswers.{alone_sweeps, all_able, all_drawn, both_sweeps, both_counted_by_answer, all_within, moved_found}
use Rattle.mvt_feature.proofs.Features.QuickAnswers.{not_none, quick_of_both, quick_of_meeting, quick_of_together}
use Rattle.mvt_feature.proofs.feature.quickly.check_parted_quickly.Goals as goal

pub returns-in_err-alone-clause-counted : goal.returns-in_err-alone-clause-counted
returns-in_err-alone-clause-counted c =
    let rings = rings_of c.args.rings.now in
    let polygons = c.args.polygons.now in
    let marks = c.args.crowded.now in
    alone_sweeps rings polygons marks c.requires.sound c.requires.listed 2 c.args.count.now c.fault_alone.new.count (omega arith) c.fault_alone.ensures.counted

pub returns-in_err-gathered-clause-counted : goal.returns-in_err-gathered-clause-counted
returns-in_err-gathered-clause-counted c =
    let rings = rings_of c.args.rings.now in
    let polygons = c.args.polygons.now in
    let marks = c.args.crowded.now in
    alone_sweeps rings polygons marks c.requires.sound c.requires.listed 2 c.args.count.now c.fault_alone.new.count (omega arith) c.fault_alone.ensures.counted

pub check_together_quickly-requires-clause-sound : goal.check_together_quickly-requires-clause-sound
check_together_quickly-requires-clause-sound c =
    let rings = rings_of c.args.rings.now in
    let polygons = c.args.polygons.now in
    let marks = c.args.crowded.now in
    let all = rings_of c.deref.result.now in
    let gathered : all ≡ gathered_rings rings polygons marks (length polygons) = ap rings_of c.deref.ensures.value ∙ c.in_ok-gathered.ensures.rings in
    all_able rings polygons marks c.requires.sound c.requires.listed all gathered

pub check_together_quickly-requires-clause-drawn : goal.check_together_quickly-requires-clause-drawn
check_together_quickly-requires-clause-drawn c =
    let rings = rings_of c.args.rings.now in
    let polygons = c.args.polygons.now in
    let marks = c.args.crowded.now in
    let all = rings_of c.deref.result.now in
    let gathered : all ≡ gathered_rings rings polygons marks (length polygons) = ap rings_of c.deref.ensures.value ∙ c.in_ok-gathered.ensures.rings in
    all_drawn rings polygons marks c.requires.sound c.requires.listed all gathered c.requires.drawn

pub returns-in_err-found-clause-counted : goal.returns-in_err-found-clause-counted
returns-in_err-found-clause-counted c =
    let rings = rings_of c.args.rings.now in
    let polygons = c.args.polygons.now in
    let marks = c.args.crowded.now in
    let all = rings_of c.deref.result.now in
    let gathered : all ≡ gathered_rings rings polygons marks (length polygons) = ap rings_of c.deref.ensures.value ∙ c.in_ok-gathered.ensures.rings in
    both_sweeps rings polygons marks c.requires.sound c.requires.listed all gathered 2 c.args.count.now c.fault_alone.new.count c.check_together_quickly.new.count (omega arith) c.fault_alone.ensures.counted c.check_together_quickly.ensures.counted

pub in_feature-other-requires : goal.in_feature-other-requires
in_feature-other-requires c =
    let rings = rings_of c.args.rings.now in
    let polygons = c.args.polygons.now in
    let marks = c.args.crowded.now in
    let all = rings_of c.deref.result.now in
    let gathered : all ≡ gathered_rings rings polygons marks (length polygons) = ap rings_of c.deref.ensures.value ∙ c.in_ok-gathered.ensures.rings in
    all_within rings polygons marks c.requires.sound c.requires.listed all gathered c.requires.marked c.in_ok-gathered.gathered.ring_of.items c.in_ok-gathered.gathered.polygon_of.items c.in_ok-gathered.ensures.places c.in_ok-gathered.ensures.numbers
    c.in_ok-found.found (quick_of_together all c.in_ok-found.found c.in_ok-found.ensures.answer)

pub returns-then-is_meeting-clause-answer : goal.returns-then-is_meeting-clause-answer
returns-then-is_meeting-clause-answer c =
    let rings = rings_of c.args.rings.now in
    let polygons = c.args.polygons.now in
    let marks = c.args.crowded.now in
    let all = rings_of c.deref.result.now in
    let gathered : all ≡ gathered_rings rings polygons marks (length polygons) = ap rings_of c.deref.ensures.value ∙ c.in_ok-gathered.ensures.rings in
    quick_of_meeting rings polygons marks c.requires.sound c.requires.listed c.requires.marked all gathered c.in_ok-gathered.gathered.ring_of.items c.in_ok-gathered.gathered.polygon_of.items c.in_ok-gathered.ensures.places c.in_ok-gathered.ensures.numbers
    c.in_ok-found.found c.in_feature-other.result c.in_ok-found.ensures.answer c.in_feature-other.ensures (c.is_meeting.ensures.0 c.if-is_meeting.true)

pub returns-then-is_meeting-clause-counted : goal.returns-then-is_meeting-clause-counted
returns-then-is_meeting-clause-counted c =
    let rings = rings_of c.args.rings.now in
    let polygons = c.args.polygons.now in
    let marks = c.args.crowded.now in
    let all = rings_of c.deref.result.now in
    let gathered : all ≡ gathered_rings rings polygons marks (length polygons) = ap rings_of c.deref.ensures.value ∙ c.in_ok-gathered.ensures.rings in
    both_sweeps rings polygons marks c.requires.sound c.requires.listed all gathered 2 c.args.count.now c.fault_alone.new.count c.check_together_quickly.new.count (omega arith) c.fault_alone.ensures.counted c.check_together_quickly.ensures.counted

pub returns-then-is_meeting-clause-by_answer : goal.returns-then-is_meeting-clause-by_answer
returns-then-is_meeting-clause-by_answer c =
    let rings = rings_of c.args.rings.now in
    let polygons = c.args.polygons.now in
    let marks = c.args.crowded.now in
    let all = rings_of c.deref.result.now in
    let gathered : all ≡ gathered_rings rings polygons marks (length polygons) = ap rings_of c.deref.ensures.value ∙ c.in_ok-gathered.ensures.rings in
    let meets = c.is_meeting.ensures.0 c.if-is_meeting.true in
    record {
      valid = not_none c.in_feature-other.result (AddsSweeps 1 (vertex_count rings) c.args.count.now c.check_together_quickly.new.count) meets;
      least = not_none c.in_feature-other.result (raised (vertex_count rings) c.args.count.now.probes ≤ c.check_together_quickly.new.count.probes) meets;
      found = moved_found rings polygons marks c.requires.sound c.requires.listed all gathered c.requires.marked c.in_ok-gathered.gathered.ring_of.items c.in_ok-gathered.gathered.polygon_of.items c.in_ok-gathered.ensures.places c.in_ok-gathered.ensures.numbers
          c.in_ok-found.found c.in_feature-other.result c.args.count.now c.fault_alone.new.count c.check_together_quickly.new.count (quick_of_together all c.in_ok-found.found c.in_ok-found.ensures.answer) c.in_feature-other.ensures c.fault_alone.ensures.counted
          c.in_ok-found.ensures.by_answer.found;
    }

pub returns-clause-answer : goal.returns-clause-answer
returns-clause-answer c =
    let rings = rings_of c.args.rings.now in
    let polygons = c.args.polygons.now in
    let marks = c.args.crowded.now in
    let all = rings_of c.deref.result.now in
    let gathered : all ≡ gathered_rings rings polygons marks (length polygons) = ap rings_of c.deref.ensures.value ∙ c.in_ok-gathered.ensures.rings in
    quick_of_both rings polygons marks c.requires.sound c.requires.listed c.requires.marked all gathered c.in_ok-gathered.gathered.ring_of.items c.in_ok-gathered.gathered.polygon_of.items c.in_ok-gathered.ensures.places c.in_ok-gathered.ensures.numbers
    c.in_ok-alone.alone c.in_ok-found.found c.in_feature-other.result c.first_of.result c.in_ok-alone.ensures.answer c.in_ok-found.ensures.answer c.in_feature-other.ensures (λ of. let is = c.is_meeting.ensures.1 of in let not = c.if-is_meeting.false in absurd (cc)) c.first_of.ensures

pub returns-clause-counted : goal.returns-clause-counted
returns-clause-counted c =
    let rings = rings_of c.args.rings.now in
    let polygons = c.args.polygons.now in
    let marks = c.args.crowded.now in
    let all = rings_of c.deref.result.now in
    let gathered : all ≡ gathered_rings rings polygons marks (length polygons) = ap rings_of c.deref.ensures.value ∙ c.in_ok-gathered.ensures.rings in
    both_sweeps rings polygons marks c.requires.sound c.requires.listed all gathered 2 c.args.count.now c.fault_alone.new.count c.check_together_quickly.new.count (omega arith) c.fault_alone.ensures.counted c.check_together_quickly.ensures.counted

pub returns-clause-by_answer : goal.returns-clause-by_answer
returns-clause-by_answer c =
    let rings = rings_of c.args.rings.now in
    let polygons = c.args.polygons.now in
    let marks = c.args.crowded.now in
    let all = rings_of c.deref.result.now in
    let gathered : all ≡ gathered_rings rings polygons marks (length polygons) = ap rings_of c.deref.ensures.value ∙ c.in_ok-gathered.ensures.rings in
    both_counted_by_answer rings polygons marks c.requires.sound c.requires.listed all gathered c.requires.marked c.in_ok-gathered.gathered.ring_of.items c.in_ok-gathered.gathered.polygon_of.items c.in_ok-gathered.ensures.places c.in_ok-gathered.ensures.numbers
    2 c.in_ok-alone.alone c.in_ok-found.found c.in_feature-other.result c.first_of.result c.args.count.now c.fault_alone.new.count c.check_together_quickly.new.count (quick_of_together all c.in_ok-found.found c.in_ok-found.ensures.answer) c.in_feature-other.ensures c.first_of.ensures
    c.fault_alone.ensures.counted c.check_together_quickly.ensures.counted c.in_ok-alone.ensures.least c.in_ok-alone.ensures.found c.in_ok-found.ensures.by_answer
