use Rattle.std.proofs.Common.{◌≡◌, ◌+◌, length, ◌∙◌, ap, arith}
use Rattle.mvt_feature.specs.Calls.Gathered.{gathered_rings}
use Rattle.mvt_sweep.specs.Rings.{rings_of}
use Rattle.mvt_status.specs.Counts.{bits}
use Rattle.mvt_feature.proofs.Features.PartedAnswers.{alone_sweeps, all_able, all_drawn, both_counted, both_apart, both_counted_by_answer, all_within, both_answer, some_sweeps}
use Rattle.mvt_feature.proofs.Features.QuickAnswers.{quick_of_exact}
use Rattle.mvt_feature.proofs.feature.check_parted.Goals as goal

pub returns-in_err-alone-clause-counted : goal.returns-in_err-alone-clause-counted
returns-in_err-alone-clause-counted c =
    let rings = rings_of c.args.rings.now in
    let polygons = c.args.polygons.now in
    let marks = c.args.crowded.now in
    λ many few. alone_sweeps rings polygons marks c.requires.sound c.requires.listed (bits many + 2) c.args.count.now c.fault_alone.new.count (omega arith) c.fault_alone.ensures.counted

pub returns-in_err-alone-clause-apart : goal.returns-in_err-alone-clause-apart
returns-in_err-alone-clause-apart c =
    let rings = rings_of c.args.rings.now in
    let polygons = c.args.polygons.now in
    let marks = c.args.crowded.now in
    λ none. alone_sweeps rings polygons marks c.requires.sound c.requires.listed 2 c.args.count.now c.fault_alone.new.count (omega arith) c.fault_alone.ensures.counted

pub returns-in_err-gathered-clause-counted : goal.returns-in_err-gathered-clause-counted
returns-in_err-gathered-clause-counted c =
    let rings = rings_of c.args.rings.now in
    let polygons = c.args.polygons.now in
    let marks = c.args.crowded.now in
    λ many few. alone_sweeps rings polygons marks c.requires.sound c.requires.listed (bits many + 2) c.args.count.now c.fault_alone.new.count (omega arith) c.fault_alone.ensures.counted

pub returns-in_err-gathered-clause-apart : goal.returns-in_err-gathered-clause-apart
returns-in_err-gathered-clause-apart c =
    let rings = rings_of c.args.rings.now in
    let polygons = c.args.polygons.now in
    let marks = c.args.crowded.now in
    λ none. alone_sweeps rings polygons marks c.requires.sound c.requires.listed 2 c.args.count.now c.fault_alone.new.count (omega arith) c.fault_alone.ensures.counted

pub check_together-requires-clause-sound : goal.check_together-requires-clause-sound
check_together-requires-clause-sound c =
    let rings = rings_of c.args.rings.now in
    let polygons = c.args.polygons.now in
    let marks = c.args.crowded.now in
    let all = rings_of c.deref.result.now in
    let gathered : all ≡ gathered_rings rings polygons marks (length polygons) = ap rings_of c.deref.ensures.value ∙ c.in_ok-gathered.ensures.rings in
    all_able rings polygons marks c.requires.sound c.requires.listed all gathered

pub check_together-requires-clause-drawn : goal.check_together-requires-clause-drawn
check_together-requires-clause-drawn c =
    let rings = rings_of c.args.rings.now in
    let polygons = c.args.polygons.now in
    let marks = c.args.crowded.now in
    let all = rings_of c.deref.result.now in
    let gathered : all ≡ gathered_rings rings polygons marks (length polygons) = ap rings_of c.deref.ensures.value ∙ c.in_ok-gathered.ensures.rings in
    all_drawn rings polygons marks c.requires.sound c.requires.listed all gathered c.requires.drawn

pub returns-in_err-found-clause-counted : goal.returns-in_err-found-clause-counted
returns-in_err-found-clause-counted c =
    let rings = rings_of c.args.rings.now in
    let polygons = c.args.polygons.now in
    let marks = c.args.crowded.now in
    let all = rings_of c.deref.result.now in
    let gathered : all ≡ gathered_rings rings polygons marks (length polygons) = ap rings_of c.deref.ensures.value ∙ c.in_ok-gathered.ensures.rings in
    both_counted rings polygons marks c.requires.sound c.requires.listed all gathered c.args.count.now c.fault_alone.new.count c.check_together.new.count c.fault_alone.ensures.counted c.check_together.ensures.counted

pub returns-in_err-found-clause-apart : goal.returns-in_err-found-clause-apart
returns-in_err-found-clause-apart c =
    let rings = rings_of c.args.rings.now in
    let polygons = c.args.polygons.now in
    let marks = c.args.crowded.now in
    let all = rings_of c.deref.result.now in
    let gathered : all ≡ gathered_rings rings polygons marks (length polygons) = ap rings_of c.deref.ensures.value ∙ c.in_ok-gathered.ensures.rings in
    both_apart rings polygons marks c.requires.sound c.requires.listed all gathered c.args.count.now c.fault_alone.new.count c.check_together.new.count c.fault_alone.ensures.counted c.check_together.ensures.apart

pub returns-clause-counted : goal.returns-clause-counted
returns-clause-counted c =
    let rings = rings_of c.args.rings.now in
    let polygons = c.args.polygons.now in
    let marks = c.args.crowded.now in
    let all = rings_of c.deref.result.now in
    let gathered : all ≡ gathered_rings rings polygons marks (length polygons) = ap rings_of c.deref.ensures.value ∙ c.in_ok-gathered.ensures.rings in
    both_counted rings polygons marks c.requires.sound c.requires.listed all gathered c.args.count.now c.fault_alone.new.count c.check_together.new.count c.fault_alone.ensures.counted c.check_together.ensures.counted

pub returns-clause-apart : goal.returns-clause-apart
returns-clause-apart c =
    let rings = rings_of c.args.rings.now in
    let polygons = c.args.polygons.now in
    let marks = c.args.crowded.now in
    let all = rings_of c.deref.result.now in
    let gathered : all ≡ gathered_rings rings polygons marks (length polygons) = ap rings_of c.deref.ensures.value ∙ c.in_ok-gathered.ensures.rings in
    both_apart rings polygons marks c.requires.sound c.requires.listed all gathered c.args.count.now c.fault_alone.new.count c.check_together.new.count c.fault_alone.ensures.counted c.check_together.ensures.apart

pub in_feature-requires : goal.in_feature-requires
in_feature-requires c =
    let rings = rings_of c.args.rings.now in
    let polygons = c.args.polygons.now in
    let marks = c.args.crowded.now in
    let all = rings_of c.deref.result.now in
    let gathered : all ≡ gathered_rings rings polygons marks (length polygons) = ap rings_of c.deref.ensures.value ∙ c.in_ok-gathered.ensures.rings in
    all_within rings polygons marks c.requires.sound c.requires.listed all gathered c.requires.marked c.in_ok-gathered.gathered.ring_of.items c.in_ok-gathered.gathered.polygon_of.items c.in_ok-gathered.ensures.places c.in_ok-gathered.ensures.numbers
    c.in_ok-found.found (quick_of_exact all c.in_ok-found.found c.in_ok-found.ensures.answer)

pub returns-clause-answer : goal.returns-clause-answer
returns-clause-answer c =
    let rings = rings_of c.args.rings.now in
    let polygons = c.args.polygons.now in
    let marks = c.args.crowded.now in
    let all = rings_of c.deref.result.now in
    let gathered : all ≡ gathered_rings rings polygons marks (length polygons) = ap rings_of c.deref.ensures.value ∙ c.in_ok-gathered.ensures.rings in
    both_answer rings polygons marks c.requires.sound c.requires.listed all gathered c.requires.marked c.in_ok-gathered.gathered.ring_of.items c.in_ok-gathered.gathered.polygon_of.items c.in_ok-gathered.ensures.places c.in_ok-gathered.ensures.numbers
    c.in_ok-alone.alone c.in_ok-found.found c.in_feature.result c.first_of.result c.in_ok-alone.ensures.answer c.in_ok-found.ensures.answer c.in_feature.ensures c.first_of.ensures

pub returns-clause-by_answer : goal.returns-clause-by_answer
returns-clause-by_answer c =
    let rings = rings_of c.args.rings.now in
    let polygons = c.args.polygons.now in
    let marks = c.args.crowded.now in
    let all = rings_of c.deref.result.now in
    let gathered : all ≡ gathered_rings rings polygons marks (length polygons) = ap rings_of c.deref.ensures.value ∙ c.in_ok-gathered.ensures.rings in
    both_counted_by_answer rings polygons marks c.requires.sound c.requires.listed all gathered c.requires.marked c.in_ok-gathered.gathered.ring_of.items c.in_ok-gathered.gathered.polygon_of.items c.in_ok-gathered.ensures.places c.in_ok-gathered.ensures.numbers
    (bits (length polygons) + 2) c.in_ok-alone.alone c.in_ok-found.found c.in_feature.result c.first_of.result c.args.count.now c.fault_alone.new.count c.check_together.new.count (quick_of_exact all c.in_ok-found.found c.in_ok-found.ensures.answer) c.in_feature.ensures c.first_of.ensures
    c.fault_alone.ensures.counted (some_sweeps rings polygons marks c.requires.sound c.requires.listed all gathered c.fault_alone.new.count c.check_together.new.count c.check_together.ensures.counted) c.in_ok-alone.ensures.least c.in_ok-alone.ensures.found c.in_ok-found.ensures.by_answer
