use Rattle.std.proofs.Common.{◌≡◌, ℕ, ◌<◌, ◌≤◌, IfNone, IfSome, List, length, take, Option, Some, None, option_map, sym, ◌∙◌, ap, ap₂, subst, arith}
use Rattle.std.proofs.lemmas.Grind.{common_steps}
use Rattle.std.specs.Option.{option_or}
use Rattle.mvt_plane.specs.Position.{Position}
use Rattle.mvt_sweep.specs.Work.{vertex_count}
use Rattle.mvt_feature.specs.Feature.{IsCountedFault, IsFeatureAnswer}
use Rattle.mvt_feature.specs.Calls.FeatureParts.{AreAllPlaced, fault_after, IsAfterFront, IsFirstLater, IsFirstMisplaced, IsFront, IsInNoLater, until_of}
use Rattle.mvt_rules.specs.Ring.{ArePolygonRings}
use Rattle.mvt_polygon.specs.Polygons.{ArePolygons}
use Rattle.mvt_sweep.specs.Rings.{rings_of, AreProperRings}
use Rattle.mvt_sweep.specs.Swept.{IsNotedClear}
use Rattle.mvt_feature.specs.declared.feature.FeatureFault.{FeatureFault}
use Rattle.mvt_feature.proofs.Features.CountedFaults.{counted_after, counted_in_front, counted_in_later, counted_or, counted_to}
use Rattle.mvt_feature.proofs.Features.FeatureAnswers.{answer_of_parts, front_is_of_first, until_within}
use Rattle.mvt_feature.proofs.Features.FirstMeetings.{first_slice}
use Rattle.mvt_feature.proofs.Features.FirstPolygons.{first_are_listed}
use Rattle.mvt_feature.proofs.Features.FirstRings.{first_drawn, first_sound}
use Rattle.mvt_feature.proofs.Features.SweepsOfFeatures.{sweeps_of_feature, sweeps_with_front}
use Rattle.mvt_feature.proofs.Features.SweepsAdded.{fewer_vertices, no_sweeps}
use Rattle.mvt_sweep.specs.declared.meeting.Meeting.{Meeting}
use Rattle.mvt_status.specs.Counts.{raised}
use Rattle.mvt_feature.proofs.feature.together.check_together.Goals as goal

-- The front

pub returns-in_err-front-clause-counted : goal.returns-in_err-front-clause-counted
returns-in_err-front-clause-counted c polygons few =
    let rings = rings_of c.args.rings.now in
    let items = c.deref.result.now in
    let listed = subst (ArePolygons rings) (sym c.deref.ensures.value) c.in_ok-polygons.ensures in
    sweeps_of_feature rings items polygons 0 c.args.count.now c.clear_front.new.count c.clear_front.new.count listed few (omega arith) c.clear_front.ensures.counted (no_sweeps 1 0 c.clear_front.new.count)

pub first_misplaced-requires-clause-sound : goal.first_misplaced-requires-clause-sound
first_misplaced-requires-clause-sound c =
    subst ArePolygonRings (sym (first_slice c.args.rings.now c.in_ok-front.front.rings)) (first_sound (rings_of c.args.rings.now) c.in_ok-front.front.rings c.requires.sound)

pub first_misplaced-requires-clause-drawn : goal.first_misplaced-requires-clause-drawn
first_misplaced-requires-clause-drawn c =
    subst AreProperRings (sym (first_slice c.args.rings.now c.in_ok-front.front.rings)) (first_drawn (rings_of c.args.rings.now) c.in_ok-front.front.rings c.requires.drawn)

pub first_misplaced-requires-clause-listed : goal.first_misplaced-requires-clause-listed
first_misplaced-requires-clause-listed c =
    let rings = rings_of c.args.rings.now in
    let items = c.deref-2.result.now in
    let front = c.in_ok-front.front in
    let listed = subst (ArePolygons rings) (sym c.deref-2.ensures.value) c.in_ok-polygons.ensures in
    let is = subst (λ (polygons : List (ℕ × ℕ)). IsFront rings polygons front) (c.deref.ensures.value ∙ sym c.deref-2.ensures.value) c.in_ok-front.ensures.front in
    subst (λ (its : List (List Position)). ArePolygons its (take front.polygons items)) (sym (first_slice c.args.rings.now front.rings))
    (first_are_listed rings items front.polygons front.rings listed (front_is_of_first rings items front listed is))

pub first_misplaced-requires-clause-noted : goal.first_misplaced-requires-clause-noted
first_misplaced-requires-clause-noted c =
    let front = c.in_ok-front.front in
    subst (λ (its : List (List Position)). IsNotedClear its front.notes) (sym (first_slice c.args.rings.now front.rings)) c.in_ok-front.ensures.front.noted

pub returns-in_err-misplaced-clause-counted : goal.returns-in_err-misplaced-clause-counted
returns-in_err-misplaced-clause-counted c polygons few =
    let rings = rings_of c.args.rings.now in
    let items = c.deref.result.now in
    let k = c.in_ok-front.front.rings in
    let its = rings_of (take k c.args.rings.now) in
    let listed = subst (ArePolygons rings) (sym c.deref.ensures.value) c.in_ok-polygons.ensures in
    sweeps_of_feature rings items polygons (vertex_count its) c.args.count.now c.clear_front.new.count c.first_misplaced.new.count listed few
    (omega (arith, ap vertex_count (first_slice c.args.rings.now k), fewer_vertices k rings)) c.clear_front.ensures.counted c.first_misplaced.ensures.counted

pub returns-in_err-misplaced-clause-apart : goal.returns-in_err-misplaced-clause-apart
returns-in_err-misplaced-clause-apart c none =
    let rings = rings_of c.args.rings.now in
    let k = c.in_ok-front.front.rings in
    let its = rings_of (take k c.args.rings.now) in
    sweeps_with_front 1 1 2 (vertex_count its) (vertex_count rings) c.args.count.now c.clear_front.new.count c.first_misplaced.new.count
    (omega (arith, ap vertex_count (first_slice c.args.rings.now k), fewer_vertices k rings)) (omega arith) (c.clear_front.ensures.apart none) c.first_misplaced.ensures.counted

pub clear_front-requires-clause-listed : goal.clear_front-requires-clause-listed
clear_front-requires-clause-listed c = subst (ArePolygons (rings_of c.args.rings.now)) (sym c.deref.ensures.value) c.in_ok-polygons.ensures

-- Later polygons

-- the front is before a polygon with a meeting
before_meeting : (rings : List (List Position)) (polygons : List (ℕ × ℕ)) (count ring_count : ℕ) (meeting : Option Meeting) → IsAfterFront rings polygons count ring_count meeting
    → IfSome meeting (λ _. count < length polygons)
before_meeting rings polygons count ring_count (Some meeting) is = is.0
before_meeting rings polygons count ring_count None is = tt

pub first_inside_later-requires-clause-listed : goal.first_inside_later-requires-clause-listed
first_inside_later-requires-clause-listed c = subst (ArePolygons (rings_of c.args.rings.now)) (sym c.deref-3.ensures.value) c.in_ok-polygons.ensures

pub first_inside_later-requires-clause-later : goal.first_inside_later-requires-clause-later
first_inside_later-requires-clause-later c = omega (arith, c.in_ok-front.ensures.front.polygons_within, c.deref.ensures.len, c.deref-3.ensures.len)

pub following_fault-requires : goal.following_fault-requires
following_fault-requires c =
    let front = c.in_ok-front.front in
    subst (λ (its : List (ℕ × ℕ)). IfSome front.meeting (λ _. front.polygons < length its)) (c.deref.ensures.value ∙ sym c.deref-4.ensures.value)
    (before_meeting (rings_of c.args.rings.now) c.deref.result.now front.polygons front.rings front.meeting c.in_ok-front.ensures.front.following)

pub first_inside_later-requires-clause-until : goal.first_inside_later-requires-clause-until
first_inside_later-requires-clause-until c =
    let rings = rings_of c.args.rings.now in
    let items = c.deref.result.now in
    let front = c.in_ok-front.front in
    let misplaced = c.in_ok-misplaced.misplaced in
    let listed = subst (ArePolygons rings) (sym c.deref.ensures.value) c.in_ok-polygons.ensures in
    let some = subst (λ (its : List (List Position)). IfSome misplaced (IsFirstMisplaced its)) (first_slice c.args.rings.now front.rings) c.in_ok-misplaced.ensures.first in
    omega (arith, c.placed_up_to-until.ensures, until_within rings front.polygons front.rings misplaced (front_is_of_first rings items front listed c.in_ok-front.ensures.front) some)

pub returns-in_err-inside-clause-counted : goal.returns-in_err-inside-clause-counted
returns-in_err-inside-clause-counted c polygons few =
    let rings = rings_of c.args.rings.now in
    let items = c.deref.result.now in
    let k = c.in_ok-front.front.rings in
    let its = rings_of (take k c.args.rings.now) in
    let listed = subst (ArePolygons rings) (sym c.deref.ensures.value) c.in_ok-polygons.ensures in
    sweeps_of_feature rings items polygons (vertex_count its) c.args.count.now c.clear_front.new.count c.first_misplaced.new.count listed few
    (omega (arith, ap vertex_count (first_slice c.args.rings.now k), fewer_vertices k rings)) c.clear_front.ensures.counted c.first_misplaced.ensures.counted

pub returns-in_err-inside-clause-apart : goal.returns-in_err-inside-clause-apart
returns-in_err-inside-clause-apart c none =
    let rings = rings_of c.args.rings.now in
    let k = c.in_ok-front.front.rings in
    let its = rings_of (take k c.args.rings.now) in
    sweeps_with_front 1 1 2 (vertex_count its) (vertex_count rings) c.args.count.now c.clear_front.new.count c.first_misplaced.new.count
    (omega (arith, ap vertex_count (first_slice c.args.rings.now k), fewer_vertices k rings)) (omega arith) (c.clear_front.ensures.apart none) c.first_misplaced.ensures.counted

-- The answer

pub returns-clause-answer : goal.returns-clause-answer
returns-clause-answer c =
    let rings = rings_of c.args.rings.now in
    let items = c.in_ok-polygons.polygons.items in
    let front = c.in_ok-front.front in
    let misplaced = c.in_ok-misplaced.misplaced in
    let inside = c.in_ok-inside.inside in
    let is = subst (λ (polygons : List (ℕ × ℕ)). IsFront rings polygons front) c.deref.ensures.value c.in_ok-front.ensures.front in
    let slice = first_slice c.args.rings.now front.rings in
    let none = subst (λ (its : List (List Position)). IfNone misplaced (AreAllPlaced its)) slice c.in_ok-misplaced.ensures.none in
    let some = subst (λ (its : List (List Position)). IfSome misplaced (IsFirstMisplaced its)) slice c.in_ok-misplaced.ensures.first in
    let until = c.placed_up_to-until.ensures in
    let none_later = subst (λ (n : ℕ). IfNone inside ((polygon : ℕ) → polygon < n → IsInNoLater rings front.polygons polygon)) until c.in_ok-inside.ensures.none in
    let some_later = subst (λ (n : ℕ). IfSome inside (IsFirstLater rings front.polygons n)) until c.in_ok-inside.ensures.first in
    let following : c.following_fault.result ≡ option_map (fault_after items front.polygons) front.meeting =
    c.following_fault.ensures ∙ ap (λ (polygons : List (ℕ × ℕ)). option_map (fault_after polygons front.polygons) front.meeting) c.deref-4.ensures.value in
    let same : c.or-2.result ≡ option_or (option_or inside misplaced) (option_map (fault_after items front.polygons) front.meeting) =
    c.or-2.ensures ∙ ap₂ (λ (one other : Option FeatureFault). option_or one other) c.or.ensures following in
    subst (IsFeatureAnswer rings) (sym same) (answer_of_parts rings items front misplaced inside c.in_ok-polygons.ensures is none some none_later some_later)

pub returns-clause-counted : goal.returns-clause-counted
returns-clause-counted c polygons few =
    let rings = rings_of c.args.rings.now in
    let items = c.deref.result.now in
    let k = c.in_ok-front.front.rings in
    let its = rings_of (take k c.args.rings.now) in
    let listed = subst (ArePolygons rings) (sym c.deref.ensures.value) c.in_ok-polygons.ensures in
    sweeps_of_feature rings items polygons (vertex_count its) c.args.count.now c.clear_front.new.count c.first_misplaced.new.count listed few
    (omega (arith, ap vertex_count (first_slice c.args.rings.now k), fewer_vertices k rings)) c.clear_front.ensures.counted c.first_misplaced.ensures.counted

pub returns-clause-apart : goal.returns-clause-apart
returns-clause-apart c none =
    let rings = rings_of c.args.rings.now in
    let k = c.in_ok-front.front.rings in
    let its = rings_of (take k c.args.rings.now) in
    sweeps_with_front 1 1 2 (vertex_count its) (vertex_count rings) c.args.count.now c.clear_front.new.count c.first_misplaced.new.count
    (omega (arith, ap vertex_count (first_slice c.args.rings.now k), fewer_vertices k rings)) (omega arith) (c.clear_front.ensures.apart none) c.first_misplaced.ensures.counted

-- What is counted by the answer

pub returns-clause-by_answer : goal.returns-clause-by_answer
returns-clause-by_answer c =
    let rings = rings_of c.args.rings.now in
    let items = c.in_ok-polygons.polygons.items in
    let front = c.in_ok-front.front in
    let misplaced = c.in_ok-misplaced.misplaced in
    let inside = c.in_ok-inside.inside in
    let start = c.args.count.now in
    let after = c.first_misplaced.new.count in
    let work = c.first_misplaced.ensures.counted in
    let is = subst (λ (polygons : List (ℕ × ℕ)). IsFront rings polygons front) c.deref.ensures.value c.in_ok-front.ensures.front in
    let are = front_is_of_first rings items front c.in_ok-polygons.ensures is in
    let some = subst (λ (its : List (List Position)). IfSome misplaced (IsFirstMisplaced its)) (first_slice c.args.rings.now front.rings) c.in_ok-misplaced.ensures.first in
    let some_later = subst (λ (n : ℕ). IfSome inside (IsFirstLater rings front.polygons n)) c.placed_up_to-until.ensures c.in_ok-inside.ensures.first in
    let following : c.following_fault.result ≡ option_map (fault_after items front.polygons) front.meeting =
    c.following_fault.ensures ∙ ap (λ (polygons : List (ℕ × ℕ)). option_map (fault_after polygons front.polygons) front.meeting) c.deref-4.ensures.value in
    let same : c.or-2.result ≡ option_or (option_or inside misplaced) (option_map (fault_after items front.polygons) front.meeting) =
    c.or-2.ensures ∙ ap₂ (λ (one other : Option FeatureFault). option_or one other) c.or.ensures following in
    let swept : raised (vertex_count (take front.rings rings)) start.probes ≤ after.probes = omega (arith, c.in_ok-front.ensures.probed, work.no_fewer_probes) in
    record {
      valid = grind (arith, common_steps);
      least = grind (arith, common_steps);
      found = subst (λ (found : Option FeatureFault). IfSome found (IsCountedFault rings start after)) (sym same)
          (counted_or rings (option_or inside misplaced) (option_map (fault_after items front.polygons) front.meeting) start after
          (counted_or rings inside misplaced start after
          (counted_in_later rings front.polygons front.rings are start after swept (until_of front.polygons misplaced) inside (until_within rings front.polygons front.rings misplaced are some) some_later)
          (counted_in_front rings front.polygons front.rings are start after swept misplaced some))
          (counted_to rings (option_map (fault_after items front.polygons) front.meeting) start c.clear_front.new.count after work.no_fewer_tests work.no_fewer_probes
          (counted_after rings items front.polygons front.meeting start c.clear_front.new.count c.in_ok-front.ensures.tested)));
    }
