-- The quick fault of a feature, of that of its polygons one by one and that of those that are gathered.
use Rattle.std.proofs.Common.{◌≡◌, ◌↔◌, ℕ, ◌<◌, ◌≤◌, inl, inr, Bool, false, List, [], ◌∷◌, length, take, Option, Some, None, option_map, IfNone, IfOk, IfSome, Result, Ok, Err, sym, subst, arith}
use Rattle.std.proofs.lemmas.Bool.{cases_order}
use Rattle.std.proofs.lemmas.List.{take_all}
use Rattle.mvt_rules.specs.Parts.Rings.{part_of}
use Rattle.mvt_rules.specs.Polygon.{PolygonRings, IsRingOf}
use Rattle.mvt_plane.specs.Position.{Position}
use Rattle.mvt_feature.specs.Calls.Alone.{IsAloneAnswer, earlier_of}
use Rattle.mvt_feature.specs.Calls.FeatureParts.{AreAllPlaced, fault_after, IsFirstMisplaced, IsMisplacedBy, listed_at}
use Rattle.mvt_feature.specs.Calls.Gathered.{cause_moved, fault_moved, gathered_numbers, gathered_places, gathered_rings}
use Rattle.mvt_feature.specs.Calls.Islands.{AreMarked}
use Rattle.mvt_feature.specs.Calls.QuickParts.{IsMeetingFault, IsOfMeeting, IsTogetherAnswer, IsTogetherCause}
use Rattle.mvt_feature.specs.Feature.{IsFeatureCause, IsClear, IsFeatureAnswer, IsFirstFault, front_of, rings_in}
use Rattle.mvt_sweep.specs.Meeting.{IsMeetingOf, NoMeeting, first_of, second_of}
use Rattle.mvt_rules.specs.Ring.{ArePolygonRings}
use Rattle.mvt_polygon.specs.Polygons.{ArePolygons}
use Rattle.mvt_feature.specs.QuickFeature.{IsAnyMeeting, IsMeetingCause, IsQuickAnswer, IsQuickFault}
use Rattle.mvt_feature.specs.declared.feature.FeatureCause.{FeatureCause}
use Rattle.mvt_feature.specs.declared.feature.FeatureCause.TheVariants.{Meeting, Nesting, Apart}
use Rattle.mvt_feature.specs.declared.feature.FeatureFault.{FeatureFault}
use Rattle.mvt_sweep.specs.declared.meeting.Meeting.{Meeting as MeetingOf}
use Rattle.mvt_feature.proofs.Features.FeatureAnswers.{fault_in_first}
use Rattle.mvt_feature.proofs.Features.FeatureShares.{HasFault, found_is_there, meeting_moved}
use Rattle.mvt_feature.proofs.Features.FirstMeetings.{meeting_of_all, none_of_its_front, second_within}
use Rattle.mvt_feature.proofs.Features.FirstPolygons.{all_first, in_turn, listed_within, of_listed}
use Rattle.mvt_feature.proofs.Features.PartedAnswers.{both_answer, one_answer}
use Rattle.mvt_polygon.proofs.ApartFaults.{ends_within, rings_listed}
use Rattle.mvt_feature.proofs.Features.RingCopies.{none_meet, front_copies}

-- Quick faults and first faults

-- what is the first fault is a quick one
pub quick_of_exact : (rings : List (List Position)) (found : Option FeatureFault) → IsFeatureAnswer rings found → IsQuickAnswer rings found
quick_of_exact rings (Some fault) first = inl first
quick_of_exact rings None clear = clear

-- there is no meeting where no edges meet
no_meeting_cause : (rings : List (List Position)) (it : PolygonRings) (cause : FeatureCause) → NoMeeting (part_of rings (front_of it)) → ¬ IsMeetingCause rings it cause
no_meeting_cause rings it (Meeting meeting) none is = none (first_of meeting) (second_of meeting) meeting.point is.0.meets
no_meeting_cause rings it (Nesting fault) none is = is
no_meeting_cause rings it (Apart fault) none is = is

-- nor of any polygon
no_meeting : (rings : List (List Position)) (fault : FeatureFault) → NoMeeting rings → ¬ IsAnyMeeting rings fault
no_meeting rings fault none is =
    let it = rings_in fault in
    no_meeting_cause rings it fault.cause (none_meet (part_of rings (front_of it)) rings (λ (ring : ℕ). ring) (front_copies rings it (ends_within rings fault.polygon it is.there)) none) is.is

-- so the quick fault is the first one
pub same_answer : (rings : List (List Position)) (found : Option FeatureFault) → NoMeeting rings → IsQuickAnswer rings found ↔ IsFeatureAnswer rings found
same_answer rings (Some fault) none = (λ quick. elim quick [ inl first ↦ first | inr meets ↦ absurd (no_meeting rings fault none meets) ], λ first. inl first)
same_answer rings None none = (λ clear. clear, λ clear. clear)

-- a polygon with a fault isn't clear
not_clear : (rings : List (List Position)) (polygon : ℕ) (it : PolygonRings) (cause : FeatureCause) → IsFeatureCause rings polygon it cause → ¬ IsClear rings polygon it
not_clear rings polygon it (Meeting meeting) is clear = clear.apart (first_of meeting) (second_of meeting) meeting.point is.meets
not_clear rings polygon it (Nesting fault) is clear = clear.placed.nested is.1.alone is.1.is.holds
not_clear rings polygon it (Apart fault) is clear = clear.placed.alone fault.vertex fault.other is.2.holds

-- so not all are
pub not_all_clear : (rings : List (List Position)) (fault : FeatureFault) → IsQuickFault rings fault → ¬ IsFeatureAnswer rings None
not_all_clear rings fault quick clear =
    let there : HasFault rings fault = found_is_there rings (Some fault) quick in
    not_clear rings fault.polygon (rings_in fault) fault.cause there.is (clear fault.polygon (rings_in fault) there.there)

-- Together

-- the first polygon that ends after a ring is that ring's
ring_of_first : (rings : List (List Position)) (polygons : List (ℕ × ℕ)) (polygon ring : ℕ) → ArePolygonRings rings → ArePolygons rings polygons → polygon < length polygons → ring < length rings → ring < (listed_at polygons polygon).after
    → ((earlier : ℕ) → earlier < polygon → (listed_at polygons earlier).after ≤ ring) → IsRingOf (listed_at polygons polygon) ring
ring_of_first rings polygons polygon ring sound listed within there before first =
    let home = of_listed rings polygons ring sound listed there in
    let its_from = home.of.from in
    let its_before = home.of.before in
    elim (cases_order home.polygon polygon) [
      | inl same ↦ subst (λ (number : ℕ). IsRingOf (listed_at polygons number) ring) same home.of
      | inr (inl less) ↦ let ends = first home.polygon less in absurd (omega arith)
      | inr (inr more) ↦
          let turn = in_turn rings polygon home.polygon (listed_at polygons polygon) (listed_at polygons home.polygon) (rings_listed rings polygons polygon listed within) (rings_listed rings polygons home.polygon listed home.within) more in
          absurd (omega arith)
    ]

-- the meeting that a sweep finds is one of the polygon of its second ring
pub meeting_of_polygon : (rings : List (List Position)) (polygons : List (ℕ × ℕ)) (polygon : ℕ) (meeting : MeetingOf) → ArePolygonRings rings → ArePolygons rings polygons → polygon < length polygons → meeting.second_ring < (listed_at polygons polygon).after
    → ((earlier : ℕ) → earlier < polygon → (listed_at polygons earlier).after ≤ meeting.second_ring) → IsMeetingOf rings meeting → IsTogetherAnswer rings (Some (fault_after polygons polygon meeting))
meeting_of_polygon rings polygons polygon meeting sound listed within before first is = record {
  there = rings_listed rings polygons polygon listed within;
  is = (
    meeting_of_all rings (listed_at polygons polygon) meeting before is,
    ring_of_first rings polygons polygon meeting.second_ring sound listed within (second_within rings meeting is) before first,
  );
}

-- where no edges meet, the first polygon that is misplaced has the first fault
exact_of_placed : (rings : List (List Position)) (polygons : List (ℕ × ℕ)) (misplaced : Option FeatureFault) → ArePolygons rings polygons → NoMeeting rings → IfNone misplaced (AreAllPlaced rings) → IfSome misplaced (IsFirstMisplaced rings)
    → IsFeatureAnswer rings misplaced
exact_of_placed rings polygons None listed none all first = λ polygon it is_it. record {
  apart = none_of_its_front rings (length rings) it (ends_within rings polygon it is_it) (subst NoMeeting (sym (take_all (length rings) rings (omega arith))) none);
  placed = all polygon it is_it;
}
exact_of_placed rings polygons (Some fault) listed none all first =
    let whole : take (length rings) rings ≡ rings = take_all (length rings) rings (omega arith) in
    fault_in_first rings (length polygons) (length rings) fault (all_first rings polygons listed) (subst NoMeeting (sym whole) none) (subst (λ (its : List (List Position)). IsFirstMisplaced its fault) (sym whole) first)
    (λ polygon before vertex other later wrong.
    let within : other < length polygons = listed_within rings polygons other wrong.other_rings listed wrong.other_there in
    absurd (omega arith))

-- which is no meeting
together_of_placed : (rings : List (List Position)) (fault : FeatureFault) (cause : FeatureCause) → IsMisplacedBy rings fault.polygon (rings_in fault) cause → IsFirstFault rings fault → IsTogetherCause rings fault cause
together_of_placed rings fault (Meeting meeting) is first = absurd is
together_of_placed rings fault (Nesting wrong) is first = first
together_of_placed rings fault (Apart wrong) is first = first

-- so it is the answer
placed_answer : (rings : List (List Position)) (polygons : List (ℕ × ℕ)) (misplaced : Option FeatureFault) → ArePolygons rings polygons → NoMeeting rings → IfNone misplaced (AreAllPlaced rings) → IfSome misplaced (IsFirstMisplaced rings) → IsTogetherAnswer rings misplaced
placed_answer rings polygons None listed none all first = exact_of_placed rings polygons None listed none all first
placed_answer rings polygons (Some fault) listed none all first = together_of_placed rings fault fault.cause first.is (exact_of_placed rings polygons (Some fault) listed none all first)

-- also by a result
pub placed_result : {E : Type 0} (rings : List (List Position)) (polygons : List (ℕ × ℕ)) (result : Result (Option FeatureFault) E) → ArePolygons rings polygons → NoMeeting rings
    → IfOk result (λ misplaced. IfNone misplaced (AreAllPlaced rings)) → IfOk result (λ misplaced. IfSome misplaced (IsFirstMisplaced rings)) → IfOk result (IsTogetherAnswer rings)
placed_result rings polygons (Ok misplaced) listed none all first = placed_answer rings polygons misplaced listed none all first
placed_result rings polygons (Err error) listed none all first = tt

-- it is a quick answer
quick_of_cause : (rings : List (List Position)) (fault : FeatureFault) (cause : FeatureCause) → IsTogetherCause rings fault cause → IsQuickFault rings fault
quick_of_cause rings fault (Meeting meeting) is = inr is
quick_of_cause rings fault (Nesting wrong) is = inl is
quick_of_cause rings fault (Apart wrong) is = inl is

pub quick_of_together : (rings : List (List Position)) (found : Option FeatureFault) → IsTogetherAnswer rings found → IsQuickAnswer rings found
quick_of_together rings (Some fault) is = quick_of_cause rings fault fault.cause is
quick_of_together rings None clear = clear

-- also by a result
pub together_result : {E : Type 0} (rings : List (List Position)) (result : Result (Option FeatureFault) E) → IfOk result (IsTogetherAnswer rings) → IfOk result (IsQuickAnswer rings)
together_result rings (Ok found) answer = quick_of_together rings found answer
together_result rings (Err error) answer = tt

-- Polygons one by one, and the others together

-- a meeting has been found
pub not_none : (found : Option FeatureFault) (Holds : Type 0) → IsMeetingFault found → IfNone found Holds
not_none (Some fault) Holds is = tt
not_none None Holds is = absurd is

-- what is a meeting by other numbers is one
of_moved : (places numbers : List ℕ) (cause : FeatureCause) → IsOfMeeting (cause_moved places numbers cause) → IsOfMeeting cause
of_moved places numbers (Meeting meeting) is = is
of_moved places numbers (Nesting fault) is = is
of_moved places numbers (Apart fault) is = is

-- and the other way round
moved_of : (places numbers : List ℕ) (cause : FeatureCause) → IsOfMeeting cause → IsOfMeeting (cause_moved places numbers cause)
moved_of places numbers (Meeting meeting) is = is
moved_of places numbers (Nesting fault) is = is
moved_of places numbers (Apart fault) is = is

-- an answer that is a meeting
any_meeting : (rings : List (List Position)) (fault : FeatureFault) (cause : FeatureCause) → IsTogetherCause rings fault cause → IsOfMeeting cause → IsAnyMeeting rings fault
any_meeting rings fault (Meeting meeting) is of = is
any_meeting rings fault (Nesting wrong) is of = absurd of
any_meeting rings fault (Apart wrong) is of = absurd of

-- one that isn't is the first fault
exact_cause : (rings : List (List Position)) (fault : FeatureFault) (cause : FeatureCause) → IsTogetherCause rings fault cause → ¬ IsOfMeeting cause → IsFirstFault rings fault
exact_cause rings fault (Meeting meeting) is not = absurd (not tt)
exact_cause rings fault (Nesting wrong) is not = is
exact_cause rings fault (Apart wrong) is not = is

exact_unless_meeting : (rings : List (List Position)) (found : Option FeatureFault) → IsTogetherAnswer rings found → ¬ IsMeetingFault found → IsFeatureAnswer rings found
exact_unless_meeting rings (Some fault) is not = exact_cause rings fault fault.cause is not
exact_unless_meeting rings None clear not = clear

module _ (rings : List (List Position)) (polygons : List (ℕ × ℕ)) (marks : List Bool) (able : ArePolygonRings rings) (listed : ArePolygons rings polygons) (apart : AreMarked rings polygons marks) (all : List (List Position))
    (gathered : all ≡ gathered_rings rings polygons marks (length polygons)) (its_places its_numbers : List ℕ) (places_are : its_places ≡ gathered_places polygons marks (length polygons)) (numbers_are : its_numbers ≡ gathered_numbers marks (length polygons)) where
  -- a meeting of the gathered polygons is one of the feature
  moved_meeting : (fault : FeatureFault) → IsAnyMeeting all fault → IsAnyMeeting rings (fault_moved polygons its_places its_numbers fault)
  moved_meeting fault meets =
      subst (λ (numbers : List ℕ). IsAnyMeeting rings (fault_moved polygons its_places numbers fault)) (sym numbers_are)
      (subst (λ (places : List ℕ). IsAnyMeeting rings (fault_moved polygons places (gathered_numbers marks (length polygons)) fault)) (sym places_are)
      (meeting_moved rings polygons marks able listed apart fault (subst (λ (its : List (List Position)). IsAnyMeeting its fault) gathered meets)))

  -- so it may be the answer
  meeting_answer : (found : Option FeatureFault) → IsTogetherAnswer all found → IsMeetingFault (option_map (fault_moved polygons its_places its_numbers) found) → IsQuickAnswer rings (option_map (fault_moved polygons its_places its_numbers) found)
  meeting_answer (Some fault) quick of = inr (moved_meeting fault (any_meeting all fault fault.cause quick (of_moved its_places its_numbers fault.cause of)))
  meeting_answer None quick of = absurd of

  pub quick_of_meeting : (found moved : Option FeatureFault) → IsTogetherAnswer all found → moved ≡ option_map (fault_moved polygons its_places its_numbers) found → IsMeetingFault moved → IsQuickAnswer rings moved
  quick_of_meeting found moved quick moved_is of = subst (IsQuickAnswer rings) (sym moved_is) (meeting_answer found quick (subst IsMeetingFault moved_is of))

  -- where none was found of the gathered polygons
  not_met : (found : Option FeatureFault) → ¬ IsMeetingFault (option_map (fault_moved polygons its_places its_numbers) found) → ¬ IsMeetingFault found
  not_met (Some fault) not of = not (moved_of its_places its_numbers fault.cause of)
  not_met None not of = of

  -- the first polygon of both has the first fault
  pub quick_of_both : (one found moved result : Option FeatureFault) → IsAloneAnswer rings polygons marks one → IsTogetherAnswer all found → moved ≡ option_map (fault_moved polygons its_places its_numbers) found → ¬ IsMeetingFault moved
      → result ≡ earlier_of one moved → IsQuickAnswer rings result
  quick_of_both one found moved result alone quick moved_is not result_is =
      quick_of_exact rings result
      (both_answer rings polygons marks able listed all gathered apart its_places its_numbers places_are numbers_are one found moved result alone
      (exact_unless_meeting all found quick (not_met found (λ of. not (subst IsMeetingFault (sym moved_is) of)))) moved_is result_is)

-- One polygon

-- its answer has no other polygons
pub quick_alone : (rings : List (List Position)) (polygons : List (ℕ × ℕ)) (found : Option FeatureFault) → ArePolygonRings rings → ArePolygons rings polygons → length polygons ≡ 1 → IsAloneAnswer rings polygons (false ∷ []) found → IsQuickAnswer rings found
quick_alone rings polygons found able listed one own = quick_of_exact rings found (one_answer rings polygons found able listed one own)
