-- The first fault of a feature whose polygons are kept apart, from what is found of its first polygons.
use Rattle.std.proofs.Common.{◌≡◌, ℕ, ◌<◌, ◌≤◌, inl, inr, List, length, take, Option, Some, None, IfNone, IfSome, option_map, sym, subst, arith}
use Rattle.std.proofs.lemmas.Bool.{cases_lt}
use Rattle.std.specs.Option.{option_or}
use Rattle.mvt_rules.specs.Polygon.{PolygonRings, IsPolygon}
use Rattle.mvt_plane.specs.Position.{Position}
use Rattle.mvt_polygon.specs.Apart.{IsApartFault, IsFirstApartFault}
use Rattle.mvt_feature.specs.Feature.{IsFeatureCause, IsClear, IsFeatureAnswer, IsFirstFault, IsPlaced, rings_in}
use Rattle.mvt_feature.specs.Calls.FeatureParts.{AreAllPlaced, fault_after, IsAfterFront, IsFirstLater, IsFirstMisplaced, IsFront, IsInNoLater, IsMisplacedBy, until_of}
use Rattle.mvt_sweep.specs.Meeting.{NoMeeting}
use Rattle.mvt_polygon.specs.Nesting.{IsFirstNestFault}
use Rattle.mvt_polygon.specs.Polygons.{ArePolygons}
use Rattle.mvt_feature.specs.declared.feature.FeatureCause.{FeatureCause}
use Rattle.mvt_feature.specs.declared.feature.FeatureCause.TheVariants.{Meeting, Nesting, Apart}
use Rattle.mvt_feature.specs.declared.feature.FeatureFault.{FeatureFault}
use Rattle.mvt_feature.specs.declared.feature.front.Front.{Front}
use Rattle.mvt_sweep.specs.declared.meeting.Meeting.{Meeting as MeetingOf}
use Rattle.mvt_polygon.proofs.ApartFaults.{rings_listed}
use Rattle.mvt_feature.proofs.Features.FirstFaults.{apart_in_first, clear_in_all, first_of_all, nested_in_all, part_in_first}
use Rattle.mvt_feature.proofs.Features.FirstMeetings.{none_of_its_front}
use Rattle.mvt_feature.proofs.Features.FirstPolygons.{all_first, AreFirst, before_first, listed_within}
use Rattle.mvt_feature.proofs.Features.FirstRings.{begins_among_first, ends_in_first, polygon_in_first, polygon_of_first}

-- The front

-- it has the rings of the first polygons
first_after : (rings : List (List Position)) (polygons : List (ℕ × ℕ)) (count ring_count : ℕ) (meeting : Option MeetingOf) → ArePolygons rings polygons → IsAfterFront rings polygons count ring_count meeting → AreFirst rings count ring_count
first_after rings polygons count ring_count None listed following =
    subst (λ (n : ℕ). AreFirst rings n ring_count) (sym following.0) (subst (AreFirst rings (length polygons)) (sym following.1) (all_first rings polygons listed))
first_after rings polygons count ring_count (Some meeting) listed following = subst (AreFirst rings count) (sym following.1) (before_first rings polygons count listed following.0)

pub front_is_of_first : (rings : List (List Position)) (polygons : List (ℕ × ℕ)) (front : Front) → ArePolygons rings polygons → IsFront rings polygons front → AreFirst rings front.polygons front.rings
front_is_of_first rings polygons front listed is = first_after rings polygons front.polygons front.rings front.meeting listed is.following

-- Polygons before a fault

-- the polygons before this one are where they should be, among the first ones, and not in later ones
pub record AreClearTo (rings : List (List Position)) (count ring_count until : ℕ) : Type 0 where
  pub first : AreFirst rings count ring_count
  pub apart : NoMeeting (take ring_count rings)
  pub up_to : until ≤ count
  pub placed : (polygon : ℕ) (it : PolygonRings) → polygon < until → IsPolygon (take ring_count rings) polygon it → IsPlaced (take ring_count rings) polygon it

-- so one of them is clear, if it is in no later one
clear_before : (rings : List (List Position)) (count ring_count until polygon : ℕ) (it : PolygonRings) → AreClearTo rings count ring_count until → polygon < until → IsPolygon rings polygon it → IsInNoLater rings count polygon → IsClear rings polygon it
clear_before rings count ring_count until polygon it clear before is_it later =
    let up_to = clear.up_to in
    let less : polygon < count = omega arith in
    clear_in_all rings count ring_count polygon it clear.first clear.apart less is_it
    (clear.placed polygon it before (polygon_in_first rings ring_count polygon it clear.first.whole (clear.first.begins polygon it is_it less) is_it)) later

-- A fault with a later polygon

-- it is the first of its polygon
first_in_later : (rings : List (List Position)) (count ring_count until : ℕ) (fault : FeatureFault) → AreClearTo rings count ring_count until → (found : IsFirstLater rings count until fault)
    → IsFirstApartFault rings fault.polygon (record { vertex = found.vertex; other = found.other })
first_in_later rings count ring_count until fault clear found =
    let up_to = clear.up_to in
    let before_until : fault.polygon < until = found.before_until in
    let less : fault.polygon < count = omega arith in
    let it = rings_in fault in
    let in_first = polygon_in_first rings ring_count fault.polygon it clear.first.whole (clear.first.begins fault.polygon it found.there less) found.there in
    let placed = clear.placed fault.polygon it before_until in_first in
    record {
      holds = found.is.holds;
      first = λ vertex other its. elim (cases_lt other count) [
        | inl within ↦ absurd (placed.alone vertex other (apart_in_first rings count ring_count fault.polygon vertex other clear.first less within its))
        | inr following ↦ found.is.first vertex other following its
      ];
    }

-- and the first of all
pub fault_in_later : (rings : List (List Position)) (count ring_count until : ℕ) (fault : FeatureFault) → AreClearTo rings count ring_count until → IsFirstLater rings count until fault → IsFirstFault rings fault
fault_in_later rings count ring_count until fault clear found =
    let up_to = clear.up_to in
    let before_until : fault.polygon < until = found.before_until in
    let less : fault.polygon < count = omega arith in
    let it = rings_in fault in
    let begins = clear.first.begins fault.polygon it found.there less in
    let in_first = polygon_in_first rings ring_count fault.polygon it clear.first.whole begins found.there in
    let placed = clear.placed fault.polygon it before_until in_first in
    let within = ends_in_first rings ring_count fault.polygon it clear.first.whole begins found.there in
    record {
      there = found.there;
      before = λ polygon its earlier is_its. clear_before rings count ring_count until polygon its clear (omega arith) is_its (found.before polygon earlier);
      is = subst (IsFeatureCause rings fault.polygon it) (sym found.cause) (
        none_of_its_front rings ring_count it within clear.apart,
        nested_in_all rings ring_count it found.there.further within placed.nested,
        first_in_later rings count ring_count until fault clear found,
      );
    }

-- A polygon that is misplaced among the first ones

-- another polygon around its vertex is one of the first ones
other_before : (rings : List (List Position)) (count ring_count polygon vertex other : ℕ) → AreFirst rings count ring_count → IsApartFault (take ring_count rings) polygon vertex other → other < count
other_before rings count ring_count polygon vertex other are fault =
    let its = fault.other_rings in
    are.only other its (polygon_of_first rings ring_count other its are.whole fault.other_there) (begins_among_first rings ring_count other its are.whole.within fault.other_there)

-- what is wrong with it is the first of its faults
cause_in_first : (rings : List (List Position)) (count ring_count polygon : ℕ) (it : PolygonRings) (cause : FeatureCause) → AreFirst rings count ring_count → NoMeeting (take ring_count rings) → polygon < count → it.exterior < it.after → it.after ≤ ring_count
    → IsMisplacedBy (take ring_count rings) polygon it cause → IsFeatureCause rings polygon it cause
cause_in_first rings count ring_count polygon it (Meeting meeting) are none before further within is = absurd is
cause_in_first rings count ring_count polygon it (Nesting fault) are none before further within is = (
  none_of_its_front rings ring_count it within none,
  record { alone = is.alone; is = subst (λ (parts : List (List Position)). IsFirstNestFault parts is.alone) (part_in_first rings ring_count it further within) is.is; moved = is.moved },
)
cause_in_first rings count ring_count polygon it (Apart fault) are none before further within is = (
  none_of_its_front rings ring_count it within none,
  nested_in_all rings ring_count it further within is.1,
  first_of_all rings count ring_count polygon fault are before is.0 (other_before rings count ring_count polygon fault.vertex fault.other are is.2.holds) is.2,
)

-- it is one of the first ones
pub misplaced_before : (rings : List (List Position)) (count ring_count : ℕ) (fault : FeatureFault) → AreFirst rings count ring_count → IsFirstMisplaced (take ring_count rings) fault → fault.polygon < count
misplaced_before rings count ring_count fault are found =
    let it = rings_in fault in
    are.only fault.polygon it (polygon_of_first rings ring_count fault.polygon it are.whole found.there) (begins_among_first rings ring_count fault.polygon it are.whole.within found.there)

-- where none before it is in a later one, it has the first fault of all
pub fault_in_first : (rings : List (List Position)) (count ring_count : ℕ) (fault : FeatureFault) → AreFirst rings count ring_count → NoMeeting (take ring_count rings) → IsFirstMisplaced (take ring_count rings) fault
    → ((polygon : ℕ) → polygon < fault.polygon → IsInNoLater rings count polygon) → IsFirstFault rings fault
fault_in_first rings count ring_count fault are none found later =
    let it = rings_in fault in
    let less : fault.polygon < count = misplaced_before rings count ring_count fault are found in
    let there = polygon_of_first rings ring_count fault.polygon it are.whole found.there in
    let within = ends_in_first rings ring_count fault.polygon it are.whole (are.begins fault.polygon it there less) there in
    let clear : AreClearTo rings count ring_count fault.polygon = record { first = are; apart = none; up_to = omega arith; placed = λ polygon its before is_its. found.before polygon its before is_its } in
    record {
      there = there;
      before = λ polygon its earlier is_its. clear_before rings count ring_count fault.polygon polygon its clear earlier is_its (later polygon earlier);
      is = cause_in_first rings count ring_count fault.polygon it fault.cause are none less there.further within found.is;
    }

-- All first polygons are clear

-- the meeting after them is the first fault; where they are all polygons, there is none
pub fault_of_after : (rings : List (List Position)) (polygons : List (ℕ × ℕ)) (count ring_count : ℕ) (meeting : Option MeetingOf) → ArePolygons rings polygons → AreClearTo rings count ring_count count
    → ((polygon : ℕ) → polygon < count → IsInNoLater rings count polygon) → IsAfterFront rings polygons count ring_count meeting → IsFeatureAnswer rings (option_map (fault_after polygons count) meeting)
fault_of_after rings polygons count ring_count None listed clear later following = λ polygon it is_it.
    let all : count ≡ length polygons = following.0 in
    let before : polygon < count = omega (arith, all, listed_within rings polygons polygon it listed is_it) in
    clear_before rings count ring_count count polygon it clear before is_it (later polygon before)
fault_of_after rings polygons count ring_count (Some meeting) listed clear later following = record {
  there = rings_listed rings polygons count listed following.0;
  before = λ polygon it before is_it. clear_before rings count ring_count count polygon it clear before is_it (later polygon before);
  is = following.2;
}

-- The answer

-- no more polygons are where they should be than the front has
pub until_within : (rings : List (List Position)) (count ring_count : ℕ) (misplaced : Option FeatureFault) → AreFirst rings count ring_count → IfSome misplaced (IsFirstMisplaced (take ring_count rings)) → until_of count misplaced ≤ count
until_within rings count ring_count None are found = omega arith
until_within rings count ring_count (Some fault) are found = omega (arith, misplaced_before rings count ring_count fault are found)

-- the polygons before it are clear among the first ones
clear_until : (rings : List (List Position)) (count ring_count : ℕ) (misplaced : Option FeatureFault) → AreFirst rings count ring_count → NoMeeting (take ring_count rings) → IfNone misplaced (AreAllPlaced (take ring_count rings))
    → IfSome misplaced (IsFirstMisplaced (take ring_count rings)) → AreClearTo rings count ring_count (until_of count misplaced)
clear_until rings count ring_count None are apart none some = record { first = are; apart = apart; up_to = omega arith; placed = λ polygon it before is_it. none polygon it is_it }
clear_until rings count ring_count (Some fault) are apart none some = record {
  first = are;
  apart = apart;
  up_to = omega (arith, misplaced_before rings count ring_count fault are some);
  placed = λ polygon it before is_it. some.before polygon it before is_it;
}

-- where none is in a later one
answer_in_first : (rings : List (List Position)) (polygons : List (ℕ × ℕ)) (count ring_count : ℕ) (meeting : Option MeetingOf) (misplaced : Option FeatureFault) → ArePolygons rings polygons → AreFirst rings count ring_count → NoMeeting (take ring_count rings)
    → IsAfterFront rings polygons count ring_count meeting → IfNone misplaced (AreAllPlaced (take ring_count rings)) → IfSome misplaced (IsFirstMisplaced (take ring_count rings))
    → ((polygon : ℕ) → polygon < until_of count misplaced → IsInNoLater rings count polygon) → IsFeatureAnswer rings (option_or misplaced (option_map (fault_after polygons count) meeting))
answer_in_first rings polygons count ring_count meeting None listed are apart following none some later =
    fault_of_after rings polygons count ring_count meeting listed (clear_until rings count ring_count None are apart none some) later following
answer_in_first rings polygons count ring_count meeting (Some fault) listed are apart following none some later = fault_in_first rings count ring_count fault are apart some later

-- and with one that is
pub answer_of_parts : (rings : List (List Position)) (polygons : List (ℕ × ℕ)) (front : Front) (misplaced inside : Option FeatureFault) → ArePolygons rings polygons → IsFront rings polygons front
    → IfNone misplaced (AreAllPlaced (take front.rings rings)) → IfSome misplaced (IsFirstMisplaced (take front.rings rings))
    → IfNone inside ((polygon : ℕ) → polygon < until_of front.polygons misplaced → IsInNoLater rings front.polygons polygon) → IfSome inside (IsFirstLater rings front.polygons (until_of front.polygons misplaced))
    → IsFeatureAnswer rings (option_or (option_or inside misplaced) (option_map (fault_after polygons front.polygons) front.meeting))
answer_of_parts rings polygons front misplaced None listed is none some none_later some_later =
    answer_in_first rings polygons front.polygons front.rings front.meeting misplaced listed (front_is_of_first rings polygons front listed is) is.noted.clear is.following none some none_later
answer_of_parts rings polygons front misplaced (Some fault) listed is none some none_later some_later =
    fault_in_later rings front.polygons front.rings (until_of front.polygons misplaced) fault
    (clear_until rings front.polygons front.rings misplaced (front_is_of_first rings polygons front listed is) is.noted.clear none some) some_later
