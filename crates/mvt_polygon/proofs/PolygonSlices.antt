-- The rings of one polygon, as a slice of its feature's: what is said of them, and what is found among them.
use Rattle.std.proofs.Common.{◌≡◌, ℕ, ◌+◌, ◌-◌, ◌^◌, ◌<◌, ◌≤◌, List, length, slice_get, slice_range, Option, Some, None, option_map, IfSome, Vec, drop, take, refl, sym, ◌∙◌, ap, subst, arith}
use Rattle.std.proofs.lemmas.List.{drop-map, take-map, take_all}
use Rattle.std.proofs.lemmas.Option.{slice_get_within}
use Rattle.std.specs.declared.alloc.Global.{Global}
use Rattle.mvt_plane.specs.Counted.{Counted}
use Rattle.mvt_plane.specs.Position.{Position}
use Rattle.mvt_rules.proofs.Rings.PartsOfRings.{ring_of_part, count_of_part}
use Rattle.mvt_rules.specs.Parts.Rings.{part_of}
use Rattle.mvt_rules.specs.Polygon.{PolygonRings}
use Rattle.mvt_sweep.specs.Meeting.{IsMeetingOf, NoMeeting}
use Rattle.mvt_sweep.specs.Rings.{rings_of, AreProperRings}
use Rattle.mvt_sweep.specs.Work.{IsCounted}
use Rattle.mvt_polygon.specs.Calls.RingsKnown.{AreRingsKnown}
use Rattle.mvt_polygon.specs.InFeature.{AreNestRings}
use Rattle.mvt_polygon.specs.Nesting.{IsFirstNestFault, IsNestFault, outside, in_hole}
use Rattle.mvt_polygon.specs.PolygonFault.{IsAnswerAlone, IsPolygonAnswer, fault_in_feature, meeting_in}
use Rattle.mvt_polygon.specs.declared.nesting.NestFault.{NestFault}
use Rattle.mvt_polygon.specs.declared.polygon.PolygonFault.{PolygonFault}
use Rattle.mvt_polygon.specs.declared.polygon.PolygonFault.TheVariants.{Meeting, Nesting}

-- Rings

-- as the code reads them
pub part_read : (rings : List (Vec Position Global)) (it : PolygonRings) → rings_of (slice_range rings it.exterior it.after) ≡ part_of (rings_of rings) it
part_read rings it = simp (take-map, drop-map)

-- a ring of the part is one of its feature's
pub ring_of_whole : (rings : List (List Position)) (its : PolygonRings) (number : ℕ) (ring : List Position) → its.after ≤ length rings → slice_get (part_of rings its) number ≡ Some ring
    → (number < its.after - its.exterior) × (slice_get rings (its.exterior + number) ≡ Some ring)
ring_of_whole rings its number ring within there =
    let count = count_of_part rings its within in
    let less : number < length (part_of rings its) = slice_get_within (part_of rings its) number ring there in
    let below : number < its.after - its.exterior = omega arith in
    (below, sym (ring_of_part rings its number below) ∙ there)

-- the rings of the part are proper where all are
pub proper_part : (rings : List (List Position)) (its : PolygonRings) → its.after ≤ length rings → AreProperRings rings → AreProperRings (part_of rings its)
proper_part rings its within proper = record {
  several = λ number ring there. proper.several (its.exterior + number) ring (ring_of_whole rings its number ring within there).1;
  apart = λ number vertex ring position next there. proper.apart (its.exterior + number) vertex ring position next (ring_of_whole rings its number ring within there).1;
}

-- What is found

-- the rings that a fault of a hole names
pub nest_rings_known : (rings : List (List Position)) (it : PolygonRings) (fault : NestFault) → it.after ≤ length rings → it.after < 2 ^ 64 → IsNestFault (part_of rings it) fault
    → AreNestRings (λ (ring : ℕ). it.exterior + ring < 2 ^ 64) fault
nest_rings_known rings it _ within fits (outside ring vertex wrong) =
    let count = count_of_part rings it within in
    let before : ring < length (part_of rings it) = wrong.hole.before in
    omega arith
nest_rings_known rings it _ within fits (in_hole ring vertex other wrong) =
    let count = count_of_part rings it within in
    let before : ring < length (part_of rings it) = wrong.hole.before in
    let other_before : other < length (part_of rings it) = wrong.other_hole.before in
    (omega arith, omega arith)

-- and those of any fault
pub rings_known : (rings : List (List Position)) (it : PolygonRings) (found : Option PolygonFault) → it.after ≤ length rings → it.after < 2 ^ 64 → IsAnswerAlone (part_of rings it) found
    → IfSome found (AreRingsKnown it.exterior)
rings_known rings it None within fits is = tt
rings_known rings it (Some (Nesting fault)) within fits is = nest_rings_known rings it fault within fits is.1.holds
rings_known rings it (Some (Meeting meeting)) within fits is =
    let first_below : meeting.first_ring < it.after - it.exterior = (ring_of_whole rings it meeting.first_ring is.one_there.ring within is.one_there.there).0 in
    let second_below : meeting.second_ring < it.after - it.exterior = (ring_of_whole rings it meeting.second_ring is.other_there.ring within is.other_there.there).0 in
    (omega arith, omega arith)

-- it is the answer of the polygon, with the numbers of the feature
pub answer_in_feature : (rings : List (List Position)) (it : PolygonRings) (found : Option PolygonFault) → IsAnswerAlone (part_of rings it) found → IsPolygonAnswer rings it (option_map (fault_in_feature it.exterior) found)
answer_in_feature rings it None is = is
answer_in_feature rings it (Some (Meeting meeting)) is = record { alone = meeting; is = is; moved = refl }
answer_in_feature rings it (Some (Nesting fault)) is = (is.0, record { alone = fault; is = is.1; moved = refl })

-- and as much is counted for it
pub counted_in_feature : (probes exterior : ℕ) (before after : Counted) (found : Option PolygonFault) → IsCounted probes before after (meeting_in found)
    → IsCounted probes before after (meeting_in (option_map (fault_in_feature exterior) found))
counted_in_feature probes exterior before after None counted = counted
counted_in_feature probes exterior before after (Some (Meeting meeting)) counted = counted
counted_in_feature probes exterior before after (Some (Nesting fault)) counted = counted

-- Where the polygon has all rings

-- the part is all
all_part : (rings : List (List Position)) (it : PolygonRings) → it.exterior ≡ 0 → length rings ≤ it.after → part_of rings it ≡ rings
all_part rings it begins ends = ap (λ (from : ℕ). take (it.after - from) (drop from rings)) begins ∙ take_all (it.after - 0) rings (omega arith)

-- so what is found is found of them
pub fault_of_all : (rings : List (List Position)) (it : PolygonRings) (fault : PolygonFault) → it.exterior ≡ 0 → length rings ≤ it.after → IsPolygonAnswer rings it (Some fault)
    → (alone : PolygonFault) × IsAnswerAlone rings (Some alone)
fault_of_all rings it (Meeting meeting) begins ends is = (Meeting is.alone, subst (λ (own : List (List Position)). IsMeetingOf own is.alone) (all_part rings it begins ends) is.is)
fault_of_all rings it (Nesting fault) begins ends is =
    let same = all_part rings it begins ends in
    (Nesting is.1.alone, (subst NoMeeting same is.0, subst (λ (own : List (List Position)). IsFirstNestFault own is.1.alone) same is.1.is))
