-- What is counted at least where a fault of a feature is found.
use Rattle.std.proofs.Common.{◌≡◌, ℕ, ◌-◌, ◌<◌, ◌≤◌, ltb, Bool, true, false, cond, List, drop, take, Option, Some, None, option_map, IfNone, IfOk, IfSome, Result, Ok, Err, sym, ap, subst, arith, zero, suc, [], ◌∷◌}
use Rattle.std.specs.Option.{option_or}
use Rattle.mvt_plane.specs.Counted.{Counted, ticked}
use Rattle.mvt_rules.specs.Parts.Rings.{part_of}
use Rattle.mvt_rules.specs.Polygon.{PolygonRings}
use Rattle.mvt_plane.specs.Position.{Position}
use Rattle.mvt_feature.specs.Calls.Alone.{earlier_of, own_fault}
use Rattle.mvt_feature.specs.Calls.FeatureParts.{fault_after, IsFirstLater, IsFirstMisplaced, IsMisplacedBy}
use Rattle.mvt_feature.specs.Calls.Gathered.{cause_moved, fault_moved}
use Rattle.mvt_feature.specs.Feature.{AddsSweeps, IsCountedAnswer, IsCountedCause, IsCountedFault, rings_in}
use Rattle.mvt_polygon.specs.PolygonFault.{meeting_in}
use Rattle.mvt_sweep.specs.Work.{IsCounted, vertex_count}
use Rattle.mvt_feature.specs.declared.feature.FeatureCause.{FeatureCause}
use Rattle.mvt_feature.specs.declared.feature.FeatureCause.TheVariants.{Meeting, Nesting, Apart}
use Rattle.mvt_feature.specs.declared.feature.FeatureFault.{FeatureFault}
use Rattle.mvt_sweep.specs.declared.meeting.Meeting.{Meeting as MeetingOf}
use Rattle.mvt_polygon.specs.declared.polygon.PolygonFault.{PolygonFault}
use Rattle.mvt_polygon.specs.declared.polygon.PolygonFault.TheVariants.{Meeting as OwnMeeting, Nesting as OwnNesting}
use Rattle.mvt_status.specs.Counts.{raised}
use Rattle.mvt_feature.proofs.Features.FirstFaults.{part_in_first}
use Rattle.mvt_feature.proofs.Features.FirstPolygons.{AreFirst}
use Rattle.mvt_feature.proofs.Features.FirstRings.{begins_among_first, ends_in_first, polygon_of_first}
use Rattle.mvt_feature.proofs.Features.SweepsAdded.{fewer_vertices, sweeps_then}
use Rattle.mvt_sweep.proofs.Vertices.VertexNumbers.{count_cons}

-- More counts

-- as much was counted from an earlier count to a later one
counted_cause : (vertices : ℕ) (start before between after : Counted) (cause : FeatureCause) → start.tests ≤ before.tests → start.probes ≤ before.probes → between.tests ≤ after.tests → between.probes ≤ after.probes
    → IsCountedCause vertices before between cause → IsCountedCause vertices start after cause
counted_cause vertices start before between after (Meeting meeting) tests probes more_tests more_probes counted = omega arith
counted_cause vertices start before between after (Nesting fault) tests probes more_tests more_probes counted = omega arith
counted_cause vertices start before between after (Apart fault) tests probes more_tests more_probes counted = omega arith

-- also where a fault was found
pub counted_from : (rings : List (List Position)) (found : Option FeatureFault) (start before after : Counted) → start.tests ≤ before.tests → start.probes ≤ before.probes → IfSome found (IsCountedFault rings before after) → IfSome found (IsCountedFault rings start after)
counted_from rings None start before after tests probes counted = tt
counted_from rings (Some fault) start before after tests probes counted =
    counted_cause (vertex_count (part_of rings (rings_in fault))) start before after after fault.cause tests probes (omega arith) (omega arith) counted

-- and up to a later count
pub counted_to : (rings : List (List Position)) (found : Option FeatureFault) (start between after : Counted) → between.tests ≤ after.tests → between.probes ≤ after.probes → IfSome found (IsCountedFault rings start between) → IfSome found (IsCountedFault rings start after)
counted_to rings None start between after tests probes counted = tt
counted_to rings (Some fault) start between after tests probes counted =
    counted_cause (vertex_count (part_of rings (rings_in fault))) start start between after fault.cause (omega arith) (omega arith) tests probes counted

-- of a first one, or of another
pub counted_or : (rings : List (List Position)) (first found : Option FeatureFault) (before after : Counted) → IfSome first (IsCountedFault rings before after) → IfSome found (IsCountedFault rings before after)
    → IfSome (option_or first found) (IsCountedFault rings before after)
counted_or rings (Some fault) found before after counted its = counted
counted_or rings None found before after counted its = its

-- of the first polygon of two
pub counted_earlier : (rings : List (List Position)) (one other : Option FeatureFault) (before after : Counted) → IfSome one (IsCountedFault rings before after) → IfSome other (IsCountedFault rings before after)
    → IfSome (earlier_of one other) (IsCountedFault rings before after)
counted_earlier rings None other before after counted its = its
counted_earlier rings (Some fault) None before after counted its = counted
counted_earlier rings (Some fault) (Some other) before after counted its = of_two (ltb fault.polygon other.polygon)
  where
    -- whichever it is
    of_two : (test : Bool) → IsCountedFault rings before after (cond test fault other)
    of_two true = counted
    of_two false = its

-- One polygon by itself

pub counted_own : (polygon : ℕ) (it : PolygonRings) (rings : List (List Position)) (before after : Counted) (found : Option PolygonFault) → IsCounted (vertex_count (part_of rings it)) before after (meeting_in found)
    → IfSome (option_map (own_fault polygon it) found) (IsCountedFault rings before after)
counted_own polygon it rings before after None counted = tt
counted_own polygon it rings before after (Some (OwnMeeting meeting)) counted = counted
counted_own polygon it rings before after (Some (OwnNesting fault)) counted = counted

-- The front

-- a part of rings has no more vertices than all
fewer_after : (count : ℕ) (rings : List (List Position)) → vertex_count (drop count rings) ≤ vertex_count rings
fewer_after zero rings = omega arith
fewer_after (suc count) [] = omega arith
fewer_after (suc count) (ring ∷ rest) = omega (arith, fewer_after count rest, count_cons ring rest)

fewer_in_part : (rings : List (List Position)) (it : PolygonRings) → vertex_count (part_of rings it) ≤ vertex_count rings
fewer_in_part rings it = omega (arith, fewer_vertices (it.after - it.exterior) (drop it.exterior rings), fewer_after it.exterior rings)

-- so has a polygon of the first ones
fewer_in_first : (rings : List (List Position)) (ring_count : ℕ) (it : PolygonRings) → it.exterior < it.after → it.after ≤ ring_count → vertex_count (part_of rings it) ≤ vertex_count (take ring_count rings)
fewer_in_first rings ring_count it further within = omega (arith, ap vertex_count (part_in_first rings ring_count it further within), fewer_in_part (take ring_count rings) it)

-- where these were swept over, so much was counted for what isn't a meeting
counted_misplaced : (its : List (List Position)) (polygon : ℕ) (it : PolygonRings) (vertices least : ℕ) (cause : FeatureCause) (before after : Counted) → vertices ≤ least → IsMisplacedBy its polygon it cause → raised least before.probes ≤ after.probes
    → IsCountedCause vertices before after cause
counted_misplaced its polygon it vertices least (Meeting meeting) before after within is counted = absurd is
counted_misplaced its polygon it vertices least (Nesting fault) before after within is counted = omega arith
counted_misplaced its polygon it vertices least (Apart fault) before after within is counted = omega arith

module _ (rings : List (List Position)) (count ring_count : ℕ) (are : AreFirst rings count ring_count) (before after : Counted) (swept : raised (vertex_count (take ring_count rings)) before.probes ≤ after.probes) where
  -- a polygon of the front that is misplaced
  pub counted_in_front : (found : Option FeatureFault) → IfSome found (IsFirstMisplaced (take ring_count rings)) → IfSome found (IsCountedFault rings before after)
  counted_in_front None is = tt
  counted_in_front (Some fault) is =
      let it = rings_in fault in
      let there = polygon_of_first rings ring_count fault.polygon it are.whole is.there in
      let within = ends_in_first rings ring_count fault.polygon it are.whole (begins_among_first rings ring_count fault.polygon it are.whole.within is.there) there in
      counted_misplaced (take ring_count rings) fault.polygon it (vertex_count (part_of rings it)) (vertex_count (take ring_count rings)) fault.cause before after (fewer_in_first rings ring_count it there.further within) is.is swept

  -- one in a later polygon
  pub counted_in_later : (until : ℕ) (found : Option FeatureFault) → until ≤ count → IfSome found (IsFirstLater rings count until) → IfSome found (IsCountedFault rings before after)
  counted_in_later until None up_to is = tt
  counted_in_later until (Some fault) up_to is =
      let it = rings_in fault in
      let less : fault.polygon < until = is.before_until in
      let within = ends_in_first rings ring_count fault.polygon it are.whole (are.begins fault.polygon it is.there (omega arith)) is.there in
      let few = fewer_in_first rings ring_count it is.there.further within in
      subst (IsCountedCause (vertex_count (part_of rings it)) before after) (sym is.cause) (omega (arith, few, swept))

-- where all were swept over, any polygon that is misplaced
counted_in_all : (rings : List (List Position)) (before after : Counted) (found : Option FeatureFault) → raised (vertex_count rings) before.probes ≤ after.probes → IfSome found (IsFirstMisplaced rings) → IfSome found (IsCountedFault rings before after)
counted_in_all rings before after None swept is = tt
counted_in_all rings before after (Some fault) swept is =
    counted_misplaced rings fault.polygon (rings_in fault) (vertex_count (part_of rings (rings_in fault))) (vertex_count rings) fault.cause before after (fewer_in_part rings (rings_in fault)) is.is swept

-- by a sweep over all that finds no meeting, and a search for such a polygon
pub counted_where_clear : {E : Type 0} (rings : List (List Position)) (before between after : Counted) (result : Result (Option FeatureFault) E) → AddsSweeps 1 (vertex_count rings) before between
    → raised (vertex_count rings) before.probes ≤ between.probes → between.probes ≤ after.probes
    → IfOk result (λ found. IfNone found (AddsSweeps 0 (vertex_count rings) between after)) → IfOk result (λ found. IfSome found (IsFirstMisplaced rings)) → IfOk result (IsCountedAnswer rings before after)
counted_where_clear rings before between after (Ok None) swept least more none first = record {
  valid = sweeps_then 1 0 1 (vertex_count rings) before between after (omega arith) swept none;
  least = omega arith;
  found = tt;
}
counted_where_clear rings before between after (Ok (Some fault)) swept least more none first = record { valid = tt; least = tt; found = counted_in_all rings before after (Some fault) (omega arith) first }
counted_where_clear rings before between after (Err error) swept least more none first = tt

-- the polygon after the front
pub counted_after : (rings : List (List Position)) (polygons : List (ℕ × ℕ)) (count : ℕ) (meeting : Option MeetingOf) (before after : Counted) → IfSome meeting (λ _. ticked before.tests ≤ after.tests) → IfSome (option_map (fault_after polygons count) meeting) (IsCountedFault rings before after)
counted_after rings polygons count None before after tested = tt
counted_after rings polygons count (Some meeting) before after tested = tested

-- Gathered polygons

-- with other numbers
moved_cause : (places numbers : List ℕ) (vertices : ℕ) (before after : Counted) (cause : FeatureCause) → IsCountedCause vertices before after cause → IsCountedCause vertices before after (cause_moved places numbers cause)
moved_cause places numbers vertices before after (Meeting meeting) counted = counted
moved_cause places numbers vertices before after (Nesting fault) counted = counted
moved_cause places numbers vertices before after (Apart fault) counted = counted

-- the fault's polygon has the same rings
pub counted_moved : (rings all : List (List Position)) (polygons : List (ℕ × ℕ)) (places numbers : List ℕ) (before after : Counted) (found : Option FeatureFault)
    → IfSome found (λ fault. part_of rings (rings_in (fault_moved polygons places numbers fault)) ≡ part_of all (rings_in fault)) → IfSome found (IsCountedFault all before after)
    → IfSome (option_map (fault_moved polygons places numbers) found) (IsCountedFault rings before after)
counted_moved rings all polygons places numbers before after None same counted = tt
counted_moved rings all polygons places numbers before after (Some fault) same counted =
    moved_cause places numbers (vertex_count (part_of rings (rings_in (fault_moved polygons places numbers fault)))) before after fault.cause
    (subst (λ (part : List (List Position)). IsCountedCause (vertex_count part) before after fault.cause) (sym same) counted)
