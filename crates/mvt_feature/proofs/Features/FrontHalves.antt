-- The polygons of a feature before the first one of which an edge meets another one, by halves.
use Rattle.std.proofs.Common.{◌≡◌, ℕ, suc, ◌+◌, ◌-◌, ◌*◌, ◌/◌, ◌<◌, ◌≤◌, ◌⊎◌, inl, inr, List, [], length, take, Option, Some, None, IfSome, IfOk, Result, Ok, Err, sym, ◌∙◌, ap, subst, arith}
use Rattle.std.proofs.lemmas.Bool.{cases_lt}
use Rattle.mvt_plane.specs.Counted.{Counted, ticked}
use Rattle.mvt_rules.specs.Parts.Rings.{part_of}
use Rattle.mvt_plane.specs.Position.{Position}
use Rattle.mvt_sweep.specs.Work.{vertex_count}
use Rattle.mvt_feature.specs.Feature.{AddsSweeps, front_of}
use Rattle.mvt_feature.specs.Calls.FeatureParts.{IsAfterFront, IsFront, listed_at}
use Rattle.mvt_sweep.specs.Meeting.{IsMeetingOf}
use Rattle.mvt_rules.specs.Ring.{ArePolygonRings}
use Rattle.mvt_rules.proofs.Rings.SamePolygons.{polygon_begins_within}
use Rattle.mvt_polygon.specs.Polygons.{ArePolygons}
use Rattle.mvt_sweep.specs.Swept.{IsNotedClear}
use Rattle.mvt_feature.specs.declared.feature.front.Front.{Front}
use Rattle.mvt_sweep.specs.declared.meeting.Meeting.{Meeting}
use Rattle.mvt_sweep.specs.declared.sweep.notes.RingNotes.{RingNotes}
use Rattle.mvt_polygon.proofs.ApartFaults.{ends_within, rings_listed}
use Rattle.mvt_feature.proofs.Features.FirstMeetings.{meeting_of_all, meeting_of_its_front, second_after, second_within}
use Rattle.mvt_feature.proofs.Features.FirstPolygons.{first_listed, in_turn, next_listed}
use Rattle.mvt_feature.proofs.Features.FirstRings.{count_of_first}
use Rattle.mvt_feature.proofs.Features.SweepsAdded.{no_sweeps, sweeps_then}
use Rattle.mvt_status.specs.Counts.{bits}
use Rattle.mvt_status.proofs.BinaryDigits.{digits_of_half, no_more_digits}

-- Listed polygons in order

-- an earlier one ends no later
ends_in_order : (rings : List (List Position)) (polygons : List (ℕ × ℕ)) (polygon other : ℕ) → ArePolygons rings polygons → other < length polygons → polygon ≤ other → (listed_at polygons polygon).after ≤ (listed_at polygons other).after
ends_in_order rings polygons polygon other listed within up_to = elim (cases_lt polygon other) [
  | inl less ↦
      let its = listed_at polygons other in
      let is_its = rings_listed rings polygons other listed within in
      let ends : (listed_at polygons polygon).after ≤ its.exterior = in_turn rings polygon other (listed_at polygons polygon) its (rings_listed rings polygons polygon listed (omega arith)) is_its less in
      let further : its.exterior < its.after = is_its.further in
      omega arith
  | inr past ↦
      let same : polygon ≡ other = omega arith in
      let ends : (listed_at polygons polygon).after ≡ (listed_at polygons other).after = ap (λ (number : ℕ). (listed_at polygons number).after) same in
      omega arith
]

-- it begins before the other one ends
begins_before : (rings : List (List Position)) (polygons : List (ℕ × ℕ)) (polygon other : ℕ) → ArePolygons rings polygons → other < length polygons → polygon ≤ other → (listed_at polygons polygon).exterior ≤ (listed_at polygons other).after
begins_before rings polygons polygon other listed within up_to =
    let further : (listed_at polygons polygon).exterior < (listed_at polygons polygon).after = (rings_listed rings polygons polygon listed (omega arith)).further in
    let ends : (listed_at polygons polygon).after ≤ (listed_at polygons other).after = ends_in_order rings polygons polygon other listed within up_to in
    omega arith

-- The halves

-- No edges of the rings of these polygons meet. Edges of the rings up to the end of a later one, or of the next one, do.
-- So many sweeps were made, and there are so many more at most.
pub record IsHalved (rings : List (List Position)) (polygons : List (ℕ × ℕ)) (front : Front) (meets : ℕ) (before now : Counted) : Type 0 where
  pub ring_count : front.rings ≡ (listed_at polygons front.polygons).exterior
  pub up_to : front.polygons ≤ meets
  pub within : meets < length polygons
  pub noted : IsNotedClear (take front.rings rings) front.notes
  pub meeting : Meeting
  pub found : front.meeting ≡ Some meeting
  pub is : IsMeetingOf (part_of rings (front_of (listed_at polygons meets))) meeting
  pub sweeps : ℕ
  pub few : sweeps + bits (meets - front.polygons) ≤ bits (length polygons)
  pub work : AddsSweeps sweeps (vertex_count rings) before now

-- at first there are no polygons
pub not_halved : (rings : List (List Position)) (polygons : List (ℕ × ℕ)) (meets : ℕ) (notes : RingNotes) (meeting : Meeting) (count : Counted) → ArePolygonRings rings → ArePolygons rings polygons
    → IsMeetingOf rings meeting → meets < length polygons → meeting.second_ring < (listed_at polygons meets).after → IsNotedClear [] notes
    → IsHalved rings polygons (record { polygons = 0; rings = 0; notes = notes; meeting = Some meeting }) meets count count
not_halved rings polygons meets notes meeting count sound listed is within before noted = record {
  ring_count = sym (first_listed rings polygons sound listed (omega arith));
  up_to = omega arith;
  within = within;
  noted = noted;
  meeting = meeting;
  found = λ i. Some meeting;
  is = meeting_of_all rings (listed_at polygons meets) meeting before is;
  sweeps = 0;
  few = omega (arith, no_more_digits (meets - 0) (length polygons) (omega arith));
  work = no_sweeps 0 (vertex_count rings) count;
}

-- one sweep more
one_more : (rings : List (List Position)) (polygons : List (ℕ × ℕ)) (front : Front) (meets : ℕ) (before now after : Counted) (halved : IsHalved rings polygons front meets before now) → AddsSweeps 1 (vertex_count rings) now after
    → AddsSweeps (halved.sweeps + 1) (vertex_count rings) before after
one_more rings polygons front meets before now after halved sweep =
    sweeps_then halved.sweeps 1 (halved.sweeps + 1) (vertex_count rings) before now after (omega arith) halved.work sweep

-- no edges meet up to the end of the polygon in the middle
pub clear_half : (rings : List (List Position)) (polygons : List (ℕ × ℕ)) (front : Front) (meets middle : ℕ) (notes : RingNotes) (before now after : Counted) → ArePolygonRings rings → ArePolygons rings polygons
    → IsHalved rings polygons front meets before now → front.polygons < meets → middle ≡ front.polygons + (meets - front.polygons) / 2 → IsNotedClear (take (listed_at polygons middle).after rings) notes
    → AddsSweeps 1 (vertex_count rings) now after
    → IsHalved rings polygons (record { polygons = middle + 1; rings = (listed_at polygons middle).after; notes = notes; meeting = front.meeting }) meets before after
clear_half rings polygons front meets middle notes before now after sound listed halved less is noted sweep =
    let within = halved.within in
    let below : middle < meets = omega arith in
    let number : suc middle ≡ middle + 1 = omega arith in
    let half : (meets - (middle + 1)) * 2 ≤ meets - front.polygons = omega arith in
    let digits = digits_of_half (meets - (middle + 1)) (meets - front.polygons) (omega arith) half in
    record {
      ring_count = next_listed rings polygons middle sound listed (omega arith) ∙ ap (λ (n : ℕ). (listed_at polygons n).exterior) number;
      up_to = omega arith;
      within = within;
      noted = noted;
      meeting = halved.meeting;
      found = halved.found;
      is = halved.is;
      sweeps = halved.sweeps + 1;
      few = omega (arith, halved.few, digits);
      work = one_more rings polygons front meets before now after halved sweep;
    }

-- the polygon of a meeting up to the end of the one in the middle
nearer_within : (rings : List (List Position)) (polygons : List (ℕ × ℕ)) (ring_count fewer middle nearer : ℕ) (found : Meeting) (notes : RingNotes) → ArePolygons rings polygons → middle < length polygons → ring_count ≡ (listed_at polygons fewer).exterior
    → fewer ≤ middle → IsNotedClear (take ring_count rings) notes → IsMeetingOf (take (listed_at polygons middle).after rings) found → found.second_ring < (listed_at polygons nearer).after
    → ((polygon : ℕ) → polygon < nearer → (listed_at polygons polygon).after ≤ found.second_ring) → (fewer ≤ nearer) × (nearer ≤ middle)
nearer_within rings polygons ring_count fewer middle nearer found notes listed within begins up_to noted is of_it first =
    let it = listed_at polygons middle in
    let size = count_of_first rings it.after (ends_within rings middle it (rings_listed rings polygons middle listed within)) in
    let before : found.second_ring < it.after = omega (arith, size, second_within (take it.after rings) found is) in
    let following : ¬ (found.second_ring < ring_count) =
    second_after rings it.after ring_count found (omega (arith, begins_before rings polygons fewer middle listed within up_to)) noted.clear is in (
      elim (cases_lt nearer fewer) [
        | inl less ↦
            let ends : (listed_at polygons nearer).after ≤ (listed_at polygons fewer).exterior =
            in_turn rings nearer fewer (listed_at polygons nearer) (listed_at polygons fewer) (rings_listed rings polygons nearer listed (omega arith)) (rings_listed rings polygons fewer listed (omega arith)) less in
            absurd (following (omega arith))
        | inr from ↦ from
      ],
      elim (cases_lt middle nearer) [
        | inl less ↦ let ends : it.after ≤ found.second_ring = first middle less in absurd (omega arith)
        | inr to ↦ to
      ],
    )

-- it is nearer than the one before
pub nearer_less : (rings : List (List Position)) (polygons : List (ℕ × ℕ)) (front : Front) (meets middle nearer : ℕ) (found : Meeting) (before now : Counted) → ArePolygons rings polygons
    → IsHalved rings polygons front meets before now → front.polygons < meets → middle ≡ front.polygons + (meets - front.polygons) / 2 → IsMeetingOf (take (listed_at polygons middle).after rings) found
    → found.second_ring < (listed_at polygons nearer).after → ((polygon : ℕ) → polygon < nearer → (listed_at polygons polygon).after ≤ found.second_ring) → (front.polygons ≤ nearer) × (nearer ≤ middle)
nearer_less rings polygons front meets middle nearer found before now listed halved less is meeting of_it first =
    let within = halved.within in
    let range = nearer_within rings polygons front.rings front.polygons middle nearer found front.notes listed (omega arith) halved.ring_count (omega arith) halved.noted meeting of_it first in
    (range.0, range.1)

-- edges meet up to the end of the polygon in the middle
pub meeting_half : (rings : List (List Position)) (polygons : List (ℕ × ℕ)) (front : Front) (meets middle nearer : ℕ) (found : Meeting) (before now after : Counted) → ArePolygons rings polygons
    → IsHalved rings polygons front meets before now → front.polygons < meets → middle ≡ front.polygons + (meets - front.polygons) / 2 → IsMeetingOf (take (listed_at polygons middle).after rings) found
    → nearer < length polygons → found.second_ring < (listed_at polygons nearer).after → ((polygon : ℕ) → polygon < nearer → (listed_at polygons polygon).after ≤ found.second_ring)
    → AddsSweeps 1 (vertex_count rings) now after
    → IsHalved rings polygons (record { polygons = front.polygons; rings = front.rings; notes = front.notes; meeting = Some found }) nearer before after
meeting_half rings polygons front meets middle nearer found before now after listed halved less is meeting its_within of_it first sweep =
    let within = halved.within in
    let inside : middle < length polygons = omega arith in
    let range = nearer_within rings polygons front.rings front.polygons middle nearer found front.notes listed inside halved.ring_count (omega arith) halved.noted meeting of_it first in
    let from : front.polygons ≤ nearer = range.0 in
    let to : nearer ≤ middle = range.1 in
    let half : (nearer - front.polygons) * 2 ≤ meets - front.polygons = omega arith in
    let digits = digits_of_half (nearer - front.polygons) (meets - front.polygons) (omega arith) half in
    record {
      ring_count = halved.ring_count;
      up_to = from;
      within = its_within;
      noted = halved.noted;
      meeting = found;
      found = λ i. Some found;
      is = meeting_of_its_front rings (listed_at polygons middle).after (listed_at polygons nearer) found (ends_in_order rings polygons nearer middle listed inside to) of_it meeting;
      sweeps = halved.sweeps + 1;
      few = omega (arith, halved.few, digits);
      work = one_more rings polygons front meets before now after halved sweep;
    }

-- none is left
pub all_halved : (rings : List (List Position)) (polygons : List (ℕ × ℕ)) (front : Front) (meets : ℕ) (before now : Counted) → ArePolygons rings polygons → IsHalved rings polygons front meets before now → meets ≤ front.polygons
    → IsFront rings polygons front
all_halved rings polygons front meets before now listed halved done =
    let up_to = halved.up_to in
    let within = halved.within in
    let same : meets ≡ front.polygons = omega arith in
    let its : front.polygons < length polygons = omega arith in
    let begins : (listed_at polygons front.polygons).exterior < length rings = polygon_begins_within rings front.polygons (listed_at polygons front.polygons).exterior (rings_listed rings polygons front.polygons listed its).begins in
    record {
      polygons_within = omega arith;
      rings_within = omega (arith, halved.ring_count);
      noted = halved.noted;
      following = subst (IsAfterFront rings polygons front.polygons front.rings) (sym halved.found)
          (its, halved.ring_count, subst (λ (n : ℕ). IsMeetingOf (part_of rings (front_of (listed_at polygons n))) halved.meeting) same halved.is);
    }

-- the sweeps are no more than a number of polygons has digits
pub work_of_halves : (rings : List (List Position)) (polygons : List (ℕ × ℕ)) (front : Front) (meets : ℕ) (before now : Counted) → IsHalved rings polygons front meets before now
    → AddsSweeps (bits (length polygons)) (vertex_count rings) before now
work_of_halves rings polygons front meets before now halved =
    sweeps_then halved.sweeps 0 (bits (length polygons)) (vertex_count rings) before now now (omega (arith, halved.few)) halved.work (no_sweeps 0 (vertex_count rings) now)

-- also with one more, where a polygon is left
pub work_of_another : (rings : List (List Position)) (polygons : List (ℕ × ℕ)) (front : Front) (meets : ℕ) (before now after : Counted) → IsHalved rings polygons front meets before now → front.polygons < meets
    → AddsSweeps 1 (vertex_count rings) now after → AddsSweeps (bits (length polygons)) (vertex_count rings) before after
work_of_another rings polygons front meets before now after halved less sweep =
    let digits = digits_of_half 0 (meets - front.polygons) (omega arith) (omega arith) in
    sweeps_then halved.sweeps 1 (bits (length polygons)) (vertex_count rings) before now after (omega (arith, halved.few, digits)) halved.work sweep

-- the meeting is still the first one, or a test was counted
pub tested_still : (meeting : Option Meeting) (given : Meeting) (before now after : Counted) → (meeting ≡ Some given) ⊎ (ticked before.tests ≤ now.tests) → now.tests ≤ after.tests → (meeting ≡ Some given) ⊎ (ticked before.tests ≤ after.tests)
tested_still meeting given before now after (inl same) fewer = inl same
tested_still meeting given before now after (inr tested) fewer = inr (omega arith)

-- what always holds
if_some : {B : Type 0} (found : Option B) (Holds : Type 0) → Holds → IfSome found (λ _. Holds)
if_some (Some it) Holds holds = holds
if_some None Holds holds = tt

-- also of a result
pub if_ok_some : {A B E : Type 0} (result : Result A E) (f : A → Option B) (Holds : Type 0) → Holds → IfOk result (λ answer. IfSome (f answer) (λ _. Holds))
if_ok_some (Ok answer) f Holds holds = if_some (f answer) Holds holds
if_ok_some (Err error) f Holds holds = tt
