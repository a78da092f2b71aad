-- What the steps of searching for a feature's first fault answer.
use Rattle.std.specs.Prelude.{◌≡◌, ◌⊎◌, ℕ, ◌+◌, ◌-◌, ◌/◌, ◌<◌, ◌≤◌, List, length, take, slice_index_or, Option, Some, None}
use Rattle.mvt_plane.specs.Counted.{Counted, ticked}
use Rattle.mvt_rules.specs.Parts.Rings.{part_of}
use Rattle.mvt_rules.specs.Polygon.{PolygonRings, IsPolygon}
use Rattle.mvt_plane.specs.Position.{Position}
use Rattle.mvt_polygon.specs.Apart.{IsApartFault, IsFirstApartFault}
use Rattle.mvt_feature.specs.Feature.{IsPlaced, front_of, rings_in}
use Rattle.mvt_sweep.specs.Meeting.{IsMeetingOf}
use Rattle.mvt_polygon.specs.InFeature.{IsFirstNestFaultIn}
use Rattle.mvt_polygon.specs.Nesting.{IsNestFault}
use Rattle.mvt_sweep.specs.Work.{vertex_count}
use Rattle.mvt_sweep.specs.Swept.{IsNotedClear}
use Rattle.mvt_feature.specs.declared.feature.FeatureCause.{FeatureCause}
use Rattle.mvt_feature.specs.declared.feature.FeatureCause.TheVariants.{Meeting, Nesting, Apart}
use Rattle.mvt_feature.specs.declared.feature.FeatureFault.{FeatureFault}
use Rattle.mvt_feature.specs.declared.feature.front.Front.{Front}
use Rattle.mvt_sweep.specs.declared.meeting.Meeting.{Meeting as MeetingOf}
use Rattle.mvt_polygon.specs.declared.nesting.NestFault.{NestFault}
use Rattle.mvt_status.specs.Counts.{raised}

-- The front

-- the rings of the polygon of this number in the list
abbrev pub listed_at : List (ℕ × ℕ) → ℕ → PolygonRings
listed_at polygons polygon = record { exterior = (slice_index_or polygons polygon (0, 0)).0; after = (slice_index_or polygons polygon (0, 0)).1 }

-- no meeting is found where these are all polygons; or it is one of the polygon after them
abbrev pub IsAfterFront : List (List Position) → List (ℕ × ℕ) → ℕ → ℕ → Option MeetingOf → Type 0
IsAfterFront rings polygons count ring_count None = (count ≡ length polygons) × (ring_count ≡ length rings)
IsAfterFront rings polygons count ring_count (Some meeting) =
    (count < length polygons) × (ring_count ≡ (listed_at polygons count).exterior) × IsMeetingOf (part_of rings (front_of (listed_at polygons count))) meeting

-- these are the polygons before the first one of which an edge meets one of its own, or of the polygons before it, wrongly
pub record IsFront (rings : List (List Position)) (polygons : List (ℕ × ℕ)) (front : Front) : Type 0 where
  pub polygons_within : front.polygons ≤ length polygons
  pub rings_within : front.rings ≤ length rings
  pub noted : IsNotedClear (take front.rings rings) front.notes
  pub following : IsAfterFront rings polygons front.polygons front.rings front.meeting

-- The halves by which the front is found

-- the polygon in the middle of those that are left
abbrev pub middle_of : ℕ → ℕ → ℕ
middle_of front meets = front + (meets - front) / 2

-- What is counted at least, half by half: of a sweep that finds no meeting, over the rings up to the end of the polygon in the
-- middle, a probe for each vertex; of one that finds a meeting, of that polygon or of one before it, a test.
pub data AreHalves (rings : List (List Position)) (polygons : List (ℕ × ℕ)) (last : ℕ) (before : Counted) : ℕ → ℕ → Counted → Type 0 where
  begun : AreHalves rings polygons last before 0 last before
  clear : (front meets : ℕ) (now next : Counted) → AreHalves rings polygons last before front meets now → front < meets
      → raised (vertex_count (take (listed_at polygons (middle_of front meets)).after rings)) now.probes ≤ next.probes → now.tests ≤ next.tests
      → AreHalves rings polygons last before (middle_of front meets + 1) meets next
  met : (front meets nearer : ℕ) (now next : Counted) → AreHalves rings polygons last before front meets now → front < meets → nearer ≤ middle_of front meets
      → ticked now.tests ≤ next.tests → now.probes ≤ next.probes → AreHalves rings polygons last before front nearer next

-- so it is for all halves, from the polygon of a ring, or a later one, until none is left
pub record AreAllHalves (rings : List (List Position)) (polygons : List (ℕ × ℕ)) (ring : ℕ) (before now : Counted) (front : Front) : Type 0 where
  pub last : ℕ
  pub meets : ℕ
  pub up_to : ring < (listed_at polygons last).after
  pub none_left : meets ≤ front.polygons
  pub halves : AreHalves rings polygons last before front.polygons meets now

-- Polygons that are misplaced

-- the polygon is misplaced in this way. Where its exterior is in another polygon, all of its vertices are.
abbrev pub IsMisplacedBy : List (List Position) → ℕ → PolygonRings → FeatureCause → Type 0
IsMisplacedBy rings polygon it (Meeting meeting) = ⊥
IsMisplacedBy rings polygon it (Nesting fault) = IsFirstNestFaultIn rings it fault
IsMisplacedBy rings polygon it (Apart fault) =
    (fault.vertex ≡ 0) × ((wrong : NestFault) → ¬ IsNestFault (part_of rings it) wrong) × IsFirstApartFault rings polygon fault

-- the first polygon that is misplaced
pub record IsFirstMisplaced (rings : List (List Position)) (fault : FeatureFault) : Type 0 where
  pub there : IsPolygon rings fault.polygon (rings_in fault)
  pub before : (polygon : ℕ) (it : PolygonRings) → polygon < fault.polygon → IsPolygon rings polygon it → IsPlaced rings polygon it
  pub is : IsMisplacedBy rings fault.polygon (rings_in fault) fault.cause

-- all polygons are where they should be
abbrev pub AreAllPlaced : List (List Position) → Type 0
AreAllPlaced rings = (polygon : ℕ) (it : PolygonRings) → IsPolygon rings polygon it → IsPlaced rings polygon it

-- of so many polygons, none before this one is misplaced
abbrev pub until_of : ℕ → Option FeatureFault → ℕ
until_of polygons None = polygons
until_of polygons (Some found) = found.polygon

-- Later polygons

-- of a vertex of the exterior of the polygon, which is inside a polygon from this one on: there is none that comes first
pub record IsFirstInLater (rings : List (List Position)) (later polygon vertex other : ℕ) : Type 0 where
  pub from : later ≤ other
  pub holds : IsApartFault rings polygon vertex other
  pub first : (another its : ℕ) → later ≤ its → IsApartFault rings polygon another its → (vertex < another) ⊎ ((vertex ≡ another) × (other ≤ its))

-- no vertex of the polygon's exterior is inside a polygon from this one on
abbrev pub IsInNoLater : List (List Position) → ℕ → ℕ → Type 0
IsInNoLater rings later polygon = (vertex other : ℕ) → later ≤ other → ¬ IsApartFault rings polygon vertex other

-- the first polygon before a number of which a vertex is inside a polygon from another number on
pub record IsFirstLater (rings : List (List Position)) (later until : ℕ) (fault : FeatureFault) : Type 0 where
  pub before_until : fault.polygon < until
  pub there : IsPolygon rings fault.polygon (rings_in fault)
  pub before : (polygon : ℕ) → polygon < fault.polygon → IsInNoLater rings later polygon
  pub vertex : ℕ
  pub other : ℕ
  pub cause : fault.cause ≡ Apart (record { vertex = vertex; other = other })
  pub is : IsFirstInLater rings later fault.polygon vertex other

-- Faults of the polygon after the front

-- the fault of a polygon of the list, of which an edge meets another one
abbrev pub fault_after : List (ℕ × ℕ) → ℕ → MeetingOf → FeatureFault
fault_after polygons polygon meeting = record { polygon = polygon; exterior = (listed_at polygons polygon).exterior; after = (listed_at polygons polygon).after; cause = Meeting meeting }
