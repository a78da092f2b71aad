-- The polygons of a feature that are checked one by one, and the first fault of them and of all others.
use Rattle.std.specs.Prelude.{◌≡◌, ℕ, zero, suc, ◌+◌, ◌<◌, ltb, Bool, false, cond, List, length, slice_index_or, Option, Some, None}
use Rattle.mvt_rules.specs.Parts.Rings.{part_of}
use Rattle.mvt_rules.specs.Polygon.{PolygonRings}
use Rattle.mvt_plane.specs.Position.{Position}
use Rattle.mvt_sweep.specs.Work.{vertex_count}
use Rattle.mvt_feature.specs.Feature.{front_of, rings_in}
use Rattle.mvt_feature.specs.Calls.FeatureParts.{listed_at}
use Rattle.mvt_sweep.specs.Meeting.{IsMeetingOf, NoMeeting}
use Rattle.mvt_polygon.specs.InFeature.{IsFirstNestFaultIn}
use Rattle.mvt_polygon.specs.Nesting.{IsNestFault}
use Rattle.mvt_feature.specs.declared.feature.FeatureCause.{FeatureCause}
use Rattle.mvt_feature.specs.declared.feature.FeatureCause.TheVariants.{Meeting, Nesting, Apart}
use Rattle.mvt_feature.specs.declared.feature.FeatureFault.{FeatureFault}
use Rattle.mvt_polygon.specs.declared.nesting.NestFault.{NestFault}
use Rattle.mvt_polygon.specs.declared.polygon.PolygonFault.{PolygonFault}
use Rattle.mvt_polygon.specs.declared.polygon.PolygonFault.TheVariants.{Meeting as OwnMeeting, Nesting as OwnNesting}

-- no edges of the polygon meet wrongly, and its holes are where they should be
pub record IsFine (rings : List (List Position)) (it : PolygonRings) : Type 0 where
  pub apart : NoMeeting (part_of rings it)
  pub nested : (fault : NestFault) → ¬ IsNestFault (part_of rings it) fault

-- so are those that aren't marked, of the polygons before this number
abbrev pub AreFineBefore : List (List Position) → List (ℕ × ℕ) → List Bool → ℕ → Type 0
AreFineBefore rings polygons marks to = (polygon : ℕ) → polygon < to → slice_index_or marks polygon false ≡ false → IsFine rings (listed_at polygons polygon)

-- the polygon has this fault of its own
abbrev pub IsOwnCause : List (List Position) → PolygonRings → FeatureCause → Type 0
IsOwnCause rings it (Meeting meeting) = IsMeetingOf (part_of rings (front_of it)) meeting
IsOwnCause rings it (Nesting fault) = NoMeeting (part_of rings it) × IsFirstNestFaultIn rings it fault
IsOwnCause rings it (Apart fault) = ⊥

-- what a check of this polygon alone answers
abbrev pub IsOwnAnswer : List (List Position) → ℕ → PolygonRings → Option FeatureFault → Type 0
IsOwnAnswer rings polygon it (Some fault) = (fault.polygon ≡ polygon) × (rings_in fault ≡ it) × IsOwnCause rings it fault.cause
IsOwnAnswer rings polygon it None = IsFine rings it

-- the first fault of the polygons that aren't marked
pub record IsFirstAlone (rings : List (List Position)) (polygons : List (ℕ × ℕ)) (marks : List Bool) (fault : FeatureFault) : Type 0 where
  pub within : fault.polygon < length polygons
  pub unmarked : slice_index_or marks fault.polygon false ≡ false
  pub there : rings_in fault ≡ listed_at polygons fault.polygon
  pub before : AreFineBefore rings polygons marks fault.polygon
  pub is : IsOwnCause rings (rings_in fault) fault.cause

-- or nothing, where none has one
abbrev pub IsAloneAnswer : List (List Position) → List (ℕ × ℕ) → List Bool → Option FeatureFault → Type 0
IsAloneAnswer rings polygons marks (Some fault) = IsFirstAlone rings polygons marks fault
IsAloneAnswer rings polygons marks None = AreFineBefore rings polygons marks (length polygons)

-- how many vertices those have that aren't marked, of the polygons before this number
abbrev pub vertices_alone : List (List Position) → List (ℕ × ℕ) → List Bool → ℕ → ℕ
vertices_alone rings polygons marks zero = 0
vertices_alone rings polygons marks (suc polygon) =
    vertices_alone rings polygons marks polygon + cond (slice_index_or marks polygon false) 0 (vertex_count (part_of rings (listed_at polygons polygon)))

-- One polygon's fault

-- as a cause
abbrev pub own_cause : PolygonFault → FeatureCause
own_cause (OwnMeeting meeting) = Meeting meeting
own_cause (OwnNesting fault) = Nesting fault

-- as the feature's
abbrev pub own_fault : ℕ → PolygonRings → PolygonFault → FeatureFault
own_fault polygon it fault = record { polygon = polygon; exterior = it.exterior; after = it.after; cause = own_cause fault }

-- Two faults

-- that of the first polygon
abbrev pub earlier_of : Option FeatureFault → Option FeatureFault → Option FeatureFault
earlier_of (Some fault) (Some its) = Some (cond (ltb fault.polygon its.polygon) fault its)
earlier_of (Some fault) None = Some fault
earlier_of None its = its
