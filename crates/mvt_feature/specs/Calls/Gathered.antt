-- Some polygons of a feature, as a feature of their own: its rings, and a fault of it with the numbers that it has in the
-- whole feature.
use Rattle.std.specs.Prelude.{ℕ, zero, suc, ◌-◌, ◌<◌, Bool, false, cond, List, [], ◌∷◌, ◌++◌, length, slice_index, slice_index_or}
use Rattle.std.specs.List.{range_with_len}
use Rattle.mvt_rules.specs.Parts.Rings.{part_of}
use Rattle.mvt_plane.specs.Position.{Position}
use Rattle.mvt_feature.specs.Calls.FeatureParts.{listed_at}
use Rattle.mvt_polygon.specs.InFeature.{AreNestRings, meeting_moved, nest_moved}
use Rattle.mvt_feature.specs.declared.feature.FeatureCause.{FeatureCause}
use Rattle.mvt_feature.specs.declared.feature.FeatureCause.TheVariants.{Meeting, Nesting, Apart}
use Rattle.mvt_feature.specs.declared.feature.FeatureFault.{FeatureFault}

-- Polygons

-- one list of the pieces that are marked, of those before this number
abbrev pub gathered : {X : Type 0} → List Bool → (ℕ → List X) → ℕ → List X
gathered marks piece zero = []
gathered marks piece (suc number) = gathered marks piece number ++ cond (slice_index_or marks number false) (piece number) []

-- the rings of the polygons that are marked, of those before this number
abbrev pub gathered_rings : List (List Position) → List (ℕ × ℕ) → List Bool → ℕ → List (List Position)
gathered_rings rings polygons marks = gathered marks (λ (polygon : ℕ). part_of rings (listed_at polygons polygon))

-- which rings of the feature they are
abbrev pub gathered_places : List (ℕ × ℕ) → List Bool → ℕ → List ℕ
gathered_places polygons marks =
    gathered marks (λ (polygon : ℕ). range_with_len (listed_at polygons polygon).exterior ((listed_at polygons polygon).after - (listed_at polygons polygon).exterior))

-- which polygons they are
abbrev pub gathered_numbers : List Bool → ℕ → List ℕ
gathered_numbers marks = gathered marks (λ (polygon : ℕ). polygon ∷ [])

-- Faults

-- what is wrong, where each ring and each polygon has another number
abbrev pub cause_moved : List ℕ → List ℕ → FeatureCause → FeatureCause
cause_moved places numbers (Meeting meeting) = Meeting (meeting_moved (slice_index places) meeting)
cause_moved places numbers (Nesting fault) = Nesting (nest_moved (slice_index places) fault)
cause_moved places numbers (Apart fault) = Apart (record fault { other = slice_index numbers fault.other })

-- the fault, where each ring and each polygon has another number
abbrev pub fault_moved : List (ℕ × ℕ) → List ℕ → List ℕ → FeatureFault → FeatureFault
fault_moved polygons places numbers fault = record {
  polygon = slice_index numbers fault.polygon;
  exterior = (listed_at polygons (slice_index numbers fault.polygon)).exterior;
  after = (listed_at polygons (slice_index numbers fault.polygon)).after;
  cause = cause_moved places numbers fault.cause;
}

-- the rings and the polygon that it names have other numbers
abbrev pub IsCauseWithin : List ℕ → List ℕ → FeatureCause → Type 0
IsCauseWithin places numbers (Meeting meeting) = (meeting.first_ring < length places) × (meeting.second_ring < length places)
IsCauseWithin places numbers (Nesting fault) = AreNestRings (λ (ring : ℕ). ring < length places) fault
IsCauseWithin places numbers (Apart fault) = fault.other < length numbers

-- and so does the fault's own polygon
pub record IsFaultWithin (polygons : List (ℕ × ℕ)) (places numbers : List ℕ) (fault : FeatureFault) : Type 0 where
  pub polygon : fault.polygon < length numbers
  pub listed : slice_index numbers fault.polygon < length polygons
  pub cause : IsCauseWithin places numbers fault.cause
