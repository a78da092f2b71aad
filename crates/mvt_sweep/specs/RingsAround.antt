-- Which rings of a feature are around which.
use Rattle.std.specs.Prelude.{◌≡◌, ◌≢◌, ◌<◌, ◌⊎◌, ◌↔◌, ℕ, Bool, true, false, not, List, length, slice_get, slice_index_or, Option, Some, None}
use Rattle.mvt_plane.specs.Geometry.Inside.{IsInside}
use Rattle.mvt_rules.specs.Nesting.{IsVertexOf}
use Rattle.mvt_plane.specs.Position.{Position}
use Rattle.mvt_sweep.specs.declared.sweep.notes.Around.{Around}
use Rattle.mvt_sweep.specs.declared.sweep.notes.Around.TheVariants.{Unknown, Nothing, Even, Odd}

-- the one ring is around the other: its first vertex is inside it
pub record IsAround (rings : List (List Position)) (outer inner : ℕ) : Type 0 where
  pub different : outer ≢ inner
  pub around : List Position
  pub there : slice_get rings outer ≡ Some around
  pub position : Position
  pub here : IsVertexOf rings inner 0 position
  pub inside : IsInside position around

-- What is noted of rings, each by its number

-- the ring directly around one of which this is noted
abbrev pub nearest_in : Around → Option ℕ
nearest_in Unknown = None
nearest_in Nothing = None
nearest_in (Even nearest) = Some nearest
nearest_in (Odd nearest) = Some nearest

-- and whether an odd number of rings are around it
abbrev pub odd_in : Around → Bool
odd_in Unknown = false
odd_in Nothing = false
odd_in (Even nearest) = false
odd_in (Odd nearest) = true

-- the ring directly around the one of this number
abbrev pub nearest_at : List Around → ℕ → Option ℕ
nearest_at notes ring = nearest_in (slice_index_or notes ring Unknown)

-- whether an odd number of rings are around it
abbrev pub odd_at : List Around → ℕ → Bool
odd_at notes ring = odd_in (slice_index_or notes ring Unknown)

-- What is noted of all rings: which one is directly around each (all others around it are around that one too), and an
-- order in which each is after the one directly around it.
pub record AreNoted (rings : List (List Position)) (notes : List Around) (come_to : List ℕ) : Type 0 where
  pub count : length notes ≡ length rings
  pub alone : (ring : ℕ) → ring < length rings → nearest_at notes ring ≡ None → (outer : ℕ) → ¬ IsAround rings outer ring
  pub even : (ring : ℕ) → ring < length rings → nearest_at notes ring ≡ None → odd_at notes ring ≡ false
  pub known : (ring nearest : ℕ) → ring < length rings → nearest_at notes ring ≡ Some nearest → nearest < length rings
  pub around : (ring nearest : ℕ) → ring < length rings → nearest_at notes ring ≡ Some nearest → (outer : ℕ)
      → IsAround rings outer ring ↔ ((outer ≡ nearest) ⊎ IsAround rings outer nearest)
  pub turned : (ring nearest : ℕ) → ring < length rings → nearest_at notes ring ≡ Some nearest → odd_at notes ring ≡ not (odd_at notes nearest)
  pub listed : (ring : ℕ) → ring < length rings → (at : ℕ) × (slice_get come_to at ≡ Some ring)
  pub only : (at ring : ℕ) → slice_get come_to at ≡ Some ring → ring < length rings
  pub following : (at ring nearest : ℕ) → slice_get come_to at ≡ Some ring → nearest_at notes ring ≡ Some nearest
      → (before : ℕ) × (before < at) × (slice_get come_to before ≡ Some nearest)
