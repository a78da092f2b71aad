-- What a sweep notes of each ring: which other rings are around it.
use Rattle.std.specs.Prelude.{◌≡◌, ◌≢◌, ◌⊎◌, ℕ, ◌*◌, ◌<◌, cond, Bool, false, not, IsTrue, ◌↔◌, List, [], length, slice_get, Some, None, ℤ, ◌≤ℤ◌}
use Rattle.mvt_plane.specs.Geometry.Measure.{key_of}
use Rattle.mvt_fault.specs.declared.ring.RingEdge.{RingEdge}
use Rattle.mvt_plane.specs.Position.{Position}
use Rattle.mvt_sweep.specs.Calls.SweepVertices.{AreSweepVertices, IsNumbered, position_at}
use Rattle.mvt_sweep.specs.Meeting.{NoMeeting}
use Rattle.mvt_sweep.specs.Rings.{AreProperRings}
use Rattle.mvt_sweep.specs.RingsAround.{IsAround, nearest_at, nearest_in, odd_at, odd_in}
use Rattle.mvt_sweep.specs.Calls.RingsBelow.{HaveOddBelow, IsLeastVertex}
use Rattle.mvt_sweep.specs.declared.sweep.vertices.SweepVertices.{SweepVertices}
use Rattle.mvt_sweep.specs.declared.sweep.notes.Around.{Around}
use Rattle.mvt_sweep.specs.declared.sweep.notes.Around.TheVariants.{Unknown, Even, Odd}
use Rattle.mvt_sweep.specs.declared.sweep.notes.RingNotes.{RingNotes}

-- Nothing noted

-- the list has the ring of every eighth vertex of the rings
abbrev pub AreRingsOf : List (List Position) → List ℕ → Type 0
AreRingsOf rings index = (place : ℕ) (at : RingEdge) → IsNumbered rings (8 * place) at → slice_get index place ≡ Some at.ring

-- so has the index of proper rings, whose vertices these are
pub record IsIndexOf (rings : List (List Position)) (vertices : SweepVertices) (index : List ℕ) : Type 0 where
  pub proper : AreProperRings rings
  pub are : AreSweepVertices rings vertices
  pub numbers : AreRingsOf rings index

-- nothing is noted of any of the rings
pub record IsNew (rings : List (List Position)) (notes : RingNotes) : Type 0 where
  pub numbers : AreRingsOf rings notes.index.rings.items
  pub count : length notes.around.items ≡ length rings
  pub none : (ring : ℕ) → ring < length rings → slice_get notes.around.items ring ≡ Some Unknown
  pub nothing : notes.come_to.items ≡ []

-- One ring

-- something is noted of the ring
abbrev pub IsNoted : List Around → ℕ → Type 0
IsNoted notes ring = (around : Around) × (slice_get notes ring ≡ Some around) × (around ≢ Unknown)

-- this ring is directly around, and an odd number of rings or an even one are
abbrev pub around_directly : ℕ → Bool → Around
around_directly nearest odd = cond odd (Odd nearest) (Even nearest)

-- The note of a ring whose first vertex is directly above an edge of another, above an odd number of edges or an even
-- one: that of the other one, or the other one is the nearest
abbrev pub IsNoteAbove : Around → ℕ → Bool → Around → Type 0
IsNoteAbove around below odd new = ((odd ≡ odd_in around) × (new ≡ around)) ⊎ ((odd ≡ not (odd_in around)) × (new ≡ around_directly below odd))

-- this is right of the ring, by what is noted of the one directly around it
pub record IsNoteOf (rings : List (List Position)) (notes : List Around) (ring : ℕ) (note : Around) : Type 0 where
  pub position : Position
  pub first : IsLeastVertex rings ring position
  pub odd : IsTrue (odd_in note) ↔ HaveOddBelow position rings
  pub alone : nearest_in note ≡ None → (outer : ℕ) → ¬ IsAround rings outer ring
  pub even : nearest_in note ≡ None → odd_in note ≡ false
  pub around : (nearest : ℕ) → nearest_in note ≡ Some nearest → (outer : ℕ) → IsAround rings outer ring ↔ ((outer ≡ nearest) ⊎ IsAround rings outer nearest)
  pub turned : (nearest : ℕ) → nearest_in note ≡ Some nearest → odd_in note ≡ not (odd_at notes nearest)

-- All rings

-- The line is after this key: of each ring that it came to something is noted, and what is noted is right.
pub record AreListsNotedTo (rings : List (List Position)) (vertices : SweepVertices) (key : ℤ) (index : List ℕ) (notes : List Around) (come_to : List ℕ) : Type 0 where
  pub proper : AreProperRings rings
  pub are : AreSweepVertices rings vertices
  pub numbers : AreRingsOf rings index
  pub count : length notes ≡ length rings
  pub there : (number : ℕ) (at : RingEdge) → IsNumbered rings number at → key_of (position_at vertices number) ≤ℤ key → IsNoted notes at.ring
  pub right : NoMeeting rings → (ring : ℕ) (around : Around) → slice_get notes ring ≡ Some around → around ≢ Unknown → IsNoteOf rings notes ring around
  pub listed : (ring : ℕ) → IsNoted notes ring → (at : ℕ) × (slice_get come_to at ≡ Some ring)
  pub only : (at ring : ℕ) → slice_get come_to at ≡ Some ring → IsNoted notes ring
  pub following : (at ring nearest : ℕ) → slice_get come_to at ≡ Some ring → nearest_at notes ring ≡ Some nearest
      → (before : ℕ) × (before < at) × (slice_get come_to before ≡ Some nearest)

-- so these notes are
abbrev pub AreNotedTo : List (List Position) → SweepVertices → ℤ → RingNotes → Type 0
AreNotedTo rings vertices key notes = AreListsNotedTo rings vertices key notes.index.rings.items notes.around.items notes.come_to.items
