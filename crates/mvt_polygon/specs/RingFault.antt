-- Which of the faults that rings have of their own is returned (Mapbox Vector Tile Specification 2.1, section 4.3.4.4).
use Rattle.std.specs.Prelude.{◌≡◌, ◌<◌, ◌≤◌, ◌⊎◌, ℕ, List}
use Rattle.mvt_fault.specs.Code.{ring_code}
use Rattle.mvt_plane.specs.Position.{Position}
use Rattle.mvt_rules.specs.Ring.{BreaksRings}
use Rattle.mvt_polygon.specs.declared.rings.RingFault.{RingFault}

-- the first, by the ring's number and then by the code, of all faults that the rings have of their own
pub record IsFirstRingFault (rings : List (List Position)) (fault : RingFault) : Type 0 where
  pub broken : BreaksRings rings (ring_code fault.code) fault.ring
  pub first : (code ring : ℕ) → BreaksRings rings code ring
      → (fault.ring < ring) ⊎ ((fault.ring ≡ ring) × (ring_code fault.code ≤ code))
