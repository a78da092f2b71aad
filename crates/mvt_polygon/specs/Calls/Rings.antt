-- What is known of rings while they are walked.
use Rattle.std.specs.Prelude.{◌≤◌, ℕ, List}
use Rattle.mvt_fault.specs.Code.{ring_code}
use Rattle.mvt_plane.specs.Position.{Position}
use Rattle.mvt_rules.specs.Ring.{BreaksRings}
use Rattle.mvt_fault.specs.declared.ring.RingCode.{RingCode}

-- the first, by the code, of all faults that this ring has of its own
pub record IsLeastCode (rings : List (List Position)) (ring : ℕ) (code : RingCode) : Type 0 where
  pub broken : BreaksRings rings (ring_code code) ring
  pub least : (other : ℕ) → BreaksRings rings other ring → ring_code code ≤ other
