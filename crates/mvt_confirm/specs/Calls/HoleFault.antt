-- The faults of the holes of polygons.
use Rattle.std.specs.Prelude.{ℕ}
use Rattle.mvt_fault.specs.declared.fault.Fault.{Fault}
use Rattle.mvt_fault.specs.declared.fault.Fault.TheVariants.{Outside, HoleInHole}

-- the fault is one of a hole
pub data IsOfHole : Fault → Type 0 where
  outside : (layer feature polygon ring vertex : ℕ) → IsOfHole (Outside layer feature polygon ring vertex)
  hole_in_hole : (layer feature polygon ring vertex other : ℕ) → IsOfHole (HoleInHole layer feature polygon ring vertex other)
