-- Edges and rings that have nothing in common, not even a rational point.
use Rattle.std.specs.Prelude.{◌≡◌, ℕ, List, slice_get, Some}
use Rattle.mvt_plane.specs.Position.{Position}
use Rattle.mvt_plane.specs.Geometry.RationalPoint.{RationalPoint, LiesOn}
use Rattle.mvt_plane.specs.Geometry.Ring.{edges}
use Rattle.mvt_plane.specs.declared.geometry.edge.Edge.{Edge}

-- the edge has no rational point in common with an edge of the ring
abbrev pub IsClearOf : Edge → List Position → Type 0
IsClearOf edge ring = (number : ℕ) (other : Edge) (point : RationalPoint) → slice_get (edges ring) number ≡ Some other
    → LiesOn point edge → ¬ LiesOn point other

-- no edge of the one ring has a rational point in common with an edge of the other
abbrev pub HaveNothingInCommon : List Position → List Position → Type 0
HaveNothingInCommon ring other = (number another : ℕ) (one two : Edge) (point : RationalPoint) → slice_get (edges ring) number ≡ Some one
    → slice_get (edges other) another ≡ Some two → LiesOn point one → ¬ LiesOn point two
