-- How edges follow one another along a line of one key.
use Rattle.std.specs.Prelude.{◌≡◌, ◌^◌, ◌⊎◌, ℤ, pos, ◌+ℤ◌, ◌*ℤ◌, ◌≤ℤ◌, Option, Some}
use Rattle.mvt_plane.specs.Geometry.Measure.{key_of}
use Rattle.mvt_plane.specs.Position.{Position}
use Rattle.mvt_plane.specs.Geometry.RationalPoint.{RationalPoint, LiesOn, IsAt}
use Rattle.mvt_plane.specs.declared.geometry.edge.Edge.{Edge}
use Rattle.mvt_plane.specs.Geometry.EdgeOrder.{Segment}

-- the edge that goes so
abbrev pub edge_along : Segment → Edge
edge_along edge_segment = record { a = edge_segment.low; b = edge_segment.high }

-- the position is one of the two ends
abbrev pub IsEndOf : Position → Segment → Type 0
IsEndOf position edge_segment = (position ≡ edge_segment.low) ⊎ (position ≡ edge_segment.high)

-- the key of a rational point, times its w
abbrev pub key_at : RationalPoint → ℤ
key_at point = point.x *ℤ pos (2 ^ 32) +ℤ point.y

-- the edge has a point of this key
pub record Reaches (t w : ℤ) (edge_segment : Segment) : Type 0 where
  pub begun : (key_of edge_segment.low *ℤ w) ≤ℤ t
  pub lasts : t ≤ℤ (key_of edge_segment.high *ℤ w)

-- what two edges have in common is the vertex that they share, if they share one, and nothing else
abbrev pub MeetOnlyAt : Option Position → Segment → Segment → Type 0
MeetOnlyAt shared first second = (point : RationalPoint) → LiesOn point (edge_along first) → LiesOn point (edge_along second)
    → (vertex : Position) × (shared ≡ Some vertex) × IsAt point vertex
