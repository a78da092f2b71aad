-- Which edges pass below a position, by keys: the order in which a line that goes over the plane comes to positions.
use Rattle.std.specs.Prelude.{◌≡◌, ◌⊎◌, ℕ, List, slice_get, Some, pos, ◌<ℤ◌, ◌≤ℤ◌}
use Rattle.mvt_plane.specs.Geometry.EdgeOrder.{gap, segment_between}
use Rattle.mvt_plane.specs.Geometry.Inside.{Differ, HoldsOfOdd}
use Rattle.mvt_plane.specs.Geometry.Measure.{key_of, orientation}
use Rattle.mvt_plane.specs.Position.{Position}
use Rattle.mvt_plane.specs.Geometry.Ring.{edges}
use Rattle.mvt_plane.specs.declared.geometry.edge.Edge.{Edge}

-- the position is above the line from one end to another, and the first of these has the lesser key
pub record IsAboveRising (position low high : Position) : Type 0 where
  pub rising : key_of low <ℤ key_of high
  pub above : pos 0 <ℤ orientation low high position

-- the edge passes below the position: by key just one of its ends comes before the position, and the position is above
-- the edge, as it goes from its end of lesser key on
pub record PassesBelow (position : Position) (edge : Edge) : Type 0 where
  pub parted : Differ (key_of edge.a <ℤ key_of position) (key_of edge.b <ℤ key_of position)
  pub above : IsAboveRising position edge.a edge.b ⊎ IsAboveRising position edge.b edge.a

-- an odd number of the ring's edges pass below the position
abbrev pub HasOddBelow : Position → List Position → Type 0
HasOddBelow position ring = HoldsOfOdd (PassesBelow position) (edges ring)

-- at the position's key the one edge isn't above the other
abbrev pub IsNotAbove : Position → Edge → Edge → Type 0
IsNotAbove position one other = pos 0 ≤ℤ gap (segment_between one.a one.b) (segment_between other.a other.b) (key_of position) (pos 1)

-- the edge passes below the position, and of the ring's edges that do none is above it
pub record IsDirectlyBelow (position : Position) (edge : Edge) (ring : List Position) : Type 0 where
  pub below : PassesBelow position edge
  pub none_above : (number : ℕ) (other : Edge) → slice_get (edges ring) number ≡ Some other → PassesBelow position other → IsNotAbove position other edge
