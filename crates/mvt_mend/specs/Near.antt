-- Positions near the edges of rings.
use Rattle.std.specs.Prelude.{ℕ, List, ℤ, pos, neg_ℤ, ◌-ℤ◌, ◌*ℤ◌, ◌≤ℤ◌}
use Rattle.mvt_rules.specs.Meeting.{IsEdgeOf}
use Rattle.mvt_fault.specs.declared.ring.RingEdge.{RingEdge}
use Rattle.mvt_rules.specs.Nesting.{IsVertexOf}
use Rattle.mvt_plane.specs.Geometry.RationalPoint.{RationalPoint, LiesOn}
use Rattle.mvt_plane.specs.Position.{Position}
use Rattle.mvt_plane.specs.declared.geometry.edge.Edge.{Edge}

-- from the coordinate z to z' / w it is at most two units of the tile's grid
abbrev pub IsClose : ℤ → ℤ → ℤ → Type 0
IsClose z times w = (neg_ℤ (pos 2 *ℤ w) ≤ℤ (times -ℤ z *ℤ w)) × ((times -ℤ z *ℤ w) ≤ℤ (pos 2 *ℤ w))

-- so it is along both axes from the position to the rational point
pub record IsCloseTo (position : Position) (point : RationalPoint) : Type 0 where
  pub x : IsClose position.x point.x point.w
  pub y : IsClose position.y point.y point.w

-- an edge of the rings has a point that is close to the position
pub record IsNear (rings : List (List Position)) (position : Position) : Type 0 where
  pub number : RingEdge
  pub edge : Edge
  pub there : IsEdgeOf rings number edge
  pub point : RationalPoint
  pub on_edge : LiesOn point edge
  pub close : IsCloseTo position point

-- each vertex of the new rings is near the old ones
abbrev pub AreNear : List (List Position) → List (List Position) → Type 0
AreNear old new = (ring vertex : ℕ) (position : Position) → IsVertexOf new ring vertex position → IsNear old position
