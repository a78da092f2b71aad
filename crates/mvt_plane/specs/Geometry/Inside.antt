-- Which positions are inside a ring, by the parity of the edges that pass over them (Mapbox Vector Tile Specification
-- 2.1, section 4.3.4.4).
use Rattle.std.specs.Prelude.{◌≡◌, ◌⊎◌, List, [], ◌∷◌, ◌*ℤ◌, ◌≤ℤ◌, ◌<ℤ◌}
use Rattle.mvt_plane.specs.Position.{Position}
use Rattle.mvt_plane.specs.Geometry.RationalPoint.{RationalPoint, LiesOn}
use Rattle.mvt_plane.specs.Geometry.Ring.{edges}
use Rattle.mvt_plane.specs.declared.geometry.edge.Edge.{Edge}

-- one of the two holds and the other doesn't
abbrev pub Differ : Type 0 → Type 0 → Type 0
Differ First Second = (First × ¬ Second) ⊎ (¬ First × Second)

-- the edge passes over the position: just one of its ends is at the position's x or on the side of lesser ones, and a
-- point of the edge has the position's x and a greater y
pub record PassesOver (position : Position) (edge : Edge) : Type 0 where
  pub parted : Differ (edge.a.x ≤ℤ position.x) (edge.b.x ≤ℤ position.x)
  pub point : RationalPoint
  pub on_edge : LiesOn point edge
  pub same_x : point.x ≡ position.x *ℤ point.w
  pub greater_y : (position.y *ℤ point.w) <ℤ point.y

-- it holds of an odd number of these edges
abbrev pub HoldsOfOdd : (Edge → Type 0) → List Edge → Type 0
HoldsOfOdd Holds [] = ⊥
HoldsOfOdd Holds (edge ∷ rest) = Differ (Holds edge) (HoldsOfOdd Holds rest)

-- an odd number of the ring's edges pass over the position
abbrev pub IsInside : Position → List Position → Type 0
IsInside position ring = HoldsOfOdd (PassesOver position) (edges ring)

-- The same for rational points, which needn't be positions

-- the edge passes over the rational point, which is (x / w, y / w) with w at least 1
pub record PassesOverPoint (point : RationalPoint) (edge : Edge) : Type 0 where
  pub parted : Differ ((edge.a.x *ℤ point.w) ≤ℤ point.x) ((edge.b.x *ℤ point.w) ≤ℤ point.x)
  pub higher : RationalPoint
  pub on_edge : LiesOn higher edge
  pub same_x : higher.x *ℤ point.w ≡ point.x *ℤ higher.w
  pub greater_y : (point.y *ℤ higher.w) <ℤ (higher.y *ℤ point.w)

-- an odd number of the ring's edges pass over the rational point
abbrev pub IsPointInside : RationalPoint → List Position → Type 0
IsPointInside point ring = HoldsOfOdd (PassesOverPoint point) (edges ring)
