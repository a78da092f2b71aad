-- Edges with a point that is close to a position.
use Rattle.mvt_mend.specs.Near.{IsCloseTo}
use Rattle.mvt_plane.specs.Geometry.RationalPoint.{RationalPoint, LiesOn}
use Rattle.mvt_plane.specs.Position.{Position}
use Rattle.mvt_plane.specs.declared.geometry.edge.Edge.{Edge}

-- a point of the edge is close to the position
pub record IsCloseToEdge (position : Position) (edge : Edge) : Type 0 where
  pub point : RationalPoint
  pub on_edge : LiesOn point edge
  pub close : IsCloseTo position point
