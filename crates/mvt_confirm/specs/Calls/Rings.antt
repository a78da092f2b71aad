-- The areas of rings, by a walk over their vertices (Mapbox Vector Tile Specification 2.1, section 4.3.4.4).
use Rattle.std.specs.Prelude.{◌≡◌, ◌↔◌, List, ◌∷◌, IsTrue}
use Rattle.mvt_confirm.specs.Calls.Vertices.{VertexWalk, RingsLeft}
use Rattle.mvt_confirm.specs.declared.rings.Measure.{Measure}
use Rattle.mvt_plane.specs.Calls.Rings.{IsClosed}
use Rattle.mvt_plane.specs.Position.{Position}
use Rattle.mvt_plane.specs.Geometry.Ring.{doubled_area}

-- this is the ring's doubled area, and whether it is closed
pub record IsMeasured (ring : List Position) (measure : Measure) : Type 0 where
  pub area : measure.doubled_area ≡ doubled_area ring
  pub closed : IsTrue measure.is_closed ↔ IsClosed ring

-- whichever rings were left, this is measured of the first of them, and the others are left
abbrev pub GivesRing : VertexWalk → VertexWalk → Measure → Type 0
GivesRing old new measure = (rings : List (List Position)) → RingsLeft old rings
    → (ring : List Position) × (rest : List (List Position)) × (rings ≡ ring ∷ rest) × IsMeasured ring measure × RingsLeft new rest
