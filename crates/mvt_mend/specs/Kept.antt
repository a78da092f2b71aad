-- Polygons of rings that keep all rules by themselves, and which of them are still there among other rings (Mapbox
-- Vector Tile Specification 2.1, section 4.3.4.4).
use Rattle.std.specs.Prelude.{◌≡◌, ◌<◌, ℕ, List}
use Rattle.mvt_rules.specs.Parts.ByPolygon.{AreValidRings}
use Rattle.mvt_rules.specs.Parts.Rings.{part_of}
use Rattle.mvt_rules.specs.Polygon.{IsExterior, PolygonRings, IsPolygon}
use Rattle.mvt_rules.specs.Ring.{HasNoArea}
use Rattle.mvt_plane.specs.Position.{Position}
use Rattle.mvt_sweep.specs.Rings.{AreProperRings}

-- The first ring that has an area is an exterior. Where it is a hole, the rings may all go round the wrong way, and
-- their areas don't tell which of them are exteriors.
pub record BeginWithExterior (rings : List (List Position)) : Type 0 where
  pub first : ℕ
  pub exterior : IsExterior rings first
  pub flat : (ring : ℕ) → ring < first → HasNoArea rings ring

-- the polygon of this number: its rings can be spelled, and alone they are those of a valid polygon
pub record IsRightPolygon (rings : List (List Position)) (polygon : ℕ) (polygon_rings : PolygonRings) : Type 0 where
  pub there : IsPolygon rings polygon polygon_rings
  pub proper : AreProperRings (part_of rings polygon_rings)
  pub valid : AreValidRings (part_of rings polygon_rings)

-- the polygon of the first number in the old rings is that of the second in the new ones, vertex for vertex
pub record IsSamePolygon (old : List (List Position)) (polygon : ℕ) (new : List (List Position)) (other : ℕ) : Type 0 where
  pub polygon_rings : PolygonRings
  pub there : IsPolygon old polygon polygon_rings
  pub other_rings : PolygonRings
  pub other_there : IsPolygon new other other_rings
  pub same : part_of new other_rings ≡ part_of old polygon_rings

-- The right polygons of the old rings are polygons of the new ones, in the same order
pub record AreKept (old new : List (List Position)) : Type 0 where
  pub place : ℕ → ℕ
  pub there : (polygon : ℕ) (polygon_rings : PolygonRings) → IsRightPolygon old polygon polygon_rings → IsSamePolygon old polygon new (place polygon)
  pub in_order : (polygon other : ℕ) (polygon_rings other_rings : PolygonRings) → IsRightPolygon old polygon polygon_rings
      → IsRightPolygon old other other_rings → polygon < other → place polygon < place other
