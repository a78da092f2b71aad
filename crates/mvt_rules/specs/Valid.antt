-- Valid tiles: what is kept of the Mapbox Vector Tile Specification 2.1, section 4, by each profile.
use Rattle.std.specs.Prelude.{ℕ, List, length}
use Rattle.mvt_rules.specs.Profiles.{IsInPolygonBy, IsKeptApart}
use Rattle.mvt_rules.specs.Rules.{TagsBreak, OtherVersion, SameName, IsFeatureOf}
use Rattle.mvt_fault.specs.declared.profile.Profile.{Profile}
use Rattle.mvt_fault.specs.declared.profile.Profile.TheVariants.{Polygon}
use Rattle.mvt_fault.specs.declared.tag.TagCode.{TagCode}
use Rattle.mvt_plane.specs.FeatureGeometry.{HasFigure, HasRings}
use Rattle.mvt_rules.specs.Meeting.{MeetsWrongly}
use Rattle.mvt_fault.specs.declared.ring.RingEdge.{RingEdge}
use Rattle.mvt_rules.specs.Nesting.{IsOutside, IsInHole}
use Rattle.mvt_rules.specs.Polygon.{PolygonRings, IsPolygon, IsRingOf}
use Rattle.mvt_plane.specs.Position.{Position}
use Rattle.mvt_plane.specs.Geometry.RationalPoint.{RationalPoint}
use Rattle.mvt_rules.specs.Ring.{ArePolygonRings}
use Rattle.mvt_rules.specs.Tile.{FeatureRecord, LayerRecord, TileRecord, IsTile}

-- no edge of the polygon meets one that it is kept apart from wrongly
abbrev pub AreApartBy : Profile → List (List Position) → PolygonRings → Type 0
AreApartBy profile rings polygon_rings = (first second : RingEdge) (point : RationalPoint) → IsKeptApart profile polygon_rings first.ring → IsRingOf polygon_rings second.ring
    → ¬ MeetsWrongly rings first second point

-- the edges of one polygon meet wrongly neither each other nor, by `Feature`, one of an earlier polygon; its holes are inside its
-- exterior and not inside each other (section 4.3.4.4); and, by `Feature`, none of its vertices is inside another polygon
pub record IsValidPolygonBy (profile : Profile) (rings : List (List Position)) (polygon_rings : PolygonRings) : Type 0 where
  pub apart : AreApartBy profile rings polygon_rings
  pub enclosed : (ring vertex : ℕ) → ¬ IsOutside rings polygon_rings ring vertex
  pub side_by_side : (ring vertex other : ℕ) → ¬ IsInHole rings polygon_rings ring vertex other
  pub beside : (vertex other : ℕ) (other_rings : PolygonRings) → IsPolygon rings other other_rings → ¬ IsInPolygonBy profile rings polygon_rings other_rings vertex

-- rings are those of valid polygons
pub record AreValidRingsBy (profile : Profile) (rings : List (List Position)) : Type 0 where
  pub sound : ArePolygonRings rings
  pub polygons : (polygon : ℕ) (polygon_rings : PolygonRings) → IsPolygon rings polygon polygon_rings → IsValidPolygonBy profile rings polygon_rings

-- the numbers of the geometry spell a figure of its type, if that is known; and if that is rings, they are those of valid
-- polygons
pub record IsValidGeometryBy (profile : Profile) (feature_record : FeatureRecord) : Type 0 where
  pub figure : HasFigure feature_record.kind feature_record.geometry
  pub polygons : (rings : List (List Position)) → HasRings feature_record.kind feature_record.geometry rings → AreValidRingsBy profile rings

-- the feature of a layer has good tags and a valid geometry
pub record IsValidFeatureBy (profile : Profile) (layer_record : LayerRecord) (feature_record : FeatureRecord) : Type 0 where
  pub tags : (code : TagCode) (index : ℕ) → ¬ TagsBreak code (length layer_record.keys) (length layer_record.values) feature_record.tags index
  pub geometry : IsValidGeometryBy profile feature_record

-- all layers have version 2 and names of their own, and all features are valid
pub record IsValidTileBy (profile : Profile) (tile : TileRecord) : Type 0 where
  pub versions : (layer : ℕ) → ¬ OtherVersion tile layer
  pub names : (first second : ℕ) → ¬ SameName tile first second
  pub features : (layer feature : ℕ) (layer_record : LayerRecord) (feature_record : FeatureRecord) → IsFeatureOf tile layer feature layer_record feature_record → IsValidFeatureBy profile layer_record feature_record

-- the bytes are a tile that keeps all rules
pub record ValidBy (profile : Profile) (bytes : List ℕ) : Type 0 where
  pub tile : TileRecord
  pub is : IsTile bytes tile
  pub valid : IsValidTileBy profile tile

-- the same by the profile that checks each polygon by itself
abbrev pub Valid : List ℕ → Type 0
Valid = ValidBy Polygon
