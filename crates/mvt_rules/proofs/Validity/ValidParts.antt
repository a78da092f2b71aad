-- Valid tiles by their parts: the rules between a tile's parts, and the geometry of each feature.
use Rattle.std.proofs.Common.{◌↔◌, inl, inr, ℕ, List}
use Rattle.mvt_fault.specs.Code.{ring_code}
use Rattle.mvt_rules.specs.Parts.TrueFaults.{IsFaultOfLayers, version, name, IsFaultOfTags, tag, BreaksRule}
use Rattle.mvt_fault.specs.declared.profile.Profile.{Profile}
use Rattle.mvt_fault.specs.declared.fault.Fault.{Fault}
use Rattle.mvt_fault.specs.declared.fault.Fault.TheVariants.{Version, Name, Tag}
use Rattle.mvt_rules.specs.Rules.{IsFeatureOf}
use Rattle.mvt_rules.specs.Tile.{FeatureRecord, LayerRecord, TileRecord, IsTile}
use Rattle.mvt_rules.proofs.Validity.InvalidRings.{ring_is_invalid, meeting_is_invalid, outside_is_invalid, in_hole_is_invalid, in_polygon_is_invalid}
use Rattle.mvt_rules.proofs.Validity.ShownParts.{BreaksOne, one_has}
use Rattle.mvt_rules.specs.Parts.Geometry.{IsFaultOfGeometryBy, command, ring, meeting, outside, hole_in_hole, in_polygon}
use Rattle.mvt_rules.specs.Valid.{IsValidGeometryBy, IsValidFeatureBy, IsValidTileBy, ValidBy}

-- the layers of a valid tile have no fault
layers_kept : (profile : Profile) (tile : TileRecord) (fault : Fault) → IsValidTileBy profile tile → ¬ IsFaultOfLayers tile fault
layers_kept profile tile fault valid (version layer broken) = valid.versions layer broken
layers_kept profile tile fault valid (name first second broken) = valid.names first second broken

-- the tags of a valid feature have none
tags_kept : (profile : Profile) (layer feature : ℕ) (layer_record : LayerRecord) (it : FeatureRecord) (fault : Fault) → IsValidFeatureBy profile layer_record it → ¬ IsFaultOfTags layer_record it layer feature fault
tags_kept profile layer feature layer_record it fault valid (tag code index broken) = valid.tags code index broken

-- so it breaks no rule between its parts
rules_kept : (profile : Profile) (tile : TileRecord) (fault : Fault) → IsValidTileBy profile tile → ¬ BreaksRule tile fault
rules_kept profile tile fault valid (inl broken) = layers_kept profile tile fault valid broken
rules_kept profile tile fault valid (inr broken) =
    tags_kept profile broken.layer broken.feature broken.layer_record broken.feature_record fault
    (valid.features broken.layer broken.feature broken.layer_record broken.feature_record broken.there) broken.broken

-- a valid geometry has none
pub geometry_kept : (profile : Profile) (it : FeatureRecord) (layer feature : ℕ) (fault : Fault) → IsValidGeometryBy profile it → ¬ IsFaultOfGeometryBy profile it layer feature fault
geometry_kept profile it layer feature fault valid (command code index broken) = let drawn = valid.figure broken.0 broken.1 in broken.2.unspelled drawn.0 drawn.1
geometry_kept profile it layer feature fault valid (ring code number (rings, has, broken)) = ring_is_invalid profile rings (ring_code code) number broken (valid.polygons rings has)
geometry_kept profile it layer feature fault valid (meeting polygon first second x y w (rings, has, broken)) =
    meeting_is_invalid profile rings polygon first second (record { x = x; y = y; w = w }) broken (valid.polygons rings has)
geometry_kept profile it layer feature fault valid (outside polygon number vertex (rings, has, broken)) = outside_is_invalid profile rings polygon number vertex broken (valid.polygons rings has)
geometry_kept profile it layer feature fault valid (hole_in_hole polygon number vertex other (rings, has, broken)) =
    in_hole_is_invalid profile rings polygon number vertex other broken (valid.polygons rings has)
geometry_kept profile it layer feature fault valid (in_polygon polygon vertex other (rings, has, broken)) =
    in_polygon_is_invalid profile rings polygon vertex other broken (valid.polygons rings has)

-- so none of these is true of a valid tile
pub parts_kept : (profile : Profile) (tile : TileRecord) (fault : Fault) → IsValidTileBy profile tile → ¬ BreaksOne profile tile fault
parts_kept profile tile fault valid (inl broken) = rules_kept profile tile fault valid broken
parts_kept profile tile fault valid (inr one) =
    let its = valid.features one.layer one.feature one.layer_record one.feature_record one.there in
    geometry_kept profile one.feature_record one.layer one.feature fault its.geometry one.broken

-- each feature of the tile has a valid geometry
abbrev GeometriesValid : Profile → TileRecord → Type 0
GeometriesValid profile tile = (layer feature : ℕ) (layer_record : LayerRecord) (it : FeatureRecord) → IsFeatureOf tile layer feature layer_record it → IsValidGeometryBy profile it

-- a tile that breaks no rule and has valid geometries is valid
valid_tile : (profile : Profile) (tile : TileRecord) → ((fault : Fault) → ¬ BreaksRule tile fault) → GeometriesValid profile tile → IsValidTileBy profile tile
valid_tile profile tile kept valid = record {
  versions = λ layer other. kept (Version layer) (inl (version layer other));
  names = λ first second same. kept (Name first second) (inl (name first second same));
  features = λ layer feature layer_record it there. record {
    tags = λ code index broken. kept (Tag code layer feature index) (inr (one_has there (tag code index broken)));
    geometry = valid layer feature layer_record it there;
  };
}

-- the geometries of a valid tile are valid
valid_geometries : (profile : Profile) (tile : TileRecord) → IsValidTileBy profile tile → GeometriesValid profile tile
valid_geometries profile tile valid layer feature layer_record it there = let its = valid.features layer feature layer_record it there in its.geometry

-- so valid bytes are these
pub valid_by_parts : (profile : Profile) (bytes : List ℕ) → ValidBy profile bytes ↔ ((tile : TileRecord) × IsTile bytes tile × ((fault : Fault) → ¬ BreaksRule tile fault)
    × ((layer feature : ℕ) (layer_record : LayerRecord) (it : FeatureRecord) → IsFeatureOf tile layer feature layer_record it → IsValidGeometryBy profile it))
valid_by_parts profile bytes = (
  λ valid. (valid.tile, valid.is, λ fault. rules_kept profile valid.tile fault valid.valid, valid_geometries profile valid.tile valid.valid),
  λ parts. record { tile = parts.0; is = parts.1; valid = valid_tile profile parts.0 parts.2 parts.3 },
)
