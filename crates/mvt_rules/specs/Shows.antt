-- Which faults are true of the bytes of a tile.
use Rattle.std.specs.Prelude.{ℕ, List, length}
use Rattle.mvt_plane.specs.FeatureGeometry.{HasRings, BreaksCommands}
use Rattle.mvt_plane.specs.Position.{Position}
use Rattle.mvt_rules.specs.Rules.{IsFeatureOf, TagsBreak, OtherVersion, SameName}
use Rattle.mvt_rules.specs.Tile.{FeatureRecord, LayerRecord, TileRecord, IsTile}
use Rattle.mvt_rules.specs.PolygonFault.{IsMeetingBy, IsVertexOutside, IsVertexInHole, IsVertexInPolygonBy}
use Rattle.mvt_fault.specs.Code.{command_code, ring_code}
use Rattle.mvt_fault.specs.declared.fault.Fault.{Fault}
use Rattle.mvt_fault.specs.declared.fault.Fault.TheVariants.{Wire, Version, Name, Tag, Command, Ring, Meeting, Outside, HoleInHole, InPolygon}
use Rattle.mvt_fault.specs.declared.profile.Profile.{Profile}
use Rattle.mvt_fault.specs.declared.profile.Profile.TheVariants.{Polygon}
use Rattle.mvt_rules.specs.Ring.{BreaksRings}
use Rattle.mvt_wire.specs.Field.{cause_at}
use Rattle.mvt_rules.specs.WireFault.{WireFault}

-- the bytes are a tile, and this is its feature of these ordinals, in this layer
pub record IsFeatureIn (bytes : List ℕ) (layer feature : ℕ) (layer_record : LayerRecord) (feature_record : FeatureRecord) : Type 0 where
  pub tile : TileRecord
  pub is : IsTile bytes tile
  pub there : IsFeatureOf tile layer feature layer_record feature_record

-- the feature is of the type of polygons, its geometry is the spelling of rings, and this of them is true
abbrev pub OfRings : FeatureRecord → (List (List Position) → Type 0) → Type 0
OfRings feature_record Holds = (rings : List (List Position)) × HasRings feature_record.kind feature_record.geometry rings × Holds rings

-- the bytes are a tile, and this of its record is true
abbrev pub OfTile : List ℕ → (TileRecord → Type 0) → Type 0
OfTile bytes Holds = (tile : TileRecord) × IsTile bytes tile × Holds tile

-- the bytes are a tile with a feature of these ordinals, and this of the feature and its layer is true
abbrev pub OfFeature : List ℕ → ℕ → ℕ → (LayerRecord → FeatureRecord → Type 0) → Type 0
OfFeature bytes layer feature Holds = (layer_record : LayerRecord) × (feature_record : FeatureRecord) × IsFeatureIn bytes layer feature layer_record feature_record × Holds layer_record feature_record

-- The fault is true of the bytes, by the profile. All but wire faults are true of a tile alone, so of bytes with no wire fault.
abbrev pub ShowsBy : Profile → List ℕ → Fault → Type 0
ShowsBy _ bytes (Wire code scope at field) = WireFault bytes scope (cause_at code at field)
ShowsBy _ bytes (Version layer) = OfTile bytes (λ tile. OtherVersion tile layer)
ShowsBy _ bytes (Name first second) = OfTile bytes (λ tile. SameName tile first second)
ShowsBy _ bytes (Tag code layer feature index) =
    OfFeature bytes layer feature (λ layer_record feature_record. TagsBreak code (length layer_record.keys) (length layer_record.values) feature_record.tags index)
ShowsBy _ bytes (Command code layer feature index) =
    OfFeature bytes layer feature (λ layer_record feature_record. BreaksCommands feature_record.kind feature_record.geometry (command_code code) index)
ShowsBy _ bytes (Ring code layer feature ring) =
    OfFeature bytes layer feature (λ layer_record feature_record. OfRings feature_record (λ rings. BreaksRings rings (ring_code code) ring))
ShowsBy profile bytes (Meeting layer feature polygon first second x y w) =
    OfFeature bytes layer feature (λ layer_record feature_record. OfRings feature_record (λ rings. IsMeetingBy profile rings polygon first second (record { x = x; y = y; w = w })))
ShowsBy _ bytes (Outside layer feature polygon ring vertex) =
    OfFeature bytes layer feature (λ layer_record feature_record. OfRings feature_record (λ rings. IsVertexOutside rings polygon ring vertex))
ShowsBy _ bytes (HoleInHole layer feature polygon ring vertex other) =
    OfFeature bytes layer feature (λ layer_record feature_record. OfRings feature_record (λ rings. IsVertexInHole rings polygon ring vertex other))
ShowsBy profile bytes (InPolygon layer feature polygon vertex other) =
    OfFeature bytes layer feature (λ layer_record feature_record. OfRings feature_record (λ rings. IsVertexInPolygonBy profile rings polygon vertex other))

-- the same by the profile that checks each polygon by itself
abbrev pub Shows : List ℕ → Fault → Type 0
Shows = ShowsBy Polygon
