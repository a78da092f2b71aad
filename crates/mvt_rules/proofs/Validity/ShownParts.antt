-- Shown faults by their parts: the wire, the rules between a tile's parts, and the geometry of each feature.
use Rattle.std.proofs.Common.{◌↔◌, ◌⊎◌, inl, inr, ℕ, List}
use Rattle.mvt_rules.specs.Parts.TrueFaults.{IsWireFault, wire, IsFaultOfLayers, version, name, IsFaultOfTags, tag, FeatureFaultRelation, OneFeatureHas, BreaksRule}
use Rattle.mvt_fault.specs.declared.profile.Profile.{Profile}
use Rattle.mvt_fault.specs.declared.fault.Fault.{Fault}
use Rattle.mvt_fault.specs.declared.fault.Fault.TheVariants.{Wire, Version, Name, Tag, Command, Ring, Meeting, Outside, HoleInHole, InPolygon}
use Rattle.mvt_rules.specs.Rules.{IsFeatureOf}
use Rattle.mvt_rules.specs.Tile.{FeatureRecord, LayerRecord, TileRecord, IsTile}
use Rattle.mvt_rules.specs.Shows.{IsFeatureIn, OfTile, ShowsBy}
use Rattle.mvt_rules.specs.Parts.Geometry.{IsFaultOfGeometryBy, command, ring, meeting, outside, hole_in_hole, in_polygon}

-- of a tile's geometry, or of the rules between its parts
abbrev pub BreaksOne : Profile → TileRecord → Fault → Type 0
BreaksOne profile tile fault = BreaksRule tile fault ⊎ OneFeatureHas (λ layer_record. IsFaultOfGeometryBy profile) tile fault

-- a fault by its part
abbrev ByParts : Profile → List ℕ → Fault → Type 0
ByParts profile bytes fault = IsWireFault bytes fault ⊎ OfTile bytes (λ tile. BreaksOne profile tile fault)

-- a feature of the bytes has it
pub one_has : {IsFaultOf : FeatureFaultRelation} {tile : TileRecord} {layer feature : ℕ} {layer_record : LayerRecord} {feature_record : FeatureRecord} {fault : Fault}
    → IsFeatureOf tile layer feature layer_record feature_record → IsFaultOf layer_record feature_record layer feature fault → OneFeatureHas IsFaultOf tile fault
one_has {layer = layer} {feature = feature} {layer_record = layer_record} {feature_record = feature_record} there broken =
    record { layer = layer; feature = feature; layer_record = layer_record; feature_record = feature_record; there = there; broken = broken }

-- in its geometry
in_geometry : (profile : Profile) (bytes : List ℕ) (layer feature : ℕ) (layer_record : LayerRecord) (feature_record : FeatureRecord) (fault : Fault)
    → IsFeatureIn bytes layer feature layer_record feature_record → IsFaultOfGeometryBy profile feature_record layer feature fault → ByParts profile bytes fault
in_geometry profile bytes layer feature layer_record feature_record fault there broken = inr (there.tile, there.is, inr (one_has there.there broken))

-- so a shown fault is one of these
by_parts : (profile : Profile) (bytes : List ℕ) (fault : Fault) → ShowsBy profile bytes fault → ByParts profile bytes fault
by_parts profile bytes (Wire code scope at field) shown = inl (wire code scope at field shown)
by_parts profile bytes (Version layer) shown = inr (shown.0, shown.1, inl (inl (version layer shown.2)))
by_parts profile bytes (Name first second) shown = inr (shown.0, shown.1, inl (inl (name first second shown.2)))
by_parts profile bytes (Tag code layer feature index) shown =
    inr (shown.2.tile, shown.2.is, inl (inr (one_has shown.2.there (tag code index shown.3))))
by_parts profile bytes (Command code layer feature index) shown =
    in_geometry profile bytes layer feature shown.0 shown.1 (Command code layer feature index) shown.2 (command code index shown.3)
by_parts profile bytes (Ring code layer feature index) shown =
    in_geometry profile bytes layer feature shown.0 shown.1 (Ring code layer feature index) shown.2 (ring code index shown.3)
by_parts profile bytes (Meeting layer feature polygon first second x y w) shown =
    in_geometry profile bytes layer feature shown.0 shown.1 (Meeting layer feature polygon first second x y w) shown.2 (meeting polygon first second x y w shown.3)
by_parts profile bytes (Outside layer feature polygon hole vertex) shown =
    in_geometry profile bytes layer feature shown.0 shown.1 (Outside layer feature polygon hole vertex) shown.2 (outside polygon hole vertex shown.3)
by_parts profile bytes (HoleInHole layer feature polygon hole vertex other) shown =
    in_geometry profile bytes layer feature shown.0 shown.1 (HoleInHole layer feature polygon hole vertex other) shown.2 (hole_in_hole polygon hole vertex other shown.3)
by_parts profile bytes (InPolygon layer feature polygon vertex other) shown =
    in_geometry profile bytes layer feature shown.0 shown.1 (InPolygon layer feature polygon vertex other) shown.2 (in_polygon polygon vertex other shown.3)

-- The other way round

-- a fault of a geometry is shown
geometry_shows : (profile : Profile) (bytes : List ℕ) (layer feature : ℕ) (layer_record : LayerRecord) (feature_record : FeatureRecord) (fault : Fault)
    → IsFeatureIn bytes layer feature layer_record feature_record → IsFaultOfGeometryBy profile feature_record layer feature fault → ShowsBy profile bytes fault
geometry_shows profile bytes layer feature layer_record feature_record fault there (command code index broken) = (layer_record, feature_record, there, broken)
geometry_shows profile bytes layer feature layer_record feature_record fault there (ring code index broken) = (layer_record, feature_record, there, broken)
geometry_shows profile bytes layer feature layer_record feature_record fault there (meeting polygon first second x y w broken) = (layer_record, feature_record, there, broken)
geometry_shows profile bytes layer feature layer_record feature_record fault there (outside polygon hole vertex broken) = (layer_record, feature_record, there, broken)
geometry_shows profile bytes layer feature layer_record feature_record fault there (hole_in_hole polygon hole vertex other broken) = (layer_record, feature_record, there, broken)
geometry_shows profile bytes layer feature layer_record feature_record fault there (in_polygon polygon vertex other broken) = (layer_record, feature_record, there, broken)

-- one of tags is
tags_show : (profile : Profile) (bytes : List ℕ) (layer feature : ℕ) (layer_record : LayerRecord) (feature_record : FeatureRecord) (fault : Fault)
    → IsFeatureIn bytes layer feature layer_record feature_record → IsFaultOfTags layer_record feature_record layer feature fault → ShowsBy profile bytes fault
tags_show profile bytes layer feature layer_record feature_record fault there (tag code index broken) = (layer_record, feature_record, there, broken)

-- one of layers is
layers_show : (profile : Profile) (bytes : List ℕ) (tile : TileRecord) (fault : Fault) → IsTile bytes tile → IsFaultOfLayers tile fault → ShowsBy profile bytes fault
layers_show profile bytes tile fault is (version layer broken) = (tile, is, broken)
layers_show profile bytes tile fault is (name first second broken) = (tile, is, broken)

-- so each of these is shown
parts_show : (profile : Profile) (bytes : List ℕ) (fault : Fault) → ByParts profile bytes fault → ShowsBy profile bytes fault
parts_show profile bytes _ (inl (wire code scope at field broken)) = broken
parts_show profile bytes fault (inr (tile, is, inl (inl layers))) = layers_show profile bytes tile fault is layers
parts_show profile bytes fault (inr (tile, is, inl (inr one))) =
    tags_show profile bytes one.layer one.feature one.layer_record one.feature_record fault (record { tile = tile; is = is; there = one.there }) one.broken
parts_show profile bytes fault (inr (tile, is, inr one)) =
    geometry_shows profile bytes one.layer one.feature one.layer_record one.feature_record fault (record { tile = tile; is = is; there = one.there }) one.broken

-- and these alone
pub shown_by_parts : (profile : Profile) (bytes : List ℕ) (fault : Fault) → ShowsBy profile bytes fault ↔ (IsWireFault bytes fault
    ⊎ ((tile : TileRecord) × IsTile bytes tile × (BreaksRule tile fault ⊎ OneFeatureHas (λ layer_record. IsFaultOfGeometryBy profile) tile fault)))
shown_by_parts profile bytes fault = (by_parts profile bytes fault, parts_show profile bytes fault)
