-- The records of a tile's layers and features are those of the messages of their scopes.
use Rattle.std.proofs.Common.{◌≡◌, ℕ, List, slice_get, Some}
use Rattle.mvt_rules.specs.Rules.{IsFeatureOf}
use Rattle.mvt_wire.specs.Payload.{Span, spans_of}
use Rattle.mvt_rules.specs.Scope.{whole_span, IsScope}
use Rattle.mvt_rules.specs.Tile.{FeatureRecord, IsFeature, LayerRecord, IsLayer, TileRecord, IsTile}
use Rattle.mvt_wire.specs.declared.scope.Scope.TheVariants.{Layer, Feature}
use Rattle.mvt_rules.proofs.Tiles.PairedLists.{each_there, each_here}
use Rattle.mvt_rules.proofs.Tiles.Tiles.{part_here}

-- the layer of a scope
pub layer_of_scope : (bytes : List ℕ) (tile : TileRecord) (layer : ℕ) (span : Span) → IsTile bytes tile → IsScope bytes (Layer layer) span
    → (layer_record : LayerRecord) × (slice_get tile.layers layer ≡ Some layer_record) × IsLayer bytes span layer_record
layer_of_scope bytes tile layer span is part =
    each_there (IsLayer bytes) (spans_of 3 is.entries) tile.layers layer span is.layers (part_here bytes (whole_span bytes) 3 layer span is.entries is.whole part)

-- and the scope of a layer
pub scope_of_layer : (bytes : List ℕ) (tile : TileRecord) (layer : ℕ) (layer_record : LayerRecord) → IsTile bytes tile → slice_get tile.layers layer ≡ Some layer_record
    → (span : Span) × IsScope bytes (Layer layer) span × IsLayer bytes span layer_record
scope_of_layer bytes tile layer layer_record is there =
    let found = each_here (IsLayer bytes) (spans_of 3 is.entries) tile.layers layer layer_record is.layers there in
    (found.0, record { entries = is.entries; whole = is.whole; here = found.1 }, found.2)

-- the feature of a scope
pub feature_of_scope : (bytes : List ℕ) (tile : TileRecord) (layer feature : ℕ) (span : Span) → IsTile bytes tile → IsScope bytes (Feature layer feature) span
    → (layer_record : LayerRecord) × (feature_record : FeatureRecord) × IsFeatureOf tile layer feature layer_record feature_record × IsFeature bytes span feature_record
feature_of_scope bytes tile layer feature span is scope =
    let outer = layer_of_scope bytes tile layer scope.0 is scope.1 in
    let is_layer : IsLayer bytes scope.0 outer.0 = outer.2 in
    let inner = each_there (IsFeature bytes) (spans_of 2 is_layer.entries) outer.0.features feature span is_layer.features
    (part_here bytes scope.0 2 feature span is_layer.entries is_layer.whole scope.2) in
    (outer.0, inner.0, record { in_tile = outer.1; in_layer = inner.1 }, inner.2)

-- and the scope of a feature
pub scope_of_feature : (bytes : List ℕ) (tile : TileRecord) (layer feature : ℕ) (layer_record : LayerRecord) (feature_record : FeatureRecord)
    → IsTile bytes tile → IsFeatureOf tile layer feature layer_record feature_record → (span : Span) × IsScope bytes (Feature layer feature) span
scope_of_feature bytes tile layer feature layer_record feature_record is there =
    let outer = scope_of_layer bytes tile layer layer_record is there.in_tile in
    let is_layer : IsLayer bytes outer.0 layer_record = outer.2 in
    let inner = each_here (IsFeature bytes) (spans_of 2 is_layer.entries) layer_record.features feature feature_record is_layer.features there.in_layer in
    (inner.0, (outer.0, outer.1, record { entries = is_layer.entries; whole = is_layer.whole; here = inner.1 }))
