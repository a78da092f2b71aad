-- Bytes are one tile, so what is true of some tile of them, or of some feature of it, is true of any.
use Rattle.std.proofs.Common.{◌≡◌, ℕ, List, subst}
use Rattle.mvt_plane.proofs.Spelling.Spellings.{one_figure}
use Rattle.mvt_plane.specs.Commands.Figure.{polygon, rings}
use Rattle.mvt_plane.specs.FeatureGeometry.{HasRings}
use Rattle.mvt_plane.specs.Position.{Position}
use Rattle.mvt_rules.proofs.Tiles.Tiles.{one_tile}
use Rattle.mvt_rules.specs.Rules.{IsFeatureOf}
use Rattle.mvt_rules.specs.Tile.{FeatureRecord, LayerRecord, TileRecord, IsTile}
use Rattle.mvt_rules.specs.Shows.{IsFeatureIn, OfRings, OfTile, OfFeature}

-- what is true of the tile that bytes are
pub of_this_tile : (bytes : List ℕ) (tile : TileRecord) (Holds : TileRecord → Type 0) → IsTile bytes tile → OfTile bytes Holds → Holds tile
of_this_tile bytes tile Holds is shown = subst Holds (one_tile bytes shown.0 tile shown.1 is) shown.2

-- a feature of it
pub feature_of_this_tile : (bytes : List ℕ) (tile : TileRecord) (layer feature : ℕ) (layer_record : LayerRecord) (it : FeatureRecord)
    → IsTile bytes tile → IsFeatureIn bytes layer feature layer_record it → IsFeatureOf tile layer feature layer_record it
feature_of_this_tile bytes tile layer feature layer_record it is there =
    subst (λ (t : TileRecord). IsFeatureOf t layer feature layer_record it) (one_tile bytes there.tile tile there.is is) there.there

-- a tile has one feature of these ordinals
pub one_feature_of : (tile : TileRecord) (layer feature : ℕ) (layer_record other : LayerRecord) (it its : FeatureRecord)
    → IsFeatureOf tile layer feature layer_record it → IsFeatureOf tile layer feature other its → (layer_record ≡ other) × (it ≡ its)
one_feature_of tile layer feature layer_record other it its first second =
    let same : layer_record ≡ other = cc (first.in_tile, second.in_tile) in
    (same, cc (first.in_layer, second.in_layer))

-- and so have bytes
pub one_feature : (bytes : List ℕ) (layer feature : ℕ) (layer_record other : LayerRecord) (it its : FeatureRecord)
    → IsFeatureIn bytes layer feature layer_record it → IsFeatureIn bytes layer feature other its → (layer_record ≡ other) × (it ≡ its)
one_feature bytes layer feature layer_record other it its first second =
    one_feature_of second.tile layer feature layer_record other it its
    (feature_of_this_tile bytes second.tile layer feature layer_record it second.is first) second.there

-- a feature has one list of rings
pub one_list_of_rings : (it : FeatureRecord) (first second : List (List Position)) → HasRings it.kind it.geometry first → HasRings it.kind it.geometry second → first ≡ second
one_list_of_rings it first second its others =
    let same : rings first ≡ rings second = one_figure polygon it.geometry (rings first) (rings second) its.spelled others.spelled in
    cc same

-- so what is true of the rings of a feature of the bytes is true of one list
pub same_rings : (bytes : List ℕ) (layer feature : ℕ) (First Second : List (List Position) → Type 0)
    → (one : OfFeature bytes layer feature (λ layer_record it. OfRings it First)) → (other : OfFeature bytes layer feature (λ layer_record it. OfRings it Second)) → one.3.0 ≡ other.3.0
same_rings bytes layer feature First Second one other =
    let same = one_feature bytes layer feature one.0 other.0 one.1 other.1 one.2 other.2 in
    one_list_of_rings other.1 one.3.0 other.3.0 (subst (λ (it : FeatureRecord). HasRings it.kind it.geometry one.3.0) same.1 one.3.1) other.3.1
