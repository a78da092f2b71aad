-- What may be a mistake in a tile, though no rule forbids it (Mapbox Vector Tile Specification 2.1, sections 4.1 and 4.2).
use Rattle.std.specs.Prelude.{◌≡◌, ℕ, suc, ◌<◌, ◌≤◌, Some, List, [], ◌∷◌, ◌++◌, map, slice_get}
use Rattle.mvt_rules.specs.Tile.{FeatureRecord, LayerRecord, TileRecord}
use Rattle.mvt_tile.specs.declared.advice.Advice.{Advice}
use Rattle.mvt_tile.specs.declared.advice.Advice.TheVariants.{NoLayer, NoFeature, EqualKey, EqualId}

-- two places hold the same, and the first of them is before all others that do
pub record IsRepetition {X : Type 0} (At : ℕ → X → Type 0) (first second : ℕ) : Type 0 where
  pub earlier : first < second
  pub it : X
  pub there : At first it
  pub again : At second it
  pub least : (other : ℕ) → At other it → first ≤ other

-- the pairs of places of which this is said, in the order of the second one, each once
pub record ArePairs (Are : ℕ → ℕ → Type 0) (pairs : List (ℕ × ℕ)) : Type 0 where
  pub each : (place : ℕ) (pair : ℕ × ℕ) → slice_get pairs place ≡ Some pair → Are pair.0 pair.1
  pub all : (first second : ℕ) → Are first second → (place : ℕ) × (slice_get pairs place ≡ Some (first, second))
  pub rising : (place next : ℕ) (pair other : ℕ × ℕ) → place < next → slice_get pairs place ≡ Some pair → slice_get pairs next ≡ Some other → pair.1 < other.1

-- the pairs of all places that hold the same, the first of them before all others that do
abbrev pub AreRepetitions : {X : Type 0} → (ℕ → X → Type 0) → List (ℕ × ℕ) → Type 0
AreRepetitions At pairs = ArePairs (IsRepetition At) pairs

-- the key at a place of the layer
abbrev pub KeyAt : LayerRecord → ℕ → List ℕ → Type 0
KeyAt layer_record place key = slice_get layer_record.keys place ≡ Some key

-- the id of the feature at a place of the layer, where it has one
abbrev pub IdAt : LayerRecord → ℕ → ℕ → Type 0
IdAt layer_record place id = (feature_record : FeatureRecord) × (slice_get layer_record.features place ≡ Some feature_record) × (feature_record.id ≡ Some id)

-- that a layer has no feature, where it has none
abbrev pub no_feature : ℕ → List FeatureRecord → List Advice
no_feature layer [] = NoFeature layer ∷ []
no_feature layer (feature_record ∷ rest) = []

-- that the keys of each pair are equal
abbrev pub equal_keys : ℕ → List (ℕ × ℕ) → List Advice
equal_keys layer pairs = map (λ pair. EqualKey layer pair.0 pair.1) pairs

-- that the ids of each pair are equal
abbrev pub equal_ids : ℕ → List (ℕ × ℕ) → List Advice
equal_ids layer pairs = map (λ pair. EqualId layer pair.0 pair.1) pairs

-- the advice on the layer with an ordinal: that it has no feature, then its equal keys, then the equal ids of its features
pub record IsLayerAdvice (layer : ℕ) (layer_record : LayerRecord) (advice : List Advice) : Type 0 where
  pub keys : List (ℕ × ℕ)
  pub ids : List (ℕ × ℕ)
  pub of_keys : AreRepetitions (KeyAt layer_record) keys
  pub of_ids : AreRepetitions (IdAt layer_record) ids
  pub is : advice ≡ no_feature layer layer_record.features ++ (equal_keys layer keys ++ equal_ids layer ids)

-- the advice on layers, one after the other, of which the first has an ordinal
abbrev pub AreLayersAdvice : ℕ → List LayerRecord → List Advice → Type 0
AreLayersAdvice layer [] advice = advice ≡ []
AreLayersAdvice layer (layer_record ∷ rest) advice =
    (own further : List Advice) × IsLayerAdvice layer layer_record own × AreLayersAdvice (suc layer) rest further × (advice ≡ own ++ further)

-- the advice on layers that are all of a tile: where there are none, that
abbrev pub AreAllLayersAdvice : List LayerRecord → List Advice → Type 0
AreAllLayersAdvice [] advice = advice ≡ NoLayer ∷ []
AreAllLayersAdvice (layer_record ∷ rest) advice = AreLayersAdvice 0 (layer_record ∷ rest) advice

-- the advice on a tile
abbrev pub IsAdvice : TileRecord → List Advice → Type 0
IsAdvice tile advice = AreAllLayersAdvice tile.layers advice
