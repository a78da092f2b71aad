-- The rules between a tile's parts, and a further one on its features.
use Rattle.std.specs.Prelude.{◌≡◌, ◌≢◌, ℕ, ◌≤◌, ◌⊎◌, List, ◌∷◌, Some, slice_get}
use Rattle.mvt_rules.specs.Parts.TrueFaults.{BreaksRule, FeatureFaultRelation, IsFaultOfTags, OneFeatureHas}
use Rattle.mvt_fault.specs.declared.fault.Fault.{Fault}
use Rattle.mvt_rules.specs.Rules.{IsFeatureOf}
use Rattle.mvt_rules.specs.Tile.{FeatureRecord, LayerRecord, TileRecord}

-- what a further rule says of a feature, of the ordinals of its layer and of its own, and of a fault that it has
abbrev pub Breaks : Type 1
Breaks = FeatureRecord → ℕ → ℕ → Fault → Type 0

-- what it says of a feature that keeps it
abbrev pub Keeps : Type 1
Keeps = FeatureRecord → Type 0

-- which faults may be found in place of the first one
abbrev pub Frees : Type 1
Frees = Fault → Type 0

-- a place of the feature with these ordinals, after the places of its tags
abbrev pub IsAfterTags : ℕ → ℕ → List ℕ → Type 0
IsAfterTags layer feature place = (part : ℕ) × (rest : List ℕ) × (1 ≤ part) × (place ≡ 2 ∷ layer ∷ feature ∷ part ∷ rest)

-- the tile's record breaks a rule between its parts, or a further one on its features
abbrev pub BreaksAnyRule : Breaks → TileRecord → Fault → Type 0
BreaksAnyRule IsBroken tile fault = BreaksRule tile fault ⊎ OneFeatureHas (λ layer_record. IsBroken) tile fault

-- the tile's record keeps the rules between its parts, and each of its features keeps a further one
pub record KeepsRules (IsKept : Keeps) (tile : TileRecord) : Type 0 where
  pub parts : (fault : Fault) → ¬ BreaksRule tile fault
  pub features : (layer feature : ℕ) (layer_record : LayerRecord) (feature_record : FeatureRecord) → IsFeatureOf tile layer feature layer_record feature_record → IsKept feature_record

-- the tile's record keeps the rules between its parts; and of its features those that aren't of polygons, whose type is 3, neither
-- break a further one nor fail to keep it
pub record KeepsButPolygons (IsBroken : Breaks) (IsKept : Keeps) (tile : TileRecord) : Type 0 where
  pub parts : (fault : Fault) → ¬ BreaksRule tile fault
  pub others : (layer feature : ℕ) (layer_record : LayerRecord) (feature_record : FeatureRecord) → IsFeatureOf tile layer feature layer_record feature_record → feature_record.kind ≢ 3
      → ((fault : Fault) → ¬ IsBroken feature_record layer feature fault) × IsKept feature_record

-- the feature has this fault, of its tags or of the further rule
abbrev pub IsFaultOfFeature : Breaks → FeatureFaultRelation
IsFaultOfFeature IsBroken layer_record feature_record layer feature fault = IsFaultOfTags layer_record feature_record layer feature fault ⊎ IsBroken feature_record layer feature fault

-- the feature has no fault, neither of its tags nor of the further rule, and keeps that rule
pub record IsSoundFeature (IsBroken : Breaks) (IsKept : Keeps) (layer_record : LayerRecord) (feature_record : FeatureRecord) (layer feature : ℕ) : Type 0 where
  pub faultless : (fault : Fault) → ¬ IsFaultOfFeature IsBroken layer_record feature_record layer feature fault
  pub kept : IsKept feature_record

-- each feature of the layer with an ordinal is sound
abbrev pub AllSoundInLayer : Breaks → Keeps → LayerRecord → ℕ → Type 0
AllSoundInLayer IsBroken IsKept layer_record layer = (feature : ℕ) (feature_record : FeatureRecord) → slice_get layer_record.features feature ≡ Some feature_record → IsSoundFeature IsBroken IsKept layer_record feature_record layer feature
