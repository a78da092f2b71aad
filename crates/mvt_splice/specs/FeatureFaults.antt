-- Which faults name a feature.
use Rattle.std.specs.Prelude.{◌≡◌, ℕ, length}
use Rattle.mvt_rules.specs.Rules.{TagsBreak}
use Rattle.mvt_fault.specs.declared.fault.Fault.{Fault}
use Rattle.mvt_fault.specs.declared.fault.Fault.TheVariants.{Tag, Command, Ring, Meeting, Outside, HoleInHole, InPolygon}
use Rattle.mvt_fault.specs.declared.tag.TagCode.{TagCode}
use Rattle.mvt_rules.specs.Tile.{FeatureRecord, LayerRecord}

-- the fault is one of the feature with these ordinals
abbrev pub IsOfFeature : ℕ → ℕ → Fault → Type 0
IsOfFeature layer feature (Tag code its_layer its_feature index) = (its_layer ≡ layer) × (its_feature ≡ feature)
IsOfFeature layer feature (Command code its_layer its_feature index) = (its_layer ≡ layer) × (its_feature ≡ feature)
IsOfFeature layer feature (Ring code its_layer its_feature ring) = (its_layer ≡ layer) × (its_feature ≡ feature)
IsOfFeature layer feature (Meeting its_layer its_feature polygon first second x y w) = (its_layer ≡ layer) × (its_feature ≡ feature)
IsOfFeature layer feature (Outside its_layer its_feature polygon ring vertex) = (its_layer ≡ layer) × (its_feature ≡ feature)
IsOfFeature layer feature (HoleInHole its_layer its_feature polygon ring vertex other) = (its_layer ≡ layer) × (its_feature ≡ feature)
IsOfFeature layer feature (InPolygon its_layer its_feature polygon vertex other) = (its_layer ≡ layer) × (its_feature ≡ feature)
IsOfFeature layer feature fault = ⊥

-- the feature's tags are right in its layer
abbrev pub AreRightTags : LayerRecord → FeatureRecord → Type 0
AreRightTags layer_record feature_record = (code : TagCode) (index : ℕ) → ¬ TagsBreak code (length layer_record.keys) (length layer_record.values) feature_record.tags index
