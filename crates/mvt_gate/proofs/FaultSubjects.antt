-- What a fault of a tile's rules is of: a layer, or a feature.
use Rattle.std.proofs.Common.{◌≡◌, ◌⊎◌, inl, inr, ℕ, List, [], ◌∷◌, refl, ap}
use Rattle.mvt_rules.specs.Parts.Geometry.{IsFaultOfGeometryBy, command, ring, meeting, outside, hole_in_hole, in_polygon}
use Rattle.mvt_rules.specs.Parts.TrueFaults.{IsWireFault, wire, IsFaultOfLayers, version, name, IsFaultOfTags, tag}
use Rattle.mvt_fault.specs.declared.fault.Fault.{Fault}
use Rattle.mvt_fault.specs.declared.profile.Profile.{Profile}
use Rattle.mvt_tile.specs.FirstFaults.{IsFaultOfLayer, IsOfLayer}
use Rattle.mvt_tile.specs.RuleFaults.{Breaks, BreaksAnyRule, IsFaultOfFeature}
use Rattle.mvt_rules.specs.Rules.{IsFeatureOf}
use Rattle.mvt_rules.specs.Tile.{FeatureRecord, LayerRecord, TileRecord}
use Rattle.mvt_gate.specs.FaultList.{of_bytes, of_layer, of_feature, subject_of}

-- a wire fault is of the bytes
pub subject_of_wire : (bytes : List ℕ) (fault : Fault) → IsWireFault bytes fault → subject_of fault ≡ of_bytes
subject_of_wire bytes fault (wire code scope at field broken) = refl

-- a fault of layers is of one of them
pub subject_of_layers : (tile : TileRecord) (fault : Fault) → IsFaultOfLayers tile fault → (layer : ℕ) × IsOfLayer layer fault × (subject_of fault ≡ of_layer layer)
subject_of_layers tile fault (version layer broken) = (layer, (201 ∷ 0 ∷ 0 ∷ 0 ∷ 0 ∷ 0 ∷ 0 ∷ 0 ∷ [], refl), refl)
subject_of_layers tile fault (name first second broken) = (second, (202 ∷ first ∷ 0 ∷ 0 ∷ 0 ∷ 0 ∷ 0 ∷ 0 ∷ [], refl), refl)

-- by its place
layer_by_place : (tile : TileRecord) (layer : ℕ) (fault : Fault) → IsFaultOfLayers tile fault → IsOfLayer layer fault → subject_of fault ≡ of_layer layer
layer_by_place tile layer fault (version its_layer broken) (rest, place) = let same : its_layer ≡ layer = cc place in ap of_layer same
layer_by_place tile layer fault (name first second broken) (rest, place) = let same : second ≡ layer = cc place in ap of_layer same

pub subject_of_layer : (tile : TileRecord) (layer : ℕ) (fault : Fault) → IsFaultOfLayer tile layer fault → subject_of fault ≡ of_layer layer
subject_of_layer tile layer fault its = layer_by_place tile layer fault its.broken its.of_layer

-- a fault of tags is of its feature
pub subject_of_tags : (layer_record : LayerRecord) (it : FeatureRecord) (layer feature : ℕ) (fault : Fault) → IsFaultOfTags layer_record it layer feature fault → subject_of fault ≡ of_feature layer feature
subject_of_tags layer_record it layer feature fault (tag code index broken) = refl

-- so is one of its geometry
pub subject_of_geometry : (profile : Profile) (it : FeatureRecord) (layer feature : ℕ) (fault : Fault) → IsFaultOfGeometryBy profile it layer feature fault → subject_of fault ≡ of_feature layer feature
subject_of_geometry profile it layer feature fault (command code index broken) = refl
subject_of_geometry profile it layer feature fault (ring code number of) = refl
subject_of_geometry profile it layer feature fault (meeting polygon first second x y w of) = refl
subject_of_geometry profile it layer feature fault (outside polygon hole vertex of) = refl
subject_of_geometry profile it layer feature fault (hole_in_hole polygon hole vertex other of) = refl
subject_of_geometry profile it layer feature fault (in_polygon polygon vertex other of) = refl

-- Of a further rule on features, whose faults are of their feature
abbrev pub AreOfTheirFeature : Breaks → Type 0
AreOfTheirFeature IsBroken = (it : FeatureRecord) (layer feature : ℕ) (fault : Fault) → IsBroken it layer feature fault → subject_of fault ≡ of_feature layer feature

module _ (IsBroken : Breaks) (theirs : AreOfTheirFeature IsBroken) where
  -- a fault of a feature is of it
  pub subject_of_feature : (layer_record : LayerRecord) (it : FeatureRecord) (layer feature : ℕ) (fault : Fault) → IsFaultOfFeature IsBroken layer_record it layer feature fault → subject_of fault ≡ of_feature layer feature
  subject_of_feature layer_record it layer feature fault (inl tags) = subject_of_tags layer_record it layer feature fault tags
  subject_of_feature layer_record it layer feature fault (inr broken) = theirs it layer feature fault broken

  -- a layer has this fault
  pub record HasLayer (tile : TileRecord) (fault : Fault) : Type 0 where
    pub layer : ℕ
    pub its : IsFaultOfLayer tile layer fault
    pub subject : subject_of fault ≡ of_layer layer

  -- a feature has it
  pub record HasFeature (tile : TileRecord) (fault : Fault) : Type 0 where
    pub layer : ℕ
    pub feature : ℕ
    pub layer_record : LayerRecord
    pub feature_record : FeatureRecord
    pub there : IsFeatureOf tile layer feature layer_record feature_record
    pub its : IsFaultOfFeature IsBroken layer_record feature_record layer feature fault
    pub subject : subject_of fault ≡ of_feature layer feature

  -- each fault of the tile is of one or the other
  pub layer_or_feature : (tile : TileRecord) (fault : Fault) → BreaksAnyRule IsBroken tile fault → HasLayer tile fault ⊎ HasFeature tile fault
  layer_or_feature tile fault (inl (inl layers)) =
      let of = subject_of_layers tile fault layers in
      inl (record { layer = of.0; its = record { broken = layers; of_layer = of.1 }; subject = of.2 })
  layer_or_feature tile fault (inl (inr one)) =
      inr (record {
        layer = one.layer;
        feature = one.feature;
        layer_record = one.layer_record;
        feature_record = one.feature_record;
        there = one.there;
        its = inl one.broken;
        subject = subject_of_tags one.layer_record one.feature_record one.layer one.feature fault one.broken;
      })
  layer_or_feature tile fault (inr one) =
      inr (record {
        layer = one.layer;
        feature = one.feature;
        layer_record = one.layer_record;
        feature_record = one.feature_record;
        there = one.there;
        its = inr one.broken;
        subject = theirs one.feature_record one.layer one.feature fault one.broken;
      })
