-- Which layers and features of a tile are left, and at which ordinals.
use Rattle.std.proofs.Common.{◌≡◌, ◌⊎◌, ℕ, zero, suc, ◌+◌, ◌≤◌, inl, inr, List, [], ◌∷◌, ◌++◌, slice_get, Some, refl, sym, ◌∙◌, ap, subst, arith}
use Rattle.std.proofs.lemmas.Option.{same_Some}
use Rattle.mvt_rules.specs.Rules.{IsFeatureOf}
use Rattle.mvt_rules.specs.Tile.{FeatureRecord, LayerRecord, TileRecord}
use Rattle.mvt_splice.specs.Splice.{Fate, stays, redrawn, dropped}
use Rattle.mvt_splice.specs.SplicedTile.{redrawn_feature, feature_after, features_after, layer_after, layers_after, spliced_tile}

-- a layer that is left was at the same place
pub layer_left : (fates : ℕ → ℕ → Fate) (ordinal : ℕ) (layers : List LayerRecord) (i : ℕ) (after : LayerRecord) → slice_get (layers_after fates ordinal layers) i ≡ Some after
    → (layer : LayerRecord) × (slice_get layers i ≡ Some layer) × (after ≡ layer_after (fates (ordinal + i)) layer)
layer_left fates ordinal [] i after here = absurd (cc)
layer_left fates ordinal (layer ∷ layers) zero after here =
    let first : layer_after (fates ordinal) layer ≡ after = same_Some (layer_after (fates ordinal) layer) after here in
    (layer, refl, sym first ∙ ap (λ (k : ℕ). layer_after (fates k) layer) (omega arith))
layer_left fates ordinal (layer ∷ layers) (suc i) after here =
    let rest = layer_left fates (suc ordinal) layers i after here in
    (rest.0, rest.1, rest.2 ∙ ap (λ (k : ℕ). layer_after (fates k) rest.0) (omega arith))

-- and each layer is left there
pub layer_stays : (fates : ℕ → ℕ → Fate) (ordinal : ℕ) (layers : List LayerRecord) (i : ℕ) (layer : LayerRecord) → slice_get layers i ≡ Some layer
    → slice_get (layers_after fates ordinal layers) i ≡ Some (layer_after (fates (ordinal + i)) layer)
layer_stays fates ordinal [] i layer here = absurd (cc)
layer_stays fates ordinal (first ∷ layers) zero layer here =
    let same : first ≡ layer = same_Some first layer here in
    ap (λ (it : LayerRecord). Some (layer_after (fates ordinal) it)) same ∙ ap (λ (k : ℕ). Some (layer_after (fates k) layer)) (omega arith)
layer_stays fates ordinal (first ∷ layers) (suc i) layer here =
    layer_stays fates (suc ordinal) layers i layer here ∙ ap (λ (k : ℕ). Some (layer_after (fates k) layer)) (omega arith)

-- nothing is left of a feature, or one
none_or_one : (fate : Fate) (feature : FeatureRecord) → (feature_after fate feature ≡ []) ⊎ ((after : FeatureRecord) × (feature_after fate feature ≡ after ∷ []))
none_or_one stays feature = inr (feature, refl)
none_or_one (redrawn geometry) feature = inr (redrawn_feature geometry feature, refl)
none_or_one dropped feature = inl refl

-- where a feature that is left was
pub record WasThere (fates : ℕ → Fate) (ordinal : ℕ) (features : List FeatureRecord) (after : FeatureRecord) : Type 0 where
  pub place : ℕ
  pub feature : FeatureRecord
  pub there : slice_get features place ≡ Some feature
  pub left : feature_after (fates (ordinal + place)) feature ≡ after ∷ []

was_later : (fates : ℕ → Fate) (ordinal : ℕ) (first : FeatureRecord) (features : List FeatureRecord) (after : FeatureRecord) → WasThere fates (suc ordinal) features after → WasThere fates ordinal (first ∷ features) after
was_later fates ordinal first features after was = record {
  place = suc was.place;
  feature = was.feature;
  there = was.there;
  left = ap (λ (k : ℕ). feature_after (fates k) was.feature) (omega arith) ∙ was.left;
}

pub feature_left : (fates : ℕ → Fate) (ordinal : ℕ) (features : List FeatureRecord) (i : ℕ) (after : FeatureRecord) → slice_get (features_after fates ordinal features) i ≡ Some after → WasThere fates ordinal features after
feature_left fates ordinal [] i after here = absurd (cc)
feature_left fates ordinal (feature ∷ features) i after here = elim (none_or_one (fates ordinal) feature) [
  | inl none ↦
      let later : slice_get (features_after fates (suc ordinal) features) i ≡ Some after = subst (λ (list : List FeatureRecord). slice_get (list ++ features_after fates (suc ordinal) features) i ≡ Some after) none here in
      was_later fates ordinal feature features after (feature_left fates (suc ordinal) features i after later)
  | inr one ↦
      let own = subst (λ (list : List FeatureRecord). slice_get (list ++ features_after fates (suc ordinal) features) i ≡ Some after) one.1 here in
      at_one one.0 one.1 (feature_left fates (suc ordinal) features) i own
] where
  at_one : (one : FeatureRecord) → feature_after (fates ordinal) feature ≡ one ∷ [] → ((j : ℕ) (it : FeatureRecord) → slice_get (features_after fates (suc ordinal) features) j ≡ Some it → WasThere fates (suc ordinal) features it)
      → (j : ℕ) → slice_get (one ∷ features_after fates (suc ordinal) features) j ≡ Some after → WasThere fates ordinal (feature ∷ features) after
  at_one one is further zero own =
      let same : one ≡ after = same_Some one after own in
      record { place = 0; feature = feature; there = refl; left = ap (λ (k : ℕ). feature_after (fates k) feature) (omega arith) ∙ is ∙ ap (λ (it : FeatureRecord). it ∷ []) same }
  at_one one is further (suc j) own = was_later fates ordinal feature features after (further j after own)

-- a feature of which something is left is no later than it was
pub record IsThere (fates : ℕ → Fate) (ordinal : ℕ) (features : List FeatureRecord) (place : ℕ) (after : FeatureRecord) : Type 0 where
  pub at : ℕ
  pub there : slice_get (features_after fates ordinal features) at ≡ Some after
  pub earlier : at ≤ place

pub feature_stays : (fates : ℕ → Fate) (ordinal : ℕ) (features : List FeatureRecord) (place : ℕ) (feature after : FeatureRecord) → slice_get features place ≡ Some feature → feature_after (fates (ordinal + place)) feature ≡ after ∷ []
    → IsThere fates ordinal features place after
feature_stays fates ordinal [] place feature after here left = absurd (cc)
feature_stays fates ordinal (first ∷ features) zero feature after here left =
    let same : first ≡ feature = same_Some first feature here in
    let own : feature_after (fates ordinal) first ≡ after ∷ [] = ap (λ (k : ℕ). feature_after (fates k) first) (omega arith) ∙ ap (feature_after (fates (ordinal + 0))) same ∙ left in
    record {
      at = 0;
      there = ap (λ (list : List FeatureRecord). slice_get (list ++ features_after fates (suc ordinal) features) 0) own;
      earlier = omega arith;
    }
feature_stays fates ordinal (first ∷ features) (suc place) feature after here left =
    let further = feature_stays fates (suc ordinal) features place feature after here (ap (λ (k : ℕ). feature_after (fates k) feature) (omega arith) ∙ left) in
    let earlier = further.earlier in
    elim (none_or_one (fates ordinal) first) [
      | inl none ↦ record {
        at = further.at;
        there = ap (λ (list : List FeatureRecord). slice_get (list ++ features_after fates (suc ordinal) features) further.at) none ∙ further.there;
        earlier = omega arith;
      }
      | inr one ↦ record {
        at = suc further.at;
        there = ap (λ (list : List FeatureRecord). slice_get (list ++ features_after fates (suc ordinal) features) (suc further.at)) one.1 ∙ further.there;
        earlier = omega arith;
      }
    ]

-- a feature of the tile that is left was one of the tile
pub record WasFeatureOf (fates : ℕ → ℕ → Fate) (tile : TileRecord) (layer : ℕ) (layer_record : LayerRecord) (after : FeatureRecord) : Type 0 where
  pub its_layer : LayerRecord
  pub left_layer : layer_record ≡ layer_after (fates layer) its_layer
  pub feature : ℕ
  pub feature_record : FeatureRecord
  pub there : IsFeatureOf tile layer feature its_layer feature_record
  pub left : feature_after (fates layer feature) feature_record ≡ after ∷ []

pub was_feature : (fates : ℕ → ℕ → Fate) (tile : TileRecord) (layer feature : ℕ) (layer_record : LayerRecord) (after : FeatureRecord) → IsFeatureOf (spliced_tile fates tile) layer feature layer_record after → WasFeatureOf fates tile layer layer_record after
was_feature fates tile layer feature layer_record after there =
    let its = layer_left fates 0 tile.layers layer layer_record there.in_tile in
    let left : layer_record ≡ layer_after (fates layer) its.0 = its.2 ∙ ap (λ (k : ℕ). layer_after (fates k) its.0) (omega arith) in
    let here : slice_get (features_after (fates layer) 0 its.0.features) feature ≡ Some after = subst (λ (it : LayerRecord). slice_get it.features feature ≡ Some after) left there.in_layer in
    let was = feature_left (fates layer) 0 its.0.features feature after here in
    record {
      its_layer = its.0;
      left_layer = left;
      feature = was.place;
      feature_record = was.feature;
      there = record { in_tile = its.1; in_layer = was.there };
      left = ap (λ (k : ℕ). feature_after (fates layer k) was.feature) (omega arith) ∙ was.left;
    }

-- and each feature of which something is left is one of it, in the same layer and no later
pub is_feature : (fates : ℕ → ℕ → Fate) (tile : TileRecord) (layer feature : ℕ) (layer_record : LayerRecord) (feature_record after : FeatureRecord) → IsFeatureOf tile layer feature layer_record feature_record → feature_after (fates layer feature) feature_record ≡ after ∷ []
    → (at : ℕ) × (at ≤ feature) × IsFeatureOf (spliced_tile fates tile) layer at (layer_after (fates layer) layer_record) after
is_feature fates tile layer feature layer_record feature_record after there left =
    let found = feature_stays (fates layer) 0 layer_record.features feature feature_record after there.in_layer (ap (λ (k : ℕ). feature_after (fates layer k) feature_record) (omega arith) ∙ left) in
    let its = layer_stays fates 0 tile.layers layer layer_record there.in_tile in
    (found.at, found.earlier, record { in_tile = its ∙ ap (λ (k : ℕ). Some (layer_after (fates k) layer_record)) (omega arith); in_layer = found.there })
