-- A test of the bytes of a feature, or of the rings that it draws, is one of the feature with these ordinals.
use Rattle.std.proofs.Common.{◌≡◌, ◌↔◌, ℕ, Bool, IsTrue, false, List, subst}
use Rattle.mvt_plane.specs.FeatureGeometry.{HasRings}
use Rattle.mvt_plane.specs.Position.{Position}
use Rattle.mvt_rules.specs.Rules.{IsFeatureOf}
use Rattle.mvt_rules.specs.Tile.{FeatureRecord, LayerRecord, TileRecord, IsTile}
use Rattle.mvt_rules.specs.Shows.{OfRings, OfFeature}
use Rattle.mvt_confirm.specs.Calls.FeatureMessage.{DrawsRings, IsFeatureAt}
use Rattle.mvt_confirm.specs.declared.message_bytes.MessageBytes.{MessageBytes}
use Rattle.mvt_rules.proofs.Validity.TileFeatures.{feature_of_this_tile, one_feature_of, one_list_of_rings}

module _ (bytes : List ℕ) (layer feature : ℕ) where
  -- the feature with these ordinals stands at a place
  abbrev StandsThere : MessageBytes → Type 0
  StandsThere place = (tile : TileRecord) → IsTile bytes tile → (layer_record : LayerRecord) × (it : FeatureRecord) × IsFeatureOf tile layer feature layer_record it × IsFeatureAt place it

  -- and draws rings there
  abbrev DrawsThere : MessageBytes → Type 0
  DrawsThere place =
      (tile : TileRecord) → IsTile bytes tile → (layer_record : LayerRecord) × (it : FeatureRecord) × (rings : List (List Position))
      × IsFeatureOf tile layer feature layer_record it × HasRings it.kind it.geometry rings × DrawsRings place rings

  -- there is no feature with these ordinals
  abbrev IsNowhere : Type 0
  IsNowhere = (tile : TileRecord) (layer_record : LayerRecord) (it : FeatureRecord) → IsTile bytes tile → ¬ IsFeatureOf tile layer feature layer_record it

  -- or none that draws rings
  abbrev DrawsNowhere : Type 0
  DrawsNowhere =
      (tile : TileRecord) (layer_record : LayerRecord) (it : FeatureRecord) (rings : List (List Position)) → IsTile bytes tile
      → IsFeatureOf tile layer feature layer_record it → ¬ HasRings it.kind it.geometry rings

  -- a test of the feature that stands there
  pub place_decides : (tile : TileRecord) (place : MessageBytes) (test : Bool) (Holds : LayerRecord → FeatureRecord → Type 0) → IsTile bytes tile → StandsThere place
      → ((layer_record : LayerRecord) (it : FeatureRecord) → IsFeatureOf tile layer feature layer_record it → IsFeatureAt place it → IsTrue test ↔ Holds layer_record it)
      → IsTrue test ↔ OfFeature bytes layer feature Holds
  place_decides tile place test Holds is stands decides =
      let found = stands tile is in
      let its = decides found.0 found.1 found.2 found.3 in (
        λ holds. (found.0, found.1, record { tile = tile; is = is; there = found.2 }, its.0 holds),
        λ shown.
            let there = feature_of_this_tile bytes tile layer feature shown.0 shown.1 is shown.2 in
            let same = one_feature_of tile layer feature shown.0 found.0 shown.1 found.1 there found.2 in
            its.1 (subst (λ (it : FeatureRecord). Holds found.0 it) same.1 (subst (λ (layer_record : LayerRecord). Holds layer_record shown.1) same.0 shown.3)),
      )

  -- where there is no feature, nothing is true of it
  pub nothing_decided : (tile : TileRecord) (Holds : LayerRecord → FeatureRecord → Type 0) → IsTile bytes tile → IsNowhere
      → IsTrue false ↔ OfFeature bytes layer feature Holds
  nothing_decided tile Holds is nowhere =
      (λ holds. absurd (cc holds), λ shown. absurd (nowhere tile shown.0 shown.1 is (feature_of_this_tile bytes tile layer feature shown.0 shown.1 is shown.2)))

  -- a test of the rings that are drawn there
  pub rings_decide : (tile : TileRecord) (place : MessageBytes) (test : Bool) (Holds : List (List Position) → Type 0) → IsTile bytes tile → DrawsThere place
      → ((rings : List (List Position)) → DrawsRings place rings → IsTrue test ↔ Holds rings)
      → IsTrue test ↔ OfFeature bytes layer feature (λ layer_record it. OfRings it Holds)
  rings_decide tile place test Holds is draws decides =
      let found = draws tile is in
      let its = decides found.2 found.5 in (
        λ holds. (found.0, found.1, record { tile = tile; is = is; there = found.3 }, (found.2, found.4, its.0 holds)),
        λ shown.
            let there = feature_of_this_tile bytes tile layer feature shown.0 shown.1 is shown.2 in
            let same = one_feature_of tile layer feature shown.0 found.0 shown.1 found.1 there found.3 in
            let drawn = subst (λ (it : FeatureRecord). HasRings it.kind it.geometry shown.3.0) same.1 shown.3.1 in
            its.1 (subst Holds (one_list_of_rings found.1 shown.3.0 found.2 drawn found.4) shown.3.2),
      )

  -- where no feature draws rings, nothing is true of them
  pub no_rings_decided : (tile : TileRecord) (Holds : List (List Position) → Type 0) → IsTile bytes tile → DrawsNowhere
      → IsTrue false ↔ OfFeature bytes layer feature (λ layer_record it. OfRings it Holds)
  no_rings_decided tile Holds is nowhere = (
    λ holds. absurd (cc holds),
    λ shown.
        absurd (nowhere tile shown.0 shown.1 shown.3.0 is (feature_of_this_tile bytes tile layer feature shown.0 shown.1 is shown.2) shown.3.1),
  )

  module _ (place : MessageBytes) (test : Bool) (stands : StandsThere place)
      (decides : (it : FeatureRecord) → IsFeatureAt place it → IsTrue test ↔ ((rings : List (List Position)) × HasRings it.kind it.geometry rings)) where
    -- a feature that draws rings, by the test
    pub draws_decided : IsTrue test → DrawsThere place
    draws_decided holds = λ tile is.
        let found = stands tile is in
        let drawn = (decides found.1 found.3).0 holds in
        (found.0, found.1, drawn.0, found.2, drawn.1, record { feature_record = found.1; is = found.3; drawn = drawn.1 })

    -- and one of which it isn't
    pub none_decided : test ≡ false → DrawsNowhere
    none_decided fails = λ tile layer_record it rings is there drawn.
        let found = stands tile is in
        let same = one_feature_of tile layer feature layer_record found.0 it found.1 there found.2 in
        let holds : IsTrue test = (decides found.1 found.3).1 (rings, subst (λ (one : FeatureRecord). HasRings one.kind one.geometry rings) same.1 drawn) in
        absurd (cc (holds, fails))
