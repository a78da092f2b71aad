-- The features at places, found one after another along a tile.
use Rattle.std.proofs.Common.{◌≡◌, ◌≢◌, ℕ, ◌+◌, ◌<◌, ◌≤◌, inl, inr, List, [], ◌∷◌, ◌++◌, length, slice_get, Some, sym, ◌∙◌, ap, subst, arith, length-append}
use Rattle.std.proofs.lemmas.Bool.{cases_order}
use Rattle.std.proofs.lemmas.Option.{none-some, slice_get_within}
use Rattle.mvt_rules.proofs.Validity.TileFeatures.{feature_of_this_tile}
use Rattle.mvt_tile.specs.declared.feature_bytes.FeatureBytes.{FeatureBytes}
use Rattle.mvt_wire.proofs.Parts.EmbeddedSpans.{slice_get-push}
use Rattle.mvt_rules.specs.Tile.{LayerRecord, TileRecord, IsTile}
use Rattle.mvt_mender.proofs.Lists.{present}
use Rattle.mvt_mender.specs.Calls.Features.{AreAllFound, AreFoundTo, AreInTurn, HaveFeatures, IsInFront, StandsAt}
use Rattle.mvt_mender.specs.declared.place.FeaturePlace.{FeaturePlace}

module _ (bytes : List ℕ) (places : List FeaturePlace) where
  -- before the first layer
  pub found_none : AreFoundTo bytes places 0 0 []
  found_none = record {
    each = λ at it there. absurd (none-some it there);
    left = λ at place more there front. elim front [ inl less ↦ absurd (omega arith) | inr both ↦ absurd (omega arith) ];
  }

  module _ (in_turn : AreInTurn places) (layer feature : ℕ) (found : List FeatureBytes) (so_far : AreFoundTo bytes places layer feature found) where
    -- a feature that is at no place
    pub found_kept : ((place : FeaturePlace) → slice_get places (length found) ≡ Some place → place.layer ≡ layer → place.feature ≢ feature) → AreFoundTo bytes places layer (feature + 1) found
    found_kept other = record { each = so_far.each; left = left }
      where
        left : (at : ℕ) (place : FeaturePlace) → length found ≤ at → slice_get places at ≡ Some place → ¬ IsInFront place layer (feature + 1)
        left at place more there (inl less) = so_far.left at place more there (inl less)
        left at place more there (inr (same, less)) = elim (cases_order place.feature feature) [
          | inr (inl below) ↦ so_far.left at place more there (inr (same, below))
          | inr (inr above) ↦ absurd (omega arith)
          | inl alike ↦ elim (cases_order (length found) at) [
            | inl here ↦ other place (ap (slice_get places) here ∙ there) same alike
            | inr (inr after) ↦ absurd (omega arith)
            | inr (inl before) ↦
                let within = slice_get_within places at place there in
                let (first, its) = present places (length found) (omega arith) in
                let front = in_turn (length found) at first place before its there in
                so_far.left (length found) first (omega arith) its (subst (λ (n : ℕ). IsInFront first layer n) alike (subst (λ (n : ℕ). IsInFront first n place.feature) same front))
          ]
        ]

    -- one that is at the next place
    pub found_pushed : (place : FeaturePlace) (it : FeatureBytes) → slice_get places (length found) ≡ Some place → place.layer ≡ layer → place.feature ≡ feature → StandsAt bytes place it
        → AreFoundTo bytes places layer (feature + 1) (found ++ it ∷ [])
    found_pushed place it here in_layer ordinal stands = record {
      each = λ at other there. elim (slice_get-push found it at other there) [
        | inl before ↦ so_far.each at other before
        | inr (last, same) ↦ (place, ap (slice_get places) last ∙ here, subst (StandsAt bytes place) (sym same) stands)
      ];
      left = left;
    }
      where
        left : (at : ℕ) (later : FeaturePlace) → length (found ++ it ∷ []) ≤ at → slice_get places at ≡ Some later → ¬ IsInFront later layer (feature + 1)
        left at later more there front =
            let further : length found < at = omega (arith, length-append found (it ∷ [])) in
            elim (in_turn (length found) at place later further here there) [
              | inl less ↦ elim front [ inl below ↦ absurd (omega arith) | inr (same, below) ↦ absurd (omega arith) ]
              | inr (alike, less) ↦ elim front [ inl below ↦ absurd (omega arith) | inr (same, below) ↦ absurd (omega arith) ]
            ]

  module _ (have : HaveFeatures bytes places) (tile : TileRecord) (is : IsTile bytes tile) (found : List FeatureBytes) where
    -- after the last feature of a layer
    pub found_layer : (layer : ℕ) (layer_record : LayerRecord) → slice_get tile.layers layer ≡ Some layer_record → AreFoundTo bytes places layer (length layer_record.features) found → AreFoundTo bytes places (layer + 1) 0 found
    found_layer layer layer_record in_tile so_far = record { each = so_far.each; left = left }
      where
        left : (at : ℕ) (place : FeaturePlace) → length found ≤ at → slice_get places at ≡ Some place → ¬ IsInFront place (layer + 1) 0
        left at place more there (inr (same, less)) = absurd (omega arith)
        left at place more there (inl less) = elim (cases_order place.layer layer) [
          | inr (inl below) ↦ so_far.left at place more there (inl below)
          | inr (inr above) ↦ absurd (omega arith)
          | inl alike ↦
              let (its_layer, its, stands) = have at place there in
              let of = feature_of_this_tile bytes tile place.layer place.feature its_layer its is stands in
              let one : its_layer ≡ layer_record = cc (of.in_tile, in_tile, alike) in
              let own : slice_get layer_record.features place.feature ≡ Some its = subst (λ (l : LayerRecord). slice_get l.features place.feature ≡ Some its) one of.in_layer in
              so_far.left at place more there (inr (alike, slice_get_within layer_record.features place.feature its own))
        ]

    -- after the last layer
    pub found_all : AreFoundTo bytes places (length tile.layers) 0 found → AreAllFound bytes places found
    found_all so_far = record { count = count; each = so_far.each }
      where
        count : length found ≡ length places
        count = elim (cases_order (length found) (length places)) [
          | inl same ↦ same
          | inr (inl fewer) ↦
              let (place, there) = present places (length found) fewer in
              let (its_layer, its, stands) = have (length found) place there in
              let of = feature_of_this_tile bytes tile place.layer place.feature its_layer its is stands in
              absurd (so_far.left (length found) place (omega arith) there (inl (slice_get_within tile.layers place.layer its_layer of.in_tile)))
          | inr (inr more) ↦
              let (it, here) = present found (length places) more in
              let (place, there, stands) = so_far.each (length places) it here in
              let within = slice_get_within places (length places) place there in
              absurd (omega arith)
        ]
