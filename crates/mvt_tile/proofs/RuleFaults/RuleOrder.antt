-- Of the faults of a tile's bytes, those of layers come first and those of features after them; there are no others.
use Rattle.std.proofs.Common.{◌≡◌, ℕ, ◌⊎◌, inl, inr, List, ◌∷◌, length, Option, Some, None, IfSome, IfNone, sym, subst, arith}
use Rattle.mvt_rules.specs.Tile.{TileRecord, IsTile}
use Rattle.mvt_fault.specs.Place.{ComesFirst, IsLeast, place_of}
use Rattle.mvt_rules.specs.Parts.TrueFaults.{BreaksRule, IsFaultOfLayers, OneFeatureHas, version}
use Rattle.mvt_fault.specs.declared.fault.Fault.{Fault}
use Rattle.mvt_tile.specs.FreeFaults.{IsLeastOr, of_least}
use Rattle.mvt_tile.specs.RuleFaults.{Breaks, Frees, Keeps, BreaksAnyRule, KeepsRules, IsFaultOfFeature}
use Rattle.mvt_tile.specs.Calls.FeatureRules.{AllSound, FindsInTile}
use Rattle.mvt_tile.specs.Calls.PassedLayers.{passed, EndsLayers, StoresOfLayers}
use Rattle.mvt_tile.specs.Calls.RuleFaults.{AreAfterTags}
use Rattle.mvt_tile.specs.declared.rules.layer_rules.LayerRules.{LayerRules}
use Rattle.mvt_fault.specs.declared.fault.Fault.TheVariants.{Version}
use Rattle.mvt_tile.proofs.RuleFaults.FeatureFaults.{features_begin}
use Rattle.mvt_tile.proofs.RuleFaults.FreeFaults.{least_unless_free, lifted}
use Rattle.mvt_tile.proofs.RuleFaults.LayerNames.{place_of_layer}

-- the place of a fault of layers begins as those of all layers do
layers_begin : (tile : TileRecord) (fault : Fault) → IsFaultOfLayers tile fault → (rest : List ℕ) × (place_of fault ≡ 1 ∷ rest)
layers_begin tile fault holds = let its = place_of_layer tile fault holds in (its.0 ∷ its.2, its.3)

module _ (IsBroken : Breaks) (after_tags : AreAfterTags IsBroken) where
  -- so a fault of layers comes before one of features
  layers_first : (tile : TileRecord) (fault other : Fault) → IsFaultOfLayers tile fault → OneFeatureHas (IsFaultOfFeature IsBroken) tile other → ComesFirst (place_of fault) (place_of other)
  layers_first tile fault other of_layers of_features =
      let first = layers_begin tile fault of_layers in
      let second = features_begin IsBroken after_tags tile other of_features in
      let ordered : ComesFirst (1 ∷ first.0) (2 ∷ second.0) = inl (omega arith) in
      subst (λ (place : List ℕ). ComesFirst place (place_of other)) (sym first.1) (subst (ComesFirst (1 ∷ first.0)) (sym second.1) ordered)

  -- each fault of a tile is one of its layers or one of its features
  pub by_part : (tile : TileRecord) (fault : Fault) → BreaksAnyRule IsBroken tile fault → IsFaultOfLayers tile fault ⊎ OneFeatureHas (IsFaultOfFeature IsBroken) tile fault
  by_part tile fault (inl (inl of_layers)) = inl of_layers
  by_part tile fault (inl (inr of_tags)) =
      inr (record { layer = of_tags.layer; feature = of_tags.feature; layer_record = of_tags.layer_record; feature_record = of_tags.feature_record; there = of_tags.there; broken = inl of_tags.broken })
  by_part tile fault (inr of_rule) =
      inr (record { layer = of_rule.layer; feature = of_rule.feature; layer_record = of_rule.layer_record; feature_record = of_rule.feature_record; there = of_rule.there; broken = inr of_rule.broken })

  -- and the other way round
  pub of_feature : (tile : TileRecord) (fault : Fault) (holds : OneFeatureHas (IsFaultOfFeature IsBroken) tile fault) → BreaksAnyRule IsBroken tile fault
  of_feature tile fault holds = elim holds.broken [
    | inl of_tags ↦ inl (inr (record { layer = holds.layer; feature = holds.feature; layer_record = holds.layer_record; feature_record = holds.feature_record; there = holds.there; broken = of_tags }))
    | inr of_rule ↦ inr (record { layer = holds.layer; feature = holds.feature; layer_record = holds.layer_record; feature_record = holds.feature_record; there = holds.there; broken = of_rule })
  ]

  module _ (tile : TileRecord) where
    pub least_of_layers : (fault : Fault) → IsLeast (IsFaultOfLayers tile) fault → IsLeast (BreaksAnyRule IsBroken tile) fault
    least_of_layers fault first = record {
      holds = inl (inl first.holds);
      least = λ other holds. elim (by_part tile other holds) [
        | inl in_layers ↦ first.least other in_layers
        | inr in_features ↦ layers_first tile fault other first.holds in_features
      ];
    }

    pub first_of_features : (IsFree : Frees) → ((fault : Fault) → ¬ IsFaultOfLayers tile fault) → (fault : Fault) → IsLeastOr IsFree (OneFeatureHas (IsFaultOfFeature IsBroken) tile) fault → IsLeastOr IsFree (BreaksAnyRule IsBroken tile) fault
    first_of_features IsFree none fault first =
        lifted IsFree (OneFeatureHas (IsFaultOfFeature IsBroken) tile) fault (BreaksAnyRule IsBroken tile) (λ holds. of_feature tile fault holds)
        (λ other holds. elim (by_part tile other holds) [
          | inl in_layers ↦ absurd (none other in_layers)
          | inr in_features ↦ inl in_features
        ]) first

    -- where the layers have no fault and the features are sound, the tile keeps the rules
    pub all_kept : (IsKept : Keeps) → ((fault : Fault) → ¬ IsFaultOfLayers tile fault) → AllSound IsBroken IsKept tile → KeepsRules IsKept tile
    all_kept IsKept none sound = record { parts = parts; features = λ layer feature layer_record feature_record there. (sound layer feature layer_record feature_record there).kept }
      where
        parts : (fault : Fault) → ¬ BreaksRule tile fault
        parts fault (inl of_layers) = none fault of_layers
        parts fault (inr of_tags) = (sound of_tags.layer of_tags.feature of_tags.layer_record of_tags.feature_record of_tags.there).faultless fault (inl of_tags.broken)

  -- Where the layers have no fault, all were passed, and the features decide.
  module _ (bytes : List ℕ) (rules : LayerRules) (ends : (tile : TileRecord) → IsTile bytes tile → EndsLayers rules tile)
      (none : (tile : TileRecord) → EndsLayers rules tile → (fault : Fault) → ¬ IsFaultOfLayers tile fault) where
    all_passed : (tile : TileRecord) → IsTile bytes tile → passed rules ≡ length tile.layers
    all_passed tile is = elim (ends tile is).end [
      | inl next ↦ absurd (none tile (ends tile is) (Version (passed rules)) (version (passed rules) (record { layer_record = next.1.layer_record; there = next.1.there; other = next.1.other })))
      | inr last ↦ sym last.1
    ]

    module _ (IsFree : Frees) (IsKept : Keeps) where
      pub no_rule_broken : (found : Option Fault) → ((tile : TileRecord) → IsTile bytes tile → passed rules ≡ length tile.layers → FindsInTile IsFree IsBroken IsKept tile found)
          → IfNone found ((tile : TileRecord) → IsTile bytes tile → KeepsRules IsKept tile)
      no_rule_broken (Some fault) finds = tt
      no_rule_broken None finds = λ tile is. all_kept tile IsKept (none tile (ends tile is)) (finds tile is (all_passed tile is))

      pub features_fault : (found : Option Fault) → ((tile : TileRecord) → IsTile bytes tile → passed rules ≡ length tile.layers → FindsInTile IsFree IsBroken IsKept tile found)
          → IfSome found (λ (first : Fault). (tile : TileRecord) → IsTile bytes tile → IsLeastOr IsFree (BreaksAnyRule IsBroken tile) first)
      features_fault None finds = tt
      features_fault (Some fault) finds = λ tile is. first_of_features tile IsFree (none tile (ends tile is)) fault (finds tile is (all_passed tile is))

      -- where none is free
      pub least_fault : (found : Option Fault) → ((fault : Fault) → ¬ IsFree fault) → ((tile : TileRecord) → IsTile bytes tile → passed rules ≡ length tile.layers → FindsInTile IsFree IsBroken IsKept tile found)
          → IfSome found (λ (first : Fault). (tile : TileRecord) → IsTile bytes tile → IsLeast (BreaksAnyRule IsBroken tile) first)
      least_fault None never finds = tt
      least_fault (Some fault) never finds = λ tile is. least_unless_free IsFree (BreaksAnyRule IsBroken tile) fault never (features_fault (Some fault) finds tile is)

  -- With the fault of the layers in place of that of the features, if they have any.
  module _ (bytes : List ℕ) (rules : LayerRules) (ends : (tile : TileRecord) → IsTile bytes tile → EndsLayers rules tile) (IsFree : Frees) (IsKept : Keeps) (before after : Option Fault)
      (finds : (tile : TileRecord) → IsTile bytes tile → passed rules ≡ length tile.layers → FindsInTile IsFree IsBroken IsKept tile before) where
    abbrev Kept : Type 0
    Kept = (tile : TileRecord) → IsTile bytes tile → KeepsRules IsKept tile

    abbrev IsFirst : Fault → Type 0
    IsFirst first = (tile : TileRecord) → IsTile bytes tile → IsLeastOr IsFree (BreaksAnyRule IsBroken tile) first

    abbrev IsAlone : Fault → Type 0
    IsAlone first = (tile : TileRecord) → IsTile bytes tile → IsLeast (BreaksAnyRule IsBroken tile) first

    pub stored_none : StoresOfLayers rules before after → IfNone after Kept
    stored_none (inl it) = subst (λ (found : Option Fault). IfNone found Kept) (sym it.1) tt
    stored_none (inr it) = subst (λ (found : Option Fault). IfNone found Kept) (sym it.0) (no_rule_broken bytes rules ends it.1 IsFree IsKept before finds)

    pub stored_first : StoresOfLayers rules before after → IfSome after IsFirst
    stored_first (inl it) = subst (λ (found : Option Fault). IfSome found IsFirst) (sym it.1) (λ tile is. of_least (least_of_layers tile it.0 (it.2 tile (ends tile is))))
    stored_first (inr it) = subst (λ (found : Option Fault). IfSome found IsFirst) (sym it.0) (features_fault bytes rules ends it.1 IsFree IsKept before finds)

    pub stored_least : ((fault : Fault) → ¬ IsFree fault) → StoresOfLayers rules before after → IfSome after IsAlone
    stored_least never (inl it) = subst (λ (found : Option Fault). IfSome found IsAlone) (sym it.1) (λ tile is. least_of_layers tile it.0 (it.2 tile (ends tile is)))
    stored_least never (inr it) = subst (λ (found : Option Fault). IfSome found IsAlone) (sym it.0) (least_fault bytes rules ends it.1 IsFree IsKept before never finds)

-- what was stored of the layers alone
module _ (rules : LayerRules) (tile : TileRecord) (ends : EndsLayers rules tile) (found : Option Fault) where
  abbrev NoFault : Type 0
  NoFault = (fault : Fault) → ¬ IsFaultOfLayers tile fault

  pub layers_none : StoresOfLayers rules None found → IfNone found NoFault
  layers_none (inl it) = subst (λ (first : Option Fault). IfNone first NoFault) (sym it.1) tt
  layers_none (inr it) = subst (λ (first : Option Fault). IfNone first NoFault) (sym it.0) (it.1 tile ends)

  pub layers_least : StoresOfLayers rules None found → IfSome found (IsLeast (IsFaultOfLayers tile))
  layers_least (inl it) = subst (λ (first : Option Fault). IfSome first (IsLeast (IsFaultOfLayers tile))) (sym it.1) (it.2 tile ends)
  layers_least (inr it) = subst (λ (first : Option Fault). IfSome first (IsLeast (IsFaultOfLayers tile))) (sym it.0) tt
