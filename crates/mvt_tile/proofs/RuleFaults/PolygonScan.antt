-- A walk over the features of polygons, of a tile that is sound but for them.
use Rattle.std.proofs.Common.{◌≡◌, ◌≢◌, ℕ, ◌+◌, ◌<◌, ◌⊎◌, inl, inr, true, is_some, List, length, take, Option, Some, None, MatchOption, IfNone, IfSome, IfOk, OnOk, Result, Ok, Err, slice_get, refl, ◌∙◌, subst, arith}
use Rattle.std.proofs.lemmas.Bool.{cases_order}
use Rattle.mvt_fault.specs.Place.{IsLeast}
use Rattle.mvt_fault.specs.declared.fault.Fault.{Fault}
use Rattle.mvt_wire.specs.Field.{Entry}
use Rattle.mvt_wire.specs.Payload.{Span, span_of, spans_of}
use Rattle.mvt_wire.specs.Walk.{Walk, IsOver, GivesField}
use Rattle.mvt_rules.proofs.Tiles.PairedLists.{each_there}
use Rattle.mvt_rules.proofs.Tiles.Records.{one_feature}
use Rattle.mvt_rules.proofs.Tiles.Tiles.{one_layer}
use Rattle.mvt_rules.specs.Tile.{FeatureRecord, IsFeature, LayerRecord, IsLayer, TileRecord, IsTile}
use Rattle.mvt_tile.specs.Calls.FeatureRules.{AreSoundButPolygons, FindsInLayer, FindsInTile, IsFaultInLayer}
use Rattle.mvt_tile.specs.Calls.RuleFaults.{AreAfterTags}
use Rattle.mvt_tile.specs.FreeFaults.{IsLeastOr}
use Rattle.mvt_tile.specs.RuleFaults.{Breaks, Frees, Keeps, BreaksAnyRule, IsFaultOfFeature, KeepsButPolygons, KeepsRules}
use Rattle.mvt_tile.specs.View.{kind_number}
use Rattle.mvt_tile.specs.declared.record.Kind.{Kind}
use Rattle.mvt_tile.specs.declared.record.Kind.TheVariants.{Unknown, Point, LineString, Polygon}
use Rattle.mvt_tile.proofs.WireFaults.CleanWalk.{CleanWalk, CleanWalk-more, CleanWalk-next, CleanWalk-over}
use Rattle.mvt_tile.proofs.RuleFaults.FeatureFaults.{IsGoodFeature, IsGoodLayer, first_in_layer, first_in_tile, good_layer, good_tile}
use Rattle.mvt_tile.proofs.RuleFaults.FreeFaults.{least_unless_free, lifted}
use Rattle.mvt_tile.proofs.RuleFaults.RuleOrder.{all_kept, first_of_features}

-- Types

-- the number of polygons is that of no other type
other_number : (kind : Kind) → kind ≢ Polygon → kind_number kind ≢ 3
other_number Unknown other = λ same. absurd (omega arith)
other_number Point other = λ same. absurd (omega arith)
other_number LineString other = λ same. absurd (omega arith)
other_number Polygon other = absurd (other refl)

pub other_kind : (kind : Kind) (it : FeatureRecord) → kind ≢ Polygon → kind_number kind ≡ it.kind → it.kind ≢ 3
other_kind kind it other same is = other_number kind other (same ∙ is)

are_apart : (a b : ℕ) → (a < b) ⊎ (b < a) → a ≢ b
are_apart a b (inl less) = λ same. absurd (omega arith)
are_apart a b (inr less) = λ same. absurd (omega arith)

-- What was found

-- nothing
pub found_none : (X : Type 0) (First : Fault → Type 0) (found : Option Fault) → found ≡ None → X → MatchOption found X First
found_none X First None is holds = holds
found_none X First (Some fault) is holds = absurd (cc)

-- something
pub found_some : (X : Type 0) (First : Fault → Type 0) (found : Option Fault) → is_some found ≡ true → IfSome found First → MatchOption found X First
found_some X First None is first = absurd (cc)
found_some X First (Some fault) is first = first

module _ (IsBroken : Breaks) (IsKept : Keeps) where
  -- the features that were passed of a layer are sound
  abbrev pub PassedFeatures : List ℕ → Span → ℕ → Walk → ℕ → Type 0
  PassedFeatures bytes outer layer walk count = CleanWalk (IsGoodFeature IsBroken IsKept bytes (IsLayer bytes outer) layer) 2 (take outer.to bytes) outer.from walk count

  -- so are those of the layers that were passed
  abbrev pub PassedLayers : List ℕ → Walk → ℕ → Type 0
  PassedLayers bytes walk count = CleanWalk (IsGoodLayer IsBroken IsKept bytes) 3 (take (length bytes) bytes) 0 walk count

  -- a feature of polygons has none of the further rule's faults, and keeps it
  abbrev pub IsRightPolygon : ℕ → ℕ → FeatureRecord → Type 0
  IsRightPolygon layer feature it = ((fault : Fault) → ¬ IsBroken it layer feature fault) × IsKept it

  -- what the rule finds of a feature that is read is found of what stands there
  module _ (layer feature : ℕ) {R E : Type 0} (result : Result R E) (found : Option Fault) (Reads Stands : FeatureRecord → Type 0) (reads : (it : FeatureRecord) → Stands it → Reads it) where
    pub polygon_none : IfOk result (λ _. IfNone found ((it : FeatureRecord) → Reads it → (fault : Fault) → ¬ IsBroken it layer feature fault)) → IfOk result (λ _. IfNone found ((it : FeatureRecord) → Reads it → IsKept it))
        → OnOk result (IfNone found ((it : FeatureRecord) → Stands it → it.kind ≡ 3 → IsRightPolygon layer feature it))
    polygon_none = of_result result found
      where
        of_result : (result : Result R E) (found : Option Fault) → IfOk result (λ _. IfNone found ((it : FeatureRecord) → Reads it → (fault : Fault) → ¬ IsBroken it layer feature fault)) → IfOk result (λ _. IfNone found ((it : FeatureRecord) → Reads it → IsKept it))
            → OnOk result (IfNone found ((it : FeatureRecord) → Stands it → it.kind ≡ 3 → IsRightPolygon layer feature it))
        of_result (Err error) found none kept = tt
        of_result (Ok ok) None none kept = λ it stands polygons. (none it (reads it stands), kept it (reads it stands))
        of_result (Ok ok) (Some fault) none kept = tt

    pub polygon_found : (IsFree : Frees) → IfOk result (λ _. IfSome found (λ fault. (it : FeatureRecord) → Reads it → IsLeastOr IsFree (IsBroken it layer feature) fault))
        → OnOk result (IfSome found (λ fault. (it : FeatureRecord) → Stands it → IsLeastOr IsFree (IsBroken it layer feature) fault))
    polygon_found IsFree = of_result result found
      where
        of_result : (result : Result R E) (found : Option Fault) → IfOk result (λ _. IfSome found (λ fault. (it : FeatureRecord) → Reads it → IsLeastOr IsFree (IsBroken it layer feature) fault))
            → OnOk result (IfSome found (λ fault. (it : FeatureRecord) → Stands it → IsLeastOr IsFree (IsBroken it layer feature) fault))
        of_result (Err error) found first = tt
        of_result (Ok ok) None first = tt
        of_result (Ok ok) (Some fault) first = λ it stands. first it (reads it stands)

  -- A layer

  module _ (bytes : List ℕ) (outer : Span) (layer : ℕ) (known : (layer_record : LayerRecord) → IsLayer bytes outer layer_record → AreSoundButPolygons IsBroken IsKept layer_record layer) where
    module _ {old new : Walk} {count : ℕ} (so_far : PassedFeatures bytes outer layer old count) {entry : Entry} (given : GivesField old new entry) (own : entry.number ≡ 2) (span : Span) (there : span_of entry.content ≡ Some span) where
      -- the feature that is given is the next of the layer
      next_feature : (it : FeatureRecord) → IsFeature bytes span it → (layer_record : LayerRecord) → IsLayer bytes outer layer_record → slice_get layer_record.features count ≡ Some it
      next_feature it stands layer_record is =
          let next = CleanWalk-next so_far given own span there is.entries is.whole in
          let at = each_there (IsFeature bytes) (spans_of 2 is.entries) layer_record.features count span is.features next.here in
          subst (λ (its : FeatureRecord). slice_get layer_record.features count ≡ Some its) (one_feature bytes span at.0 it at.2 stands) at.1

      -- it is passed where nothing is found
      pub feature_passed : ((it : FeatureRecord) → IsFeature bytes span it → it.kind ≡ 3 → IsRightPolygon layer count it) → PassedFeatures bytes outer layer new (count + 1)
      feature_passed none = CleanWalk-more so_far given own span there good
        where
          right : (it : FeatureRecord) → IsFeature bytes span it → (layer_record : LayerRecord) → IsLayer bytes outer layer_record → IsRightPolygon layer count it
          right it stands layer_record is = elim (cases_order it.kind 3) [
            | inl polygons ↦ none it stands polygons
            | inr apart ↦ (known layer_record is).others count it (next_feature it stands layer_record is) (are_apart it.kind 3 apart)
          ]

          good : IsGoodFeature IsBroken IsKept bytes (IsLayer bytes outer) layer count span
          good it stands layer_record is = record {
            faultless = λ fault broken. elim broken [
              | inl of_tags ↦ (known layer_record is).tags count it (next_feature it stands layer_record is) fault of_tags
              | inr of_rule ↦ (right it stands layer_record is).0 fault of_rule
            ];
            kept = (right it stands layer_record is).1;
          }

      -- and what is found of it is found of the layer
      pub feature_found : AreAfterTags IsBroken → (IsFree : Frees) (found : Option Fault) → IfSome found (λ fault. (it : FeatureRecord) → IsFeature bytes span it → IsLeastOr IsFree (IsBroken it layer count) fault)
          → (layer_record : LayerRecord) → IsLayer bytes outer layer_record → IfSome found (IsLeastOr IsFree (IsFaultInLayer IsBroken layer_record layer))
      feature_found after_tags IsFree None first layer_record is = tt
      feature_found after_tags IsFree (Some fault) first layer_record is =
          first_in_layer IsBroken after_tags IsKept bytes outer layer_record is layer (IsLayer bytes outer) is IsFree count span fault (CleanWalk-next so_far given own span there is.entries is.whole)
          (λ it stands other other_is.
          lifted IsFree (IsBroken it layer count) fault (IsFaultOfFeature IsBroken other it layer count) (λ holds. inr holds)
          (λ its broken. elim broken [
            | inl of_tags ↦ absurd ((known other other_is).tags count it (next_feature it stands other other_is) its of_tags)
            | inr of_rule ↦ inl of_rule
          ]) (first it stands))

    -- after the last field all features are sound
    pub features_over : AreAfterTags IsBroken → (IsFree : Frees) {old new : Walk} {count : ℕ} → PassedFeatures bytes outer layer old count → IsOver old new → (found : Option Fault) → found ≡ None
        → (layer_record : LayerRecord) → IsLayer bytes outer layer_record → FindsInLayer IsFree IsBroken IsKept layer_record layer found
    features_over after_tags IsFree so_far over found none layer_record is =
        found_none _ _ found none (good_layer IsBroken after_tags IsKept bytes outer layer_record is layer (IsLayer bytes outer) is (CleanWalk-over so_far over is.entries is.whole))

  -- A tile

  module _ (bytes : List ℕ) (known : (tile : TileRecord) → IsTile bytes tile → KeepsButPolygons IsBroken IsKept tile) (after_tags : AreAfterTags IsBroken) where
    module _ {old new : Walk} {count : ℕ} (so_far : PassedLayers bytes old count) {entry : Entry} (given : GivesField old new entry) (own : entry.number ≡ 3) (span : Span) (there : span_of entry.content ≡ Some span) where
      -- what is known of the layer that is given
      pub layer_known : (tile : TileRecord) → IsTile bytes tile → (layer_record : LayerRecord) → IsLayer bytes span layer_record → AreSoundButPolygons IsBroken IsKept layer_record count
      layer_known tile is layer_record stands = record {
        tags = λ feature it here fault broken.
            (known tile is).parts fault (inr (record { layer = count; feature = feature; layer_record = layer_record; feature_record = it; there = record { in_tile = in_tile; in_layer = here }; broken = broken }));
        others = λ feature it here other. (known tile is).others count feature layer_record it (record { in_tile = in_tile; in_layer = here }) other;
      }
        where
          in_tile : slice_get tile.layers count ≡ Some layer_record
          in_tile =
              let next = CleanWalk-next so_far given own span there is.entries is.whole in
              let at = each_there (IsLayer bytes) (spans_of 3 is.entries) tile.layers count span is.layers next.here in
              subst (λ (its : LayerRecord). slice_get tile.layers count ≡ Some its) (one_layer bytes span at.0 layer_record at.2 stands) at.1

      -- it is passed where nothing is found
      pub layer_passed : (IsFree : Frees) (found : Option Fault) → found ≡ None → ((layer_record : LayerRecord) → IsLayer bytes span layer_record → FindsInLayer IsFree IsBroken IsKept layer_record count found)
          → PassedLayers bytes new (count + 1)
      layer_passed IsFree None none finds = CleanWalk-more so_far given own span there finds
      layer_passed IsFree (Some fault) none finds = absurd (cc)

      -- and what is found of it is found of the tile
      pub layer_found : (IsFree : Frees) (found : Option Fault) → is_some found ≡ true → ((layer_record : LayerRecord) → IsLayer bytes span layer_record → FindsInLayer IsFree IsBroken IsKept layer_record count found)
          → (tile : TileRecord) → IsTile bytes tile → FindsInTile IsFree IsBroken IsKept tile found
      layer_found IsFree None some finds tile is = absurd (cc)
      layer_found IsFree (Some fault) some finds tile is =
          first_in_tile IsBroken after_tags IsKept bytes tile is IsFree count span fault (CleanWalk-next so_far given own span there is.entries is.whole) finds

    -- after the last field all features are sound
    pub layers_over : (IsFree : Frees) {old new : Walk} {count : ℕ} → PassedLayers bytes old count → IsOver old new → (found : Option Fault) → found ≡ None
        → (tile : TileRecord) → IsTile bytes tile → FindsInTile IsFree IsBroken IsKept tile found
    layers_over IsFree so_far over found none tile is = found_none _ _ found none (good_tile IsBroken after_tags IsKept bytes tile is (CleanWalk-over so_far over is.entries is.whole))

    -- what is found of the features is found of all rules
    module _ (IsFree : Frees) where
      pub rules_kept : (found : Option Fault) → ((tile : TileRecord) → IsTile bytes tile → FindsInTile IsFree IsBroken IsKept tile found) → IfNone found ((tile : TileRecord) → IsTile bytes tile → KeepsRules IsKept tile)
      rules_kept None finds = λ tile is. all_kept IsBroken after_tags tile IsKept (λ fault of_layers. (known tile is).parts fault (inl of_layers)) (finds tile is)
      rules_kept (Some fault) finds = tt

      pub rule_found : (found : Option Fault) → ((tile : TileRecord) → IsTile bytes tile → FindsInTile IsFree IsBroken IsKept tile found)
          → IfSome found (λ fault. (tile : TileRecord) → IsTile bytes tile → IsLeastOr IsFree (BreaksAnyRule IsBroken tile) fault)
      rule_found None finds = tt
      rule_found (Some fault) finds = λ tile is. first_of_features IsBroken after_tags tile IsFree (λ its of_layers. (known tile is).parts its (inl of_layers)) fault (finds tile is)

      pub rule_least : ((fault : Fault) → ¬ IsFree fault) → (found : Option Fault) → ((tile : TileRecord) → IsTile bytes tile → FindsInTile IsFree IsBroken IsKept tile found)
          → IfSome found (λ fault. (tile : TileRecord) → IsTile bytes tile → IsLeast (BreaksAnyRule IsBroken tile) fault)
      rule_least never None finds = tt
      rule_least never (Some fault) finds = λ tile is. least_unless_free IsFree (BreaksAnyRule IsBroken tile) fault never (rule_found (Some fault) finds tile is)
