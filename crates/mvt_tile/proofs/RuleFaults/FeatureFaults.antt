-- Which fault of the features of a tile comes first: it is one of the first feature that has a fault, and there the tags
-- come before the further rule.
use Rattle.std.proofs.Common.{◌≡◌, ℕ, ◌<◌, ◌≤◌, ◌⊎◌, inl, inr, List, ◌∷◌, length, Option, Some, None, Result, Ok, Err, IfOk, IfNone, IfSome, slice_get, refl, sym, ◌∙◌, ap, subst, arith}
use Rattle.std.proofs.lemmas.Bool.{cases_lt}
use Rattle.std.proofs.lemmas.Option.{same_Some}
use Rattle.mvt_wire.specs.Payload.{Span, spans_of}
use Rattle.mvt_rules.specs.Tile.{FeatureRecord, IsFeature, LayerRecord, IsLayer, TileRecord, IsTile}
use Rattle.mvt_fault.specs.Place.{ComesFirst, IsLeast, place_of}
use Rattle.mvt_rules.specs.Parts.TrueFaults.{IsFaultOfTags, OneFeatureHas, tag}
use Rattle.mvt_rules.specs.Rules.{TagsBreak}
use Rattle.mvt_fault.specs.declared.fault.Fault.{Fault}
use Rattle.mvt_fault.specs.declared.fault.Fault.TheVariants.{Tag}
use Rattle.mvt_fault.specs.declared.tag.TagCode.{TagCode}
use Rattle.mvt_fault.specs.declared.tag.TagCode.TheVariants.{OddLength, NoKey, NoValue, Repeated}
use Rattle.mvt_rules.proofs.Tiles.PairedLists.{each_here, each_there}
use Rattle.mvt_tile.specs.FreeFaults.{IsLeastOr}
use Rattle.mvt_tile.specs.RuleFaults.{Breaks, Frees, Keeps, IsAfterTags, IsFaultOfFeature, IsSoundFeature, AllSoundInLayer}
use Rattle.mvt_tile.specs.Calls.FeatureRules.{IsFaultInLayer, AllSound, FindsInFeature}
use Rattle.mvt_wire.specs.Embedded.{AreClean}
use Rattle.mvt_tile.specs.Calls.RuleFaults.{AreAfterTags, IsFirstTagFault}
use Rattle.mvt_tile.specs.Enough.{IsLike}
use Rattle.mvt_tile.specs.Calls.PassedTags.{AreMetBy}
use Rattle.mvt_tile.specs.declared.rules.tags.TagNeeds.{TagNeeds}
use Rattle.mvt_tile.proofs.WireFaults.CleanWalk.{IsNext}
use Rattle.mvt_tile.proofs.RuleFaults.FreeFaults.{least_or_holds, lifted}
use Rattle.mvt_tile.proofs.RuleFaults.TagFaults.{IsLeast-first, no_tag_broken}

-- the feature in a span is sound, in each layer of which so much is known
abbrev pub IsGoodFeature : Breaks → Keeps → List ℕ → (LayerRecord → Type 0) → ℕ → ℕ → Span → Type 0
IsGoodFeature IsBroken IsKept bytes IsKnown layer ordinal span =
    (it : FeatureRecord) → IsFeature bytes span it → (layer_record : LayerRecord) → IsKnown layer_record → IsSoundFeature IsBroken IsKept layer_record it layer ordinal

-- it has this one as its first fault, or a free one
abbrev pub IsFirstOfFeature : Frees → Breaks → List ℕ → (LayerRecord → Type 0) → ℕ → Fault → ℕ → Span → Type 0
IsFirstOfFeature IsFree IsBroken bytes IsKnown layer fault ordinal span =
    (it : FeatureRecord) → IsFeature bytes span it → (layer_record : LayerRecord) → IsKnown layer_record → IsLeastOr IsFree (IsFaultOfFeature IsBroken layer_record it layer ordinal) fault

-- all features of the layer in a span are sound
abbrev pub IsGoodLayer : Breaks → Keeps → List ℕ → ℕ → Span → Type 0
IsGoodLayer IsBroken IsKept bytes ordinal span = (layer_record : LayerRecord) → IsLayer bytes span layer_record → AllSoundInLayer IsBroken IsKept layer_record ordinal

-- this is the first of the faults that they have, or a free one
abbrev pub IsFirstInLayer : Frees → Breaks → List ℕ → Fault → ℕ → Span → Type 0
IsFirstInLayer IsFree IsBroken bytes fault ordinal span = (layer_record : LayerRecord) → IsLayer bytes span layer_record → IsLeastOr IsFree (IsFaultInLayer IsBroken layer_record ordinal) fault

-- the fault's place is one of this feature's
abbrev IsPlaceAt : ℕ → ℕ → Fault → Type 0
IsPlaceAt layer feature fault = (rest : List ℕ) × (place_of fault ≡ 2 ∷ layer ∷ feature ∷ rest)

-- of two features' places, those of the earlier layer come first, and in one layer those of the earlier feature
by_layer : (fault other : Fault) (layer feature other_layer other_feature : ℕ) → IsPlaceAt layer feature fault → IsPlaceAt other_layer other_feature other → layer < other_layer → ComesFirst (place_of fault) (place_of other)
by_layer fault other layer feature other_layer other_feature first second less =
    let ordered : ComesFirst (2 ∷ layer ∷ feature ∷ first.0) (2 ∷ other_layer ∷ other_feature ∷ second.0) = inr (refl, inl less) in
    subst (λ (place : List ℕ). ComesFirst place (place_of other)) (sym first.1) (subst (ComesFirst (2 ∷ layer ∷ feature ∷ first.0)) (sym second.1) ordered)

by_feature : (fault other : Fault) (layer feature other_feature : ℕ) → IsPlaceAt layer feature fault → IsPlaceAt layer other_feature other → feature < other_feature → ComesFirst (place_of fault) (place_of other)
by_feature fault other layer feature other_feature first second less =
    let ordered : ComesFirst (2 ∷ layer ∷ feature ∷ first.0) (2 ∷ layer ∷ other_feature ∷ second.0) = inr (refl, inr (refl, inl less)) in
    subst (λ (place : List ℕ). ComesFirst place (place_of other)) (sym first.1) (subst (ComesFirst (2 ∷ layer ∷ feature ∷ first.0)) (sym second.1) ordered)

-- the tags have the same faults in the layer as in one of so many keys and values
pub record HasSameTagFaults (keys values : ℕ) (layer : LayerRecord) (tags : List ℕ) : Type 0 where
  pub there : (code : TagCode) (place : ℕ) → TagsBreak code keys values tags place → TagsBreak code (length layer.keys) (length layer.values) tags place
  pub back : (code : TagCode) (place : ℕ) → TagsBreak code (length layer.keys) (length layer.values) tags place → TagsBreak code keys values tags place

-- so it is where the layer is like that one
pub HasSameTagFaults-like : (keys values : ℕ) (needs own : TagNeeds) (layer : LayerRecord) (tags : List ℕ) → AreMetBy own tags → own.keys ≤ needs.keys → own.values ≤ needs.values
    → IsLike keys values needs layer → HasSameTagFaults keys values layer tags
HasSameTagFaults-like keys values needs own layer tags met in_keys in_values (inl same) = record {
  there = λ code place broken. subst (λ (n : ℕ). TagsBreak code (length layer.keys) n tags place) same.1 (subst (λ (n : ℕ). TagsBreak code n values tags place) same.0 broken);
  back = λ code place broken.
      subst (λ (n : ℕ). TagsBreak code n values tags place) (sym same.0) (subst (λ (n : ℕ). TagsBreak code (length layer.keys) n tags place) (sym same.1) broken);
}
HasSameTagFaults-like keys values needs own layer tags met in_keys in_values (inr enough) = record { there = there; back = back }
  where
    there : (code : TagCode) (place : ℕ) → TagsBreak code keys values tags place → TagsBreak code (length layer.keys) (length layer.values) tags place
    there OddLength place broken = broken
    there NoKey place broken = absurd (met.keys keys place (omega (arith, enough.1)) broken)
    there NoValue place broken = absurd (met.values values place (omega (arith, enough.2)) broken)
    there Repeated place broken = broken

    back : (code : TagCode) (place : ℕ) → TagsBreak code (length layer.keys) (length layer.values) tags place → TagsBreak code keys values tags place
    back OddLength place broken = broken
    back NoKey place broken = absurd (met.keys (length layer.keys) place (omega (arith, enough.0.keys)) broken)
    back NoValue place broken = absurd (met.values (length layer.values) place (omega (arith, enough.0.values)) broken)
    back Repeated place broken = broken

module _ (IsBroken : Breaks) where
  -- one feature: its tags decide where they have a fault
  module _ (keys values : ℕ) (layer_record : LayerRecord) (it : FeatureRecord) (same : HasSameTagFaults keys values layer_record it.tags) (layer feature : ℕ) where
    -- the first fault of the tags, by the layer's own numbers of keys and values
    first_in_layer_of : (code : TagCode) (index : ℕ) → IsFirstTagFault keys values it.tags code index → IsFirstTagFault (length layer_record.keys) (length layer_record.values) it.tags code index
    first_in_layer_of code index first = record {
      broken = same.there code index first.broken;
      first = λ other place broken. first.first other place (same.back other place broken);
    }

    pub tags_decide : ((fault : Fault) → IsBroken it layer feature fault → IsAfterTags layer feature (place_of fault)) → (code : TagCode) (index : ℕ)
        → IsFirstTagFault keys values it.tags code index → IsLeast (IsFaultOfFeature IsBroken layer_record it layer feature) (Tag code layer feature index)
    tags_decide after_tags code index first = record { holds = inl of_tags.holds; least = following }
      where
        of_tags : IsLeast (IsFaultOfTags layer_record it layer feature) (Tag code layer feature index)
        of_tags = IsLeast-first layer_record it layer feature code index (first_in_layer_of code index first)

        following : (other : Fault) → IsFaultOfFeature IsBroken layer_record it layer feature other → ComesFirst (place_of (Tag code layer feature index)) (place_of other)
        following other (inl broken) = of_tags.least other broken
        following other (inr broken) =
            let place = after_tags other broken in
            let later = place.2 in
            let ordered : ComesFirst (place_of (Tag code layer feature index)) (2 ∷ layer ∷ feature ∷ place.0 ∷ place.1) = inr (refl, inr (refl, inr (refl, inl (omega arith)))) in
            subst (ComesFirst (place_of (Tag code layer feature index))) (sym place.3) ordered

  -- with no fault of the tags, the further rule decides
  pub rule_decides : (IsFree : Frees) (IsKept : Keeps) (Reads : FeatureRecord → Type 0) (Has : LayerRecord → Type 0) (layer feature : ℕ) {R E : Type 0} (r : Result R E) (found : Option Fault)
      → IfOk r (λ _. IfNone found ((it : FeatureRecord) → Reads it → (fault : Fault) → ¬ IsBroken it layer feature fault))
      → IfOk r (λ _. IfNone found ((it : FeatureRecord) → Reads it → IsKept it))
      → IfOk r (λ _. IfSome found (λ fault. (it : FeatureRecord) → Reads it → IsLeastOr IsFree (IsBroken it layer feature) fault))
      → ((layer_record : LayerRecord) (it : FeatureRecord) → Reads it → Has layer_record → (code : TagCode) (place : ℕ) → ¬ TagsBreak code (length layer_record.keys) (length layer_record.values) it.tags place)
      → IfOk r (λ _. (layer_record : LayerRecord) (it : FeatureRecord) → Reads it → Has layer_record → FindsInFeature IsFree IsBroken IsKept layer_record it layer feature found)
  rule_decides IsFree IsKept Reads Has layer feature (Err e) found none kept first whole = tt
  rule_decides IsFree IsKept Reads Has layer feature (Ok r) None none kept first whole = λ layer_record it reads has. record {
    faultless = λ fault broken. elim broken [
      | inl of_tags ↦ no_tag_broken layer_record it layer feature (whole layer_record it reads has) fault of_tags
      | inr of_rule ↦ none it reads fault of_rule
    ];
    kept = kept it reads;
  }
  rule_decides IsFree IsKept Reads Has layer feature (Ok r) (Some fault) none kept first whole = λ layer_record it reads has.
      lifted IsFree (IsBroken it layer feature) fault (IsFaultOfFeature IsBroken layer_record it layer feature) (λ holds. inr holds)
      (λ other broken. elim broken [
        | inl of_tags ↦ absurd (no_tag_broken layer_record it layer feature (whole layer_record it reads has) other of_tags)
        | inr of_rule ↦ inl of_rule
      ]) (first it reads)

  module _ (after_tags : AreAfterTags IsBroken) where
    -- each fault of a feature is at one of its places
    pub place_at : (layer_record : LayerRecord) (it : FeatureRecord) (layer feature : ℕ) (fault : Fault) → IsFaultOfFeature IsBroken layer_record it layer feature fault → IsPlaceAt layer feature fault
    place_at layer_record it layer feature fault (inl (tag code index broken)) = (_, refl)
    place_at layer_record it layer feature fault (inr broken) = let place = after_tags it layer feature fault broken in (_, place.3)

    -- the place of a fault of a tile's features begins as those of all features do
    pub features_begin : (tile : TileRecord) (fault : Fault) → OneFeatureHas (IsFaultOfFeature IsBroken) tile fault → (rest : List ℕ) × (place_of fault ≡ 2 ∷ rest)
    features_begin tile fault holds = let place = place_at holds.layer_record holds.feature_record holds.layer holds.feature fault holds.broken in (_, place.1)

    -- it is a fault of its layer
    in_its_layer : (tile : TileRecord) (fault : Fault) (holds : OneFeatureHas (IsFaultOfFeature IsBroken) tile fault) → IsFaultInLayer IsBroken holds.layer_record holds.layer fault
    in_its_layer tile fault holds = record { feature = holds.feature; feature_record = holds.feature_record; there = holds.there.in_layer; broken = holds.broken }

    module _ (IsKept : Keeps) where
      module _ (bytes : List ℕ) (span : Span) (layer_record : LayerRecord) (is : IsLayer bytes span layer_record) (layer : ℕ) (IsKnown : LayerRecord → Type 0) (known : IsKnown layer_record) where
        -- where each feature is good, all are sound
        pub good_layer : AreClean (IsGoodFeature IsBroken IsKept bytes IsKnown layer) (spans_of 2 is.entries) → AllSoundInLayer IsBroken IsKept layer_record layer
        good_layer clean feature it there =
            let member = each_here (IsFeature bytes) (spans_of 2 is.entries) layer_record.features feature it is.features there in
            clean feature member.0 member.1 it member.2 layer_record known

        -- what is found of the first feature that has a fault comes before those of all later ones of the layer
        pub first_in_layer : (IsFree : Frees) (feature : ℕ) (inner : Span) (fault : Fault) → IsNext (IsGoodFeature IsBroken IsKept bytes IsKnown layer) (spans_of 2 is.entries) feature inner
            → IsFirstOfFeature IsFree IsBroken bytes IsKnown layer fault feature inner → IsLeastOr IsFree (IsFaultInLayer IsBroken layer_record layer) fault
        first_in_layer IsFree feature inner fault next found =
            lifted IsFree Own fault (IsFaultInLayer IsBroken layer_record layer) (λ broken. record { feature = feature; feature_record = at.0; there = at.1; broken = broken }) following first
          where
            at : (it : FeatureRecord) × (slice_get layer_record.features feature ≡ Some it) × IsFeature bytes inner it
            at = each_there (IsFeature bytes) (spans_of 2 is.entries) layer_record.features feature inner is.features next.here

            Own : Fault → Type 0
            Own = IsFaultOfFeature IsBroken layer_record at.0 layer feature

            first : IsLeastOr IsFree Own fault
            first = found at.0 at.2 layer_record known

            following : (other : Fault) → IsFaultInLayer IsBroken layer_record layer other → Own other ⊎ ComesFirst (place_of fault) (place_of other)
            following other holds =
                let member = each_here (IsFeature bytes) (spans_of 2 is.entries) layer_record.features holds.feature holds.feature_record is.features holds.there in
                elim (cases_lt feature holds.feature) [
                  | inl later ↦
                      inr (by_feature fault other layer feature holds.feature (place_at layer_record at.0 layer feature fault (least_or_holds IsFree Own fault first))
                      (place_at layer_record holds.feature_record layer holds.feature other holds.broken) later)
                  | inr not_later ↦ elim (cases_lt holds.feature feature) [
                    | inl earlier ↦ absurd ((next.before holds.feature member.0 earlier member.1 holds.feature_record member.2 layer_record known).faultless other holds.broken)
                    | inr not_earlier ↦
                        let same : holds.feature ≡ feature = omega arith in
                        let one : holds.feature_record ≡ at.0 = same_Some _ _ (sym holds.there ∙ ap (slice_get layer_record.features) same ∙ at.1) in
                        inl (subst (λ (it : FeatureRecord). IsFaultOfFeature IsBroken layer_record it layer feature other) one
                        (subst (λ (ordinal : ℕ). IsFaultOfFeature IsBroken layer_record holds.feature_record layer ordinal other) same holds.broken))
                  ]
                ]

      module _ (bytes : List ℕ) (tile : TileRecord) (is : IsTile bytes tile) where
        -- where each layer is good, all features are sound
        pub good_tile : AreClean (IsGoodLayer IsBroken IsKept bytes) (spans_of 3 is.entries) → AllSound IsBroken IsKept tile
        good_tile clean layer feature layer_record it there =
            let member = each_here (IsLayer bytes) (spans_of 3 is.entries) tile.layers layer layer_record is.layers there.in_tile in
            clean layer member.0 member.1 layer_record member.2 feature it there.in_layer

        -- what is found in the first layer that has a fault comes before those of all later ones
        pub first_in_tile : (IsFree : Frees) (layer : ℕ) (inner : Span) (fault : Fault) → IsNext (IsGoodLayer IsBroken IsKept bytes) (spans_of 3 is.entries) layer inner
            → IsFirstInLayer IsFree IsBroken bytes fault layer inner → IsLeastOr IsFree (OneFeatureHas (IsFaultOfFeature IsBroken) tile) fault
        first_in_tile IsFree layer inner fault next found =
            lifted IsFree Own fault (OneFeatureHas (IsFaultOfFeature IsBroken) tile)
            (λ held. record { layer = layer; feature = held.feature; layer_record = at.0; feature_record = held.feature_record; there = record { in_tile = at.1; in_layer = held.there }; broken = held.broken })
            following first
          where
            at : (layer_record : LayerRecord) × (slice_get tile.layers layer ≡ Some layer_record) × IsLayer bytes inner layer_record
            at = each_there (IsLayer bytes) (spans_of 3 is.entries) tile.layers layer inner is.layers next.here

            Own : Fault → Type 0
            Own = IsFaultInLayer IsBroken at.0 layer

            first : IsLeastOr IsFree Own fault
            first = found at.0 at.2

            held : IsFaultInLayer IsBroken at.0 layer fault
            held = least_or_holds IsFree Own fault first

            following : (other : Fault) → OneFeatureHas (IsFaultOfFeature IsBroken) tile other → Own other ⊎ ComesFirst (place_of fault) (place_of other)
            following other holds =
                let member = each_here (IsLayer bytes) (spans_of 3 is.entries) tile.layers holds.layer holds.layer_record is.layers holds.there.in_tile in
                elim (cases_lt layer holds.layer) [
                  | inl later ↦
                      inr (by_layer fault other layer held.feature holds.layer holds.feature (place_at at.0 held.feature_record layer held.feature fault held.broken)
                      (place_at holds.layer_record holds.feature_record holds.layer holds.feature other holds.broken) later)
                  | inr not_later ↦ elim (cases_lt holds.layer layer) [
                    | inl earlier ↦
                        absurd ((next.before holds.layer member.0 earlier member.1 holds.layer_record member.2 holds.feature holds.feature_record holds.there.in_layer).faultless other holds.broken)
                    | inr not_earlier ↦
                        let same : holds.layer ≡ layer = omega arith in
                        let one : holds.layer_record ≡ at.0 = same_Some _ _ (sym holds.there.in_tile ∙ ap (slice_get tile.layers) same ∙ at.1) in
                        inl (subst (λ (its : LayerRecord). IsFaultInLayer IsBroken its layer other) one (subst (λ (l : ℕ). IsFaultInLayer IsBroken holds.layer_record l other) same (in_its_layer tile other holds)))
                  ]
                ]
