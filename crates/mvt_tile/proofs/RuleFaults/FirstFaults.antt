-- The first faults of a tile: those of its layers and then those of its features, and what follows from them.
use Rattle.std.proofs.Common.{◌≡◌, ℕ, zero, suc, ◌+◌, ◌<◌, ◌⊎◌, inl, inr, List, [], ◌∷◌, ◌++◌, length, take, Some, slice_get, refl, sym, ◌∙◌, ap, subst, arith}
use Rattle.std.proofs.lemmas.Bool.{cases_lt}
use Rattle.std.proofs.lemmas.Option.{slice_get_within, same_Some}
use Rattle.mvt_rules.specs.Rules.{IsFeatureOf}
use Rattle.mvt_rules.specs.Tile.{FeatureRecord, LayerRecord, TileRecord}
use Rattle.mvt_fault.specs.Place.{ComesFirst, IsLeast, place_of}
use Rattle.mvt_rules.specs.Parts.TrueFaults.{IsFaultOfLayers, OneFeatureHas}
use Rattle.mvt_fault.specs.declared.fault.Fault.{Fault}
use Rattle.mvt_fault.proofs.Places.{ComesFirst-antisymmetric, ComesFirst-reflexive, ComesFirst-transitive}
use Rattle.mvt_tile.specs.FirstFaults.{AreFirstFaults, AreFaultsInOrder, IsOfEarlierPart, IsFaultOfLayer, IsFirstOfPart, IsOfLayer, of_layer, of_feature, OneOf}
use Rattle.mvt_tile.specs.FreeFaults.{IsLeastOr, of_least}
use Rattle.mvt_tile.specs.RuleFaults.{Breaks, Frees, Keeps, BreaksAnyRule, KeepsRules, IsFaultOfFeature}
use Rattle.mvt_tile.specs.Calls.Gathered.{AreGatheredLayers, AreGatheredTo, TileFeature}
use Rattle.mvt_tile.specs.Calls.RuleFaults.{AreAfterTags}
use Rattle.mvt_tile.proofs.RuleFaults.FeatureFaults.{place_at}
use Rattle.mvt_tile.proofs.RuleFaults.FreeFaults.{first_by_taken, least_or_holds, lifted, take_first}
use Rattle.mvt_tile.proofs.RuleFaults.Gathered.{IsOfEarlierPart-same, OneOf-some}
use Rattle.mvt_tile.proofs.RuleFaults.RuleOrder.{by_part, of_feature as its_feature}
use Rattle.mvt_tile.proofs.RuleFaults.LayerNames.{place_of_layer}

-- what is in two lists, one after the other, is in one of them
in_either : {X : Type 0} (xs ys : List X) (place : ℕ) (x : X) → slice_get (xs ++ ys) place ≡ Some x → (slice_get xs place ≡ Some x) ⊎ ((after : ℕ) × (place ≡ length xs + after) × (slice_get ys after ≡ Some x))
in_either [] ys place x there = inr (place, omega arith, there)
in_either (first ∷ xs) ys zero x there = inl there
in_either (first ∷ xs) ys (suc place) x there = elim (in_either xs ys place x there) [
  | inl here ↦ inl here
  | inr further ↦ let is = further.1 in inr (further.0, omega (arith, is), further.2)
]

in_second : {X : Type 0} (xs ys : List X) (after : ℕ) (x : X) → slice_get ys after ≡ Some x → slice_get (xs ++ ys) (length xs + after) ≡ Some x
in_second {X} [] ys after x there = let same : length {A = X} [] + after ≡ after = omega arith in ap (slice_get ys) same ∙ there
in_second {X} (first ∷ xs) ys after x there =
    let same : length (first ∷ xs) + after ≡ suc (length xs + after) = omega arith in
    ap (slice_get (first ∷ (xs ++ ys))) same ∙ in_second xs ys after x there

-- what comes before by its first numbers does
before_whole : (place other : List ℕ) → IsOfEarlierPart place other → ComesFirst place other
before_whole place other before = first_by_taken 3 place other before.first before.differ

-- of two places the one with the lesser first number comes before
by_first_number : (x y : ℕ) (xs ys : List ℕ) → x < y → IsOfEarlierPart (x ∷ xs) (y ∷ ys)
by_first_number x y xs ys less = record {
  first = inl less;
  differ = λ same. let heads : x ≡ y = cc same in absurd (omega (arith, heads, less));
}

module _ (IsFree : Frees) (IsBroken : Breaks) (IsKept : Keeps) (tile : TileRecord) where
  -- the faults of all layers and those of all features
  module _ (after_tags : AreAfterTags IsBroken) (layers features : List Fault) (of_layers : AreGatheredLayers tile (length tile.layers) layers) (of_features : AreGatheredTo IsFree IsBroken IsKept tile (length tile.layers) 0 features) where
    each_first : (at : ℕ) (fault : Fault) → slice_get (layers ++ features) at ≡ Some fault → IsFirstOfPart IsFree IsBroken tile fault
    each_first at fault there = elim (in_either layers features at fault there) [
      | inl here ↦ let known = of_layers.each at fault here in of_layer known.0 known.2
      | inr further ↦
          let known = of_features.each further.0 fault further.2 in
          let it = known.0 in
          of_feature it.layer it.feature it.layer_record it.feature_record it.there known.2
    ]

    in_order : AreFaultsInOrder (layers ++ features)
    in_order at later one other before there further = elim (in_either layers features at one there) [
      | inl here ↦ elim (in_either layers features later other further) [
        | inl following ↦ of_layers.in_order at later one other before here following
        | inr after ↦
            let known = of_layers.each at one here in
            let also = of_features.each after.0 other after.2 in
            let it = also.0 in
            let place = place_at IsBroken after_tags it.layer_record it.feature_record it.layer it.feature other (least_or_holds IsFree (IsFaultOfFeature IsBroken it.layer_record it.feature_record it.layer it.feature) other also.2) in
            IsOfEarlierPart-same _ _ _ _ known.2.holds.of_layer.1 place.1 (by_first_number 1 2 _ _ (omega arith))
      ]
      | inr here ↦
          let here_is = here.1 in
          elim (in_either layers features later other further) [
            | inl following ↦ let within = slice_get_within layers later other following in absurd (omega (arith, within, here_is, before))
            | inr after ↦ let after_is = after.1 in of_features.in_order here.0 after.0 one other (omega (arith, here_is, after_is, before)) here.2 after.2
          ]
    ]

    -- a layer that has a fault is there
    layer_within : (layer : ℕ) (fault : Fault) → IsFaultOfLayers tile fault → (rest : List ℕ) → place_of fault ≡ 1 ∷ layer ∷ rest → layer < length tile.layers
    layer_within layer fault holds rest is =
        let its = place_of_layer tile fault holds in
        let same : its.0 ≡ layer = cc (its.3, is) in
        omega (arith, same, its.1)

    pub first_faults_joined : AreFirstFaults IsFree IsBroken IsKept tile (layers ++ features)
    first_faults_joined = record {
      each = each_first;
      in_order = in_order;
      layers = λ layer fault holds. elim (of_layers.all layer (layer_within layer fault holds.broken holds.of_layer.0 holds.of_layer.1)) [
        | inl known ↦ OneOf-some layers features known
        | inr free ↦ absurd (free fault holds)
      ];
      features = λ layer feature layer_record feature_record there.
          let it : TileFeature tile = record { layer = layer; feature = feature; layer_record = layer_record; feature_record = feature_record; there = there } in
          elim (of_features.all it (inl (slice_get_within tile.layers layer layer_record there.in_tile))) [
            | inl known ↦ inl (length layers + known.0, known.1, in_second layers features known.0 known.1 known.2, known.3)
            | inr sound ↦ inr sound
          ];
    }

  -- a first fault is a fault
  pub first_is_fault : (fault : Fault) → IsFirstOfPart IsFree IsBroken tile fault → BreaksAnyRule IsBroken tile fault
  first_is_fault fault (of_layer layer first) = inl (inl first.holds.broken)
  first_is_fault fault (of_feature layer feature layer_record feature_record there first) = elim (least_or_holds IsFree (IsFaultOfFeature IsBroken layer_record feature_record layer feature) fault first) [
    | inl of_tags ↦ inl (inr (record { layer = layer; feature = feature; layer_record = layer_record; feature_record = feature_record; there = there; broken = of_tags }))
    | inr of_rule ↦ inr (record { layer = layer; feature = feature; layer_record = layer_record; feature_record = feature_record; there = there; broken = of_rule })
  ]

  -- a fault of layers is of one of them
  layer_of : (fault : Fault) → IsFaultOfLayers tile fault → (layer : ℕ) × IsOfLayer layer fault
  layer_of fault holds = let its = place_of_layer tile fault holds in (its.0, (its.2, its.3))

  module _ (faults : List Fault) (are : AreFirstFaults IsFree IsBroken IsKept tile faults) where
    -- where the tile has a fault, one is in the list
    one_listed : (fault : Fault) → BreaksAnyRule IsBroken tile fault → OneOf faults (λ first. Unit {0})
    one_listed fault (inl (inl broken)) =
        let its = layer_of fault broken in
        let known = are.layers its.0 fault (record { broken = broken; of_layer = its.1 }) in
        (known.0, known.1, known.2, tt)
    one_listed fault (inl (inr it)) = elim (are.features it.layer it.feature it.layer_record it.feature_record it.there) [
      | inl known ↦ (known.0, known.1, known.2, tt)
      | inr sound ↦ absurd (sound.faultless fault (inl it.broken))
    ]
    one_listed fault (inr it) = elim (are.features it.layer it.feature it.layer_record it.feature_record it.there) [
      | inl known ↦ (known.0, known.1, known.2, tt)
      | inr sound ↦ absurd (sound.faultless fault (inr it.broken))
    ]

    -- the list has one fault of a kind that comes first
    pub one_first : (Holds : Fault → Type 0) (at other : ℕ) (fault again : Fault) → slice_get faults at ≡ Some fault → slice_get faults other ≡ Some again → IsLeast Holds fault → IsLeast Holds again → at ≡ other
    one_first Holds at other fault again there also first second =
        let same : place_of fault ≡ place_of again = ComesFirst-antisymmetric (place_of fault) (place_of again) (first.least again second.holds) (second.least fault first.holds) in
        elim (cases_lt at other) [
          | inl before ↦ absurd ((are.in_order at other fault again before there also).differ (ap (take 3) same))
          | inr not ↦ elim (cases_lt other at) [
            | inl after ↦ absurd ((are.in_order other at again fault after also there).differ (ap (take 3) (sym same)))
            | inr level ↦ omega (arith, not, level)
          ]
        ]

  module _ (after_tags : AreAfterTags IsBroken) (faults : List Fault) (are : AreFirstFaults IsFree IsBroken IsKept tile faults) (fault : Fault) (there : slice_get faults 0 ≡ Some fault) where
    -- the first of the list comes before all others
    at_least : (at : ℕ) (other : Fault) → slice_get faults at ≡ Some other → ComesFirst (place_of fault) (place_of other)
    at_least zero other also =
        let same : fault ≡ other = same_Some _ _ (sym there ∙ also) in
        subst (λ (it : Fault). ComesFirst (place_of fault) (place_of it)) same (ComesFirst-reflexive (place_of fault))
    at_least (suc at) other also = before_whole (place_of fault) (place_of other) (are.in_order 0 (suc at) fault other (omega arith) there also)

    -- and before each fault of a layer
    before_layer : (other : Fault) → IsFaultOfLayers tile other → ComesFirst (place_of fault) (place_of other)
    before_layer other broken =
        let its = layer_of other broken in
        let holds : IsFaultOfLayer tile its.0 other = record { broken = broken; of_layer = its.1 } in
        let known = are.layers its.0 other holds in
        ComesFirst-transitive (place_of fault) (place_of known.1) (place_of other) (at_least known.0 known.1 known.2) (known.3.least other holds)

    -- a feature with a fault has one in the list, so its places begin no earlier
    before_feature : (layer feature : ℕ) (layer_record : LayerRecord) (feature_record : FeatureRecord) → IsFeatureOf tile layer feature layer_record feature_record → (other : Fault)
        → IsFaultOfFeature IsBroken layer_record feature_record layer feature other → ComesFirst (take 3 (place_of fault)) (2 ∷ layer ∷ feature ∷ [])
    before_feature layer feature layer_record feature_record is other broken = elim (are.features layer feature layer_record feature_record is) [
      | inl known ↦
          let place = place_at IsBroken after_tags layer_record feature_record layer feature known.1 (least_or_holds IsFree (IsFaultOfFeature IsBroken layer_record feature_record layer feature) known.1 known.3) in
          subst (λ (list : List ℕ). ComesFirst (take 3 (place_of fault)) (take 3 list)) place.1 (take_first 3 (place_of fault) (place_of known.1) (at_least known.0 known.1 known.2))
      | inr sound ↦ absurd (sound.faultless other broken)
    ]

    -- where it is of a layer, it comes before all faults of the tile
    of_all_layers : (layer : ℕ) → IsFaultOfLayer tile layer fault → IsLeast (BreaksAnyRule IsBroken tile) fault
    of_all_layers layer is = record {
      holds = inl (inl is.broken);
      least = λ other broken. elim (by_part IsBroken after_tags tile other broken) [
        | inl of_layers ↦ before_layer other of_layers
        | inr it ↦
            let place = place_at IsBroken after_tags it.layer_record it.feature_record it.layer it.feature other it.broken in
            let ordered : ComesFirst (1 ∷ layer ∷ is.of_layer.0) (2 ∷ it.layer ∷ it.feature ∷ place.0) = inl (omega arith) in
            subst (λ (list : List ℕ). ComesFirst list (place_of other)) (sym is.of_layer.1) (subst (ComesFirst (1 ∷ layer ∷ is.of_layer.0)) (sym place.1) ordered)
      ];
    }

    -- where it is of a feature, the faults of others come after it
    module _ (layer feature : ℕ) (layer_record : LayerRecord) (feature_record : FeatureRecord) (is : IsFeatureOf tile layer feature layer_record feature_record)
        (first : IsLeastOr IsFree (IsFaultOfFeature IsBroken layer_record feature_record layer feature) fault) where
      -- its faults
      abbrev own : Fault → Type 0
      own = IsFaultOfFeature IsBroken layer_record feature_record layer feature

      -- the place of this one
      place : (rest : List ℕ) × (place_of fault ≡ 2 ∷ layer ∷ feature ∷ rest)
      place = place_at IsBroken after_tags layer_record feature_record layer feature fault (least_or_holds IsFree own fault first)

      -- a fault of the same feature is one of its own
      carried_fault : (other : Fault) (it : OneFeatureHas (IsFaultOfFeature IsBroken) tile other) → layer ≡ it.layer → feature ≡ it.feature → own other
      carried_fault other it same alike =
          let one : it.layer_record ≡ layer_record = same_Some _ _ (sym it.there.in_tile ∙ ap (slice_get tile.layers) (sym same) ∙ is.in_tile) in
          let another : it.feature_record ≡ feature_record =
          same_Some _ _ (sym it.there.in_layer ∙ ap (λ (list : LayerRecord). slice_get list.features it.feature) one ∙ ap (slice_get layer_record.features) (sym alike) ∙ is.in_layer) in
          subst (λ (list : LayerRecord). IsFaultOfFeature IsBroken list feature_record layer feature other) one
          (subst (λ (record_of : FeatureRecord). IsFaultOfFeature IsBroken it.layer_record record_of layer feature other) another
          (subst (λ (n : ℕ). IsFaultOfFeature IsBroken it.layer_record it.feature_record n feature other) (sym same)
          (subst (λ (n : ℕ). IsFaultOfFeature IsBroken it.layer_record it.feature_record it.layer n other) (sym alike) it.broken)))

      -- it comes after one of an earlier feature
      after : (other : Fault) (it : OneFeatureHas (IsFaultOfFeature IsBroken) tile other) → ((rest others : List ℕ) → ComesFirst (2 ∷ layer ∷ feature ∷ rest) (2 ∷ it.layer ∷ it.feature ∷ others)) → ComesFirst (place_of fault) (place_of other)
      after other it ordered =
          let its = place_at IsBroken after_tags it.layer_record it.feature_record it.layer it.feature other it.broken in
          subst (λ (list : List ℕ). ComesFirst list (place_of other)) (sym place.1) (subst (ComesFirst (2 ∷ layer ∷ feature ∷ place.0)) (sym its.1) (ordered place.0 its.0))

      -- by the ordinals of both features
      by_ordinals : (other : Fault) (it : OneFeatureHas (IsFaultOfFeature IsBroken) tile other) → ComesFirst (2 ∷ layer ∷ feature ∷ []) (2 ∷ it.layer ∷ it.feature ∷ []) → own other ⊎ ComesFirst (place_of fault) (place_of other)
      by_ordinals other it (inl less) = absurd (omega arith)
      by_ordinals other it (inr (two, inl less)) = inr (after other it (λ rest others. inr (refl, inl less)))
      by_ordinals other it (inr (two, inr (same, inl less))) = inr (after other it (λ rest others. inr (refl, inr (same, inl less))))
      by_ordinals other it (inr (two, inr (same, inr (alike, end)))) =
          inl (carried_fault other it same alike)

      following : (other : Fault) → BreaksAnyRule IsBroken tile other → own other ⊎ ComesFirst (place_of fault) (place_of other)
      following other broken = elim (by_part IsBroken after_tags tile other broken) [
        | inl of_layers ↦ inr (before_layer other of_layers)
        | inr it ↦
            by_ordinals other it (subst (λ (list : List ℕ). ComesFirst (take 3 list) (2 ∷ it.layer ∷ it.feature ∷ [])) place.1 (before_feature it.layer it.feature it.layer_record it.feature_record it.there other it.broken))
      ]

      pub of_its_feature : IsLeastOr IsFree (BreaksAnyRule IsBroken tile) fault
      of_its_feature = lifted IsFree own fault (BreaksAnyRule IsBroken tile) (λ holds. its_feature IsBroken after_tags tile fault (record { layer = layer; feature = feature; layer_record = layer_record; feature_record = feature_record; there = is; broken = holds })) following first

  -- the first of the list is what is found of the tile
  pub first_of_all : AreAfterTags IsBroken → (faults : List Fault) → AreFirstFaults IsFree IsBroken IsKept tile faults → (fault : Fault) → slice_get faults 0 ≡ Some fault → IsLeastOr IsFree (BreaksAnyRule IsBroken tile) fault
  first_of_all after_tags faults are fault there = of_part (are.each 0 fault there)
    where
      of_part : IsFirstOfPart IsFree IsBroken tile fault → IsLeastOr IsFree (BreaksAnyRule IsBroken tile) fault
      of_part (of_layer layer first) = of_least (of_all_layers after_tags faults are fault there layer first.holds)
      of_part (of_feature layer feature layer_record feature_record is first) = of_its_feature after_tags faults are fault there layer feature layer_record feature_record is first

  -- the list is empty where the tile has no fault
  pub none_listed : (faults : List Fault) → AreFirstFaults IsFree IsBroken IsKept tile faults → ((fault : Fault) → ¬ BreaksAnyRule IsBroken tile fault) → faults ≡ []
  none_listed [] are none = refl
  none_listed (fault ∷ rest) are none = absurd (none fault (first_is_fault fault (are.each 0 fault refl)))

  -- and the other way round
  pub none_broken : (faults : List Fault) → AreFirstFaults IsFree IsBroken IsKept tile faults → faults ≡ [] → (fault : Fault) → ¬ BreaksAnyRule IsBroken tile fault
  none_broken faults are empty fault broken =
      let known = one_listed faults are fault broken in
      let within = slice_get_within faults known.0 known.1 known.2 in
      let size : length faults ≡ 0 = ap length empty in
      absurd (omega (arith, within, size))

  pub rules_kept : AreFirstFaults IsFree IsBroken IsKept tile [] → KeepsRules IsKept tile
  rules_kept are = record {
    parts = λ fault broken. none_broken [] are refl fault (inl broken);
    features = λ layer feature layer_record feature_record there. elim (are.features layer feature layer_record feature_record there) [
      | inl known ↦ absurd (let there = known.2 in cc)
      | inr sound ↦ sound.kept
    ];
  }

  -- a tile that keeps the rules has no fault, where no feature that keeps the further rule breaks it
  pub none_where_kept : (faults : List Fault) → AreFirstFaults IsFree IsBroken IsKept tile faults → KeepsRules IsKept tile
      → ((feature_record : FeatureRecord) (layer feature : ℕ) (fault : Fault) → IsKept feature_record → ¬ IsBroken feature_record layer feature fault) → faults ≡ []
  none_where_kept faults are keeps apart = none_listed faults are broken
    where
      broken : (fault : Fault) → ¬ BreaksAnyRule IsBroken tile fault
      broken fault (inl of_parts) = keeps.parts fault of_parts
      broken fault (inr it) = apart it.feature_record it.layer it.feature fault (keeps.features it.layer it.feature it.layer_record it.feature_record it.there) it.broken
