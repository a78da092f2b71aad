-- The first faults of a tile's parts, gathered part by part.
use Rattle.std.proofs.Common.{◌≡◌, ℕ, ◌+◌, ◌<◌, ◌⊎◌, inl, inr, List, [], ◌∷◌, ◌++◌, length, Some, slice_get, refl, sym, ◌∙◌, ap, subst, arith}
use Rattle.std.proofs.lemmas.Bool.{cases_lt}
use Rattle.std.proofs.lemmas.Option.{slice_get_within, same_Some}
use Rattle.mvt_rules.specs.Rules.{IsFeatureOf}
use Rattle.mvt_rules.specs.Tile.{FeatureRecord, LayerRecord, TileRecord}
use Rattle.mvt_wire.proofs.Encoding.Payloads.{slice_get-last}
use Rattle.mvt_wire.proofs.Parts.EmbeddedSpans.{slice_get-some, slice_get-push}
use Rattle.mvt_fault.specs.Place.{place_of}
use Rattle.mvt_fault.specs.declared.fault.Fault.{Fault}
use Rattle.mvt_tile.specs.FirstFaults.{IsOfEarlierPart, OneOf}
use Rattle.mvt_tile.specs.FreeFaults.{IsLeastOr}
use Rattle.mvt_tile.specs.RuleFaults.{Breaks, Frees, Keeps, IsFaultOfFeature, IsSoundFeature}
use Rattle.mvt_tile.specs.Calls.Gathered.{AreGathered, TileFeature, IsInFront, AreGatheredTo}
use Rattle.mvt_tile.specs.Calls.RuleFaults.{AreAfterTags}
use Rattle.mvt_tile.proofs.RuleFaults.FeatureFaults.{place_at}
use Rattle.mvt_tile.proofs.RuleFaults.FreeFaults.{least_or_holds}

-- one of the faults is one of a longer list
pub OneOf-some : {Holds : Fault → Type 0} (faults more : List Fault) → OneOf faults Holds → OneOf (faults ++ more) Holds
OneOf-some faults more known = (known.0, known.1, slice_get-some faults more known.0 known.1 known.2, known.3)

-- no part was passed
pub AreGathered-none : {Part : Type 0} (IsOf : Part → Fault → Type 0) (IsFree IsPassed : Part → Type 0) → ((part : Part) → ¬ IsPassed part) → AreGathered IsOf IsFree IsPassed []
AreGathered-none IsOf IsFree IsPassed none = record {
  each = λ at fault there. absurd (cc);
  in_order = λ at later fault other before there. absurd (cc);
  all = λ part passed. absurd (none part passed);
}

module _ {Part : Type 0} (IsOf : Part → Fault → Type 0) (IsFree IsPassed IsNext : Part → Type 0) (more : (part : Part) → IsPassed part → IsNext part) (faults : List Fault) (so_far : AreGathered IsOf IsFree IsPassed faults) where
  -- parts that are free of faults were passed
  pub AreGathered-kept : ((part : Part) → IsNext part → IsPassed part ⊎ IsFree part) → AreGathered IsOf IsFree IsNext faults
  AreGathered-kept parted = record {
    each = λ at fault there. let known = so_far.each at fault there in (known.0, more known.0 known.1, known.2);
    in_order = so_far.in_order;
    all = λ part next. elim (parted part next) [
      | inl before ↦ so_far.all part before
      | inr free ↦ inr free
    ];
  }

  -- or one that has a fault, after those of the parts in front of it
  module _ (part : Part) (next : IsNext part) (fault : Fault) (first : IsOf part fault) where
    pub AreGathered-pushed : ((it : Part) → IsNext it → IsPassed it ⊎ IsOf it fault) → ((it : Part) (other : Fault) → IsPassed it → IsOf it other → IsOfEarlierPart (place_of other) (place_of fault))
        → AreGathered IsOf IsFree IsNext (faults ++ fault ∷ [])
    AreGathered-pushed parted ahead = record {
      each = λ at other there. elim (slice_get-push faults fault at other there) [
        | inl here ↦ let known = so_far.each at other here in (known.0, more known.0 known.1, known.2)
        | inr last ↦ (part, next, subst (IsOf part) (sym last.1) first)
      ];
      in_order = λ at later one other before there further. elim (slice_get-push faults fault later other further) [
        | inl following ↦
            let within = slice_get_within faults later other following in
            elim (slice_get-push faults fault at one there) [
              | inl here ↦ so_far.in_order at later one other before here following
              | inr last ↦ let at_is = last.0 in absurd (omega (arith, within, at_is, before))
            ]
        | inr last ↦ elim (slice_get-push faults fault at one there) [
          | inl here ↦
              let known = so_far.each at one here in
              subst (λ (it : Fault). IsOfEarlierPart (place_of one) (place_of it)) (sym last.1) (ahead known.0 one known.1 known.2)
          | inr also ↦ let at_is = also.0 in let later_is = last.0 in absurd (omega (arith, at_is, later_is, before))
        ]
      ];
      all = λ it follows. elim (parted it follows) [
        | inl before ↦ elim (so_far.all it before) [
          | inl known ↦ inl (OneOf-some faults (fault ∷ []) known)
          | inr free ↦ inr free
        ]
        | inr least ↦ inl (length faults, fault, slice_get-last faults fault, least)
      ];
    }

-- the order of two places is that of what they are
pub IsOfEarlierPart-same : (place other one another : List ℕ) → place ≡ one → other ≡ another → IsOfEarlierPart one another → IsOfEarlierPart place other
IsOfEarlierPart-same place other one another is also ordered = subst (λ (list : List ℕ). IsOfEarlierPart list other) (sym is) (subst (IsOfEarlierPart one) (sym also) ordered)

-- the place of a feature in front comes before
in_front : (layer feature later_layer later : ℕ) (xs ys : List ℕ) → (layer < later_layer) ⊎ ((layer ≡ later_layer) × (feature < later)) → IsOfEarlierPart (2 ∷ layer ∷ feature ∷ xs) (2 ∷ later_layer ∷ later ∷ ys)
in_front layer feature later_layer later xs ys (inl less) = record {
  first = inr (refl, inl less);
  differ = λ same. let heads : layer ≡ later_layer = cc same in absurd (omega (arith, heads, less));
}
in_front layer feature later_layer later xs ys (inr level) =
    let less = level.1 in
    record {
      first = inr (refl, inr (level.0, inl less));
      differ = λ same. let heads : feature ≡ later = cc same in absurd (omega (arith, heads, less));
    }

module _ (IsFree : Frees) (IsBroken : Breaks) (IsKept : Keeps) (tile : TileRecord) where
  -- no feature is in front of the first layer
  pub gathered_none : AreGatheredTo IsFree IsBroken IsKept tile 0 0 []
  gathered_none = AreGathered-none {Part = TileFeature tile} _ _ (IsInFront 0 0) (λ it front. elim front [
    | inl before ↦ absurd (omega (arith, before))
    | inr level ↦ let before = level.1 in absurd (omega (arith, before))
  ])

  module _ (layer feature : ℕ) (layer_record : LayerRecord) (feature_record : FeatureRecord) (there : IsFeatureOf tile layer feature layer_record feature_record) where
    -- what is true of the feature with these ordinals
    carried : (P : ℕ → ℕ → LayerRecord → FeatureRecord → Type 0) → P layer feature layer_record feature_record → (it : TileFeature tile) → it.layer ≡ layer → it.feature ≡ feature → P it.layer it.feature it.layer_record it.feature_record
    carried P holds it layer_is feature_is =
        let one : it.layer_record ≡ layer_record = same_Some _ _ (sym it.there.in_tile ∙ ap (slice_get tile.layers) layer_is ∙ there.in_tile) in
        let other : it.feature_record ≡ feature_record =
        same_Some _ _ (sym it.there.in_layer ∙ ap (λ (list : LayerRecord). slice_get list.features it.feature) one ∙ ap (slice_get layer_record.features) feature_is ∙ there.in_layer) in
        subst (λ (n : ℕ). P n it.feature it.layer_record it.feature_record) (sym layer_is)
        (subst (λ (n : ℕ). P layer n it.layer_record it.feature_record) (sym feature_is)
        (subst (λ (list : LayerRecord). P layer feature list it.feature_record) (sym one)
        (subst (λ (record_of : FeatureRecord). P layer feature layer_record record_of) (sym other) holds)))

    -- a feature in front of the next one is in front of this, or is this
    parted : (P : ℕ → ℕ → LayerRecord → FeatureRecord → Type 0) → P layer feature layer_record feature_record → (it : TileFeature tile) → IsInFront layer (feature + 1) it
        → IsInFront layer feature it ⊎ P it.layer it.feature it.layer_record it.feature_record
    parted P holds it front = elim front [
      | inl before ↦ inl (inl before)
      | inr level ↦ elim (cases_lt it.feature feature) [
        | inl before ↦ inl (inr (level.0, before))
        | inr not ↦ let below = level.1 in inr (carried P holds it level.0 (omega (arith, not, below)))
      ]
    ]

    further : (it : TileFeature tile) → IsInFront layer feature it → IsInFront layer (feature + 1) it
    further it front = elim front [
      | inl before ↦ inl before
      | inr level ↦ let before = level.1 in inr (level.0, omega (arith, before))
    ]

    module _ (faults : List Fault) (so_far : AreGatheredTo IsFree IsBroken IsKept tile layer feature faults) where
      -- a sound feature was passed
      pub gathered_kept : IsSoundFeature IsBroken IsKept layer_record feature_record layer feature → AreGatheredTo IsFree IsBroken IsKept tile layer (feature + 1) faults
      gathered_kept sound =
          AreGathered-kept {Part = TileFeature tile} _ _ (IsInFront layer feature) (IsInFront layer (feature + 1)) further faults so_far
          (parted (λ l f list record_of. IsSoundFeature IsBroken IsKept list record_of l f) sound)

      -- or one with a fault
      pub gathered_pushed : AreAfterTags IsBroken → (fault : Fault) → IsLeastOr IsFree (IsFaultOfFeature IsBroken layer_record feature_record layer feature) fault → AreGatheredTo IsFree IsBroken IsKept tile layer (feature + 1) (faults ++ fault ∷ [])
      gathered_pushed after_tags fault first =
          AreGathered-pushed {Part = TileFeature tile} _ _ (IsInFront layer feature) (IsInFront layer (feature + 1)) further faults so_far
          (record { layer = layer; feature = feature; layer_record = layer_record; feature_record = feature_record; there = there }) (inr (refl, omega arith)) fault first
          (parted (λ l f list record_of. IsLeastOr IsFree (IsFaultOfFeature IsBroken list record_of l f) fault) first)
          (λ it other front broken.
          let one = place_at IsBroken after_tags it.layer_record it.feature_record it.layer it.feature other (least_or_holds IsFree (IsFaultOfFeature IsBroken it.layer_record it.feature_record it.layer it.feature) other broken) in
          let here = place_at IsBroken after_tags layer_record feature_record layer feature fault (least_or_holds IsFree (IsFaultOfFeature IsBroken layer_record feature_record layer feature) fault first) in
          IsOfEarlierPart-same _ _ _ _ one.1 here.1 (in_front it.layer it.feature layer feature one.0 here.0 front))

  -- all features of a layer were passed
  module _ (layer : ℕ) (layer_record : LayerRecord) (there : slice_get tile.layers layer ≡ Some layer_record) where
    within : (it : TileFeature tile) → it.layer ≡ layer → it.feature < length layer_record.features
    within it same =
        let one : it.layer_record ≡ layer_record = same_Some _ _ (sym it.there.in_tile ∙ ap (slice_get tile.layers) same ∙ there) in
        slice_get_within layer_record.features it.feature it.feature_record (ap (λ (list : LayerRecord). slice_get list.features it.feature) (sym one) ∙ it.there.in_layer)

    pub gathered_layer : (faults : List Fault) → AreGatheredTo IsFree IsBroken IsKept tile layer (length layer_record.features) faults → AreGatheredTo IsFree IsBroken IsKept tile (layer + 1) 0 faults
    gathered_layer faults so_far =
        AreGathered-kept {Part = TileFeature tile} _ _ (IsInFront layer (length layer_record.features)) (IsInFront (layer + 1) 0)
        (λ it front. elim front [
          | inl before ↦ inl (omega (arith, before))
          | inr level ↦ let same = level.0 in inl (omega (arith, same))
        ]) faults so_far
        (λ it front. elim front [
          | inr level ↦ let before = level.1 in absurd (omega (arith, before))
          | inl before ↦ elim (cases_lt it.layer layer) [
            | inl earlier ↦ inl (inl earlier)
            | inr not ↦ let same : it.layer ≡ layer = omega (arith, before, not) in inl (inr (same, within it same))
          ]
        ])
