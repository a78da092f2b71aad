-- The first fault of each layer, by the summaries of all layers.
use Rattle.std.proofs.Common.{◌≡◌, ◌≢◌, ℕ, zero, suc, ◌+◌, ◌<◌, ◌≤◌, nat_eq, ◌⊎◌, inl, inr, Bool, true, false, true≢false, List, [], ◌∷◌, ◌++◌, length, map, unwrap_or, Option, Some, None, slice_get, refl, sym, ◌∙◌, ap, subst, arith}
use Rattle.std.specs.Cmp.Lexicographic.{pointwise}
use Rattle.std.specs.Option.{option_map, option_flatten}
use Rattle.std.proofs.lemmas.Bool.{cases_lt, cases_eq}
use Rattle.std.proofs.lemmas.List.{length-map}
use Rattle.std.proofs.lemmas.Option.{slice_get_within, same_Some, slice_get-map}
use Rattle.std.proofs.lemmas.Slice.Eq.{bytes_eq-Decides}
use Rattle.mvt_rules.specs.Rules.{OtherVersion, SameName}
use Rattle.mvt_rules.specs.Tile.{LayerRecord, TileRecord}
use Rattle.mvt_fault.specs.Place.{ComesFirst, IsLeast, place_of}
use Rattle.mvt_rules.specs.Parts.TrueFaults.{IsFaultOfLayers}
use Rattle.mvt_rules.specs.Parts.TrueFaults as faults
use Rattle.mvt_fault.specs.declared.fault.Fault.{Fault}
use Rattle.mvt_fault.specs.declared.fault.Fault.TheVariants.{Version, Name}
use Rattle.mvt_fault.proofs.Places.{ComesFirst-reflexive}
use Rattle.mvt_tile.specs.Advice.{IsRepetition}
use Rattle.mvt_tile.specs.FirstFaults.{IsOfEarlierPart, IsFaultOfLayer, IsOfLayer}
use Rattle.mvt_tile.specs.Calls.Gathered.{AreGatheredLayers, AreSummaries, NameAt}
use Rattle.mvt_tile.specs.Calls.RuleFaults.{IsSummary}
use Rattle.mvt_tile.specs.declared.rules.summary.LayerSummary.{LayerSummary}
use Rattle.mvt_tile.proofs.RuleFaults.Gathered.{AreGathered-none, AreGathered-kept, AreGathered-pushed, IsOfEarlierPart-same}
use Rattle.mvt_tile.proofs.RuleFaults.LayerNames.{by_layer, name_numbers, version_numbers}

-- what the code reads of a place where there is no summary
abbrev pub no_summary : LayerSummary
no_summary = record { version = 0; name = record { ref_ptr = (0, 0); now = [] }; keys = 0; values = 0 }

abbrev name_of : LayerSummary → List ℕ
name_of summary = summary.name.now

-- within its length a list has something at each place
there_within : {X : Type 0} (xs : List X) (place : ℕ) → place < length xs → (x : X) × (slice_get xs place ≡ Some x)
there_within [] place within = absurd (omega arith)
there_within (x ∷ xs) zero within = (x, refl)
there_within (x ∷ xs) (suc place) within = there_within xs place (omega arith)

-- of an option in an option what is in it, or none
pub flatten_is : (it : Option (Option ℕ)) → option_flatten it ≡ unwrap_or it None
flatten_is None = refl
flatten_is (Some inner) = refl

-- two texts are the same or not
same_or_not : (one other : List ℕ) → (one ≡ other) ⊎ (¬ (one ≡ other))
same_or_not one other = by_test (pointwise nat_eq one other) refl
  where
    by_test : (test : Bool) → test ≡ pointwise nat_eq one other → (one ≡ other) ⊎ (¬ (one ≡ other))
    by_test true is = inl ((bytes_eq-Decides one other).0 (sym is))
    by_test false is = inr (λ same. absurd (true≢false (sym ((bytes_eq-Decides one other).1 same) ∙ sym is)))

module _ (names : List (List ℕ)) (name : List ℕ) where
  -- a place has the name or not
  named_or_not : (place : ℕ) → (slice_get names place ≡ Some name) ⊎ (¬ (slice_get names place ≡ Some name))
  named_or_not place = by_there (slice_get names place)
    where
      by_there : (there : Option (List ℕ)) → (there ≡ Some name) ⊎ (¬ (there ≡ Some name))
      by_there None = inr (λ is. absurd (cc))
      by_there (Some other) = elim (same_or_not other name) [
        | inl same ↦ inl (ap Some same)
        | inr differ ↦ inr (λ is. differ (same_Some other name is))
      ]

  -- of the places in front of an end one is the first that has it, or none has it
  first_named : (end : ℕ) → ((first : ℕ) × (first < end) × (slice_get names first ≡ Some name) × ((other : ℕ) → slice_get names other ≡ Some name → first ≤ other)) ⊎ ((other : ℕ) → other < end → ¬ (slice_get names other ≡ Some name))
  first_named zero = inr (λ other before. absurd (omega arith))
  first_named (suc end) = elim (first_named end) [
    | inl known ↦ let before = known.1 in inl (known.0, omega (arith, before), known.2, known.3)
    | inr none ↦ elim (named_or_not end) [
      | inl here ↦ inl (
        end,
        omega arith,
        here,
        λ other held. elim (cases_lt other end) [
          | inl before ↦ absurd (none other before held)
          | inr not ↦ not
        ],
      )
      | inr not ↦ inr (λ other before held. elim (cases_eq other end) [
        | inl same ↦ absurd (not (subst (λ (place : ℕ). slice_get names place ≡ Some name) same held))
        | inr differ ↦ none other (omega (arith, before, differ)) held
      ])
    ]
  ]

module _ (tile : TileRecord) (layers : List LayerSummary) (are : AreSummaries layers tile) where
  -- the name of a layer is that of its summary
  name_there : (layer : ℕ) (layer_record : LayerRecord) → slice_get tile.layers layer ≡ Some layer_record → NameAt layers layer layer_record.name
  name_there layer layer_record there =
      let within = slice_get_within tile.layers layer layer_record there in
      let count = are.count in
      let summary = there_within layers layer (omega (arith, within, count)) in
      let own = are.each layer summary.0 summary.1 in
      let same : own.0 ≡ layer_record = same_Some _ _ (sym own.1 ∙ there) in
      slice_get-map name_of layers layer ∙ ap (option_map name_of) summary.1 ∙ ap Some (own.2.name ∙ ap (λ (it : LayerRecord). it.name) same)

  -- and a name that a summary has is that of the layer
  layer_there : (layer : ℕ) (name : List ℕ) → NameAt layers layer name → (layer_record : LayerRecord) × (slice_get tile.layers layer ≡ Some layer_record) × (layer_record.name ≡ name)
  layer_there layer name named =
      let inside = slice_get_within (map name_of layers) layer name named in
      let size = length-map layers name_of in
      let summary = there_within layers layer (omega (arith, inside, size)) in
      let own = are.each layer summary.0 summary.1 in
      let is : name_of summary.0 ≡ name = same_Some _ _ (sym (slice_get-map name_of layers layer ∙ ap (option_map name_of) summary.1) ∙ named) in
      (own.0, own.1, sym own.2.name ∙ is)

  module _ (layer : ℕ) (summary : LayerSummary) (there : slice_get layers layer ≡ Some summary) where
    its : (layer_record : LayerRecord) × (slice_get tile.layers layer ≡ Some layer_record) × IsSummary summary layer_record
    its = are.each layer summary there

    -- another version is the first fault of the layer
    pub finds_version : summary.version ≢ 2 → IsLeast (IsFaultOfLayer tile layer) (Version layer)
    finds_version other = record {
      holds = record {
        broken = faults.version layer (record { layer_record = its.0; there = its.1; other = λ is. other (its.2.version ∙ is) });
        of_layer = (_, refl);
      };
      least = λ fault holds. following fault holds.broken holds.of_layer;
    }
      where
        following : (fault : Fault) → IsFaultOfLayers tile fault → IsOfLayer layer fault → ComesFirst (place_of (Version layer)) (place_of fault)
        following fault (faults.version at holds) of_layer =
            let same : at ≡ layer = cc of_layer.1 in
            by_layer layer at version_numbers version_numbers (omega (arith, same)) (λ level. ComesFirst-reflexive version_numbers)
        following fault (faults.name first second holds) of_layer =
            let same : second ≡ layer = cc of_layer.1 in
            by_layer layer second version_numbers (name_numbers first) (omega (arith, same)) (λ level. inl (omega arith))

    module _ (two : summary.version ≡ 2) where
      no_other_version : (at : ℕ) → OtherVersion tile at → ¬ (at ≡ layer)
      no_other_version at holds same =
          let one : holds.layer_record ≡ its.0 = same_Some _ _ (sym holds.there ∙ ap (slice_get tile.layers) same ∙ its.1) in
          holds.other (ap (λ (it : LayerRecord). it.version) one ∙ sym its.2.version ∙ two)

      -- or else the first layer of its name
      pub finds_name : (first : ℕ) → IsRepetition (NameAt layers) first layer → IsLeast (IsFaultOfLayer tile layer) (Name first layer)
      finds_name first repeated = record {
        holds = record {
          broken = faults.name first layer (record {
            earlier = repeated.earlier;
            layer_record = one.0;
            there = one.1;
            other = other.0;
            other_there = other.1;
            same = one.2 ∙ sym other.2;
          });
          of_layer = (_, refl);
        };
        least = λ fault holds. following fault holds.broken holds.of_layer;
      }
        where
          one : (layer_record : LayerRecord) × (slice_get tile.layers first ≡ Some layer_record) × (layer_record.name ≡ repeated.it)
          one = layer_there first repeated.it repeated.there

          other : (layer_record : LayerRecord) × (slice_get tile.layers layer ≡ Some layer_record) × (layer_record.name ≡ repeated.it)
          other = layer_there layer repeated.it repeated.again

          no_earlier : (before second : ℕ) → SameName tile before second → second ≡ layer → first ≤ before
          no_earlier before second holds same =
              let is : holds.other ≡ other.0 = same_Some _ _ (sym holds.other_there ∙ ap (slice_get tile.layers) same ∙ other.1) in
              let name : holds.layer_record.name ≡ repeated.it = holds.same ∙ ap (λ (it : LayerRecord). it.name) is ∙ other.2 in
              repeated.least before (subst (NameAt layers before) name (name_there before holds.layer_record holds.there))

          following : (fault : Fault) → IsFaultOfLayers tile fault → IsOfLayer layer fault → ComesFirst (place_of (Name first layer)) (place_of fault)
          following fault (faults.version at holds) of_layer = absurd (no_other_version at holds (cc of_layer.1))
          following fault (faults.name before second holds) of_layer =
              let same : second ≡ layer = cc of_layer.1 in
              let bound = no_earlier before second holds same in
              by_layer layer second (name_numbers first) (name_numbers before) (omega (arith, same)) (λ level. inr (
                refl,
                elim (cases_lt first before) [
                  | inl less ↦ inl less
                  | inr not ↦ let equal : first ≡ before = omega (arith, bound, not) in inr (equal, ComesFirst-reflexive (0 ∷ 0 ∷ 0 ∷ 0 ∷ 0 ∷ 0 ∷ []))
                ],
              ))

      -- a layer whose name no earlier one has is free of faults
      pub finds_none : ((first : ℕ) → ¬ IsRepetition (NameAt layers) first layer) → (fault : Fault) → ¬ IsFaultOfLayer tile layer fault
      finds_none none fault holds = free fault holds.broken holds.of_layer
        where
          not_named : (before second : ℕ) → SameName tile before second → ¬ (second ≡ layer)
          not_named before second holds same =
              let earlier = holds.earlier in
              let name = holds.other.name in
              let again : NameAt layers layer name = subst (λ (place : ℕ). NameAt layers place name) same (name_there second holds.other holds.other_there) in
              let held : NameAt layers before name = subst (NameAt layers before) holds.same (name_there before holds.layer_record holds.there) in
              elim (first_named (map name_of layers) name layer) [
                | inl known ↦ none known.0 (record { earlier = known.1; it = name; there = known.2; again = again; least = known.3 })
                | inr not ↦ not before (omega (arith, earlier, same)) held
              ]

          free : (fault : Fault) → IsFaultOfLayers tile fault → IsOfLayer layer fault → ⊥
          free fault (faults.version at broken) of_layer = no_other_version at broken (cc of_layer.1)
          free fault (faults.name first second broken) of_layer = not_named first second broken (cc of_layer.1)

module _ (tile : TileRecord) where
  -- in front of the first layer there are no faults
  pub layers_none : AreGatheredLayers tile 0 []
  layers_none = AreGathered-none (λ layer. IsLeast (IsFaultOfLayer tile layer)) _ (λ layer. layer < 0) (λ layer before. absurd (omega (arith, before)))

  module _ (layer : ℕ) (faults : List Fault) (so_far : AreGatheredLayers tile layer faults) where
    parted : (P : ℕ → Type 0) → P layer → (it : ℕ) → it < layer + 1 → (it < layer) ⊎ P it
    parted P holds it next = elim (cases_lt it layer) [
      | inl before ↦ inl before
      | inr not ↦ let same : it ≡ layer = omega (arith, next, not) in inr (subst P (sym same) holds)
    ]

    -- one more layer was passed, with no fault
    pub layers_kept : ((fault : Fault) → ¬ IsFaultOfLayer tile layer fault) → AreGatheredLayers tile (layer + 1) faults
    layers_kept free =
        AreGathered-kept (λ it. IsLeast (IsFaultOfLayer tile it)) _ (λ it. it < layer) (λ it. it < layer + 1) (λ it before. omega (arith, before)) faults so_far
        (parted (λ it. (fault : Fault) → ¬ IsFaultOfLayer tile it fault) free)

    -- or with a fault
    pub layers_pushed : (fault : Fault) → IsLeast (IsFaultOfLayer tile layer) fault → AreGatheredLayers tile (layer + 1) (faults ++ fault ∷ [])
    layers_pushed fault first =
        AreGathered-pushed (λ it. IsLeast (IsFaultOfLayer tile it)) _ (λ it. it < layer) (λ it. it < layer + 1) (λ it before. omega (arith, before)) faults so_far
        layer (omega arith) fault first (parted (λ it. IsLeast (IsFaultOfLayer tile it) fault) first)
        (λ it other before broken. IsOfEarlierPart-same _ _ _ _ broken.holds.of_layer.1 first.holds.of_layer.1 (earlier it broken.holds.of_layer.0 first.holds.of_layer.0 before))
      where
        earlier : (it : ℕ) (xs ys : List ℕ) → it < layer → IsOfEarlierPart (1 ∷ it ∷ xs) (1 ∷ layer ∷ ys)
        earlier it xs ys before = record {
          first = inr (refl, inl before);
          differ = λ same. let heads : it ≡ layer = cc same in absurd (omega (arith, heads, before));
        }
