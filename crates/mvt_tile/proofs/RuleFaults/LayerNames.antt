-- What the names of the layers that were passed say of a tile's layers.
use Rattle.std.proofs.Common.{◌≡◌, ℕ, ◌+◌, ◌<◌, ◌≤◌, true, false, List, [], ◌∷◌, ◌++◌, length, slice_get, Some, inl, inr, refl, sym, ◌∙◌, ap, true≢false, length-append, arith}
use Rattle.std.proofs.lemmas.Bool.{cases_lt}
use Rattle.std.proofs.lemmas.Option.{slice_get_within, same_Some}
use Rattle.mvt_rules.specs.Rules.{OtherVersion, SameName}
use Rattle.mvt_rules.specs.Tile.{LayerRecord, TileRecord}
use Rattle.mvt_fault.specs.Place.{place_of, ComesFirst, IsLeast}
use Rattle.mvt_rules.specs.Parts.TrueFaults.{IsFaultOfLayers}
use Rattle.mvt_rules.specs.Parts.TrueFaults as faults
use Rattle.mvt_fault.specs.declared.fault.Fault.{Fault}
use Rattle.mvt_fault.specs.declared.fault.Fault.TheVariants.{Version, Name}
use Rattle.mvt_fault.proofs.Places.{ComesFirst-reflexive}
use Rattle.mvt_tile.specs.Calls.Names.{IsRepeated, IsFirstRepeated}
use Rattle.mvt_tile.specs.Calls.PassedLayers.{passed, ArePassed, PassesLayers, IsNextLayer, EndsLayers}
use Rattle.mvt_tile.specs.declared.rules.layer_rules.LayerRules.{LayerRules}
use Rattle.mvt_wire.proofs.Parts.EmbeddedSpans.{slice_get-append}
use Rattle.mvt_wire.proofs.Encoding.Payloads.{slice_get-last}

-- the last numbers of the place of a wrong version, after its layer
abbrev pub version_numbers : List ℕ
version_numbers = 201 ∷ 0 ∷ 0 ∷ 0 ∷ 0 ∷ 0 ∷ 0 ∷ 0 ∷ []

-- and of a name that comes again
abbrev pub name_numbers : ℕ → List ℕ
name_numbers first = 202 ∷ first ∷ 0 ∷ 0 ∷ 0 ∷ 0 ∷ 0 ∷ 0 ∷ []

-- the order of two faults of layers, by the later layer of each
pub by_layer : (layer other : ℕ) (xs ys : List ℕ) → layer ≤ other → (layer ≡ other → ComesFirst xs ys) → ComesFirst (1 ∷ layer ∷ xs) (1 ∷ other ∷ ys)
by_layer layer other xs ys ordered rest = inr (
  refl,
  elim (cases_lt layer other) [
    | inl before ↦ inl before
    | inr following ↦ let same : layer ≡ other = omega arith in inr (same, rest same)
  ],
)

-- a fault of layers is of one that is there, by its place
pub place_of_layer : (tile : TileRecord) (fault : Fault) → IsFaultOfLayers tile fault → (layer : ℕ) × (layer < length tile.layers) × (rest : List ℕ) × (place_of fault ≡ 1 ∷ layer ∷ rest)
place_of_layer tile fault (faults.version layer holds) = (layer, slice_get_within tile.layers layer holds.layer_record holds.there, version_numbers, refl)
place_of_layer tile fault (faults.name first second holds) = (second, slice_get_within tile.layers second holds.other holds.other_there, name_numbers first, refl)

module _ (rules : LayerRules) (tile : TileRecord) (layers : ArePassed rules tile) where
  -- a layer of another version wasn't passed
  after_version : (layer : ℕ) → OtherVersion tile layer → passed rules ≤ layer
  after_version layer fault = elim (cases_lt layer (passed rules)) [
    | inl before ↦ absurd (fault.other (layers.version layer fault.layer_record before fault.there))
    | inr following ↦ following
  ]

  -- two passed layers of one name have one name among those that are kept
  repeated_from : (first second : ℕ) → SameName tile first second → second < passed rules → IsRepeated rules.names first second
  repeated_from first second fault before =
      let earlier = fault.earlier in
      record {
        earlier = earlier;
        name = fault.layer_record.name;
        there = layers.named first fault.layer_record (omega arith) fault.there;
        again = layers.named second fault.other before fault.other_there ∙ ap Some (sym fault.same);
      }

  -- and the other way round
  same_from : (first second : ℕ) → IsRepeated rules.names first second → SameName tile first second
  same_from first second repeated =
      let earlier = repeated.earlier in
      let within = slice_get_within rules.names second repeated.name repeated.again in
      let one = layers.there first (omega arith) in
      let other = layers.there second within in
      record {
        earlier = earlier;
        layer_record = one.0;
        there = one.1;
        other = other.0;
        other_there = other.1;
        same = same_Some one.0.name other.0.name (sym (layers.named first one.0 (omega arith) one.1) ∙ repeated.there ∙ sym repeated.again ∙ layers.named second other.0 within other.1);
      }

  module _ (none : (first second : ℕ) → ¬ IsRepeated rules.names first second) where
    -- where all layers were passed and no name comes again, there is no fault
    pub no_layer_fault : length tile.layers ≡ passed rules → (fault : Fault) → ¬ IsFaultOfLayers tile fault
    no_layer_fault all fault (faults.version layer holds) =
        let following = after_version layer holds in
        let within = slice_get_within tile.layers layer holds.layer_record holds.there in
        absurd (omega arith)
    no_layer_fault all fault (faults.name first second holds) =
        let within = slice_get_within tile.layers second holds.other holds.other_there in
        absurd (none first second (repeated_from first second holds (omega arith)))

    -- where the next layer has another version, that is the first fault
    pub IsLeast-version : OtherVersion tile (passed rules) → IsLeast (IsFaultOfLayers tile) (Version (passed rules))
    IsLeast-version next = record {
      holds = faults.version (passed rules) next;
      least = least;
    }
      where
        least : (fault : Fault) → IsFaultOfLayers tile fault → ComesFirst (place_of (Version (passed rules))) (place_of fault)
        least fault (faults.version layer holds) = by_layer (passed rules) layer version_numbers version_numbers (after_version layer holds) (λ same. ComesFirst-reflexive version_numbers)
        least fault (faults.name first second holds) = elim (cases_lt second (passed rules)) [
          | inl before ↦ absurd (none first second (repeated_from first second holds before))
          | inr following ↦ by_layer (passed rules) second version_numbers (name_numbers first) (omega arith) (λ same. inl (omega arith))
        ]

  -- the first two layers of one name are the first fault
  pub IsLeast-name : (first second : ℕ) → IsFirstRepeated rules.names first second → IsLeast (IsFaultOfLayers tile) (Name first second)
  IsLeast-name first second is = record { holds = faults.name first second (same_from first second is.repeated); least = least }
    where
      within : second < passed rules
      within = slice_get_within rules.names second is.repeated.name is.repeated.again

      least : (fault : Fault) → IsFaultOfLayers tile fault → ComesFirst (place_of (Name first second)) (place_of fault)
      least fault (faults.version layer holds) =
          let following = after_version layer holds in
          let before = within in
          by_layer second layer (name_numbers first) version_numbers (omega arith) (λ same. absurd (omega arith))
      least fault (faults.name other later holds) = elim (cases_lt later (passed rules)) [
        | inr following ↦ let before = within in by_layer second later (name_numbers first) (name_numbers other) (omega arith) (λ same. absurd (omega arith))
        | inl before ↦ elim (is.least other later (repeated_from other later holds before)) [
          | inl earlier ↦ by_layer second later (name_numbers first) (name_numbers other) (omega arith) (λ same. absurd (omega arith))
          | inr same ↦
              let ordered = same.1 in
              by_layer second later (name_numbers first) (name_numbers other) (let one = same.0 in omega arith) (λ at. inr (
                refl,
                elim (cases_lt first other) [
                  | inl less ↦ inl less
                  | inr not ↦ let one : first ≡ other = omega arith in inr (one, ComesFirst-reflexive (0 ∷ 0 ∷ 0 ∷ 0 ∷ 0 ∷ 0 ∷ []))
                ],
              ))
        ]
      ]

module _ (rules more : LayerRules) (tile : TileRecord) (version : ℕ) (name : List ℕ) (next : IsNextLayer rules tile version name) where
  -- the next layer has version 2, and its name is kept
  pub PassesLayers-more : PassesLayers rules tile → version ≡ 2 → more.names ≡ rules.names ++ name ∷ [] → more.other_version ≡ rules.other_version → PassesLayers more tile
  PassesLayers-more so_far own longer same = record { layers = record { version = its_version; named = its_name; there = is_there }; no_other = same ∙ so_far.no_other }
    where
      count : passed more ≡ passed rules + 1
      count = ap length longer ∙ length-append rules.names (name ∷ [])

      -- the layer at the place of the next is the next
      is_next : (layer : ℕ) (it : LayerRecord) → passed rules ≡ layer → slice_get tile.layers layer ≡ Some it → next.layer_record ≡ it
      is_next layer it same there = same_Some next.layer_record it (sym next.there ∙ ap (slice_get tile.layers) same ∙ there)

      its_version : (layer : ℕ) (it : LayerRecord) → layer < passed more → slice_get tile.layers layer ≡ Some it → it.version ≡ 2
      its_version layer it below there = elim (cases_lt layer (passed rules)) [
        | inl before ↦ so_far.layers.version layer it before there
        | inr following ↦
            let place : passed rules ≡ layer = omega (arith, count) in
            ap (λ (l : LayerRecord). l.version) (sym (is_next layer it place there)) ∙ sym next.of_version ∙ own
      ]

      its_name : (layer : ℕ) (it : LayerRecord) → layer < passed more → slice_get tile.layers layer ≡ Some it → slice_get more.names layer ≡ Some it.name
      its_name layer it below there = elim (cases_lt layer (passed rules)) [
        | inl before ↦ ap (λ (list : List (List ℕ)). slice_get list layer) longer ∙ slice_get-append rules.names (name ∷ []) layer before ∙ so_far.layers.named layer it before there
        | inr following ↦
            let place : passed rules ≡ layer = omega (arith, count) in
            ap (λ (list : List (List ℕ)). slice_get list layer) longer ∙ ap (slice_get (rules.names ++ name ∷ [])) (sym place) ∙ slice_get-last rules.names name
            ∙ ap Some (next.of_name ∙ ap (λ (l : LayerRecord). l.name) (is_next layer it place there))
      ]

      is_there : (layer : ℕ) → layer < passed more → (it : LayerRecord) × (slice_get tile.layers layer ≡ Some it)
      is_there layer below = elim (cases_lt layer (passed rules)) [
        | inl before ↦ so_far.layers.there layer before
        | inr following ↦ let place : passed rules ≡ layer = omega (arith, count) in (next.layer_record, ap (slice_get tile.layers) (sym place) ∙ next.there)
      ]

module _ (rules : LayerRules) (tile : TileRecord) (ends : EndsLayers rules tile) (none : (first second : ℕ) → ¬ IsRepeated rules.names first second) where
  -- of the two ends
  pub fault_at_other : rules.other_version ≡ true → IsLeast (IsFaultOfLayers tile) (Version (passed rules))
  fault_at_other other = elim ends.end [
    | inl it ↦ IsLeast-version rules tile ends.layers none it.1
    | inr it ↦ absurd (true≢false (sym other ∙ it.0))
  ]

  pub none_at_end : rules.other_version ≡ false → (fault : Fault) → ¬ IsFaultOfLayers tile fault
  none_at_end no_other = elim ends.end [
    | inl it ↦ absurd (true≢false (sym it.0 ∙ no_other))
    | inr it ↦ no_layer_fault rules tile ends.layers none it.1
  ]
