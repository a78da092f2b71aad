-- Advice on layers, one after the other, and on pairs of places.
use Rattle.std.proofs.Common.{◌≡◌, ◌∙◌, sym, ap, subst, refl, true≢false, true, false, ◌==◌, ℕ, suc, ◌+◌, ◌<◌, ◌≤◌, List, [], ◌∷◌, ◌++◌, length, get_or, map, take, Option, Some, None, inl, inr, arith}
use Rattle.std.proofs.Math.Seq.{take-suc}
use Rattle.std.proofs.lemmas.Bool.{cases_lt, cases_eq, eqb-true}
use Rattle.std.proofs.lemmas.List.{length-map, map-append, append_assoc, append-nil, get_or_past, length-take-le}
use Rattle.std.proofs.lemmas.Option.{slice_get_within, same_Some}
use Rattle.mvt_wire.proofs.Encoding.Payloads.{slice_get-last}
use Rattle.mvt_rules.specs.Tile.{FeatureRecord, LayerRecord}
use Rattle.mvt_tile.specs.Advice.{ArePairs, AreRepetitions, AreLayersAdvice, IsLayerAdvice, KeyAt, IdAt, no_feature, equal_keys, equal_ids}
use Rattle.mvt_tile.specs.Calls.Equal.{AreFirstPlaces, StandsAt, equal_advice}
use Rattle.mvt_tile.specs.declared.advice.Advice.{Advice}
use Rattle.mvt_tile.specs.declared.advice.Advice.TheVariants.{NoFeature}
use Rattle.mvt_tile.specs.declared.advice.Equal.{Equal}
use Rattle.mvt_tile.specs.declared.advice.Equal.TheVariants.{Keys, Ids}
use Rattle.mvt_wire.proofs.Parts.EmbeddedSpans.{slice_get-append, slice_get-push}

-- at the second place, which is in front of an end, stands the first
abbrev pub StandsBefore : List (Option ℕ) → ℕ → ℕ → ℕ → Type 0
StandsBefore firsts end first second = (second < end) × StandsAt firsts first second

-- the same pairs, said in another way
pub same_pairs : {One Other : ℕ → ℕ → Type 0} {pairs : List (ℕ × ℕ)} → ((first second : ℕ) → One first second → Other first second) → ((first second : ℕ) → Other first second → One first second)
    → ArePairs One pairs → ArePairs Other pairs
same_pairs forth back are = record {
  each = λ place pair there. forth pair.0 pair.1 (are.each place pair there);
  all = λ first second other. are.all first second (back first second other);
  rising = are.rising;
}

module _ (firsts : List (Option ℕ)) where
  -- in front of the first place are no pairs
  pub no_pairs : ArePairs (StandsBefore firsts 0) []
  no_pairs = record {
    each = λ place pair there. absurd (cc);
    all = λ first second stands. let before = stands.0 in absurd (omega arith);
    rising = λ place next pair other before there. absurd (cc);
  }

  module _ (end : ℕ) (pairs : List (ℕ × ℕ)) (so_far : ArePairs (StandsBefore firsts end) pairs) where
    -- nothing stands at one more place
    pub pairs_kept : get_or firsts end None ≡ None → ArePairs (StandsBefore firsts (end + 1)) pairs
    pairs_kept none = same_pairs (λ first second stands. let before = stands.0 in (omega (arith, before), stands.1)) back so_far
      where
        back : (first second : ℕ) → StandsBefore firsts (end + 1) first second → StandsBefore firsts end first second
        back first second stands = elim (cases_eq second end) [
          | inl here ↦ let both : None ≡ Some first = sym none ∙ ap (λ (place : ℕ). get_or firsts place None) (sym here) ∙ stands.1 in absurd (cc)
          | inr other ↦ let before = stands.0 in (omega (arith, before, other), stands.1)
        ]

    -- or another one, and they are one more pair
    pub pair_pushed : (first : ℕ) → get_or firsts end None ≡ Some first → ArePairs (StandsBefore firsts (end + 1)) (pairs ++ (first, end) ∷ [])
    pair_pushed first some = record {
      each = λ place pair there. elim (slice_get-push pairs (first, end) place pair there) [
        | inl here ↦ let known = so_far.each place pair here in let before = known.0 in (omega (arith, before), known.1)
        | inr last ↦ subst (λ (pair : ℕ × ℕ). StandsBefore firsts (end + 1) pair.0 pair.1) (sym last.1) (omega arith, some)
      ];
      all = λ one second stands. elim (cases_eq second end) [
        | inl here ↦
            let value : Some first ≡ Some one = sym some ∙ ap (λ (place : ℕ). get_or firsts place None) (sym here) ∙ stands.1 in
            let same : first ≡ one = same_Some _ _ value in
            let pair : (first, end) ≡ (one, second) = λ i. (same i, sym here i) in
            (length pairs, slice_get-last pairs (first, end) ∙ ap Some pair)
        | inr other ↦
            let before = stands.0 in
            let old = so_far.all one second (omega (arith, before, other), stands.1) in
            (old.0, slice_get-append pairs ((first, end) ∷ []) old.0 (slice_get_within pairs old.0 (one, second) old.1) ∙ old.1)
      ];
      rising = λ place next pair other ahead there further. elim (slice_get-push pairs (first, end) place pair there) [
        | inl here ↦ elim (slice_get-push pairs (first, end) next other further) [
          | inl following ↦ so_far.rising place next pair other ahead here following
          | inr last ↦
              let before = (so_far.each place pair here).0 in
              let end_is : other.1 ≡ end = ap (λ (pair : ℕ × ℕ). pair.1) last.1 in
              omega (arith, before, end_is)
        ]
        | inr last ↦
            let place_is = last.0 in
            elim (slice_get-push pairs (first, end) next other further) [
              | inl following ↦ let within = slice_get_within pairs next other following in absurd (omega (arith, within, place_is, ahead))
              | inr other_last ↦ let next_is = other_last.0 in absurd (omega (arith, next_is, place_is, ahead))
            ]
      ];
    }

-- the advice on one more pair
pub equal_more : (equal : Equal) (layer : ℕ) (pairs more : List (ℕ × ℕ)) → equal_advice equal layer (pairs ++ more) ≡ equal_advice equal layer pairs ++ equal_advice equal layer more
equal_more Keys layer pairs more = map-append _ pairs more
equal_more Ids layer pairs more = map-append _ pairs more

-- all places were passed
pub all_pairs : (firsts : List (Option ℕ)) (end : ℕ) (pairs : List (ℕ × ℕ)) → length firsts ≤ end → ArePairs (StandsBefore firsts end) pairs → ArePairs (StandsAt firsts) pairs
all_pairs firsts end pairs all are = same_pairs (λ first second stands. stands.1) (λ first second stands. (inside first second stands, stands)) are
  where
    inside : (first second : ℕ) → StandsAt firsts first second → second < end
    inside first second stands = elim (cases_lt second end) [
      | inl before ↦ before
      | inr past ↦ let both : None ≡ Some first = sym (get_or_past firsts second None (omega (arith, past, all))) ∙ stands in absurd (cc)
    ]

-- the advice on one more layer
pub one_more_layer : (number : ℕ) (layers : List LayerRecord) (layer_record : LayerRecord) (advice own : List Advice) → AreLayersAdvice number layers advice → IsLayerAdvice (number + length layers) layer_record own
    → AreLayersAdvice number (layers ++ layer_record ∷ []) (advice ++ own)
one_more_layer number [] layer_record advice own so_far is =
    (own, [], subst (λ (place : ℕ). IsLayerAdvice place layer_record own) (let same : number + length {A = LayerRecord} [] ≡ number = omega arith in same) is, refl, ap (λ (list : List Advice). list ++ own) so_far ∙ sym (append-nil own))
one_more_layer number (first ∷ rest) layer_record advice own so_far is =
    let same : number + length (first ∷ rest) ≡ suc number + length rest = omega arith in (
      so_far.0,
      so_far.1 ++ own,
      so_far.2,
      one_more_layer (suc number) rest layer_record so_far.1 own so_far.3 (subst (λ (place : ℕ). IsLayerAdvice place layer_record own) same is),
      ap (λ (list : List Advice). list ++ own) so_far.4 ∙ append_assoc so_far.0 so_far.1 own,
    )

-- the pairs of places at which others stand are those that hold the same
pub are_repetitions : {X : Type 0} (At : ℕ → X → Type 0) (firsts : List (Option ℕ)) (pairs : List (ℕ × ℕ)) → AreFirstPlaces At firsts → ArePairs (StandsAt firsts) pairs → AreRepetitions At pairs
are_repetitions At firsts pairs noted are = same_pairs (λ first second stands. (noted first second).0 stands) (λ first second repetition. (noted first second).1 repetition) are

-- so many features are none, or some
pub of_none : (layer : ℕ) (features : List FeatureRecord) (count : ℕ) → count ≡ length features → (count == 0) ≡ true → no_feature layer features ≡ NoFeature layer ∷ []
of_none layer [] count is none = refl
of_none layer (feature_record ∷ rest) count is none = let zero_is = eqb-true count 0 none in absurd (omega (arith, is, zero_is))

pub of_some : (layer : ℕ) (features : List FeatureRecord) (count : ℕ) → count ≡ length features → (count == 0) ≡ false → no_feature layer features ≡ []
of_some layer [] count is some = let both : true ≡ false = sym (ap (λ (n : ℕ). n == 0) is) ∙ some in absurd (true≢false both)
of_some layer (feature_record ∷ rest) count is some = refl

-- the advice that was added on pairs of places
abbrev pub IsAdded : Equal → ℕ → List (Option ℕ) → List Advice → List Advice → Type 0
IsAdded equal layer firsts old new = (pairs : List (ℕ × ℕ)) × ArePairs (StandsAt firsts) pairs × (new ≡ old ++ equal_advice equal layer pairs)

-- what was added one after the other is the advice on the layer
pub layer_advice : (layer : ℕ) (layer_record : LayerRecord) (keys ids : List (Option ℕ)) → AreFirstPlaces (KeyAt layer_record) keys → AreFirstPlaces (IdAt layer_record) ids → (old first second third : List Advice)
    → first ≡ old ++ no_feature layer layer_record.features → IsAdded Keys layer keys first second → IsAdded Ids layer ids second third → (own : List Advice) × IsLayerAdvice layer layer_record own × (third ≡ old ++ own)
layer_advice layer layer_record keys ids of_keys of_ids old first second third one two three =
    let none = no_feature layer layer_record.features in
    let equal_keys_are = equal_keys layer two.0 in
    let equal_ids_are = equal_ids layer three.0 in (
      none ++ (equal_keys_are ++ equal_ids_are),
      record {
        keys = two.0;
        ids = three.0;
        of_keys = are_repetitions (KeyAt layer_record) keys two.0 of_keys two.1;
        of_ids = are_repetitions (IdAt layer_record) ids three.0 of_ids three.1;
        is = refl;
      },
      three.2
          ∙ ap (λ (list : List Advice). list ++ equal_ids_are) (two.2 ∙ ap (λ (list : List Advice). list ++ equal_keys_are) one)
          ∙ append_assoc (old ++ none) equal_keys_are equal_ids_are
          ∙ append_assoc old none (equal_keys_are ++ equal_ids_are),
    )

-- the advice on the layer at the next place
pub next_layer : {X : Type 0} (f : X → LayerRecord) (all items : List X) (place : ℕ) (layer : X) (advice own : List Advice) → items ≡ all → place < length items → layer ≡ get_or items place layer
    → AreLayersAdvice 0 (map f (take place all)) advice → IsLayerAdvice place (f layer) own → AreLayersAdvice 0 (map f (take (place + 1) all)) (advice ++ own)
next_layer f all items place layer advice own same within is so_far its =
    let inside : place < length all = omega (arith, within, ap length same) in
    let there : get_or all place layer ≡ layer = ap (λ list. get_or list place layer) (sym same) ∙ sym is in
    let split : take (place + 1) all ≡ take place all ++ layer ∷ [] = ap (λ (n : ℕ). take n all) (plus_one place) ∙ take-suc all place layer inside ∙ ap (λ it. take place all ++ it ∷ []) there in
    let seen : map f (take (place + 1) all) ≡ map f (take place all) ++ f layer ∷ [] = ap (map f) split ∙ map-append f (take place all) (layer ∷ []) in
    let size : length (map f (take place all)) ≡ place = length-map (take place all) f ∙ length-take-le place all (omega (arith, inside)) in
    subst (λ (list : List LayerRecord). AreLayersAdvice 0 list (advice ++ own)) (sym seen)
    (one_more_layer 0 (map f (take place all)) (f layer) advice own so_far (subst (λ (n : ℕ). IsLayerAdvice n (f layer) own) (omega (arith, size)) its))
  where
    plus_one : (n : ℕ) → n + 1 ≡ suc n
    plus_one n = omega arith
