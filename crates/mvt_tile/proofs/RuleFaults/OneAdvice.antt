-- A tile has one advice.
use Rattle.std.proofs.Common.{◌≡◌, ◌∙◌, sym, subst, refl, ℕ, zero, suc, ◌<◌, List, [], ◌∷◌, ◌++◌, slice_get, Some, ◌⊎◌, inl, inr, arith}
use Rattle.std.proofs.lemmas.Option.{slice_get_within, same_Some}
use Rattle.mvt_rules.specs.Tile.{LayerRecord}
use Rattle.mvt_tile.specs.Advice.{ArePairs, AreLayersAdvice, AreAllLayersAdvice, IsLayerAdvice, KeyAt, IdAt, IsRepetition, no_feature, equal_keys, equal_ids}
use Rattle.mvt_tile.specs.declared.advice.Advice.{Advice}

-- so are two places of which the second is after another place
abbrev AreAfter : (ℕ → ℕ → Type 0) → ℕ → ℕ → ℕ → Type 0
AreAfter Are place first second = Are first second × (place < second)

module _ (Are : ℕ → ℕ → Type 0) (pair : ℕ × ℕ) (pairs : List (ℕ × ℕ)) (are : ArePairs Are (pair ∷ pairs)) where
  -- a pair is the first one, or after it
  first_or_after : (place : ℕ) (other : ℕ × ℕ) → slice_get (pair ∷ pairs) place ≡ Some other → (pair ≡ other) ⊎ (pair.1 < other.1)
  first_or_after zero other there = inl (same_Some pair other there)
  first_or_after (suc place) other there = inr (are.rising 0 (suc place) pair other (omega arith) refl there)

  -- those without the first one
  others : ArePairs (AreAfter Are pair.1) pairs
  others = record {
    each = λ place other there. (are.each (suc place) other there, are.rising 0 (suc place) pair other (omega arith) refl there);
    all = λ first second following. by_place first second following.1 (are.all first second following.0).0 (are.all first second following.0).1;
    rising = λ place next one other before there further. are.rising (suc place) (suc next) one other (omega (arith, before)) there further;
  }
    where
      by_place : (first second : ℕ) → pair.1 < second → (place : ℕ) → slice_get (pair ∷ pairs) place ≡ Some (first, second) → (at : ℕ) × (slice_get pairs at ≡ Some (first, second))
      by_place first second following zero there = let same : pair.1 ≡ second = (λ i. (same_Some pair (first, second) there i).1) in absurd (omega (arith, following, same))
      by_place first second following (suc place) there = (place, there)

-- the first pairs of two such lists are the same
same_first : (Are : ℕ → ℕ → Type 0) (pair other : ℕ × ℕ) (pairs others : List (ℕ × ℕ)) → ArePairs Are (pair ∷ pairs) → ArePairs Are (other ∷ others) → pair ≡ other
same_first Are pair other pairs others are also =
    let there = are.all other.0 other.1 (also.each 0 other refl) in
    let again = also.all pair.0 pair.1 (are.each 0 pair refl) in
    elim (first_or_after Are pair pairs are there.0 other there.1) [
      | inl same ↦ same
      | inr before ↦ elim (first_or_after Are other others also again.0 pair again.1) [
        | inl same ↦ sym same
        | inr following ↦ absurd (omega (arith, before, following))
      ]
    ]

-- there is one list of such pairs
pub one_list : (Are : ℕ → ℕ → Type 0) (pairs others : List (ℕ × ℕ)) → ArePairs Are pairs → ArePairs Are others → pairs ≡ others
one_list Are [] [] are also = refl
one_list Are [] (other ∷ others) are also =
    let there = are.all other.0 other.1 (also.each 0 other refl) in
    let within = slice_get_within [] there.0 (other.0, other.1) there.1 in
    absurd (omega (arith, within))
one_list Are (pair ∷ pairs) [] are also =
    let there = also.all pair.0 pair.1 (are.each 0 pair refl) in
    let within = slice_get_within [] there.0 (pair.0, pair.1) there.1 in
    absurd (omega (arith, within))
one_list Are (pair ∷ pairs) (other ∷ rest) are also =
    let same = same_first Are pair other pairs rest are also in
    let following = subst (λ (it : ℕ × ℕ). ArePairs (AreAfter Are it.1) rest) (sym same) (others Are other rest also) in
    let tail = one_list (AreAfter Are pair.1) pairs rest (others Are pair pairs are) following in
    λ i. same i ∷ tail i

-- one advice on a layer
one_of_layer : (layer : ℕ) (layer_record : LayerRecord) (advice other : List Advice) → IsLayerAdvice layer layer_record advice → IsLayerAdvice layer layer_record other → advice ≡ other
one_of_layer layer layer_record advice other is also =
    let keys = one_list (IsRepetition (KeyAt layer_record)) is.keys also.keys is.of_keys also.of_keys in
    let ids = one_list (IsRepetition (IdAt layer_record)) is.ids also.ids is.of_ids also.of_ids in
    let same : no_feature layer layer_record.features ++ (equal_keys layer is.keys ++ equal_ids layer is.ids) ≡ no_feature layer layer_record.features ++ (equal_keys layer also.keys ++ equal_ids layer also.ids) =
    λ i. no_feature layer layer_record.features ++ (equal_keys layer (keys i) ++ equal_ids layer (ids i)) in
    is.is ∙ same ∙ sym also.is

-- and on layers
one_of_layers : (layer : ℕ) (layers : List LayerRecord) (advice other : List Advice) → AreLayersAdvice layer layers advice → AreLayersAdvice layer layers other → advice ≡ other
one_of_layers layer [] advice other are also = are ∙ sym also
one_of_layers layer (layer_record ∷ rest) advice other are also =
    let own = one_of_layer layer layer_record are.0 also.0 are.2 also.2 in
    let further = one_of_layers (suc layer) rest are.1 also.1 are.3 also.3 in
    let same : are.0 ++ are.1 ≡ also.0 ++ also.1 = λ i. own i ++ further i in
    are.4 ∙ same ∙ sym also.4

-- and on a tile
pub one_advice : (layers : List LayerRecord) (advice other : List Advice) → AreAllLayersAdvice layers advice → AreAllLayersAdvice layers other → advice ≡ other
one_advice [] advice other is also = is ∙ sym also
one_advice (layer_record ∷ rest) advice other is also = one_of_layers 0 (layer_record ∷ rest) advice other is also
