-- The fate of a feature by the changes to a tile.
use Rattle.std.proofs.Common.{◌≡◌, ◌≢◌, ◌⊎◌, ◌==◌, ◌&&◌, ℕ, zero, suc, false, inl, inr, List, [], ◌∷◌, slice_get, Some, refl, ◌∙◌}
use Rattle.std.proofs.lemmas.Bool.{and_cases, and_parts, cases_Bool, cond-false, cond-true, eqb-false, eqb-true}
use Rattle.std.proofs.lemmas.Option.{none-some, same_Some}
use Rattle.mvt_splice.specs.Splice.{stays, fate_in, fate_of}
use Rattle.mvt_splice.specs.declared.change.Change.{Change}

-- one of the changes is about the feature, and its fate is that
pub record HasChange (changes : List Change) (layer feature : ℕ) : Type 0 where
  pub at : ℕ
  pub change : Change
  pub here : slice_get changes at ≡ Some change
  pub in_layer : change.layer ≡ layer
  pub ordinal : change.feature ≡ feature
  pub fate : fate_in changes layer feature ≡ fate_of change.geometry

-- none of them is, and it stays
pub record HasNone (changes : List Change) (layer feature : ℕ) : Type 0 where
  pub none : (at : ℕ) (change : Change) → slice_get changes at ≡ Some change → change.layer ≡ layer → change.feature ≢ feature
  pub fate : fate_in changes layer feature ≡ stays

-- the first change isn't about it
other_first : (change : Change) (rest : List Change) (layer feature : ℕ) → ((change.layer == layer) && (change.feature == feature)) ≡ false
    → HasChange rest layer feature ⊎ HasNone rest layer feature → HasChange (change ∷ rest) layer feature ⊎ HasNone (change ∷ rest) layer feature
other_first change rest layer feature test (inl one) =
    inl (record {
      at = suc one.at;
      change = one.change;
      here = one.here;
      in_layer = one.in_layer;
      ordinal = one.ordinal;
      fate = cond-false ((change.layer == layer) && (change.feature == feature)) (fate_of change.geometry) (fate_in rest layer feature) test ∙ one.fate;
    })
other_first change rest layer feature test (inr none) =
    inr (record {
      none = not_one;
      fate = cond-false ((change.layer == layer) && (change.feature == feature)) (fate_of change.geometry) (fate_in rest layer feature) test ∙ none.fate;
    })
  where
    not_one : (at : ℕ) (it : Change) → slice_get (change ∷ rest) at ≡ Some it → it.layer ≡ layer → it.feature ≢ feature
    not_one zero it here in_layer ordinal =
        let same : change ≡ it = same_Some change it here in
        elim (and_cases (change.layer == layer) (change.feature == feature) test) [
          | inl apart ↦ eqb-false change.layer layer apart (cc)
          | inr apart ↦ eqb-false change.feature feature apart (cc)
        ]
    not_one (suc at) it here in_layer ordinal = none.none at it here in_layer ordinal

pub change_or_none : (changes : List Change) (layer feature : ℕ) → HasChange changes layer feature ⊎ HasNone changes layer feature
change_or_none [] layer feature = inr (record { none = λ at change here. absurd (none-some change here); fate = refl })
change_or_none (change ∷ rest) layer feature = elim (cases_Bool ((change.layer == layer) && (change.feature == feature))) [
  | inl test ↦
      let both = and_parts (change.layer == layer) (change.feature == feature) test in
      inl (record {
        at = 0;
        change = change;
        here = refl;
        in_layer = eqb-true change.layer layer both.0;
        ordinal = eqb-true change.feature feature both.1;
        fate = cond-true ((change.layer == layer) && (change.feature == feature)) (fate_of change.geometry) (fate_in rest layer feature) test;
      })
  | inr test ↦ other_first change rest layer feature test (change_or_none rest layer feature)
]
