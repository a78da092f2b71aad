-- Which of the changes in order is about a feature.
use Rattle.std.proofs.Common.{◌≡◌, ◌≢◌, ℕ, suc, ◌+◌, ◌<◌, ◌≤◌, ◌==◌, ◌&&◌, ◌⊎◌, inl, inr, Bool, true, false, List, [], ◌∷◌, slice_get, Some, None, Option, Vec, Global, refl, sym, ◌∙◌, ap, subst, arith, ◌-◌, ◌++◌, take, get_or, length}
use Rattle.std.proofs.lemmas.List.{get_or-take, get_or_default, length-take, length-take-le, take_more}
use Rattle.std.proofs.lemmas.List.Quantifiers.{all_pairs_push}
use Rattle.std.proofs.lemmas.Bool.{cases_lt, ne_eqb, eq-eqb, cond-true, cond-false}
use Rattle.mvt_splice.specs.Splice.{stays, fate_of, fate_in, IsBefore, AreChangesInOrder}
use Rattle.mvt_splice.specs.Calls.Fates.{IsFrom, AreChangesLeft}
use Rattle.mvt_splice.specs.declared.change.Change.{Change}

-- the change is about a later feature
abbrev pub IsAfter : Change → ℕ → ℕ → Type 0
IsAfter change layer feature = (layer < change.layer) ⊎ ((layer ≡ change.layer) × (feature < change.feature))

and_false : (b : Bool) → (b && false) ≡ false
and_false true = refl
and_false false = refl

-- the test for two other ordinals
unlike_first : (a b m n : ℕ) → (a ≡ m → ⊥) → ((a == m) && (b == n)) ≡ false
unlike_first a b m n other = ap (λ (t : Bool). t && (b == n)) (ne_eqb a m other)

unlike_second : (a b m n : ℕ) → (b ≡ n → ⊥) → ((a == m) && (b == n)) ≡ false
unlike_second a b m n other = ap (λ (t : Bool). (a == m) && t) (ne_eqb b n other) ∙ and_false (a == m)

not_about_before : (change : Change) (layer feature : ℕ) → IsBefore change layer feature → ((change.layer == layer) && (change.feature == feature)) ≡ false
not_about_before change layer feature (inl less) = unlike_first change.layer change.feature layer feature (λ same. omega arith)
not_about_before change layer feature (inr less) = unlike_second change.layer change.feature layer feature (λ same. omega arith)

not_about_after : (change : Change) (layer feature : ℕ) → IsAfter change layer feature → ((change.layer == layer) && (change.feature == feature)) ≡ false
not_about_after change layer feature (inl less) = unlike_first change.layer change.feature layer feature (λ same. omega arith)
not_about_after change layer feature (inr less) = unlike_second change.layer change.feature layer feature (λ same. omega arith)

-- a change that isn't about the feature is passed over
fate_passed : (change : Change) (changes : List Change) (layer feature : ℕ) → ((change.layer == layer) && (change.feature == feature)) ≡ false → fate_in (change ∷ changes) layer feature ≡ fate_in changes layer feature
fate_passed change changes layer feature other = cond-false ((change.layer == layer) && (change.feature == feature)) (fate_of change.geometry) (fate_in changes layer feature) other

-- the first change's own feature
pub fate_first : (change : Change) (changes : List Change) (layer feature : ℕ) → change.layer ≡ layer → change.feature ≡ feature → fate_in (change ∷ changes) layer feature ≡ fate_of change.geometry
fate_first change changes layer feature own also =
    cond-true ((change.layer == layer) && (change.feature == feature)) (fate_of change.geometry) (fate_in changes layer feature)
    (ap (λ (t : Bool). t && (change.feature == feature)) (eq-eqb change.layer layer own) ∙ eq-eqb change.feature feature also)

before_from : (change : Change) (layer feature other_layer other_feature : ℕ) → IsBefore change layer feature → IsFrom other_layer other_feature layer feature → IsBefore change other_layer other_feature
before_from change layer feature other_layer other_feature (inl less) (inl more) = inl (omega arith)
before_from change layer feature other_layer other_feature (inl less) (inr more) = inl (omega arith)
before_from change layer feature other_layer other_feature (inr less) (inl more) = inl (omega arith)
before_from change layer feature other_layer other_feature (inr less) (inr more) = inr (omega arith, omega arith)

after_before : (change later : Change) (layer feature : ℕ) → IsAfter change layer feature → IsBefore change later.layer later.feature → IsAfter later layer feature
after_before change later layer feature (inl less) (inl more) = inl (omega arith)
after_before change later layer feature (inl less) (inr more) = inl (omega arith)
after_before change later layer feature (inr less) (inl more) = inl (omega arith)
after_before change later layer feature (inr less) (inr more) = inr (omega arith, omega arith)

pub AreChangesInOrder-tail : (change : Change) (changes : List Change) → AreChangesInOrder (change ∷ changes) → AreChangesInOrder changes
AreChangesInOrder-tail change changes in_order = λ i j d less within. in_order (suc i) (suc j) d (omega arith) (omega arith)

-- where the first change is about a later feature, so are all
pub fate_none : (change : Change) (changes : List Change) (layer feature : ℕ) → IsAfter change layer feature → AreChangesInOrder (change ∷ changes) → fate_in (change ∷ changes) layer feature ≡ stays
fate_none change [] layer feature after in_order = fate_passed change [] layer feature (not_about_after change layer feature after)
fate_none change (next ∷ changes) layer feature after in_order =
    let later = after_before change next layer feature after (in_order 0 1 change (omega arith) (omega arith)) in
    fate_passed change (next ∷ changes) layer feature (not_about_after change layer feature after)
    ∙ fate_none next changes layer feature later (AreChangesInOrder-tail change (next ∷ changes) in_order)

-- a change about an earlier feature is passed
pub AreChangesLeft-tail : (changes : List Change) (layer feature : ℕ) (change : Change) (left : List Change) → AreChangesLeft changes layer feature (change ∷ left) → IsBefore change layer feature → AreChangesLeft changes layer feature left
AreChangesLeft-tail changes layer feature change left are before = record {
  in_order = AreChangesInOrder-tail change left are.in_order;
  same = λ other_layer other_feature from.
      sym (fate_passed change left other_layer other_feature (not_about_before change other_layer other_feature (before_from change layer feature other_layer other_feature before from)))
      ∙ are.same other_layer other_feature from;
}

-- a change makes something of its feature
pub fate_told : (geometry : Option (Vec ℕ Global)) → fate_of geometry ≡ stays → ⊥
fate_told (Some numbers) same = cc
fate_told None same = cc

-- what is left from a feature on, for all later ones
pub AreChangesLeft-later : (changes left further : List Change) (layer feature later_layer later_feature : ℕ) → AreChangesLeft changes layer feature left → IsFrom later_layer later_feature layer feature
    → AreChangesLeft left later_layer later_feature further → AreChangesLeft changes later_layer later_feature further
AreChangesLeft-later changes left further layer feature later_layer later_feature are later more = record {
  in_order = more.in_order;
  same = λ other_layer other_feature from. more.same other_layer other_feature from ∙ are.same other_layer other_feature (transitive later from);
} where
  transitive : IsFrom later_layer later_feature layer feature → {other_layer other_feature : ℕ} → IsFrom other_layer other_feature later_layer later_feature → IsFrom other_layer other_feature layer feature
  transitive (inl a) (inl b) = inl (omega arith)
  transitive (inl a) (inr b) = inl (omega arith)
  transitive (inr a) (inl b) = inl (omega arith)
  transitive (inr a) (inr b) = inr (omega arith, omega arith)

-- a feature comes from itself on
pub IsFrom-own : (layer feature : ℕ) → IsFrom layer feature layer feature
IsFrom-own layer feature = inr (refl, omega arith)

-- all changes are left at first
pub AreChangesLeft-all : (changes : List Change) (layer feature : ℕ) → AreChangesInOrder changes → AreChangesLeft changes layer feature changes
AreChangesLeft-all changes layer feature in_order = record { in_order = in_order; same = λ other_layer other_feature from. refl }

-- the first of changes, and those after it
first_of_all : (changes : List Change) (change : Change) → Some change ≡ slice_get changes 0 → (rest : List Change) × (changes ≡ change ∷ rest)
first_of_all [] change is = absurd (cc)
first_of_all (first ∷ rest) change is = let same : first ≡ change = cc in (rest, ap (λ (it : Change). it ∷ rest) same)

module _ (changes : List Change) (change : Change) (is : Some change ≡ slice_get changes 0) where
  -- it says what becomes of its own feature
  pub fate_of_first : (layer feature : ℕ) → change.layer ≡ layer → change.feature ≡ feature → fate_in changes layer feature ≡ fate_of change.geometry
  fate_of_first layer feature own also =
      let parts = first_of_all changes change is in
      ap (λ (list : List Change). fate_in list layer feature) parts.1 ∙ fate_first change parts.0 layer feature own also

  -- earlier features stay
  pub fate_before_first : (layer feature : ℕ) → AreChangesInOrder changes → IsAfter change layer feature → fate_in changes layer feature ≡ stays
  fate_before_first layer feature in_order after =
      let parts = first_of_all changes change is in
      ap (λ (list : List Change). fate_in list layer feature) parts.1 ∙ fate_none change parts.0 layer feature after (subst AreChangesInOrder parts.1 in_order)

-- a change about no earlier feature, and not about this one
pub after_in_layer : (change : Change) (layer feature : ℕ) → (IsBefore change layer feature → ⊥) → change.layer ≡ layer → (change.feature ≡ feature → ⊥) → IsAfter change layer feature
after_in_layer change layer feature not own other = elim (cases_lt feature change.feature) [
  | inl less ↦ inr (sym own, less)
  | inr least ↦ absurd (not (inr (own, let ne : change.feature ≢ feature = other in omega arith)))
]

pub after_layer : (change : Change) (layer feature place : ℕ) → (IsBefore change layer place → ⊥) → (change.layer ≡ layer → ⊥) → IsAfter change layer feature
after_layer change layer feature place not other = elim (cases_lt layer change.layer) [
  | inl less ↦ inl less
  | inr least ↦ absurd (not (inl (let ne : change.layer ≢ layer = other in omega arith)))
]

-- what is left from a feature on is left from a later one on
pub AreChangesLeft-on : (changes left : List Change) (layer feature later_layer later_feature : ℕ) → AreChangesLeft changes layer feature left → IsFrom later_layer later_feature layer feature → AreChangesLeft changes later_layer later_feature left
AreChangesLeft-on changes left layer feature later_layer later_feature are later =
    AreChangesLeft-later changes left left layer feature later_layer later_feature are later (AreChangesLeft-all left later_layer later_feature are.in_order)

before_before : (change next : Change) (layer feature : ℕ) → IsBefore change next.layer next.feature → IsBefore next layer feature → IsBefore change layer feature
before_before change next layer feature (inl less) (inl more) = inl (omega arith)
before_before change next layer feature (inl less) (inr more) = inl (omega arith)
before_before change next layer feature (inr less) (inl more) = inl (omega arith)
before_before change next layer feature (inr less) (inr more) = inr (omega arith, omega arith)

-- one change alone is in order
pub AreChangesInOrder-one : (changes : List Change) → AreChangesInOrder (take 1 changes)
AreChangesInOrder-one changes i j d less within = absurd (let few = length-take 1 changes in omega arith)

-- a change after the last one
pub AreChangesInOrder-push : (changes : List Change) (i : ℕ) (last change : Change) → 1 ≤ i → i < length changes → last ≡ get_or changes (i - 1) last → change ≡ get_or changes i change
    → AreChangesInOrder (take i changes) → IsBefore last change.layer change.feature → AreChangesInOrder (take (i + 1) changes)
AreChangesInOrder-push changes i last change some within is there in_order before =
    subst AreChangesInOrder (sym (take_more changes i change within ∙ ap (λ (it : Change). take i changes ++ it ∷ []) (sym there)))
    (all_pairs_push (λ earlier later. IsBefore earlier later.layer later.feature) (take i changes) change in_order each) where
      size : length (take i changes) ≡ i
      size = length-take-le i changes (omega arith)

      last_of : (d : Change) → get_or (take i changes) (i - 1) d ≡ last
      last_of d = let less : i - 1 < i = omega arith in get_or-take i changes (i - 1) d less ∙ get_or_default changes (i - 1) d last (omega arith) ∙ sym is

      each : (k : ℕ) (d : Change) → k < length (take i changes) → IsBefore (get_or (take i changes) k d) change.layer change.feature
      each k d less = elim (cases_lt k (i - 1)) [
        | inl earlier ↦ before_before (get_or (take i changes) k d) last change.layer change.feature
            (subst (λ (later : Change). IsBefore (get_or (take i changes) k d) later.layer later.feature) (last_of d) (in_order k (i - 1) d earlier (omega (arith, size)))) before
        | inr end ↦
            let place : k ≡ i - 1 = omega (arith, size) in
            subst (λ (it : Change). IsBefore it change.layer change.feature) (sym (ap (λ (n : ℕ). get_or (take i changes) n d) place ∙ last_of d)) before
      ]
