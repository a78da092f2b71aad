-- Which rules a feature's tags break, by tests of the tags.
use Rattle.std.proofs.Common.{◌≡◌, ◌↔◌, ℕ, ◌+◌, ◌*◌, ◌/◌, ◌%◌, ◌<◌, Bool, IsTrue, List, length, slice_get, Option, Some, inl, inr, refl, sym, ◌∙◌, ap, arith}
use Rattle.std.proofs.lemmas.Bool.{cases_eq}
use Rattle.mvt_confirm.proofs.Features.LayerTexts.{IsBeyond}
use Rattle.mvt_rules.specs.Rules.{OddTags, IsKeyAt, IsValueAt, NoSuchKey, NoSuchValue, KeyAgain}

-- so many are pairs
abbrev pub IsEven : ℕ → Type 0
IsEven n = (pairs : ℕ) × (n ≡ 2 * pairs)

-- or pairs and one more
odd_otherwise : (n : ℕ) → ¬ IsEven n → (pairs : ℕ) × (n ≡ 2 * pairs + 1)
odd_otherwise n other = elim (cases_eq (n % 2) 0) [
  | inl none ↦ absurd (other (n / 2, omega arith))
  | inr some ↦ (n / 2, omega arith)
]

-- the tags end with an odd number
pub odd_decides : (tags : List ℕ) (index : ℕ) (test : Bool) → ¬ IsEven index → (IsTrue test ↔ (length tags ≡ index)) → IsTrue test ↔ OddTags tags index
odd_decides tags index test odd ends =
    let pairs = odd_otherwise index odd in
    (λ holds. record { pairs = pairs.0; odd = ends.0 holds ∙ pairs.1; at_end = sym (ends.0 holds) }, λ broken. ends.1 (sym broken.at_end))

module _ (tags : List ℕ) (index : ℕ) (found : Option ℕ) (number : ℕ) (is : found ≡ Some number ↔ (IsEven (length tags) × (slice_get tags index ≡ Some number))) where
  -- a number at an even place is the index of a key
  pub key_decides : IsEven index → found ≡ Some number ↔ IsKeyAt tags index number
  key_decides even = (
    λ there. let pairs = is.0 there in record { pairs = pairs.0.0; even = pairs.0.1; pair = even.0; first = even.1; here = pairs.1 },
    λ key. is.1 ((key.pairs, key.even), key.here),
  )

  -- one at another place is the index of a value
  pub value_decides : ¬ IsEven index → found ≡ Some number ↔ IsValueAt tags index number
  value_decides odd =
      let place = odd_otherwise index odd in (
        λ there. let pairs = is.0 there in record { pairs = pairs.0.0; even = pairs.0.1; pair = place.0; second = place.1; here = pairs.1 },
        λ value. is.1 ((value.pairs, value.even), value.here),
      )

module _ (tags : List ℕ) (index count : ℕ) (test : Bool) (tag : Option ℕ) (beyond : IsTrue test ↔ IsBeyond tag count) where
  -- the layer has not so many keys
  pub lack_of_key : ((key : ℕ) → tag ≡ Some key ↔ IsKeyAt tags index key) → IsTrue test ↔ NoSuchKey count tags index
  lack_of_key is = (
    λ holds. let own = beyond.0 holds in record { key = own.0; here = (is own.0).0 own.1; beyond = own.2 },
    λ broken. beyond.1 (broken.key, (is broken.key).1 broken.here, broken.beyond),
  )

  -- or values
  pub lack_of_value : ((value : ℕ) → tag ≡ Some value ↔ IsValueAt tags index value) → IsTrue test ↔ NoSuchValue count tags index
  lack_of_value is = (
    λ holds. let own = beyond.0 holds in record { value = own.0; here = (is own.0).0 own.1; beyond = own.2 },
    λ broken. beyond.1 (broken.value, (is broken.value).1 broken.here, broken.beyond),
  )

-- the key stands at an even place before
pub again_decides : (tags : List ℕ) (index own : ℕ) (test : Bool) → ((key : ℕ) → ◌≡◌ {A = Option ℕ} (Some own) (Some key) ↔ IsKeyAt tags index key)
    → (IsTrue test ↔ ((pair : ℕ) × (2 * pair < index) × (slice_get tags (2 * pair) ≡ Some own))) → IsTrue test ↔ KeyAgain tags index
again_decides tags index own test is earlier =
    let here = (is own).0 refl in (
      λ holds.
          let before = earlier.0 holds in
          record {
            key = own;
            here = here;
            earlier = 2 * before.0;
            before = before.1;
            there = record { pairs = here.pairs; even = here.even; pair = before.0; first = refl; here = before.2 };
          },
      λ again.
          let both : Some own ≡ Some again.key = (is again.key).1 again.here in
          let there = again.there in
          let first : again.earlier ≡ 2 * there.pair = there.first in
          let less = again.before in
          let same : again.key ≡ own = cc both in
          earlier.1 (there.pair, omega (arith, first), ap (slice_get tags) (sym first) ∙ there.here ∙ ap Some same),
    )
