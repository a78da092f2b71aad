-- A walk over the tags of a feature: which of them a step gives, and where they end.
use Rattle.std.proofs.Common.{◌≡◌, ◌↔◌, ℕ, suc, ◌+◌, ◌*◌, ◌<◌, Bool, true, false, not, IsTrue, List, [], length, drop, slice_get, Option, Some, None, is_some, inl, inr, refl, sym, ◌∙◌, ap, subst, arith, length-drop}
use Rattle.std.proofs.lemmas.Bool.{cases_eq}
use Rattle.std.proofs.lemmas.Option.{slice_get_past, slice_get_within}
use Rattle.mvt_wire.specs.Numbers.{NumberWalk, NumbersLeft}
use Rattle.mvt_confirm.specs.Calls.Numbers.{TakesNumber}
use Rattle.mvt_confirm.specs.Calls.Tags.{HasPassed}
use Rattle.mvt_confirm.proofs.Shapes.EdgeWalks.{rest_at}

-- what a step gives is the next of them
pub next_given : (tags : List ℕ) (old new : NumberWalk) (passed n : ℕ) → HasPassed tags old passed → TakesNumber old new (Some n)
    → (slice_get tags passed ≡ Some n) × HasPassed tags new (passed + 1)
next_given tags old new passed n so_far given =
    let following = given (drop passed tags) so_far.left in
    let next = rest_at tags following.0 passed n following.1 in
    let more : suc passed ≡ passed + 1 = omega arith in
    (next.1, subst (HasPassed tags new) more (record { within = next.0; left = subst (λ (rest : List ℕ). NumbersLeft new rest None) (sym next.2) following.2 }))

-- a walk with nothing left
abbrev pub LeavesNone : NumberWalk → Type 0
LeavesNone walk = (left : List ℕ) → NumbersLeft walk left None → left ≡ []

-- has passed all of them
pub all_passed : (tags : List ℕ) (walk : NumberWalk) (passed : ℕ) → HasPassed tags walk passed → LeavesNone walk → length tags ≡ passed
all_passed tags walk passed so_far none =
    let empty : drop passed tags ≡ [] = none (drop passed tags) so_far.left in
    let within = so_far.within in
    omega (arith, length-drop passed tags, ap length empty)

-- true for an even number of tags, false for an odd one
abbrev pub IsParity : Bool → ℕ → Type 0
IsParity true n = (pairs : ℕ) × (n ≡ 2 * pairs)
IsParity false n = (pairs : ℕ) × (n ≡ 2 * pairs + 1)

-- it changes with one more
pub IsParity-more : (even : Bool) (n : ℕ) → IsParity even n → IsParity (not even) (n + 1)
IsParity-more true n parity = (parity.0, ap (λ (m : ℕ). m + 1) parity.1)
IsParity-more false n parity = (parity.0 + 1, omega (arith, parity.1))

pub parity_decides : (even : Bool) (n : ℕ) → IsParity even n → IsTrue even ↔ ((pairs : ℕ) × (n ≡ 2 * pairs))
parity_decides true n parity = (λ holds. parity, λ pairs. refl)
parity_decides false n parity = (λ holds. absurd (cc), λ pairs. absurd (omega (arith, parity.1, pairs.1)))

-- a walk over the tags of a feature begins with all of them left
pub HasPassed-begin : (tags : List ℕ) (walk : NumberWalk) → NumbersLeft walk tags None → HasPassed tags walk 0
HasPassed-begin tags walk left = record { within = omega arith; left = left }

-- the key stands at no even place before another one
abbrev pub NoEarlierKey : List ℕ → ℕ → ℕ → Type 0
NoEarlierKey tags key place = (pair : ℕ) → 2 * pair < place → ¬ (slice_get tags (2 * pair) ≡ Some key)

-- nor at that
pub NoEarlierKey-more : (tags : List ℕ) (key place n : ℕ) → NoEarlierKey tags key place → slice_get tags place ≡ Some n
    → ¬ (((pair : ℕ) × (place ≡ 2 * pair)) × (n ≡ key)) → NoEarlierKey tags key (place + 1)
NoEarlierKey-more tags key place n none there other = λ pair less here. elim (cases_eq (2 * pair) place) [
  | inl same ↦
      let both : Some n ≡ Some key = sym there ∙ ap (slice_get tags) (sym same) ∙ here in
      let own : n ≡ key = cc in
      other ((pair, sym same), own)
  | inr apart ↦ none pair (omega arith) here
]

-- nor after the last
pub none_after : (tags : List ℕ) (key place index : ℕ) → NoEarlierKey tags key place → length tags ≡ place → NoEarlierKey tags key index
none_after tags key place index none size = λ pair less here. none pair (omega (arith, slice_get_within tags (2 * pair) key here)) here

-- the key that was given stands at an even place
pub key_here : (tags : List ℕ) (key place n index : ℕ) → place < index → slice_get tags place ≡ Some n → ((pair : ℕ) × (place ≡ 2 * pair)) × (n ≡ key)
    → (pair : ℕ) × (2 * pair < index) × (slice_get tags (2 * pair) ≡ Some key)
key_here tags key place n index before there own =
    let pair = own.0.0 in
    let even : place ≡ 2 * pair = own.0.1 in
    (pair, omega arith, ap (slice_get tags) (sym even) ∙ there ∙ ap Some own.1)

-- what a step gives, if it gives anything, is the number at the place of the walk
pub next_is : (tags : List ℕ) (old new : NumberWalk) (passed : ℕ) (found : Option ℕ) → HasPassed tags old passed → TakesNumber old new found
    → found ≡ slice_get tags passed
next_is tags old new passed None so_far taken = sym (slice_get_past tags passed (omega (arith, all_passed tags old passed so_far taken)))
next_is tags old new passed (Some n) so_far taken = sym (next_given tags old new passed n so_far taken).0

-- where a step gives nothing, as many tags were passed as there are
pub end_decides : (tags : List ℕ) (old new : NumberWalk) (passed : ℕ) (found : Option ℕ) (test : Bool) → HasPassed tags old passed → TakesNumber old new found
    → is_some found ≡ not test → IsTrue test ↔ (length tags ≡ passed)
end_decides tags old new passed None true so_far taken is = (λ holds. all_passed tags old passed so_far taken, λ size. refl)
end_decides tags old new passed None false so_far taken is = absurd (cc)
end_decides tags old new passed (Some n) true so_far taken is = absurd (cc)
end_decides tags old new passed (Some n) false so_far taken is =
    let next = (next_given tags old new passed n so_far taken).1 in
    let more = next.within in
    (λ holds. absurd (cc holds), λ size. absurd (omega arith))
