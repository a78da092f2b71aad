-- The split points of a list.
use Rattle.std.proofs.Common.{◌≡◌, ℕ, zero, suc, ◌<◌, ◌≤◌, Bool, true, false, true≢false, inl, inr, subst, List, length, slice_index, refl, sym, ◌∙◌, arith}
use Rattle.std.proofs.lemmas.Bool.{cases_lt}
use Rattle.mvt_status.specs.Split.{IsSplit}

-- the test is true at each place in front of one at which it is true
abbrev pub IsMonotone : (ℕ → Bool) → List ℕ → Type 0
IsMonotone test edges = (earlier later : ℕ) → earlier < later → later < length edges → test (slice_index edges later) ≡ true
    → test (slice_index edges earlier) ≡ true

-- the places before a number have a split
record SplitsFront (test : ℕ → Bool) (edges : List ℕ) (number : ℕ) : Type 0 where
  point : ℕ
  within : point ≤ number
  front : (i : ℕ) → i < point → test (slice_index edges i) ≡ true
  rest : (i : ℕ) → point ≤ i → i < number → test (slice_index edges i) ≡ false

-- what is not further than a number is in front of it or is the number itself
before_or_there : (test : ℕ → Bool) (edges : List ℕ) (number i : ℕ) (answer : Bool) → i < suc number → (i < number → test (slice_index edges i) ≡ answer)
    → test (slice_index edges number) ≡ answer → test (slice_index edges i) ≡ answer
before_or_there test edges number i answer below before here =
    elim (cases_lt i number) [
      | inl earlier ↦ before earlier
      | inr further ↦ subst (λ (at : ℕ). test (slice_index edges at) ≡ answer) (omega arith) here
    ]

one_more : (test : ℕ → Bool) (edges : List ℕ) (number : ℕ) (answer : Bool) → IsMonotone test edges → number < length edges
    → answer ≡ test (slice_index edges number) → SplitsFront test edges number → SplitsFront test edges (suc number)
one_more test edges number true monotone within is front = record {
  point = suc number;
  within = omega arith;
  front = λ i below. before_or_there test edges number i true below (λ earlier. monotone i number earlier within (sym is)) (sym is);
  rest = λ i from below. absurd (omega arith);
}
one_more test edges number false monotone within is front = record {
  point = front.point;
  within = omega (arith, front.within);
  front = front.front;
  rest = λ i from below. before_or_there test edges number i false below (front.rest i from) (sym is);
}

splits_front : (test : ℕ → Bool) (edges : List ℕ) (number : ℕ) → IsMonotone test edges → number ≤ length edges → SplitsFront test edges number
splits_front test edges zero monotone within = record { point = 0; within = omega arith; front = λ i below. absurd (omega arith); rest = λ i from below. absurd (omega arith) }
splits_front test edges (suc number) monotone within =
    one_more test edges number (test (slice_index edges number)) monotone (omega arith) refl (splits_front test edges number monotone (omega arith))

pub there_is_a_split : (test : ℕ → Bool) (edges : List ℕ) → IsMonotone test edges → (point : ℕ) × IsSplit (λ edge answer. answer ≡ test edge) edges point
there_is_a_split test edges monotone =
    let all = splits_front test edges (length edges) monotone (omega arith) in (
      all.point,
      record {
        within = all.within;
        front = λ i below answer is. is ∙ all.front i below;
        rest = λ i from below answer is. is ∙ all.rest i from below;
      },
    )

-- no split point is in front of another one, where the test answers on each number
no_lesser : (answers : ℕ → Bool → Type 0) (edges : List ℕ) (point other : ℕ)
    → ((i : ℕ) → i < length edges → (answer : Bool) × answers (slice_index edges i) answer)
    → IsSplit answers edges point → IsSplit answers edges other → other ≤ point
no_lesser answers edges point other there first second =
    elim (cases_lt point other) [
      | inl lesser ↦
          (let answered = there point (omega (arith, second.within)) in
          absurd (true≢false (sym (second.front point lesser answered.0 answered.1) ∙ first.rest point (omega arith) (omega (arith, second.within)) answered.0 answered.1)))
      | inr no_further ↦ no_further
    ]

-- a list has one split point for a test that answers on each of its numbers
pub one_split : (answers : ℕ → Bool → Type 0) (edges : List ℕ) (point other : ℕ)
    → ((i : ℕ) → i < length edges → (answer : Bool) × answers (slice_index edges i) answer)
    → IsSplit answers edges point → IsSplit answers edges other → point ≡ other
one_split answers edges point other there first second = omega (arith, no_lesser answers edges point other there first second, no_lesser answers edges other point there second first)
