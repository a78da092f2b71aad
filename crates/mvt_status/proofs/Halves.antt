-- A search for a split point, which halves the part of the list where it is.
use Rattle.std.proofs.Common.{◌≡◌, ℕ, suc, ◌+◌, ◌-◌, ◌*◌, ◌<◌, ◌≤◌, Bool, true, false, true≢false, List, length, slice_index, slice_index_or, ap, sym, ◌∙◌, subst, inl, inr, arith}
use Rattle.std.proofs.lemmas.Bool.{cases_lt}
use Rattle.std.proofs.lemmas.List.{get_or_read}
use Rattle.mvt_plane.specs.Counted.{Counted, ticked}
use Rattle.mvt_status.specs.Counts.{AddsAtMost, bits, raised}
use Rattle.mvt_status.specs.Split.{IsSplit}
use Rattle.mvt_status.proofs.BinaryDigits.{digits_of_double, digits_of_half, digits_of_one, two_digits}

-- each split point is in a part of the list
pub record SplitsWithin (answers : ℕ → Bool → Type 0) (edges : List ℕ) (from to : ℕ) : Type 0 where
  pub within : to ≤ length edges
  pub after : (point : ℕ) → IsSplit answers edges point → from ≤ point
  pub before : (point : ℕ) → IsSplit answers edges point → point ≤ to

-- what is read at a place of a list is its number there
pub there : (items edges : List ℕ) (at edge : ℕ) → items ≡ edges → at < length edges → edge ≡ slice_index_or items at edge → edge ≡ slice_index edges at
there items edges at edge same within is = subst (λ (read : List ℕ). edge ≡ slice_index read at) same (get_or_read items at edge (omega (arith, ap length same)) is 0)

-- With as many checks to come as the part's length has digits, there are no more than the whole list's has. With one
-- fewer than the next number has, there are no fewer than so many for the whole list.
pub record ChecksLeft (left all checked : ℕ) : Type 0 where
  pub most : checked + bits left ≤ bits all
  pub least : bits (suc all) - 1 ≤ checked + (bits (suc left) - 1)
  pub room : checked + left ≤ all

-- at first this is the whole list
pub whole_part : (answers : ℕ → Bool → Type 0) (edges : List ℕ) (to : ℕ) → to ≡ length edges → SplitsWithin answers edges 0 to
whole_part answers edges to whole = record {
  within = omega arith;
  after = λ point split. omega arith;
  before = λ point split. omega (arith, split.within);
}

-- where the test is true, the split point is later
pub split_after : (answers : ℕ → Bool → Type 0) (edges : List ℕ) (from to middle : ℕ) → SplitsWithin answers edges from to → middle < to
    → (edge : ℕ) (answer : Bool) → edge ≡ slice_index edges middle → answers edge answer → answer ≡ true → SplitsWithin answers edges (middle + 1) to
split_after answers edges from to middle part below edge answer is answered holds = record {
  within = part.within;
  after = λ point split. elim (cases_lt middle point) [
    | inl further ↦ omega arith
    | inr no_further ↦
        (let here = subst (λ (it : ℕ). answers it answer) is answered in
        absurd (true≢false (sym holds ∙ split.rest middle no_further (omega (arith, part.within)) answer here)))
  ];
  before = part.before;
}

-- where it is false, it is not
pub split_before : (answers : ℕ → Bool → Type 0) (edges : List ℕ) (from to middle : ℕ) → SplitsWithin answers edges from to → middle < to
    → (edge : ℕ) (answer : Bool) → edge ≡ slice_index edges middle → answers edge answer → answer ≡ false → SplitsWithin answers edges from middle
split_before answers edges from to middle part below edge answer is answered fails = record {
  within = omega (arith, part.within);
  after = part.after;
  before = λ point split. elim (cases_lt middle point) [
    | inl further ↦
        (let here = subst (λ (it : ℕ). answers it answer) is answered in
        absurd (true≢false (sym (split.front middle further answer here) ∙ fails)))
    | inr no_further ↦ no_further
  ];
}

-- a part of no length is a split point, where the list has one
pub split_found : (answers : ℕ → Bool → Type 0) (edges : List ℕ) (from to point : ℕ) → SplitsWithin answers edges from to → to ≤ from
    → IsSplit answers edges point → IsSplit answers edges from
split_found answers edges from to point part none split =
    let same : point ≡ from = omega (arith, part.after point split, part.before point split) in
    subst (IsSplit answers edges) same split

pub none_yet : (left all : ℕ) → left ≡ all → ChecksLeft left all 0
none_yet left all same = subst (λ (left : ℕ). ChecksLeft left all 0) (sym same) (record { most = omega arith; least = omega arith; room = omega arith })

-- with a check more, half of the part is left
pub checks_half : (left half all checked : ℕ) → ChecksLeft left all checked → 0 < left → half * 2 ≤ left → left ≤ half * 2 + 2 → ChecksLeft half all (checked + 1)
checks_half left half all checked so_far some no_more no_less = record {
  most = omega (arith, so_far.most, digits_of_half half left some no_more);
  least = omega (arith, so_far.least, digits_of_double half left no_less);
  room = omega (arith, so_far.room, some, no_more);
}

-- the checks of a search that is done
pub added : (left all checked : ℕ) (before after : Counted) → ChecksLeft left all checked → AddsAtMost checked 0 before after → AddsAtMost (bits all) 0 before after
added left all checked before after so_far work = record {
  tests = work.tests;
  no_fewer_probes = work.no_fewer_probes;
  probes_added = omega (arith, so_far.most, work.probes_added);
  no_fewer_visits = work.no_fewer_visits;
  visits_added = work.visits_added;
}

-- as many at least
pub added_at_least : (left all checked before after : ℕ) → left ≡ 0 → ChecksLeft left all checked → after ≡ raised checked before → raised (bits (suc all) - 1) before ≤ after
added_at_least left all checked before after none so_far probed =
    let last : bits (suc left) ≤ 1 = subst (λ (left : ℕ). bits (suc left) ≤ 1) (sym none) digits_of_one in
    omega (arith, so_far.least, probed)

-- of a list with an edge one at least
pub one_at_least : (all before now : ℕ) → 0 < all → raised (bits (suc all) - 1) before ≤ now → ticked before ≤ now
one_at_least all before now some least = omega (arith, two_digits all some)
