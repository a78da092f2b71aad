-- How many things of a list a test holds of, where two tests differ at one of them or at none.
use Rattle.std.proofs.Common.{◌≡◌, ◌≢◌, ℕ, zero, suc, ◌+◌, ◌<◌, Bool, true, false, cond, List, [], ◌∷◌, slice_get, Some, refl, ◌∙◌, ap, arith}
use Rattle.std.specs.List.{count_by}
use Rattle.std.proofs.lemmas.List.Sums.{sum_by-cons}
use Rattle.std.proofs.lemmas.Option.{same_Some}

-- what one thing adds to the count
abbrev pub added : Bool → ℕ
added holds = cond holds 1 0

-- the count from the first thing on
pub from_first : {Thing : Type 0} (meets : Thing → Bool) (first : Thing) (rest : List Thing) → count_by meets (first ∷ rest) ≡ added (meets first) + count_by meets rest
from_first meets first rest = sum_by-cons (λ thing. cond (meets thing) 1 0) first rest

-- where the test holds of it
first_counted : {Thing : Type 0} (meets : Thing → Bool) (first : Thing) (rest : List Thing) → meets first ≡ true → count_by meets (first ∷ rest) ≡ count_by meets rest + 1
first_counted meets first rest holds =
    let here : added (meets first) ≡ 1 = ap added holds in
    omega (arith, from_first meets first rest, here)

-- where it fails
first_passed : {Thing : Type 0} (meets : Thing → Bool) (first : Thing) (rest : List Thing) → meets first ≡ false → count_by meets (first ∷ rest) ≡ count_by meets rest
first_passed meets first rest fails =
    let here : added (meets first) ≡ 0 = ap added fails in
    omega (arith, from_first meets first rest, here)

-- tests that are the same of each have the same count
pub same_count : {Thing : Type 0} (one two : Thing → Bool) (all : List Thing) → ((place : ℕ) (it : Thing) → slice_get all place ≡ Some it → one it ≡ two it)
    → count_by one all ≡ count_by two all
same_count one two [] same = refl
same_count one two (first ∷ rest) same =
    let here : added (one first) ≡ added (two first) = ap added (same 0 first refl) in
    let further = same_count one two rest (λ place it there. same (suc place) it there) in
    omega (arith, from_first one first rest, from_first two first rest, here, further)

-- where they are the same of each but one, and of that the first test holds alone, it counts one more
pub one_more : {Thing : Type 0} (one two : Thing → Bool) (all : List Thing) (at : ℕ) (it : Thing) → slice_get all at ≡ Some it → one it ≡ true → two it ≡ false
    → ((place : ℕ) (other : Thing) → place ≢ at → slice_get all place ≡ Some other → one other ≡ two other) → count_by one all ≡ count_by two all + 1
one_more one two [] at it here holds fails same = absurd (cc)
one_more one two (first ∷ rest) zero it here holds fails same =
    let is : first ≡ it = same_Some first it here in
    let further = same_count one two rest (λ place other there. same (suc place) other (λ none. omega arith) there) in
    omega (arith, first_counted one first rest (ap one is ∙ holds), first_passed two first rest (ap two is ∙ fails), further)
one_more one two (first ∷ rest) (suc at) it here holds fails same =
    let now : added (one first) ≡ added (two first) = ap added (same 0 first (λ none. omega arith) refl) in
    let further = one_more one two rest at it here holds fails (λ place other differ there. same (suc place) other (λ is. differ (omega arith)) there) in
    omega (arith, from_first one first rest, from_first two first rest, now, further)

-- where the test fails of each it counts none
pub none_counted : {Thing : Type 0} (meets : Thing → Bool) (all : List Thing) → ((place : ℕ) (it : Thing) → slice_get all place ≡ Some it → meets it ≡ false) → count_by meets all ≡ 0
none_counted meets [] fails = refl
none_counted meets (first ∷ rest) fails = first_passed meets first rest (fails 0 first refl) ∙ none_counted meets rest (λ place it there. fails (suc place) it there)

-- where it holds of one it counts some
pub some_counted : {Thing : Type 0} (meets : Thing → Bool) (all : List Thing) (place : ℕ) (it : Thing) → slice_get all place ≡ Some it → meets it ≡ true → 0 < count_by meets all
some_counted meets [] place it there holds = absurd (cc)
some_counted meets (first ∷ rest) zero it there holds = omega (arith, first_counted meets first rest (ap meets (same_Some first it there) ∙ holds))
some_counted meets (first ∷ rest) (suc place) it there holds = omega (arith, from_first meets first rest, some_counted meets rest place it there holds)

-- a thing that it holds of
abbrev pub HasCounted : {Thing : Type 0} → (Thing → Bool) → List Thing → Type 0
HasCounted {Thing} meets all = (place : ℕ) × (it : Thing) × (slice_get all place ≡ Some it) × (meets it ≡ true)

-- is the first or one after it
by_first : {Thing : Type 0} (meets : Thing → Bool) (first : Thing) (rest : List Thing) (holds : Bool) → meets first ≡ holds → (0 < count_by meets rest → HasCounted meets rest)
    → 0 < count_by meets (first ∷ rest) → HasCounted meets (first ∷ rest)
by_first meets first rest true is further some = (0, first, refl, is)
by_first meets first rest false is further some =
    let (place, it, there, holds) = further (omega (arith, first_passed meets first rest is)) in
    (suc place, it, there, holds)

-- so one is there where it counts some
pub counted : {Thing : Type 0} (meets : Thing → Bool) (all : List Thing) → 0 < count_by meets all → HasCounted meets all
counted meets [] some = absurd (omega arith)
counted meets (first ∷ rest) some = by_first meets first rest (meets first) refl (counted meets rest) some
