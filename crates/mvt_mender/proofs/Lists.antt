-- Members of lists, by their numbers.
use Rattle.std.proofs.Common.{◌≡◌, ℕ, suc, ◌<◌, ◌≤◌, ◌⊎◌, inl, inr, List, [], ◌∷◌, length, slice_get, Some, refl, arith}
use Rattle.std.proofs.lemmas.Option.{slice_get_cases}
use Rattle.mvt_rules.specs.Tile.{Each}

-- within a list is a member
pub present : {A : Type 0} (all : List A) (at : ℕ) → at < length all → (it : A) × (slice_get all at ≡ Some it)
present all at within = elim ((slice_get_cases all at).1) [
  | inl (it, less, here, same) ↦ (it, here)
  | inr (more, none) ↦ absurd (omega arith)
]

-- up to its end is a member, or the end
pub within_or_end : {A : Type 0} (all : List A) (at : ℕ) → at ≤ length all → ((it : A) × (slice_get all at ≡ Some it)) ⊎ (at ≡ length all)
within_or_end all at within = elim ((slice_get_cases all at).1) [
  | inl (it, less, here, same) ↦ inl (it, here)
  | inr (more, none) ↦ inr (omega arith)
]

-- two lists of one length, whose members of one number belong together
pub each_by_number : {A B : Type 0} (R : A → B → Type 0) (xs : List A) (ys : List B) → length xs ≡ length ys
    → ((at : ℕ) (x : A) (y : B) → slice_get xs at ≡ Some x → slice_get ys at ≡ Some y → R x y) → Each R xs ys
each_by_number R [] [] same related = tt
each_by_number R [] (y ∷ ys) same related = absurd (omega arith)
each_by_number R (x ∷ xs) [] same related = absurd (omega arith)
each_by_number R (x ∷ xs) (y ∷ ys) same related =
    (related 0 x y refl refl, each_by_number R xs ys (omega arith) (λ at one other here there. related (suc at) one other here there))
