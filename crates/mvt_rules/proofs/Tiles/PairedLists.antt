-- Two lists that have a relation member by member, in order.
use Rattle.std.proofs.Common.{◌≡◌, ℕ, zero, suc, List, [], ◌∷◌, length, slice_get, Some, refl, subst, arith}
use Rattle.mvt_rules.specs.Tile.{Each}

-- what belongs to a member of the first list is at the same place of the second
pub each_there : {A B : Type 0} (R : A → B → Type 0) (xs : List A) (ys : List B) (i : ℕ) (x : A) → Each R xs ys → slice_get xs i ≡ Some x → (y : B) × (slice_get ys i ≡ Some y) × R x y
each_there R [] [] i x each here = absurd (cc)
each_there R (first ∷ xs) (y ∷ ys) zero x each here = let same : first ≡ x = cc in (y, refl, subst (λ (member : _). R member y) same each.0)
each_there R (first ∷ xs) (y ∷ ys) (suc i) x each here = each_there R xs ys i x each.1 here
each_there R p q i x each here = absurd each

-- and the other way round
pub each_here : {A B : Type 0} (R : A → B → Type 0) (xs : List A) (ys : List B) (i : ℕ) (y : B) → Each R xs ys → slice_get ys i ≡ Some y → (x : A) × (slice_get xs i ≡ Some x) × R x y
each_here R [] [] i y each there = absurd (cc)
each_here R (x ∷ xs) (other ∷ ys) zero y each there = let same : other ≡ y = cc in (x, refl, subst (λ (member : _). R x member) same each.0)
each_here R (x ∷ xs) (other ∷ ys) (suc i) y each there = each_here R xs ys i y each.1 there
each_here R p q i y each there = absurd each

-- the lists have one length
pub same_length : {A B : Type 0} (R : A → B → Type 0) (xs : List A) (ys : List B) → Each R xs ys → length xs ≡ length ys
same_length R [] [] each = refl
same_length R (x ∷ xs) (y ∷ ys) each = omega (arith, same_length R xs ys each.1)
same_length R p q each = absurd each
