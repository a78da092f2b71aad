-- Elements put into a list, taken out again or written in the place of others.
use Rattle.std.proofs.Common.{◌≡◌, ℕ, Bool, true, false, true≢false, if◌then◌else◌, zero, suc, ◌<◌, ◌≤◌, List, [], ◌∷◌, ◌++◌, append_assoc, insert, length, remove, slice_set, refl, sym, ◌∙◌, ap, arith}

-- the list is then as it was
pub remove_inserted : (list : List ℕ) (at it : ℕ) → at ≤ length list → remove (insert list at it) at ≡ list
remove_inserted [] zero it within = refl
remove_inserted [] (suc at) it within = absurd (omega arith)
remove_inserted (first ∷ rest) zero it within = refl
remove_inserted (first ∷ rest) (suc at) it within = ap (λ (back : List ℕ). first ∷ back) (remove_inserted rest at it (omega arith))

-- an element written in the place of another one
pub written : (list : List ℕ) (at it : ℕ) → at < length list → slice_set list at it ≡ insert (remove list at) at it
written [] at it within = absurd (omega arith)
written (first ∷ rest) zero it within = refl
written (first ∷ rest) (suc at) it within = ap (λ (back : List ℕ). first ∷ back) (written rest at it (omega arith))

-- the list where the second edge was refused
pub refused : (placed : Bool) (list more most : List ℕ) → placed ≡ false → list ≡ (if placed then most else more) → list ≡ more
refused true list more most is holds = absurd (true≢false is)
refused false list more most is holds = holds

-- Lists turned round a list between them

-- the last of three goes over to the rest
pub turned : (outer top inner rest : List ℕ) → outer ++ (top ++ (inner ++ rest)) ≡ (outer ++ (top ++ inner)) ++ rest
turned outer top inner rest = ap (λ (it : List ℕ). outer ++ it) (sym (append_assoc top inner rest)) ∙ sym (append_assoc outer (top ++ inner) rest)
