-- Lists of numbers along which a next number leads on, and a previous number leads back.
use Rattle.std.proofs.Common.{◌≡◌, ◌≢◌, ◌⊎◌, inl, inr, ℕ, zero, suc, ◌≤◌, List, [], ◌∷◌, ◌++◌, length, take, refl, sym, ◌∙◌, arith}
use Rattle.std.specs.Option.{unwrap_or}
use Rattle.mvt_sweep.specs.Calls.Chain.{EachOne, Has, Ordered}
use Rattle.mvt_sweep.specs.Calls.Chains.{LeadsBack, LeadsOn}
use Rattle.mvt_sweep.proofs.Chains.ChainParts.{each_has}
use Rattle.mvt_status.specs.Split.{before}

-- the last of a list, or else the number before it
abbrev pub last_of : ℕ → List ℕ → ℕ
last_of first [] = first
last_of first (number ∷ rest) = last_of number rest

-- the first of a list, or else the number after it
abbrev pub first_of : List ℕ → ℕ → ℕ
first_of [] last = last
first_of (number ∷ rest) last = number

-- the last is one of them
pub has_last : (number : ℕ) (rest : List ℕ) → Has (number ∷ rest) (last_of number rest)
has_last number [] = inl refl
has_last number (next ∷ rest) = inr (has_last next rest)

-- Next numbers

-- where two lead alike, both do
pub leads_alike : (next other : ℕ → ℕ) (first : ℕ) (list : List ℕ) (last : ℕ) → ((it : ℕ) → Has (first ∷ list) it → other it ≡ next it) → LeadsOn next first list last
    → LeadsOn other first list last
leads_alike next other first [] last alike leads = alike first (inl refl) ∙ leads
leads_alike next other first (number ∷ rest) last alike leads = (alike first (inl refl) ∙ leads.0, leads_alike next other number rest last (λ it has. alike it (inr has)) leads.1)

-- the first one leads to the first of the list
pub leads_first : (next : ℕ → ℕ) (first : ℕ) (list : List ℕ) (last : ℕ) → LeadsOn next first list last → next first ≡ first_of list last
leads_first next first [] last leads = leads
leads_first next first (number ∷ rest) last leads = leads.0

-- from the last of a front it goes on
pub leads_after : (next : ℕ → ℕ) (first : ℕ) (front back : List ℕ) (last : ℕ) → LeadsOn next first (front ++ back) last → LeadsOn next (last_of first front) back last
leads_after next first [] back last leads = leads
leads_after next first (number ∷ front) back last leads = leads_after next number front back last leads.1

-- from another number that leads to the same one it goes on too
pub leads_from : (next other : ℕ → ℕ) (first start : ℕ) (list : List ℕ) (last : ℕ) → other start ≡ next first → ((it : ℕ) → Has list it → other it ≡ next it)
    → LeadsOn next first list last → LeadsOn other start list last
leads_from next other first start [] last same alike leads = same ∙ leads
leads_from next other first start (number ∷ rest) last same alike leads = (same ∙ leads.0, leads_alike next other number rest last alike leads.1)

-- another list after a front
pub leads_new : (next other : ℕ → ℕ) (first : ℕ) (front old new : List ℕ) (last end : ℕ) → Ordered (λ (one that : ℕ). one ≢ that) (first ∷ front) → LeadsOn next first (front ++ old) last
    → ((it : ℕ) → Has (first ∷ front) it → it ≢ last_of first front → other it ≡ next it) → LeadsOn other (last_of first front) new end → LeadsOn other first (front ++ new) end
leads_new next other first [] old new last end differ leads alike following = following
leads_new next other first (number ∷ front) old new last end differ leads alike following = (
  alike first (inl refl) (each_has (λ (that : ℕ). first ≢ that) (number ∷ front) (last_of number front) differ.0 (has_last number front)) ∙ leads.0,
  leads_new next other number front old new last end differ.1 leads.1 (λ it has. alike it (inr has)) following,
)

-- Previous numbers

pub back_alike : (previous other : ℕ → ℕ) (first : ℕ) (list : List ℕ) (last : ℕ) → ((it : ℕ) → Has list it → other it ≡ previous it) → other last ≡ previous last
    → LeadsBack previous first list last → LeadsBack other first list last
back_alike previous other first [] last alike same leads = same ∙ leads
back_alike previous other first (number ∷ rest) last alike same leads =
    (alike number (inl refl) ∙ leads.0, back_alike previous other number rest last (λ it has. alike it (inr has)) same leads.1)

-- after a front it leads back to the last of that
pub back_after : (previous : ℕ → ℕ) (first : ℕ) (front back : List ℕ) (last : ℕ) → LeadsBack previous first (front ++ back) last → LeadsBack previous (last_of first front) back last
back_after previous first [] back last leads = leads
back_after previous first (number ∷ front) back last leads = back_after previous number front back last leads.1

-- to another number from the first of a list
pub back_to : (previous other : ℕ → ℕ) (first start : ℕ) (list : List ℕ) (last : ℕ) → Ordered (λ (one that : ℕ). one ≢ that) list → EachOne (λ (it : ℕ). it ≢ last) list
    → other (first_of list last) ≡ start → ((it : ℕ) → Has list it ⊎ (it ≡ last) → it ≢ first_of list last → other it ≡ previous it) → LeadsBack previous first list last
    → LeadsBack other start list last
back_to previous other first start [] last differ apart same alike leads = same
back_to previous other first start (number ∷ rest) last differ apart same alike leads = (
  same,
  back_alike previous other number rest last (λ it has. alike it (inl (inr has)) (λ is. each_has (λ (that : ℕ). number ≢ that) rest it differ.0 has (sym is)))
      (alike last (inr refl) (λ is. apart.0 (sym is))) leads.1,
)

-- another list after a front
pub back_new : (previous other : ℕ → ℕ) (first : ℕ) (front old new : List ℕ) (last end : ℕ) → LeadsBack previous first (front ++ old) last
    → ((it : ℕ) → Has front it → other it ≡ previous it) → LeadsBack other (last_of first front) new end → LeadsBack other first (front ++ new) end
back_new previous other first [] old new last end leads alike following = following
back_new previous other first (number ∷ front) old new last end leads alike following =
    (alike number (inl refl) ∙ leads.0, back_new previous other number front old new last end leads.1 (λ it has. alike it (inr has)) following)

-- Places

-- the one before a place, or else what is outside
pub last_taken : (list : List ℕ) (at outside : ℕ) → at ≤ length list → unwrap_or (before list at) outside ≡ last_of outside (take at list)
last_taken list zero outside within = refl
last_taken [] (suc at) outside within = absurd (omega arith)
last_taken (number ∷ rest) (suc zero) outside within = refl
last_taken (number ∷ []) (suc (suc at)) outside within = absurd (omega arith)
last_taken (number ∷ next ∷ rest) (suc (suc at)) outside within = last_taken (next ∷ rest) (suc at) outside (omega arith)
