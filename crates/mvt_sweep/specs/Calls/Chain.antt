-- Lists of numbers in which a relation holds between neighbours, or between all that come one before the other.
use Rattle.std.specs.Prelude.{◌≡◌, ⊤, ◌⊎◌, ℕ, List, [], ◌∷◌}

-- the number is in the list
abbrev pub Has : List ℕ → ℕ → Type 0
Has [] number = ⊥
Has (first ∷ rest) number = (first ≡ number) ⊎ Has rest number

-- this is true of each
abbrev pub EachOne : (ℕ → Type 0) → List ℕ → Type 0
EachOne P [] = ⊤
EachOne P (first ∷ rest) = P first × EachOne P rest

-- the relation holds between it and the first one, if there is one
abbrev pub Head : (ℕ → ℕ → Type 0) → ℕ → List ℕ → Type 0
Head R number [] = ⊤
Head R number (first ∷ rest) = R number first

-- the relation holds between each and the next one
abbrev pub Chain : (ℕ → ℕ → Type 0) → List ℕ → Type 0
Chain R [] = ⊤
Chain R (first ∷ rest) = Head R first rest × Chain R rest

-- the relation holds between the last of the one list and the first of the other, if neither list is empty
abbrev pub Joined : (ℕ → ℕ → Type 0) → List ℕ → List ℕ → Type 0
Joined R [] back = ⊤
Joined R (last ∷ []) back = Head R last back
Joined R (first ∷ next ∷ rest) back = Joined R (next ∷ rest) back

-- the relation holds between each and all after it
abbrev pub Ordered : (ℕ → ℕ → Type 0) → List ℕ → Type 0
Ordered R [] = ⊤
Ordered R (first ∷ rest) = EachOne (R first) rest × Ordered R rest
