-- Two lists that have a relation member by member, in order: what is filtered, picked or made of them.
use Rattle.std.proofs.Common.{◌≡◌, cond, Bool, true, false, List, [], ◌∷◌, ◌++◌, map, filter, filter_map, Option, refl, sym, ◌∙◌, ap, subst}
use Rattle.std.specs.List.{cons_option}
use Rattle.mvt_rules.specs.Tile.{Each}

each_cond : {A B : Type 0} (R : A → B → Type 0) (test : Bool) (x : A) (y : B) (xs : List A) (ys : List B) → R x y → Each R xs ys → Each R (cond test (x ∷ xs) xs) (cond test (y ∷ ys) ys)
each_cond R true x y xs ys first rest = (first, rest)
each_cond R false x y xs ys first rest = rest

-- a test that passes both or neither
pub each_filtered : {A : Type 0} (R : A → A → Type 0) (test : A → Bool) → ((x y : A) → R x y → test y ≡ test x) → (xs ys : List A) → Each R xs ys → Each R (filter test xs) (filter test ys)
each_filtered R test agree [] [] each = tt
each_filtered {A} R test agree (x ∷ xs) (y ∷ ys) each =
    subst (λ (t : Bool). Each R (cond (test x) (x ∷ filter test xs) (filter test xs)) (cond t (y ∷ filter test ys) (filter test ys))) (sym (agree x y each.0))
    (each_cond R (test x) x y (filter test xs) (filter test ys) each.0 (each_filtered R test agree xs ys each.1))
each_filtered R test agree p q each = absurd each

pub each_mapped : {A B C D : Type 0} (R : A → B → Type 0) (S : C → D → Type 0) (f : A → C) (g : B → D) → ((x : A) (y : B) → R x y → S (f x) (g y)) → (xs : List A) (ys : List B) → Each R xs ys → Each S (map f xs) (map g ys)
each_mapped R S f g leads [] [] each = tt
each_mapped R S f g leads (x ∷ xs) (y ∷ ys) each = (leads x y each.0, each_mapped R S f g leads xs ys each.1)
each_mapped R S f g leads p q each = absurd each

-- what is picked is the same
pub same_picked : {A B C : Type 0} (R : A → B → Type 0) (f : A → Option C) (g : B → Option C) → ((x : A) (y : B) → R x y → g y ≡ f x) → (xs : List A) (ys : List B) → Each R xs ys → filter_map g ys ≡ filter_map f xs
same_picked R f g agree [] [] each = refl
same_picked {A} {B} {C} R f g agree (x ∷ xs) (y ∷ ys) each =
    ap (λ (o : Option C). cons_option o (filter_map g ys)) (agree x y each.0) ∙ ap (cons_option (f x)) (same_picked R f g agree xs ys each.1)
same_picked R f g agree p q each = absurd each

-- what belongs to a single one is single
pub each_single : {A B : Type 0} (R : A → B → Type 0) (x : A) (ys : List B) → Each R (x ∷ []) ys → (y : B) × (ys ≡ y ∷ []) × R x y
each_single R x [] each = absurd each
each_single R x (y ∷ []) each = (y, refl, each.0)
each_single R x (y ∷ z ∷ ys) each = absurd each.1

-- relations one after another
pub each_through : {A B C : Type 0} (R : A → B → Type 0) (S : B → C → Type 0) (T : A → C → Type 0) → ((x : A) (y : B) (z : C) → R x y → S y z → T x z) → (xs : List A) (ys : List B) (zs : List C) → Each R xs ys → Each S ys zs → Each T xs zs
each_through R S T leads [] [] [] h k = tt
each_through R S T leads (x ∷ xs) (y ∷ ys) (z ∷ zs) h k = (leads x y z h.0 k.0, each_through R S T leads xs ys zs h.1 k.1)
each_through R S T leads [] (y ∷ ys) zs h k = absurd h
each_through R S T leads (x ∷ xs) [] zs h k = absurd h
each_through R S T leads [] [] (z ∷ zs) h k = absurd k
each_through R S T leads (x ∷ xs) (y ∷ ys) [] h k = absurd k

pub each_back : {A B : Type 0} (R : A → B → Type 0) (S : B → A → Type 0) → ((x : A) (y : B) → R x y → S y x) → (xs : List A) (ys : List B) → Each R xs ys → Each S ys xs
each_back R S leads [] [] each = tt
each_back R S leads (x ∷ xs) (y ∷ ys) each = (leads x y each.0, each_back R S leads xs ys each.1)
each_back R S leads [] (y ∷ ys) each = absurd each
each_back R S leads (x ∷ xs) [] each = absurd each

pub each_weaker : {A B : Type 0} (R S : A → B → Type 0) → ((x : A) (y : B) → R x y → S x y) → (xs : List A) (ys : List B) → Each R xs ys → Each S xs ys
each_weaker R S leads [] [] each = tt
each_weaker R S leads (x ∷ xs) (y ∷ ys) each = (leads x y each.0, each_weaker R S leads xs ys each.1)
each_weaker R S leads p q each = absurd each

pub each_itself : {A : Type 0} (R : A → A → Type 0) → ((x : A) → R x x) → (xs : List A) → Each R xs xs
each_itself R same [] = tt
each_itself R same (x ∷ xs) = (same x, each_itself R same xs)

pub each_append : {A B : Type 0} (R : A → B → Type 0) (xs : List A) (ys : List B) (more : List A) (others : List B) → Each R xs ys → Each R more others → Each R (xs ++ more) (ys ++ others)
each_append R [] [] more others each further = further
each_append R (x ∷ xs) (y ∷ ys) more others each further = (each.0, each_append R xs ys more others each.1 further)
each_append R [] (y ∷ ys) more others each further = absurd each
each_append R (x ∷ xs) [] more others each further = absurd each
