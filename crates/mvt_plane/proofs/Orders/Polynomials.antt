-- A solver for identities of whole numbers, by computation
--
-- `identity` proves that two polynomials have the same value: the checker multiplies both out, and
-- compares the coefficients. The two sides are quoted by hand, as values of `Polynomial`, over a
-- name for each of the listed unknowns:
--     constant c      a whole number c, as `constant (pos 2)`, `constant (negsuc 0)` (this is -1)
--     p ⊕ q, p ⊖ q, p ⊗ q, negated p       for `+ℤ`, `-ℤ`, `*ℤ` and `neg_ℤ`
-- As in the identity, ⊗ binds closer than ⊕ and ⊖, and all of them join from the left. For example
--     squares : (x y : ℤ) → (x +ℤ y) *ℤ (x -ℤ y) ≡ x *ℤ x -ℤ y *ℤ y
--     squares x y = identity (x ∷ y ∷ []) (λ X Y. ((X ⊕ Y) ⊗ (X ⊖ Y), X ⊗ X ⊖ Y ⊗ Y)) tt
-- The last argument is `tt` where the identity holds. A false one is refused there: "expected type
-- `⊥`, but this has type `Unit`". A wrong quotation is refused as a whole: the two types differ,
-- at the place that the message names. `ring` is the same with `unknown i` for the i-th of the
-- unknowns, from 0 on, in the place of names.
--
-- An unknown is any term: `a.x`, `pos n` at a variable n, a product that is to stay whole. Sums and
-- products of natural numbers go too, as `pos (m + n)` computes to `pos m +ℤ pos n`. A quotation
-- has to compute to the goal's side, so it follows its shape, and where the goal has an `abbrev` it
-- may be what that unfolds to. A formula that occurs several times is best written once more over
-- polynomials:
--     abbrev crossed : Polynomial → Polynomial → Polynomial → Polynomial → Polynomial
--     crossed a b c d = a ⊗ d ⊖ b ⊗ c
-- Under `let same = identity .. in` the identity needs no type, and `omega (arith, zs)` reads it.
--
-- A coefficient is a closed number, which computes: `pos 7`, `neg_ℤ (pos 5)`, `pos (2 ^ 32)`.
--
-- Not covered: division and remainders, powers that aren't written out as products, subtraction of
-- natural numbers, and orders: for those prove an identity, and go on by Order.antt. Cost is no
-- concern: twelve unknowns in degree six, with such coefficients, take less than a second.
--
-- What holds under equations is proved by `consequence`: after the two sides each is listed, as
-- `given factor p q` for value p ≡ value q, and the checker sees that the difference of the goal's
-- sides is the sum of the differences p ⊖ q times their factors. Their proofs are in nested pairs,
-- `(first, (second, tt))`. The factors are yours to find. `ring_from` is the same without names.
--
-- How it works: a polynomial in n + 1 unknowns is a list of polynomials in n unknowns, the
-- coefficients of the powers of the first unknown from the zeroth on, and one in no unknown is a
-- number. Nothing has to be sorted or compared, and a polynomial is 0 where all numbers in it are.
use Rattle.std.proofs.Common.{◌≡◌, ℕ, zero, suc, ◌+◌, ◌*◌, Bool, true, false, ◌&&◌, T, List, [], ◌∷◌, length, map, ℤ, pos, negsuc, ◌+ℤ◌, ◌-ℤ◌, ◌*ℤ◌, neg_ℤ, refl, sym, ◌∙◌, ap, ap₂, arith}
use Rattle.std.proofs.Math.IntN.{+ℤ_idl, +ℤ_idr, *ℤ_comm, *ℤ-zero, zero-*ℤ, -ℤ-+ℤ_cancel}
use borrow.Author.Differences.{up, down, same_in, sum_is_lem, product_is, ints}

-- ---- the laws of a ring that the library lacks

-- a factor goes into a sum
pub mul-add_ℤ : (a b c : ℤ) → a *ℤ (b +ℤ c) ≡ a *ℤ b +ℤ a *ℤ c
mul-add_ℤ a b c =
    let sum = sum_is_lem b c in
    let ups : up a * (up (b +ℤ c) + down b + down c) ≡ up a * (down (b +ℤ c) + up b + up c) = ap (λ (n : ℕ). up a * n) sum in
    let downs : down a * (up (b +ℤ c) + down b + down c) ≡ down a * (down (b +ℤ c) + up b + up c) = ap (λ (n : ℕ). down a * n) sum in
    let whole = product_is a (b +ℤ c) in
    let left = product_is a b in
    let right = product_is a c in
    let all = sum_is_lem (a *ℤ b) (a *ℤ c) in
    same_in _ _ (omega arith)

-- factors go together in any order
pub mul_assoc_ℤ : (a b c : ℤ) → (a *ℤ b) *ℤ c ≡ a *ℤ (b *ℤ c)
mul_assoc_ℤ a b c =
    let left = product_is a b in
    let right = product_is b c in
    let first = product_is (a *ℤ b) c in
    let second = product_is a (b *ℤ c) in
    let l1 = ap (λ (n : ℕ). n * up c) left.0 in
    let l2 = ap (λ (n : ℕ). n * down c) left.0 in
    let l3 = ap (λ (n : ℕ). n * up c) left.1 in
    let l4 = ap (λ (n : ℕ). n * down c) left.1 in
    let r1 = ap (λ (n : ℕ). up a * n) right.0 in
    let r2 = ap (λ (n : ℕ). down a * n) right.0 in
    let r3 = ap (λ (n : ℕ). up a * n) right.1 in
    let r4 = ap (λ (n : ℕ). down a * n) right.1 in
    same_in _ _ (omega arith)

-- a sum is multiplied by a factor after it
pub add-mul_ℤ : (a b c : ℤ) → (a +ℤ b) *ℤ c ≡ a *ℤ c +ℤ b *ℤ c
add-mul_ℤ a b c = *ℤ_comm (a +ℤ b) c ∙ mul-add_ℤ c a b ∙ ap₂ (λ (m n : ℤ). m +ℤ n) (*ℤ_comm c a) (*ℤ_comm c b)

-- a factor comes out of the second factor
swap : (x a b : ℤ) → x *ℤ (a *ℤ b) ≡ a *ℤ (x *ℤ b)
swap x a b = sym (mul_assoc_ℤ x a b) ∙ ap (λ (n : ℤ). n *ℤ b) (*ℤ_comm x a) ∙ mul_assoc_ℤ a x b

-- two sums are added part by part
regroup : (a b c d : ℤ) → (a +ℤ b) +ℤ (c +ℤ d) ≡ (a +ℤ c) +ℤ (b +ℤ d)
regroup a b c d = omega (arith, ints)

-- a negation is a product
minus_one : (a : ℤ) → neg_ℤ a ≡ negsuc 0 *ℤ a
minus_one a = omega (arith, ints)

-- two tests in one
parts : (a b : Bool) → T (a && b) → T a × T b
parts true b t = (tt, t)
parts false b t = absurd t

-- ---- lists of coefficients of one unknown's powers, from the zeroth on

-- the value at x, where v is a coefficient's
abbrev horner : {A : Type 0} → (A → ℤ) → ℤ → List A → ℤ
horner v x [] = pos 0
horner v x (a ∷ more) = v a +ℤ x *ℤ horner v x more

-- the sum, place by place
abbrev add_lists : {A : Type 0} → (A → A → A) → List A → List A → List A
add_lists add [] others = others
add_lists add (a ∷ more) [] = a ∷ more
add_lists add (a ∷ more) (b ∷ others) = add a b ∷ add_lists add more others

-- the product; none is the coefficient 0
abbrev multiply_lists : {A : Type 0} → (A → A → A) → (A → A → A) → A → List A → List A → List A
multiply_lists add multiply none [] others = []
multiply_lists add multiply none (a ∷ more) others = add_lists add (map (multiply a) others) (none ∷ multiply_lists add multiply none more others)

-- all coefficients are 0
abbrev all_vanish : {A : Type 0} → (A → Bool) → List A → Bool
all_vanish vanishes [] = true
all_vanish vanishes (a ∷ more) = vanishes a && all_vanish vanishes more

module _ {A : Type 0} (v : A → ℤ) (x : ℤ) where
  -- the value of the sum
  add_lists_is : (add : A → A → A) → ((a b : A) → v (add a b) ≡ v a +ℤ v b) → (some others : List A) → horner v x (add_lists add some others) ≡ horner v x some +ℤ horner v x others
  add_lists_is add sums [] others = sym (+ℤ_idl _)
  add_lists_is add sums (a ∷ more) [] = sym (+ℤ_idr _)
  add_lists_is add sums (a ∷ more) (b ∷ others) =
      ap₂ (λ (m n : ℤ). m +ℤ x *ℤ n) (sums a b) (add_lists_is add sums more others)
      ∙ ap (λ (n : ℤ). (v a +ℤ v b) +ℤ n) (mul-add_ℤ x (horner v x more) (horner v x others))
      ∙ regroup (v a) (v b) (x *ℤ horner v x more) (x *ℤ horner v x others)

  -- the value where each coefficient is multiplied by c
  scale_list_is : (c : ℤ) (scale : A → A) → ((b : A) → v (scale b) ≡ c *ℤ v b) → (some : List A) → horner v x (map scale some) ≡ c *ℤ horner v x some
  scale_list_is c scale products [] = sym (*ℤ-zero c)
  scale_list_is c scale products (b ∷ more) =
      ap₂ (λ (m n : ℤ). m +ℤ x *ℤ n) (products b) (scale_list_is c scale products more)
      ∙ ap (λ (n : ℤ). c *ℤ v b +ℤ n) (swap x c (horner v x more))
      ∙ sym (mul-add_ℤ c (v b) (x *ℤ horner v x more))

  -- the value of the product
  multiply_lists_is : (add multiply : A → A → A) (none : A) → ((a b : A) → v (add a b) ≡ v a +ℤ v b) → ((a b : A) → v (multiply a b) ≡ v a *ℤ v b) → v none ≡ pos 0 → (some others : List A) → horner v x (multiply_lists add multiply none some others) ≡ horner v x some *ℤ horner v x others
  multiply_lists_is add multiply none sums products nothing [] others = sym (zero-*ℤ (horner v x others))
  multiply_lists_is add multiply none sums products nothing (a ∷ more) others =
      let following = multiply_lists_is add multiply none sums products nothing more others in
      let shifted : v none +ℤ x *ℤ horner v x (multiply_lists add multiply none more others) ≡ (x *ℤ horner v x more) *ℤ horner v x others =
      ap₂ (λ (m n : ℤ). m +ℤ x *ℤ n) nothing following ∙ +ℤ_idl _ ∙ sym (mul_assoc_ℤ x (horner v x more) (horner v x others)) in
      add_lists_is add sums (map (multiply a) others) (none ∷ multiply_lists add multiply none more others)
      ∙ ap₂ (λ (m n : ℤ). m +ℤ n) (scale_list_is (v a) (multiply a) (products a) others) shifted
      ∙ sym (add-mul_ℤ (v a) (x *ℤ horner v x more) (horner v x others))

  -- the value 0
  all_vanish_is : (vanishes : A → Bool) → ((a : A) → T (vanishes a) → v a ≡ pos 0) → (some : List A) → T (all_vanish vanishes some) → horner v x some ≡ pos 0
  all_vanish_is vanishes zeros [] t = refl
  all_vanish_is vanishes zeros (a ∷ more) t =
      let both = parts (vanishes a) (all_vanish vanishes more) t in
      ap₂ (λ (m n : ℤ). m +ℤ x *ℤ n) (zeros a both.0) (all_vanish_is vanishes zeros more both.1) ∙ +ℤ_idl _ ∙ *ℤ-zero x

-- ---- polynomials in n unknowns, as lists of polynomials in the others

-- in no unknown, a number
abbrev Coefficients : ℕ → Type 0
Coefficients zero = ℤ
Coefficients (suc n) = List (Coefficients n)

-- the polynomial 0
abbrev nothing_of : (n : ℕ) → Coefficients n
nothing_of zero = pos 0
nothing_of (suc n) = []

-- a number
abbrev constant_of : (n : ℕ) → ℤ → Coefficients n
constant_of zero c = c
constant_of (suc n) c = constant_of n c ∷ []

-- the i-th unknown, and 0 where there are fewer
abbrev unknown_of : (n i : ℕ) → Coefficients n
unknown_of zero i = pos 0
unknown_of (suc n) zero = nothing_of n ∷ constant_of n (pos 1) ∷ []
unknown_of (suc n) (suc i) = unknown_of n i ∷ []

-- the sum
abbrev add_of : (n : ℕ) → Coefficients n → Coefficients n → Coefficients n
add_of zero a b = a +ℤ b
add_of (suc n) a b = add_lists (add_of n) a b

-- the product
abbrev multiply_of : (n : ℕ) → Coefficients n → Coefficients n → Coefficients n
multiply_of zero a b = a *ℤ b
multiply_of (suc n) a b = multiply_lists (add_of n) (multiply_of n) (nothing_of n) a b

-- the negation
abbrev negated_of : (n : ℕ) → Coefficients n → Coefficients n
negated_of zero a = neg_ℤ a
negated_of (suc n) a = map (negated_of n) a

-- the number is 0
abbrev is_zero : ℤ → Bool
is_zero (pos zero) = true
is_zero (pos (suc n)) = false
is_zero (negsuc n) = false

-- all numbers in it are 0
abbrev vanishes_of : (n : ℕ) → Coefficients n → Bool
vanishes_of zero a = is_zero a
vanishes_of (suc n) a = all_vanish (vanishes_of n) a

-- the value at the unknowns
abbrev value_of : (unknowns : List ℤ) → Coefficients (length unknowns) → ℤ
value_of [] a = a
value_of (x ∷ unknowns) a = horner (value_of unknowns) x a

-- the i-th of the unknowns, and 0 where there are fewer
abbrev pub at_place : List ℤ → ℕ → ℤ
at_place [] i = pos 0
at_place (x ∷ unknowns) zero = x
at_place (x ∷ unknowns) (suc i) = at_place unknowns i

-- ---- their values

-- the value of 0
nothing_is : (unknowns : List ℤ) → value_of unknowns (nothing_of (length unknowns)) ≡ pos 0
nothing_is [] = refl
nothing_is (x ∷ unknowns) = refl

-- the value of a number
constant_is : (unknowns : List ℤ) (c : ℤ) → value_of unknowns (constant_of (length unknowns) c) ≡ c
constant_is [] c = refl
constant_is (x ∷ unknowns) c = ap₂ (λ (m n : ℤ). m +ℤ n) (constant_is unknowns c) (*ℤ-zero x) ∙ +ℤ_idr c

-- the value of an unknown
unknown_is : (unknowns : List ℤ) (i : ℕ) → value_of unknowns (unknown_of (length unknowns) i) ≡ at_place unknowns i
unknown_is [] i = refl
unknown_is (x ∷ unknowns) zero =
    ap₂ (λ (m n : ℤ). m +ℤ x *ℤ (n +ℤ x *ℤ pos 0)) (nothing_is unknowns) (constant_is unknowns (pos 1)) ∙ single x
  where
    single : (x : ℤ) → pos 0 +ℤ x *ℤ (pos 1 +ℤ x *ℤ pos 0) ≡ x
    single x = ap (λ (n : ℤ). pos 0 +ℤ x *ℤ (pos 1 +ℤ n)) (*ℤ-zero x) ∙ omega (arith, ints)
unknown_is (x ∷ unknowns) (suc i) = ap₂ (λ (m n : ℤ). m +ℤ n) (unknown_is unknowns i) (*ℤ-zero x) ∙ +ℤ_idr _

-- the value of a sum
add_is : (unknowns : List ℤ) (a b : Coefficients (length unknowns)) → value_of unknowns (add_of (length unknowns) a b) ≡ value_of unknowns a +ℤ value_of unknowns b
add_is [] a b = refl
add_is (x ∷ unknowns) a b = add_lists_is (value_of unknowns) x (add_of (length unknowns)) (add_is unknowns) a b

-- the value of a product
multiply_is : (unknowns : List ℤ) (a b : Coefficients (length unknowns)) → value_of unknowns (multiply_of (length unknowns) a b) ≡ value_of unknowns a *ℤ value_of unknowns b
multiply_is [] a b = refl
multiply_is (x ∷ unknowns) a b =
    let n = length unknowns in
    multiply_lists_is (value_of unknowns) x (add_of n) (multiply_of n) (nothing_of n) (add_is unknowns) (multiply_is unknowns) (nothing_is unknowns) a b

-- the value of a negation, as a product
scaled_is : (unknowns : List ℤ) (a : Coefficients (length unknowns)) → value_of unknowns (negated_of (length unknowns) a) ≡ negsuc 0 *ℤ value_of unknowns a
scaled_is [] a = minus_one a
scaled_is (x ∷ unknowns) a = scale_list_is (value_of unknowns) x (negsuc 0) (negated_of (length unknowns)) (scaled_is unknowns) a

-- the test finds 0 alone
zero_is : (a : ℤ) → T (is_zero a) → a ≡ pos 0
zero_is (pos zero) t = refl
zero_is (pos (suc n)) t = absurd t
zero_is (negsuc n) t = absurd t

-- where all numbers are 0, so is the value
vanishes_is : (unknowns : List ℤ) (a : Coefficients (length unknowns)) → T (vanishes_of (length unknowns) a) → value_of unknowns a ≡ pos 0
vanishes_is [] a t = zero_is a t
vanishes_is (x ∷ unknowns) a t = all_vanish_is (value_of unknowns) x (vanishes_of (length unknowns)) (vanishes_is unknowns) a t

-- ---- polynomials as they are written

-- a polynomial, as it is written
pub data Polynomial : Type 0 where
  unknown : ℕ → Polynomial
  constant : ℤ → Polynomial
  negated : Polynomial → Polynomial
  ◌⊕◌ : Polynomial → Polynomial → Polynomial
  ◌⊖◌ : Polynomial → Polynomial → Polynomial
  ◌⊗◌ : Polynomial → Polynomial → Polynomial

infixl 6 ◌⊕◌
infixl 6 ◌⊖◌
infixl 7 ◌⊗◌
-- the value at the unknowns
abbrev pub value : List ℤ → Polynomial → ℤ
value unknowns (unknown i) = at_place unknowns i
value unknowns (constant c) = c
value unknowns (negated p) = neg_ℤ (value unknowns p)
value unknowns (p ⊕ q) = value unknowns p +ℤ value unknowns q
value unknowns (p ⊖ q) = value unknowns p -ℤ value unknowns q
value unknowns (p ⊗ q) = value unknowns p *ℤ value unknowns q

-- the coefficients, where there are n unknowns
abbrev pub coefficients : (n : ℕ) → Polynomial → Coefficients n
coefficients n (unknown i) = unknown_of n i
coefficients n (constant c) = constant_of n c
coefficients n (negated p) = negated_of n (coefficients n p)
coefficients n (p ⊕ q) = add_of n (coefficients n p) (coefficients n q)
coefficients n (p ⊖ q) = add_of n (coefficients n p) (negated_of n (coefficients n q))
coefficients n (p ⊗ q) = multiply_of n (coefficients n p) (coefficients n q)

-- the value of a negation
negated_is : (unknowns : List ℤ) (a : Coefficients (length unknowns)) → value_of unknowns (negated_of (length unknowns) a) ≡ neg_ℤ (value_of unknowns a)
negated_is unknowns a = scaled_is unknowns a ∙ sym (minus_one (value_of unknowns a))

-- multiplied out, a polynomial keeps its value
coefficients_are : (unknowns : List ℤ) (p : Polynomial) → value_of unknowns (coefficients (length unknowns) p) ≡ value unknowns p
coefficients_are unknowns (unknown i) = unknown_is unknowns i
coefficients_are unknowns (constant c) = constant_is unknowns c
coefficients_are unknowns (negated p) = negated_is unknowns _ ∙ ap neg_ℤ (coefficients_are unknowns p)
coefficients_are unknowns (p ⊕ q) = add_is unknowns _ _ ∙ ap₂ (λ (m n : ℤ). m +ℤ n) (coefficients_are unknowns p) (coefficients_are unknowns q)
coefficients_are unknowns (p ⊖ q) =
    add_is unknowns _ _ ∙ ap₂ (λ (m n : ℤ). m +ℤ n) (coefficients_are unknowns p) (negated_is unknowns _ ∙ ap neg_ℤ (coefficients_are unknowns q))
coefficients_are unknowns (p ⊗ q) = multiply_is unknowns _ _ ∙ ap₂ (λ (m n : ℤ). m *ℤ n) (coefficients_are unknowns p) (coefficients_are unknowns q)

-- multiplied out, the two have the same coefficients in n unknowns
abbrev pub AreSame : ℕ → Polynomial → Polynomial → Type 0
AreSame n p q = T (vanishes_of n (coefficients n (p ⊖ q)))

-- numbers whose difference is 0 are the same
no_difference : (a b : ℤ) → a -ℤ b ≡ pos 0 → a ≡ b
no_difference a b none = sym (-ℤ-+ℤ_cancel a b) ∙ ap (λ (n : ℤ). n +ℤ b) none ∙ +ℤ_idl b

-- the identity, by `tt`
pub ring : (unknowns : List ℤ) (p q : Polynomial) → AreSame (length unknowns) p q → value unknowns p ≡ value unknowns q
ring unknowns p q same =
    no_difference _ _ (sym (coefficients_are unknowns (p ⊖ q)) ∙ vanishes_is unknowns (coefficients (length unknowns) (p ⊖ q)) same)

-- ---- what follows from equations

-- an equation, and the factor that it is taken times
pub data Given : Type 0 where
  given : Polynomial → Polynomial → Polynomial → Given

-- the sum of the differences of its sides, each times its factor
abbrev pub combined : List Given → Polynomial
combined [] = constant (pos 0)
combined (given factor p q ∷ more) = factor ⊗ (p ⊖ q) ⊕ combined more

-- the equations hold at the unknowns
abbrev pub AllHold : List ℤ → List Given → Type 0
AllHold unknowns [] = Unit {0}
AllHold unknowns (given factor p q ∷ more) = (value unknowns p ≡ value unknowns q) × AllHold unknowns more

-- one such difference is 0
given_none : (factor a b : ℤ) → a ≡ b → factor *ℤ (a -ℤ b) ≡ pos 0
given_none factor a b same = let none : a -ℤ b ≡ pos 0 = omega (arith, ints) in ap (λ (n : ℤ). factor *ℤ n) none ∙ *ℤ-zero factor

-- so is the sum
combined_none : (unknowns : List ℤ) (all : List Given) → AllHold unknowns all → value unknowns (combined all) ≡ pos 0
combined_none unknowns [] hold = refl
combined_none unknowns (given factor p q ∷ more) hold =
    ap₂ (λ (m n : ℤ). m +ℤ n) (given_none (value unknowns factor) (value unknowns p) (value unknowns q) hold.0) (combined_none unknowns more hold.1)

-- the two are the same where their difference is such a sum
pub ring_from : (unknowns : List ℤ) (p q : Polynomial) (all : List Given) → AllHold unknowns all → AreSame (length unknowns) (p ⊖ q) (combined all) → value unknowns p ≡ value unknowns q
ring_from unknowns p q all hold same = no_difference _ _ (ring unknowns (p ⊖ q) (combined all) same ∙ combined_none unknowns all hold)

-- ---- the unknowns by names

-- a function of so many polynomials
abbrev pub Over : ℕ → Type 0 → Type 0
Over zero A = A
Over (suc n) A = Polynomial → Over n A

-- its value at the unknowns from the i-th on
abbrev pub at_unknowns : (A : Type 0) (n i : ℕ) → Over n A → A
at_unknowns A zero i it = it
at_unknowns A (suc n) i of = at_unknowns A n (suc i) (of (unknown i))

-- the factor 1
abbrev pub once : Polynomial
once = constant (pos 1)

-- an identity, of its two sides
pub identity : (unknowns : List ℤ) (sides : Over (length unknowns) (Polynomial × Polynomial)) → AreSame (length unknowns) (at_unknowns _ (length unknowns) 0 sides).0 (at_unknowns _ (length unknowns) 0 sides).1
    → value unknowns (at_unknowns _ (length unknowns) 0 sides).0 ≡ value unknowns (at_unknowns _ (length unknowns) 0 sides).1
identity unknowns sides same = ring unknowns _ _ same

-- an equation, of its two sides and the equations that it follows from
pub consequence : (unknowns : List ℤ) (claim : Over (length unknowns) (Polynomial × Polynomial × List Given)) → AllHold unknowns (at_unknowns _ (length unknowns) 0 claim).2
    → AreSame (length unknowns) ((at_unknowns _ (length unknowns) 0 claim).0 ⊖ (at_unknowns _ (length unknowns) 0 claim).1) (combined (at_unknowns _ (length unknowns) 0 claim).2)
    → value unknowns (at_unknowns _ (length unknowns) 0 claim).0 ≡ value unknowns (at_unknowns _ (length unknowns) 0 claim).1
consequence unknowns claim hold same = ring_from unknowns _ _ _ hold same
