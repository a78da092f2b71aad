-- Order and signs of products of whole numbers
--
-- No tactic proves an inequality that isn't linear. In its place is `omega (arith, zs, facts)`:
-- it decides linear inequalities over ℤ, where each product is an unknown by itself, and the facts say
-- what is needed of the products. They are
--   - an identity by `identity`, which multiplies out, or joins products that are written differently;
--   - signs and orders of products, by the lemmas below, as `mul_nonneg h k`, `mono_lt h k`;
--   - an equation times a factor, as `ap (λ (z : ℤ). w *ℤ z) same`.
-- For example, x + x - 1 ≤ x * x, as the square of x - 1 isn't negative:
--     let all = identity (x ∷ []) (λ X. ((X ⊖ once) ⊗ (X ⊖ once), X ⊗ X ⊖ (X ⊕ X) ⊕ once)) tt in
--     omega (arith, zs, square_nonneg (x -ℤ pos 1))
-- Hypotheses in scope and what a `let` binds are read, and needn't be listed; a lemma is listed with
-- its arguments. Products must be spelled alike to be one unknown: `c *ℤ (a -ℤ b)`, `c *ℤ a` and
-- `a *ℤ c` are three. So is a product with a number, as `pos 2 *ℤ x`, one of its own: write `x +ℤ x`,
-- or list `product_is (pos 2) x` of `borrow.Author.Differences`, which makes it linear, also at
-- `pos (2 ^ 32)`. The library's set `ints` multiplies all products out instead, but finds no sum
-- within a product.
--
-- A goal by cases: `elim`, or a helper by clauses, over `le_or_lt`, `compare_ℤ`, `sign_cases`,
-- `is_zero` or `product_zero`; or list those in `omega`, which takes a sum apart.
-- A factor is dropped by `cancel_..`, and the sign of one follows by `factor_..`: these take the
-- numbers, factor first. The others find them in their hypotheses.
-- An operator is put in parentheses beside `≤ℤ` and `<ℤ`, which bind closer.
use Rattle.std.proofs.Common.{◌≡◌, ◌*◌, ◌<◌, ◌⊎◌, inl, inr, [], ◌∷◌, ℤ, pos, ◌+ℤ◌, ◌-ℤ◌, ◌*ℤ◌, neg_ℤ, ◌≤ℤ◌, ◌<ℤ◌, sym, ◌∙◌, ap, mul-pos, arith}
use Rattle.std.proofs.Math.IntN.{ℤ_discrete, *ℤ_comm, *ℤ-zero}
use Rattle.std.proofs.lemmas.Int.{by_lt_z}
use borrow.Author.Differences.{same_out, same_in, Apart-out, lt_out, le_out, below_in, at_most_in, sum_is_lem, neg_is}
use Rattle.mvt_plane.proofs.Orders.Polynomials.{constant, negated, ◌⊕◌, ◌⊖◌, ◌⊗◌, identity}

-- for `omega (arith, zs, ..)`: sums, negations, equations and orders, with each product as an unknown
pub ruleset zs = (same_out, same_in, Apart-out, lt_out, le_out, below_in, at_most_in, sum_is_lem, neg_is)

-- ---- cases

-- one order or the other
pub le_or_lt : (a b : ℤ) → (a ≤ℤ b) ⊎ (b <ℤ a)
le_or_lt a b = by_lt_z b a (λ below. inr below) (λ above. inl above)

-- less, the same, or greater
pub compare_ℤ : (a b : ℤ) → (a <ℤ b) ⊎ ((a ≡ b) ⊎ (b <ℤ a))
compare_ℤ a b = by_lt_z a b (λ below. inl below) (λ at_least. by_lt_z b a (λ above. inr (inr above)) (λ at_most. inr (inl (omega (arith, zs)))))

-- negative, zero or positive
pub sign_cases : (a : ℤ) → (a <ℤ pos 0) ⊎ ((a ≡ pos 0) ⊎ (pos 0 <ℤ a))
sign_cases a = compare_ℤ a (pos 0)

-- two numbers are the same or aren't
pub same_or_apart : (a b : ℤ) → Dec (a ≡ b)
same_or_apart a b = ℤ_discrete a b

-- a number is zero or isn't
pub is_zero : (a : ℤ) → Dec (a ≡ pos 0)
is_zero a = ℤ_discrete a (pos 0)

-- an order of two numbers is decided
pub le_decide : (a b : ℤ) → Dec (a ≤ℤ b)
le_decide a b = by_lt_z b a (λ back. no (λ order. omega (arith, zs))) yes

-- so is a strict one
pub lt_decide : (a b : ℤ) → Dec (a <ℤ b)
lt_decide a b = by_lt_z a b yes (λ back. no (λ order. omega (arith, zs)))

-- ---- products over sums and negations

-- the sign comes out of the first factor
pub neg-mul_ℤ : (a b : ℤ) → neg_ℤ a *ℤ b ≡ neg_ℤ (a *ℤ b)
neg-mul_ℤ a b = identity (a ∷ b ∷ []) (λ A B. (negated A ⊗ B, negated (A ⊗ B))) tt

-- and of the second
pub mul-neg_ℤ : (a b : ℤ) → a *ℤ neg_ℤ b ≡ neg_ℤ (a *ℤ b)
mul-neg_ℤ a b = identity (a ∷ b ∷ []) (λ A B. (A ⊗ negated B, negated (A ⊗ B))) tt

-- a factor goes into a difference
pub mul-sub_ℤ : (a b c : ℤ) → a *ℤ (b -ℤ c) ≡ a *ℤ b -ℤ a *ℤ c
mul-sub_ℤ a b c = identity (a ∷ b ∷ c ∷ []) (λ A B C. (A ⊗ (B ⊖ C), A ⊗ B ⊖ A ⊗ C)) tt

-- so does one after it
pub sub-mul_ℤ : (a b c : ℤ) → (a -ℤ b) *ℤ c ≡ a *ℤ c -ℤ b *ℤ c
sub-mul_ℤ a b c = identity (a ∷ b ∷ c ∷ []) (λ A B C. ((A ⊖ B) ⊗ C, A ⊗ C ⊖ B ⊗ C)) tt

-- ---- the sign of a product

-- by the natural numbers
pos_product : (a b : ℤ) → pos 0 <ℤ a → pos 0 <ℤ b → pos 0 <ℤ (a *ℤ b)
pos_product (pos m) (pos n) left right =
    let product : 0 < m * n = mul-pos (omega (arith, zs)) (omega (arith, zs)) in
    omega (arith, zs)
pos_product a b left right = absurd (omega (arith, zs))

-- the same, where one may be 0
nonneg_product : (a b : ℤ) → pos 0 ≤ℤ a → pos 0 ≤ℤ b → pos 0 ≤ℤ (a *ℤ b)
nonneg_product (pos m) (pos n) left right = omega (arith, zs)
nonneg_product a b left right = absurd (omega (arith, zs))

-- positive times positive
pub mul_pos : {a b : ℤ} → pos 0 <ℤ a → pos 0 <ℤ b → pos 0 <ℤ (a *ℤ b)
mul_pos {a} {b} left right = pos_product a b left right

-- neither is negative
pub mul_nonneg : {a b : ℤ} → pos 0 ≤ℤ a → pos 0 ≤ℤ b → pos 0 ≤ℤ (a *ℤ b)
mul_nonneg {a} {b} left right = nonneg_product a b left right

-- a negative number times a positive one
pub mul_neg_pos : {a b : ℤ} → a <ℤ pos 0 → pos 0 <ℤ b → (a *ℤ b) <ℤ pos 0
mul_neg_pos {a} {b} left right =
    let turned : pos 0 <ℤ neg_ℤ a = omega (arith, zs) in
    omega (arith, zs, mul_pos turned right, neg-mul_ℤ a b)

-- not positive times not negative
pub mul_nonpos_nonneg : {a b : ℤ} → a ≤ℤ pos 0 → pos 0 ≤ℤ b → (a *ℤ b) ≤ℤ pos 0
mul_nonpos_nonneg {a} {b} left right =
    let turned : pos 0 ≤ℤ neg_ℤ a = omega (arith, zs) in
    omega (arith, zs, mul_nonneg turned right, neg-mul_ℤ a b)

-- not negative times not positive
pub mul_nonneg_nonpos : {a b : ℤ} → pos 0 ≤ℤ a → b ≤ℤ pos 0 → (a *ℤ b) ≤ℤ pos 0
mul_nonneg_nonpos {a} {b} left right =
    let turned : pos 0 ≤ℤ neg_ℤ b = omega (arith, zs) in
    omega (arith, zs, mul_nonneg left turned, mul-neg_ℤ a b)

-- ---- an inequality times a factor

-- a factor that isn't negative keeps the order
pub mono_le : {c a b : ℤ} → pos 0 ≤ℤ c → a ≤ℤ b → (c *ℤ a) ≤ℤ (c *ℤ b)
mono_le {c} {a} {b} sign order =
    let rise : pos 0 ≤ℤ (b -ℤ a) = omega (arith, zs) in
    omega (arith, zs, mul_nonneg sign rise, mul-sub_ℤ c b a)

-- a positive factor keeps the strict order
pub mono_lt : {c a b : ℤ} → pos 0 <ℤ c → a <ℤ b → (c *ℤ a) <ℤ (c *ℤ b)
mono_lt {c} {a} {b} sign order =
    let rise : pos 0 <ℤ (b -ℤ a) = omega (arith, zs) in
    omega (arith, zs, mul_pos sign rise, mul-sub_ℤ c b a)

-- a factor that isn't positive turns the order
pub turn_le : {c a b : ℤ} → c ≤ℤ pos 0 → a ≤ℤ b → (c *ℤ b) ≤ℤ (c *ℤ a)
turn_le {c} {a} {b} sign order =
    let rise : pos 0 ≤ℤ (b -ℤ a) = omega (arith, zs) in
    omega (arith, zs, mul_nonpos_nonneg sign rise, mul-sub_ℤ c b a)

-- the same with the factor last
pub mono_le_right : {a b c : ℤ} → a ≤ℤ b → pos 0 ≤ℤ c → (a *ℤ c) ≤ℤ (b *ℤ c)
mono_le_right {a} {b} {c} order sign = omega (arith, zs, mono_le sign order, *ℤ_comm a c, *ℤ_comm b c)

-- the same with the factor last
pub mono_lt_right : {a b c : ℤ} → a <ℤ b → pos 0 <ℤ c → (a *ℤ c) <ℤ (b *ℤ c)
mono_lt_right {a} {b} {c} order sign = omega (arith, zs, mono_lt sign order, *ℤ_comm a c, *ℤ_comm b c)

-- ---- a factor is dropped

-- a positive factor, of an inequality
pub cancel_le : (c a b : ℤ) → pos 0 <ℤ c → (c *ℤ a) ≤ℤ (c *ℤ b) → a ≤ℤ b
cancel_le c a b sign order = by_lt_z b a (λ below. absurd (omega (arith, zs, mono_lt sign below))) (λ above. above)

-- a positive factor, of a strict inequality; one that isn't negative serves
pub cancel_lt : (c a b : ℤ) → pos 0 ≤ℤ c → (c *ℤ a) <ℤ (c *ℤ b) → a <ℤ b
cancel_lt c a b sign order = by_lt_z a b (λ below. below) (λ above. absurd (omega (arith, zs, mono_le sign above)))

-- a positive factor, of an equation
pub cancel_eq : (c a b : ℤ) → pos 0 <ℤ c → c *ℤ a ≡ c *ℤ b → a ≡ b
cancel_eq c a b sign same =
    let one = cancel_le c a b sign (omega (arith, zs)) in
    let other = cancel_le c b a sign (omega (arith, zs)) in
    omega (arith, zs)

-- a product is 0 where a factor is
pub product_zero : (a b : ℤ) → a *ℤ b ≡ pos 0 → (a ≡ pos 0) ⊎ (b ≡ pos 0)
product_zero a b none =
    by_lt_z a (pos 0)
    (λ below. inr (cancel_eq (neg_ℤ a) b (pos 0) (omega (arith, zs)) (neg-mul_ℤ a b ∙ ap neg_ℤ none ∙ sym (*ℤ-zero (neg_ℤ a)))))
    (λ at_least. by_lt_z (pos 0) a
    (λ above. inr (cancel_eq a b (pos 0) above (none ∙ sym (*ℤ-zero a))))
    (λ at_most. inl (omega (arith, zs))))

-- so the other factor of a product that is 0 is 0
pub cancel_zero : (c a : ℤ) → ¬ (c ≡ pos 0) → c *ℤ a ≡ pos 0 → a ≡ pos 0
cancel_zero c a apart none = elim (product_zero c a none) [ inl zero_factor ↦ absurd (apart zero_factor) | inr other ↦ other ]

-- a factor other than 0, of an equation
pub cancel_apart : (c a b : ℤ) → ¬ (c ≡ pos 0) → c *ℤ a ≡ c *ℤ b → a ≡ b
cancel_apart c a b apart same =
    let none = cancel_zero c (a -ℤ b) apart (mul-sub_ℤ c a b ∙ omega (arith, zs)) in
    omega (arith, zs)

-- ---- the sign of a factor, from that of a product with a positive number

-- positive
pub factor_pos : (c a : ℤ) → pos 0 ≤ℤ c → pos 0 <ℤ (c *ℤ a) → pos 0 <ℤ a
factor_pos c a sign product = cancel_lt c (pos 0) a sign (omega (arith, zs, *ℤ-zero c))

-- not negative
pub factor_nonneg : (c a : ℤ) → pos 0 <ℤ c → pos 0 ≤ℤ (c *ℤ a) → pos 0 ≤ℤ a
factor_nonneg c a sign product = cancel_le c (pos 0) a sign (omega (arith, zs, *ℤ-zero c))

-- negative
pub factor_neg : (c a : ℤ) → pos 0 ≤ℤ c → (c *ℤ a) <ℤ pos 0 → a <ℤ pos 0
factor_neg c a sign product = cancel_lt c a (pos 0) sign (omega (arith, zs, *ℤ-zero c))

-- not positive
pub factor_nonpos : (c a : ℤ) → pos 0 <ℤ c → (c *ℤ a) ≤ℤ pos 0 → a ≤ℤ pos 0
factor_nonpos c a sign product = cancel_le c a (pos 0) sign (omega (arith, zs, *ℤ-zero c))

-- ---- orders under negation

-- orders both ways
pub antisym_ℤ : {a b : ℤ} → a ≤ℤ b → b ≤ℤ a → a ≡ b
antisym_ℤ order back = omega (arith, zs)

-- ---- how large a product is

-- of two numbers between -m and m, and -n and n
pub product_within : {m n a b : ℤ} → neg_ℤ m ≤ℤ a → a ≤ℤ m → neg_ℤ n ≤ℤ b → b ≤ℤ n → (neg_ℤ (m *ℤ n) ≤ℤ (a *ℤ b)) × ((a *ℤ b) ≤ℤ (m *ℤ n))
product_within {m} {n} {a} {b} left_low left_high right_low right_high =
    let over : pos 0 ≤ℤ (m +ℤ a) = omega (arith, zs) in
    let under : pos 0 ≤ℤ (m -ℤ a) = omega (arith, zs) in
    let above : pos 0 ≤ℤ (n +ℤ b) = omega (arith, zs) in
    let below : pos 0 ≤ℤ (n -ℤ b) = omega (arith, zs) in
    let all = m ∷ n ∷ a ∷ b ∷ [] in
    let highest = identity all (λ M N A B. ((M ⊕ A) ⊗ (N ⊖ B) ⊕ (M ⊖ A) ⊗ (N ⊕ B), constant (pos 2) ⊗ (M ⊗ N ⊖ A ⊗ B))) tt in
    let lowest = identity all (λ M N A B. ((M ⊕ A) ⊗ (N ⊕ B) ⊕ (M ⊖ A) ⊗ (N ⊖ B), constant (pos 2) ⊗ (M ⊗ N ⊕ A ⊗ B))) tt in
    let high = factor_nonneg (pos 2) (m *ℤ n -ℤ a *ℤ b) (omega (arith, zs)) (omega (arith, zs, highest, mul_nonneg over below, mul_nonneg under above)) in
    let low = factor_nonneg (pos 2) (m *ℤ n +ℤ a *ℤ b) (omega (arith, zs)) (omega (arith, zs, lowest, mul_nonneg over above, mul_nonneg under below)) in
    (omega (arith, zs), omega (arith, zs))
