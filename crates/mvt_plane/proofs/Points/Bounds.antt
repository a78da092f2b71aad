-- How large numbers are, and what the code computes where they fit their type.
use Rattle.std.proofs.Common.{◌≡◌, ℕ, ◌+◌, ◌*◌, ◌^◌, ◌<◌, ◌≤◌, ℤ, ◌-ℤ◌, ◌*ℤ◌, FitsSigned, IsTrue, ◌↔◌, nat_eq, eqb-true, eq-eqb, ◌∙◌, sym, ap, arith}
use Rattle.std.proofs.lemmas.Int.{ints, unsigned_abs-mul, to_z-of_z}
use Rattle.std.proofs.lemmas.Nat.{mul-le}
use Rattle.std.specs.Int.RustNames.{unsigned_abs}
use Rattle.mvt_plane.specs.Bound.{IsWithin}
use borrow.Author.Differences.{fits_out, same_out, Apart-out, lt_out, le_out, fits_in, same_in, below_in, at_most_in, sum_is_lem, neg_is, back_is}
use mir.Syntax.{Width}
use mir.Val.{hbits, to_z, of_z}

-- for `omega` on numbers that are to fit a type, where each product is an unknown
pub ruleset fitting = (fits_out, same_out, Apart-out, lt_out, le_out, fits_in, same_in, below_in, at_most_in, sum_is_lem, neg_is, back_is)

-- a number of a size that fits does
pub within_fits : (w : Width) (n : ℕ) (z : ℤ) → IsWithin n z → n < 2 ^ hbits w → FitsSigned w z
within_fits w n z within fits = omega (arith, fitting)

-- a product is as large as the product of the sizes at most
pub product_within : (m n : ℕ) (a b : ℤ) → IsWithin m a → IsWithin n b → IsWithin (m * n) (a *ℤ b)
product_within m n a b left right =
    let size = mul-le (unsigned_abs a) (unsigned_abs b) m n (omega (arith, ints)) (omega (arith, ints)) in
    let whole = unsigned_abs-mul a b in
    within (a *ℤ b) (m * n) (omega arith)
  where
    within : (z : ℤ) (size : ℕ) → unsigned_abs z ≤ size → IsWithin size z
    within z size h = (omega (arith, ints), omega (arith, ints))

-- a difference is as large as the sum of the sizes at most
pub difference_within : (m n : ℕ) (a b : ℤ) → IsWithin m a → IsWithin n b → IsWithin (m + n) (a -ℤ b)
difference_within m n a b left right = (omega (arith, fitting), omega (arith, fitting))

-- A product as the code computes it in this width: it fits, it is the product of the numbers, and it is of this size
pub record IsMultiplied (w : Width) (size : ℕ) (a b : ℤ) : Type 0 where
  pub fits : FitsSigned w (to_z w (of_z w a) *ℤ to_z w (of_z w b))
  pub value : to_z w (of_z w (to_z w (of_z w a) *ℤ to_z w (of_z w b))) ≡ a *ℤ b
  pub within : IsWithin size (a *ℤ b)

-- so it is where the product of the sizes fits
pub multiplied : (w : Width) (m n : ℕ) (a b : ℤ) → IsWithin m a → IsWithin n b → m < 2 ^ hbits w → n < 2 ^ hbits w → m * n < 2 ^ hbits w → IsMultiplied w (m * n) a b
multiplied w m n a b left right m_fits n_fits fits =
    let within = product_within m n a b left right in
    let a_fits = within_fits w m a left m_fits in
    let b_fits = within_fits w n b right n_fits in
    let whole = within_fits w (m * n) (a *ℤ b) within fits in
    record { fits = simp to_z-of_z whole; value = simp to_z-of_z; within = within }

-- two products are the same where the code finds so, by their bits
pub equal_products : (w : Width) (m n : ℕ) (a b c d : ℤ) → IsMultiplied w m a b → IsMultiplied w n c d → IsTrue (nat_eq (of_z w (to_z w (of_z w a) *ℤ to_z w (of_z w b))) (of_z w (to_z w (of_z w c) *ℤ to_z w (of_z w d)))) ↔ (a *ℤ b ≡ c *ℤ d)
equal_products w m n a b c d left right =
    (λ found. sym left.value ∙ ap (to_z w) (eqb-true _ _ found) ∙ right.value, λ same. eq-eqb _ _ (same_bits same))
  where
    same_bits : a *ℤ b ≡ c *ℤ d → of_z w (to_z w (of_z w a) *ℤ to_z w (of_z w b)) ≡ of_z w (to_z w (of_z w c) *ℤ to_z w (of_z w d))
    same_bits same =
        let first = to_z-of_z w _ left.fits in
        let second = to_z-of_z w _ right.fits in
        ap (of_z w) (sym first ∙ left.value ∙ same ∙ sym right.value ∙ second)
