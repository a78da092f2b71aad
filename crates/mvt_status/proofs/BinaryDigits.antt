-- How many binary digits a number has.
use Rattle.std.proofs.Common.{◌≡◌, ◌≢◌, ℕ, zero, suc, ◌+◌, ◌*◌, ◌^◌, ◌<◌, ◌≤◌, Bool, true, false, eqb, refl, arith, if◌then◌else◌}
use Rattle.std.proofs.lemmas.Bool.{eqb-true, eqb-false}
use Rattle.std.proofs.lemmas.Nat.{pow_pos}
use Rattle.std.proofs.Math.Nat.{pow-suc}
use Rattle.mvt_status.specs.Counts.{bits}

-- a power of two below another has the lesser exponent
pub lesser_exponent : (digits other : ℕ) → 2 ^ digits < 2 ^ other → suc digits ≤ other
lesser_exponent zero zero below = omega arith
lesser_exponent zero (suc other) below = omega arith
lesser_exponent (suc digits) zero below = absurd (omega (arith, pow-suc 2 digits, pow_pos digits))
lesser_exponent (suc digits) (suc other) below = omega (arith, lesser_exponent digits other (omega (arith, pow-suc 2 digits, pow-suc 2 other)))

within_next : (number digits : ℕ) (is_power : Bool) → (is_power ≡ true → suc number ≡ 2 ^ digits) → (is_power ≡ false → suc number ≢ 2 ^ digits)
    → number < 2 ^ digits → suc number < 2 ^ (if is_power then suc digits else digits)
within_next number digits true power other within = omega (arith, pow-suc 2 digits, power refl, pow_pos digits)
within_next number digits false power other within = omega (arith, other refl)

pub within_digits : (number : ℕ) → number < 2 ^ bits number
unfolding bits
within_digits zero = omega arith
within_digits (suc number) =
    within_next number (bits number) (eqb (suc number) (2 ^ bits number)) (eqb-true _ _) (eqb-false _ _) (within_digits number)

least_next : (number digits other : ℕ) (is_power : Bool) → (is_power ≡ true → suc number ≡ 2 ^ digits) → digits ≤ other → suc number < 2 ^ other
    → (if is_power then suc digits else digits) ≤ other
least_next number digits other true power least within =
    let same : suc number ≡ 2 ^ digits = power refl in
    lesser_exponent digits other (omega arith)
least_next number digits other false power least within = least

pub least_digits : (number digits : ℕ) → number < 2 ^ digits → bits number ≤ digits
unfolding bits
least_digits zero digits within = omega arith
least_digits (suc number) digits within =
    least_next number (bits number) digits (eqb (suc number) (2 ^ bits number)) (eqb-true _ _) (least_digits number digits (omega arith)) within

pub no_more_digits : (lesser number : ℕ) → lesser ≤ number → bits lesser ≤ bits number
no_more_digits lesser number no_greater = least_digits lesser (bits number) (omega (arith, within_digits number))

digit_less : (half number digits : ℕ) → 0 < number → half * 2 ≤ number → number < 2 ^ digits → bits half + 1 ≤ digits
digit_less half number zero above no_more within = absurd (omega arith)
digit_less half number (suc digits) above no_more within = omega (arith, least_digits half digits (omega (arith, pow-suc 2 digits)))

-- a number has at most a digit more than one that is, but for one, half of it or more
pub digits_of_double : (half number : ℕ) → number ≤ half * 2 + 2 → bits (suc number) ≤ bits (suc half) + 1
digits_of_double half number no_more =
    omega (arith, least_digits (suc number) (suc (bits (suc half))) (omega (arith, within_digits (suc half), pow-suc 2 (bits (suc half)))))

-- one has one digit
pub digits_of_one : bits 1 ≤ 1
digits_of_one = least_digits 1 1 (omega arith)

-- what is more than one has two or more
pub two_digits : (number : ℕ) → 0 < number → 2 ≤ bits (suc number)
two_digits number above = lesser_exponent 1 (bits (suc number)) (omega (arith, within_digits (suc number)))

-- half of a number has a digit less
pub digits_of_half : (half number : ℕ) → 0 < number → half * 2 ≤ number → bits half + 1 ≤ bits number
digits_of_half half number above no_more = digit_less half number (bits number) above no_more (within_digits number)
