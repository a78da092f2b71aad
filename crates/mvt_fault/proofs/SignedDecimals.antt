-- The decimal digits of a number of 128 bits are read back to it, and those that are read are written again.
use Rattle.std.proofs.Common.{◌≡◌, ℕ, zero, suc, ◌+◌, ◌*◌, ◌/◌, ◌%◌, ◌^◌, ◌<◌, ◌≤◌, ◌==◌, ℤ, pos, negsuc, neg_ℤ, List, [], ◌∷◌, ◌++◌, length, get_or, false, Option, Result, Ok, Err, MatchOption, inl, inr, refl, sym, ap, subst, ◌∙◌, append-nil, append_assoc, length-append, arith}
use lib.ListN.{get_or-append}
use mir.Syntax.{w128}
use mir.Val.{to_z, of_z}
use Rattle.std.specs.Char.{digit_value}
use Rattle.std.specs.Fmt.{decimal, signed_decimal}
use Rattle.std.specs.Int.RustNames.{FitsSigned}
use Rattle.std.specs.Result.{result_ok}
use Rattle.std.specs.Str.Parse.{AllDigits, IsNumeral, digits_value, digits_value_after, signed_digits_value, without_leading_sign, ParsesSigned}
use Rattle.std.proofs.lemmas.Fmt.{decimal_is_IsNumeral_wide, decimal_by_steps_wide, decimal_digit, decimal_step_wide}
use Rattle.std.proofs.lemmas.Str.{digit_value_digit}
use Rattle.std.proofs.lemmas.Str.Parse.{digit_from_value}
use Rattle.std.proofs.lemmas.Int.{ints, to_z-of_z}
use Rattle.mvt_fault.specs.Reading.{IsPositiveNumeral, HasDecimalForm, Writes}
use Rattle.mvt_fault.specs.Text.{HasWidth}

-- a numeral begins with no sign, so its value is that of its digits
signed_digits_value-numeral : (ds : List ℕ) → IsNumeral 10 ds → signed_digits_value 10 ds ≡ pos (digits_value 10 ds)
signed_digits_value-numeral [] is = absurd (omega arith)
signed_digits_value-numeral (c ∷ cs) is =
    let digit = digit_from_value c is.1.0 in
    let no_minus : (c == 45) ≡ false = search arith in
    let no_plus : (c == 43) ≡ false = search arith in
    rw (no_minus, no_plus)

-- what is written of a number of 128 bits reads as that number
pub signed_digits_value-signed_decimal : (z : ℤ) → HasWidth z → signed_digits_value 10 (signed_decimal z) ≡ z
signed_digits_value-signed_decimal (pos n) width =
    let written = decimal_is_IsNumeral_wide n (omega (arith, ints, width)) in
    signed_digits_value-numeral (decimal n) written.0 ∙ ap pos written.1
signed_digits_value-signed_decimal (negsuc n) width = ap (λ (m : ℕ). neg_ℤ (pos m)) (decimal_is_IsNumeral_wide (suc n) (omega (arith, ints, width))).1

-- further digits make no number smaller
le_value_after : (n : ℕ) (ds : List ℕ) → n ≤ digits_value_after 10 n ds
le_value_after n [] = omega arith
le_value_after n (c ∷ cs) = omega (arith, le_value_after (n * 10 + digit_value c) cs)

-- digits that follow those of a number are written after them
decimal_value_after : (n : ℕ) (ds : List ℕ) → 0 < n → AllDigits 10 ds → digits_value_after 10 n ds < 10 ^ 64 → decimal (digits_value_after 10 n ds) ≡ decimal n ++ ds
decimal_value_after n [] some d small = sym (append-nil (decimal n))
decimal_value_after n (c ∷ cs) some d small =
    let m : ℕ = n * 10 + digit_value c in
    let k = digit_value_digit c (digit_from_value c d.0) in
    let front : m / 10 ≡ n = omega (arith, d.0) in
    let end : 48 + m % 10 ≡ c = omega (arith, d.0) in
    decimal_value_after m cs (omega arith) d.1 small
    ∙ ap (λ x. x ++ cs) (decimal_step_wide m (omega arith) (omega (arith, le_value_after m cs)) ∙ (λ i. decimal (front i) ++ (end i ∷ [])))
    ∙ append_assoc (decimal n) (c ∷ []) cs

-- digits with no leading zero write more than 0
some-digits_value : (ds : List ℕ) → IsPositiveNumeral ds → 0 < digits_value 10 ds
some-digits_value [] is = absurd (omega (arith, is.1))
some-digits_value (c ∷ cs) is =
    omega (arith, is.1, digit_value_digit c (digit_from_value c is.0.0), le_value_after (0 * 10 + digit_value c) cs)

-- and are written again of their number
decimal-digits_value_wide : (ds : List ℕ) → IsPositiveNumeral ds → digits_value 10 ds < 10 ^ 64 → decimal (digits_value 10 ds) ≡ ds
decimal-digits_value_wide [] is small = absurd (omega (arith, is.1))
decimal-digits_value_wide (c ∷ cs) is small =
    let k = digit_value_digit c (digit_from_value c is.0.0) in
    let first : 48 + (0 * 10 + digit_value c) ≡ c = omega (arith, is.1) in
    decimal_value_after (0 * 10 + digit_value c) cs (omega (arith, is.1)) is.0.1 small
    ∙ ap (λ x. x ++ cs) (decimal_digit (0 * 10 + digit_value c) (omega (arith, is.0.0)) ∙ ap (λ x. x ∷ []) first)

-- a numeral is not empty
IsNumeral-positive : (ds : List ℕ) → IsPositiveNumeral ds → IsNumeral 10 ds
IsNumeral-positive [] is = absurd (omega (arith, is.1))
IsNumeral-positive (c ∷ cs) is = (omega arith, is.0)

-- a number above 0 is written with a minus where it is negated
signed_decimal-neg : (n : ℕ) → 0 < n → signed_decimal (neg_ℤ (pos n)) ≡ 45 ∷ decimal n
signed_decimal-neg zero some = absurd (omega arith)
signed_decimal-neg (suc n) some = refl

-- a number of 128 bits with a minus has few enough digits
small-neg : (n : ℕ) → HasWidth (neg_ℤ (pos n)) → n < 10 ^ 64
small-neg zero width = omega arith
small-neg (suc n) width = omega (arith, ints, width)

-- a string in decimal form is what is written of its number, if that has 128 bits
pub signed_decimal-signed_digits_value : (s : List ℕ) → HasDecimalForm s → HasWidth (signed_digits_value 10 s) → signed_decimal (signed_digits_value 10 s) ≡ s
signed_decimal-signed_digits_value s (inl zero_text) width = ap (λ t. signed_decimal (signed_digits_value 10 t)) zero_text ∙ decimal_digit 0 (omega arith) ∙ sym zero_text
signed_decimal-signed_digits_value s (inr (inl is)) width =
    let value = signed_digits_value-numeral s (IsNumeral-positive s is) in
    let small : HasWidth (pos (digits_value 10 s)) = subst HasWidth value width in
    ap signed_decimal value ∙ decimal-digits_value_wide s is (omega (arith, ints, small))
signed_decimal-signed_digits_value s (inr (inr (ds, minus, is))) width =
    let value : signed_digits_value 10 s ≡ neg_ℤ (pos (digits_value 10 ds)) = ap (signed_digits_value 10) minus in
    let small = small-neg (digits_value 10 ds) (subst HasWidth value width) in
    ap signed_decimal value ∙ signed_decimal-neg (digits_value 10 ds) (some-digits_value ds is)
    ∙ ap (λ t. 45 ∷ t) (decimal-digits_value_wide ds is small) ∙ sym minus

-- a numeral has no sign to take off
without_leading_sign-numeral : (ds : List ℕ) → IsNumeral 10 ds → without_leading_sign ds ≡ ds
without_leading_sign-numeral [] is = refl
without_leading_sign-numeral (c ∷ cs) is =
    let digit = digit_from_value c is.1.0 in
    let no_minus : (c == 45) ≡ false = search arith in
    let no_plus : (c == 43) ≡ false = search arith in
    rw (no_minus, no_plus)

-- without a minus a string in decimal form is a numeral
IsNumeral-decimal_form : (s : List ℕ) → HasDecimalForm s → IsNumeral 10 (without_leading_sign s)
IsNumeral-decimal_form s (inl zero_text) = subst (λ t. IsNumeral 10 (without_leading_sign t)) (sym zero_text) (omega arith, (omega arith, tt))
IsNumeral-decimal_form s (inr (inl is)) =
    let numeral = IsNumeral-positive s is in subst (IsNumeral 10) (sym (without_leading_sign-numeral s numeral)) numeral
IsNumeral-decimal_form s (inr (inr (ds, minus, is))) =
    subst (λ t. IsNumeral 10 (without_leading_sign t)) (sym minus) (IsNumeral-positive ds is)

-- what is written of a number above 0 begins with no 0
first_decimal_wide : (n : ℕ) → 0 < n → n < 10 ^ 64 → 48 < get_or (decimal n) 0 0
first_decimal_wide n some small = (decimal_by_steps_wide (λ m ds. (0 < length ds) × (0 < m → 48 < get_or ds 0 0)) (λ m l. (omega arith, λ a. omega arith))
    (λ m ds l h. (omega (arith, length-append ds ((48 + m % 10) ∷ [])), λ a. omega (arith, get_or-append ds ((48 + m % 10) ∷ []) 0 0 h.0, h.1 (omega arith)))) n small).1 some

-- what is written of a number above 0 is a numeral that begins with no 0
IsPositiveNumeral-decimal : (n : ℕ) → 0 < n → n < 10 ^ 64 → IsPositiveNumeral (decimal n)
IsPositiveNumeral-decimal n some small = ((decimal_is_IsNumeral_wide n small).0.1, first_decimal_wide n some small)

-- what is written of a number of 128 bits has decimal form
HasDecimalForm-signed_decimal : (z : ℤ) → HasWidth z → HasDecimalForm (signed_decimal z)
HasDecimalForm-signed_decimal (pos zero) width = inl (decimal_digit 0 (omega arith))
HasDecimalForm-signed_decimal (pos (suc n)) width = inr (inl (IsPositiveNumeral-decimal (suc n) (omega arith) (omega (arith, ints, width))))
HasDecimalForm-signed_decimal (negsuc n) width =
    inr (inr (decimal (suc n), refl, IsPositiveNumeral-decimal (suc n) (omega arith) (omega (arith, ints, width))))

-- what is written of a number of 128 bits writes it
pub Writes-signed_decimal : (z : ℤ) → HasWidth z → Writes (signed_decimal z) z
Writes-signed_decimal z width = (HasDecimalForm-signed_decimal z width, signed_digits_value-signed_decimal z width)

-- a string that writes a number of 128 bits is what is written of it
pub signed_decimal-Writes : (s : List ℕ) (z : ℤ) → Writes s z → HasWidth z → signed_decimal z ≡ s
signed_decimal-Writes s z writes width =
    ap signed_decimal (sym writes.1) ∙ signed_decimal-signed_digits_value s writes.0 (subst HasWidth (sym writes.1) width)

-- what a signed number of 128 bits is
HasWidth-FitsSigned : (z : ℤ) → FitsSigned w128 z → HasWidth z
HasWidth-FitsSigned z fits = (omega (arith, ints, fits.sfits), omega (arith, ints, fits.sfits))

FitsSigned-HasWidth : (z : ℤ) → HasWidth z → FitsSigned w128 z
FitsSigned-HasWidth (pos n) width = record { sfits = omega (arith, ints, width) }
FitsSigned-HasWidth (negsuc n) width = record { sfits = omega (arith, ints, width) }

-- of a string in decimal form its number is read, where it has 128 bits
parsed_decimal : {E : Type 0} (s : List ℕ) (r : Result ℤ E) → HasDecimalForm s → ParsesSigned w128 10 s r
    → MatchOption (result_ok r) ((z : ℤ) → Writes s z → ¬ HasWidth z) (λ z. Writes s z × HasWidth z)
parsed_decimal s (Ok x) form parses = ((form, sym parses.1), subst HasWidth (sym parses.1) (HasWidth-FitsSigned _ parses.0.1))
parsed_decimal s (Err e) form parses = λ z writes width.
    parses (IsNumeral-decimal_form s form, FitsSigned-HasWidth _ (subst HasWidth (sym writes.1) width))

-- the same of an option that is the result
pub parsed_decimal_ok : {E : Type 0} (s : List ℕ) (r : Result ℤ E) (o : Option ℤ) → o ≡ result_ok r → HasDecimalForm s → ParsesSigned w128 10 s r
    → MatchOption o ((z : ℤ) → Writes s z → ¬ HasWidth z) (λ z. Writes s z × HasWidth z)
parsed_decimal_ok s r o is form parses =
    subst (λ p. MatchOption p ((z : ℤ) → Writes s z → ¬ HasWidth z) (λ z. Writes s z × HasWidth z)) (sym is) (parsed_decimal s r form parses)

-- a number that is written is so too by its bits, as a fault has it
pub Writes-bits : (s : List ℕ) (z : ℤ) → Writes s z × HasWidth z → Writes s (to_z w128 (of_z w128 z)) × HasWidth (to_z w128 (of_z w128 z))
Writes-bits s z written = subst (λ y. Writes s y × HasWidth y) (sym (to_z-of_z w128 z (FitsSigned-HasWidth z written.1))) written
