-- Bytes that are ASCII characters, as vectors of bytes show.
use Rattle.std.proofs.Common.{◌≡◌, ℕ, ◌+◌, ◌-◌, ◌^◌, ◌<◌, ◌≤◌, ◌%◌, List, map, length, get_or, replicate, sym, ◌∙◌, ap, subst, arith, true, eqb, eqb-true}
use Rattle.std.proofs.lemmas.Simd.{length-chunk, get_or-chunk}
use Rattle.mvt_wire.specs.Calls.Ascii.{IsAsciiWithin}
use Rattle.mvt_wire.proofs.FieldNumbers.ShortNumbers.{at_least, none_high, whole_mask}
use lib.Lanes.{zip2, chunk, mask_l, top}

-- where no lane is found to be 128 or more, all bytes in them are ASCII characters
pub IsAsciiWithin-lanes : (part : List ℕ) (at n : ℕ) → at + n ≤ length part → n ≤ 64
    → eqb (mask_l (map (top 7) (zip2 at_least (replicate n 128) (chunk at n part))) % 2 ^ 64) 0 ≡ true → IsAsciiWithin part at (at + n)
IsAsciiWithin-lanes part at n within few empty place forward below =
    let lanes : length (chunk at n part) ≡ n = length-chunk at n part within in
    let none : mask_l (map (top 7) (zip2 at_least (replicate (length (chunk at n part)) 128) (chunk at n part))) ≡ 0 =
    ap (λ (long : ℕ). mask_l (map (top 7) (zip2 at_least (replicate long 128) (chunk at n part)))) lanes ∙ sym (whole_mask (chunk at n part) n lanes few) ∙ eqb-true _ _ empty in
    let here : at + (place - at) ≡ place = omega arith in
    subst (λ (p : ℕ). get_or part p 0 < 128) here
    (subst (λ (byte : ℕ). byte < 128) (get_or-chunk at n part (place - at) 0 (omega arith)) (none_high (chunk at n part) none (place - at)))
