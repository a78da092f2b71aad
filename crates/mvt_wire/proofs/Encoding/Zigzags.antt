-- The bits of a number back from its zigzag form.
use Rattle.std.proofs.Common.{◌≡◌, ℕ, suc, ◌+◌, ◌-◌, ◌*◌, ◌/◌, ◌^◌, ◌<◌, ◌⊎◌, inl, inr, w32, w64, pos, ◌-ℤ◌, to_z, of_z, arith}
use Rattle.std.proofs.Math.Facts.{to_z_pos, to_z-neg}
use Rattle.std.proofs.Math.Nat.{mod-eq_of_lt}
use Rattle.std.proofs.lemmas.Nat.{and_mask}
use Rattle.std.specs.Int.Bits.{bit_xor, bit_and, xor_add_and, xor_zero_r}
use Rattle.mvt_wire.specs.Number.{zigzag}

-- to turn all bits of a number is to take it from the greatest one
xor_ones : (n k : ℕ) → n < 2 ^ k → bit_xor n (2 ^ k - 1) ≡ 2 ^ k - suc n
xor_ones n k fits = omega (arith, xor_add_and n (2 ^ k - 1), and_mask n k, mod-eq_of_lt fits)

-- the lowest bit says which half
lowest_bit : (n : ℕ) → (bit_and n 1 ≡ 0) ⊎ (bit_and n 1 ≡ 1)
lowest_bit n = grind (arith, and_mask n 1)

even_half : (n : ℕ) → bit_and n 1 ≡ 0 → 2 * (n / 2) ≡ n
even_half n even = omega (arith, and_mask n 1)

odd_half : (n : ℕ) → bit_and n 1 ≡ 1 → 2 * (n / 2) + 1 ≡ n
odd_half n odd = omega (arith, and_mask n 1)

pub zigzag_back32 : (n : ℕ) → n < 2 ^ 32 → zigzag (to_z w32 (bit_xor (n / 2) (of_z w32 (pos 0 -ℤ to_z w32 (bit_and n 1))))) ≡ n
zigzag_back32 n fits = elim (lowest_bit n) [
  | inl even ↦ rw (even, xor_zero_r (n / 2), to_z_pos w32 {n = n / 2} (omega arith)) (even_half n even)
  | inr odd ↦ rw (odd, xor_ones (n / 2) 32 (omega arith), to_z-neg w32 (n / 2) (omega arith)) (odd_half n odd)
]

pub zigzag_back64 : (n : ℕ) → n < 2 ^ 64 → zigzag (to_z w64 (bit_xor (n / 2) (of_z w64 (pos 0 -ℤ to_z w64 (bit_and n 1))))) ≡ n
zigzag_back64 n fits = elim (lowest_bit n) [
  | inl even ↦ rw (even, xor_zero_r (n / 2), to_z_pos w64 {n = n / 2} (omega arith)) (even_half n even)
  | inr odd ↦ rw (odd, xor_ones (n / 2) 64 (omega arith), to_z-neg w64 (n / 2) (omega arith)) (odd_half n odd)
]
