-- The sum of a varint's groups, from its last byte back.
use Rattle.std.proofs.Common.{◌≡◌, ℕ, suc, zero, ◌+◌, ◌-◌, ◌*◌, ◌%◌, ◌^◌, ◌<◌, ◌≤◌, List, [], ◌∷◌, length, get_or, drop, refl, ap, arith}
use Rattle.mvt_wire.specs.Varint.{sum_of_groups}

-- the groups from a place on, and one more in front
sum-drop : (encoding : List ℕ) (i : ℕ) → i < length encoding → sum_of_groups (drop i encoding) ≡ get_or encoding i 0 % 128 + 128 * sum_of_groups (drop (suc i) encoding)
sum-drop [] i within = absurd (omega arith)
sum-drop (byte ∷ encoding) zero within = refl
sum-drop (byte ∷ encoding) (suc i) within = sum-drop encoding i (omega arith)

-- groups stand for no more than all of them
sum-drop-le : (encoding : List ℕ) (i : ℕ) → sum_of_groups (drop i encoding) ≤ sum_of_groups encoding
sum-drop-le [] zero = omega arith
sum-drop-le [] (suc i) = omega arith
sum-drop-le (byte ∷ encoding) zero = omega arith
sum-drop-le (byte ∷ encoding) (suc i) = omega (arith, sum-drop-le encoding i)

-- a loop that has read the groups from the i-th on reads the one before
pub group_before : (encoding : List ℕ) (i value : ℕ) → 0 < i → i ≤ length encoding → value ≡ sum_of_groups (drop i encoding) → value * 128 + get_or encoding (i - 1) 0 % 128 ≡ sum_of_groups (drop (i - 1) encoding)
group_before encoding i value some within is =
    let place : suc (i - 1) ≡ i = omega arith in
    let sum = sum-drop encoding (i - 1) (omega arith) in
    let next : sum_of_groups (drop (suc (i - 1)) encoding) ≡ sum_of_groups (drop i encoding) = ap (λ (k : ℕ). sum_of_groups (drop k encoding)) place in
    omega arith

pub group_before-below : (encoding : List ℕ) (i value : ℕ) → 0 < i → i ≤ length encoding → value ≡ sum_of_groups (drop i encoding) → sum_of_groups encoding < 2 ^ 64 → value * 128 + get_or encoding (i - 1) 0 % 128 < 2 ^ 64
group_before-below encoding i value some within is fits =
    let sum = group_before encoding i value some within is in
    let bound = sum-drop-le encoding (i - 1) in
    omega arith
